use Rattle.nx_recover.proofs.Stepping.{differ}
use Rattle.nx_recover.specs.States.{open_form}
use Rattle.nx_recover.proofs.whole.same_each.Goals as goal

pub returns-then-not-same_open : goal.returns-then-not-same_open
returns-then-not-same_open g c =
    (λ f. cc, λ m. c.if-not-same_open.ensures.1 (differ (open_form (g.M.Matcher.means c.args.matcher.now)) c.args.a.now c.args.b.now c.loop-i.i c.index-a-i.result c.index-b-i.result c.loop-i-test.true c.index-a-i.is c.index-b-i.is m))
