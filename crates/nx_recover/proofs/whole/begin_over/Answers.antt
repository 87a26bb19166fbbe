use Rattle.std.proofs.Common.{ap, Some}
use Rattle.nx_recover.proofs.Stepping.{begun_over}
use Rattle.nx_recover.proofs.whole.begin_over.Goals as goal

pub returns-clause-first : goal.returns-clause-first
returns-clause-first g c = begun_over (g.M.Matcher.language c.args.matcher.now) (g.M.Matcher.means c.begin-2.new.self) c.in_ok-events.events (Some c.in_ok-here.here) c.new.result.items c.in_ok-events.ensures (ap Some c.in_ok-here.ensures.gives.meaning) c.new.ensures.items
