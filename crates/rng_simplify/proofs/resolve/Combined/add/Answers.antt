use Rattle.std.proofs.Common.{sym, ◌∙◌}
use Rattle.rng_simplify.proofs.Signs.{signs_added, both_alone_clash, both_ways_clash}
use Rattle.rng_simplify.proofs.resolve.Combined.add.Goals as goal

pub returns-then-two_alone : goal.returns-then-two_alone
returns-then-two_alone c = λ combines signs. both_alone_clash combines c.args.combine c.args.self.now signs (sym c.two_alone.ensures ∙ c.if-two_alone.true)

pub returns-in-None : goal.returns-in-None
returns-in-None c = λ combines signs. both_ways_clash combines c.args.combine c.args.self.now signs (sym c.both.ensures ∙ c.in-None.is)

pub returns-in_ok-push-in-Some : goal.returns-in_ok-push-in-Some
returns-in_ok-push-in-Some c = (
  c.in_ok-push-in-Some.ensures.items,
  λ combines signs. signs_added combines c.args.combine c.args.self.now _ signs (sym c.both.ensures ∙ c.in-Some.is) c.one_alone-self.ensures (sym c.two_alone.ensures ∙ c.if-two_alone.false),
)
