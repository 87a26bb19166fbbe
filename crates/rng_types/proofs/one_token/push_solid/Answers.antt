use Rattle.std.proofs.Common.{sym, ap, ◌∙◌}
use Rattle.nx_base.specs.Characters.{is_space}
use Rattle.rng_types.proofs.Spaceless.{unspaced_white, unspaced_solid}
use Rattle.rng_types.proofs.one_token.push_solid.Goals as goal

pub returns-then-is_space : goal.returns-then-is_space
returns-then-is_space c = unspaced_white c.args.byte c.args.kept.now (ap is_space (sym c.from.ensures) ∙ sym c.is_space.ensures ∙ c.if-is_space.true)

pub returns : goal.returns
returns c = c.in_ok-push.ensures.ok ∙ unspaced_solid c.args.byte c.args.kept.now (ap is_space (sym c.from.ensures) ∙ sym c.is_space.ensures ∙ c.if-is_space.false)
