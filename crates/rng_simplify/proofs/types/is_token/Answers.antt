use Rattle.rng_simplify.proofs.Typing.{is_built_in}
use Rattle.rng_simplify.proofs.types.is_token.Goals as goal

pub returns-then-is_empty : goal.returns-then-is_empty
returns-then-is_empty c = is_built_in _ _ _ _ _ _ c.is_empty.ensures c.if-is_empty.true c.as_slice.ensures c.as_slice-then-is_empty.ensures c.eq.ensures
