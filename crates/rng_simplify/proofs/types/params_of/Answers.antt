use Rattle.rng_simplify.proofs.Typing.{next_param}
use Rattle.rng_simplify.proofs.types.params_of.Goals as goal

pub loop-param-preserved : goal.loop-param-preserved
loop-param-preserved c = next_param _ _ _ _ _ _ _ c.loop-param-test.true c.param-item.is c.in_ok-copy.ensures c.in_ok-copy-2.ensures c.loop-param.invariant c.in_ok-push.ensures.items
