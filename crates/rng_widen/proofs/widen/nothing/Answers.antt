use Rattle.rng_widen.proofs.Handing.{fault_answered}
use Rattle.rng_widen.proofs.widen.nothing.Goals as goal

pub returns : goal.returns
returns c h = fault_answered c.args.text.now c.args.fault c.new-none.result.items c.if-wants_memory.ensures c.new-none.ensures.items h
