use Rattle.nx_wire.proofs.Framing.{none_first, none_told}
use Rattle.nx_wire.proofs.frame.content_length.Goals as goal

pub returns-in-Some-clause-none : goal.returns-in-Some-clause-none
returns-in-Some-clause-none c = none_told _ c.in-Some.value.now c.length_in.result c.in-Some.ensures c.length_in.ensures.none

pub returns-in-None-clause-none : goal.returns-in-None-clause-none
returns-in-None-clause-none c = λ len. none_first _ len c.in-None.ensures
