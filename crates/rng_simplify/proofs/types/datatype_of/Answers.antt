use Rattle.std.proofs.Common.{sym, ap, ◌∙◌, Result, Err}
use Rattle.rng_types.specs.declared.datatype.Datatype.{Datatype}
use Rattle.rng_types.specs.declared.fault.TypeFault.{TypeFault}
use Rattle.rng_simplify.proofs.Typing.{never_too_many}
use Rattle.rng_simplify.proofs.types.datatype_of.Goals as goal

pub refusal-requires : goal.refusal-requires
refusal-requires c = λ many. never_too_many c.text_of.result.now c.text_of-2.result.now c.as_slice.result.now (sym (c.in-Err.ensures.value (λ m. cc)) ∙ ap (λ (f : TypeFault). let r : Result Datatype TypeFault = Err f in r) many)
