use Rattle.rng_simplify.proofs.OneForm.{start_same, definitions_same}
use Rattle.rng_simplify.proofs.law.schema_form_is_one.Goals as goal

pub returns : goal.returns
returns c = λ whole start other definitions others is also.
    (start_same whole start definitions is other others also, definitions_same whole start definitions is other others also)
