use Rattle.rng_simplify.proofs.OneForm.{simple_one}
use Rattle.rng_simplify.proofs.law.simple_form_is_one.Goals as goal

pub returns : goal.returns
returns c = λ scopes p q r one other. simple_one one other
