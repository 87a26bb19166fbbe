use Rattle.std.proofs.Common.{◌∙◌, subst, sym, List, ℕ, Some}
use Rattle.rng_core.specs.Patterns.{literal}
use Rattle.rng_fill.specs.Strings.{IsStringAnswer}
use Rattle.rng_fill.proofs.Choosing.{value_answer, unwanted}
use Rattle.rng_fill.proofs.strings.value_string.Goals as goal

pub returns : goal.returns
returns c type accepted =
    subst (λ (t : List ℕ). IsStringAnswer c.args.solid (literal type c.args.text.now) (Some t)) (sym c.in_ok-copy.ensures)
    (value_answer c.args.solid type c.args.text.now accepted c.requires
    (unwanted c.args.solid c.args.text.now c.as_slice.result.now c.as_slice.ensures (sym c.is_unwanted.ensures ∙ c.if-is_unwanted.false)))
