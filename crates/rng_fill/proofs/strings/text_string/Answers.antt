use Rattle.std.proofs.Common.{subst, sym, List, ℕ, Some}
use Rattle.rng_core.specs.Patterns.{any_text}
use Rattle.rng_fill.specs.Strings.{IsStringAnswer}
use Rattle.rng_fill.proofs.Choosing.{letter_answer, no_text_answer}
use Rattle.rng_fill.proofs.strings.text_string.Goals as goal

pub returns-then-solid : goal.returns-then-solid
returns-then-solid c = letter_answer c.args.solid c.in_ok-letters.field-0 c.in_ok-letters.ensures

pub returns : goal.returns
returns c = subst (λ (t : List ℕ). IsStringAnswer c.args.solid any_text (Some t)) (sym c.new.ensures) (no_text_answer c.args.solid c.if-solid.false)
