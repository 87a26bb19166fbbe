use Rattle.std.proofs.Common.{List, ℕ, Some, subst, sym, ◌∙◌}
use Rattle.rng_core.specs.Meaning.{pattern_of}
use Rattle.rng_fill.specs.Strings.{IsValueAnswer}
use Rattle.rng_fill.proofs.Choosing.{empty_value, string_value}
use Rattle.rng_fill.proofs.strings.value_of.Goals as goal

pub returns-then-nullable : goal.returns-then-nullable
returns-then-nullable c =
    subst (λ (t : List ℕ). IsValueAnswer (pattern_of c.args.body.now) (Some t)) (sym c.new.ensures)
    (empty_value (pattern_of c.args.body.now) (sym c.nullable.ensures ∙ c.if-nullable.true))

pub returns : goal.returns
returns c =
    string_value (pattern_of c.args.body.now) c.in_ok-found.found (sym c.nullable.ensures ∙ c.if-nullable.false) c.in_ok-found.ensures
