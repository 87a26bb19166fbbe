use Rattle.std.proofs.Common.{List, ℕ, Some, ap, sym, subst, ◌∙◌}
use Rattle.std.specs.List.{join_with_byte}
use Rattle.rng_core.specs.Meaning.{pattern_of}
use Rattle.rng_core.specs.Patterns.{listed}
use Rattle.rng_fill.specs.Strings.{IsStringAnswer}
use Rattle.rng_fill.specs.WordLists.{AddsBy}
use Rattle.rng_fill.proofs.Wording.{words_answer, empty_answer}
use Rattle.rng_fill.proofs.words.list_string.Goals as goal

pub returns-then-takes : goal.returns-then-takes
returns-then-takes c =
    words_answer c.args.solid (pattern_of c.args.body.now) c.in_ok-joined.field-0 c.add_words.new.words c.in_ok-takes.takes
    (subst (λ (old : List (List ℕ)). AddsBy (pattern_of c.args.body.now) old c.add_words.new.words c.in_ok-takes.takes) c.new-words.ensures
    c.in_ok-takes.ensures)
    c.if-takes.true (c.in_ok-joined.ensures ∙ ap (join_with_byte 32) c.as_slice.ensures)

pub returns-then-not-solid : goal.returns-then-not-solid
returns-then-not-solid c =
    subst (λ (t : List ℕ). IsStringAnswer c.args.solid (listed (pattern_of c.args.body.now)) (Some t)) (sym c.new.ensures)
    (empty_answer c.args.solid (pattern_of c.args.body.now) (sym c.in_ok-takes.ensures.nothing ∙ c.if-takes-2.true) c.if-not-solid.true)
