use Rattle.std.proofs.Common.{◌++◌, ◌∷◌, List, ℕ, ap, sym, ◌∙◌}
use Rattle.std.specs.List.{join_with_byte, flat_map}
use Rattle.rng_fill.proofs.Wording.{joined_behind}
use Rattle.rng_fill.proofs.words.joined.Goals as goal

pub returns : goal.returns
returns c =
    c.from_vec.ensures ∙ c.in_ok-push_all.ensures
    ∙ ap (λ (t : List ℕ). t ++ flat_map (λ word. 32 ∷ word) c.in-Some.rest.now) (c.in_ok-text.ensures.items ∙ c.as_slice.ensures)
    ∙ sym (joined_behind c.in-Some.first.now c.in-Some.rest.now) ∙ ap (join_with_byte 32) (sym c.in-Some.ensures.cases.0)
