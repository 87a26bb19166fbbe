-- Where a residual doesn't tell strings apart, what is left behind two of them is the same, if both are blank or none is.
use Rattle.std.specs.Prelude.{◌≡◌, ℕ, List, [], ◌∷◌, Bool, true, false, ◌||◌, if◌then◌else◌}
use Rattle.std.specs.List.{list_any}
use Rattle.std.proofs.Common.{refl, ap, ◌∙◌}
use Rattle.std.proofs.lemmas.Bool.{or_parts}
use Rattle.nx_base.specs.declared.name.Name.{Name}
use Rattle.nx_base.specs.Characters.{is_blank}
use Rattle.rng_core.specs.Patterns.{Pattern}
use Rattle.rng_kept.specs.Content.{among_of, loose_after, chars_outer, chars_way, chars}
use Rattle.rng_kept.specs.Merging.{stepped, with_ways}
use Rattle.rng_kept.specs.Residuals.{Outer, document, inside, one_of, Way, among, in_tag, Residual}
use Rattle.rng_kept.specs.Strings.{after}
use Rattle.rng_kept.specs.Tags.{tag_of, attribute_way, attribute_of}
use Rattle.deriv_nodes.specs.Telling.{tells_strings, tells_values}
use Rattle.deriv_nodes.proofs.Untold.{same_after, same_attribute}
use Rattle.deriv_states.specs.Telling.{outer_tells, way_tells, tells_texts, way_tells_of, tells_values_of}

-- a step by two functions that agree on all ways
same_steps : (f g : Way → Residual) (tells : Way → Bool) → ((w : Way) → tells w ≡ false → f w ≡ g w) → (x done : Residual) → list_any tells x ≡ false
    → stepped f done x ≡ stepped g done x
same_steps f g tells same [] done none = refl
same_steps f g tells same (w ∷ ws) done none =
    let parts = or_parts (tells w) (list_any tells ws) none in
    same_steps f g tells same ws (with_ways done (f w)) parts.1 ∙ ap (λ r. stepped g (with_ways done r) ws) (same w parts.0)

same_loose : (t u : List ℕ) (l : Pattern) → is_blank t ≡ is_blank u → tells_strings l ≡ false → loose_after t l ≡ loose_after u l
same_loose t u l blank none =
    ap (λ p. if is_blank t then l else p) (same_after t u l none) ∙ ap (λ b. if b then l else after u l) blank

same_chars_outer : (t u : List ℕ) (o : Outer) → is_blank t ≡ is_blank u → outer_tells o ≡ false → chars_outer t o ≡ chars_outer u o
same_chars_outer t u (document p) blank none = ap (λ q. among_of (document q)) (same_after t u p none)
same_chars_outer t u (inside b l v o) blank none =
    let parts = or_parts (tells_strings b) (tells_strings l) none in
    ap (λ p. among_of (inside p (loose_after t l) false o)) (same_after t u b parts.0)
    ∙ ap (λ p. among_of (inside (after u b) p false o)) (same_loose t u l blank parts.1)
same_chars_outer t u (one_of o r) blank none =
    let parts = or_parts (outer_tells o) (outer_tells r) none in
    ap (λ x. with_ways x (chars_outer t r)) (same_chars_outer t u o blank parts.0)
    ∙ ap (λ x. with_ways (chars_outer u o) x) (same_chars_outer t u r blank parts.1)

same_chars_way : (t u : List ℕ) → is_blank t ≡ is_blank u → (w : Way) → way_tells w ≡ false → chars_way t w ≡ chars_way u w
same_chars_way t u blank (among o) none = same_chars_outer t u o blank none
same_chars_way t u blank (in_tag p o) none = refl

pub same_chars : (t u : List ℕ) (x : Residual) → is_blank t ≡ is_blank u → tells_texts x ≡ false → chars t x ≡ chars u x
same_chars t u x blank none = same_steps (chars_way t) (chars_way u) way_tells (same_chars_way t u blank) x [] none

same_attribute_way : (n : Name) (v w : List ℕ) → is_blank v ≡ is_blank w → (way : Way) → way_tells_of n way ≡ false
    → attribute_way n v way ≡ attribute_way n w way
same_attribute_way n v w blank (among o) none = refl
same_attribute_way n v w blank (in_tag p o) none = ap (λ q. tag_of q o) (same_attribute n v w p blank none)

pub same_value : (n : Name) (v w : List ℕ) (x : Residual) → is_blank v ≡ is_blank w → tells_values_of n x ≡ false
    → attribute_of n v x ≡ attribute_of n w x
same_value n v w x blank none = same_steps (attribute_way n v) (attribute_way n w) (way_tells_of n) (same_attribute_way n v w blank) x [] none
