-- Contents whose strings stand alone: ISO/IEC 19757-2, section 10.3.
use Rattle.std.specs.Prelude.{◌≡◌, ℕ, Bool, true, false, not, ◌&&◌, ◌||◌, List, Some, slice_get}
use Rattle.rng_core.specs.Patterns.{Pattern, Definition, any_text, ref, one_or_more, choice, group, interleave}
use Rattle.rng_restrict.specs.declared.content.Content.{Content}
use Rattle.rng_restrict.specs.Contents.{HasType}
use Rattle.rng_live.specs.Pruned.{Prunes}
use Rattle.rng_fill.specs.Fillable.{has_string_leaf, is_unmixed}

-- whether an element or text stands in a content
abbrev pub has_complex : Pattern → Bool
has_complex any_text = true
has_complex (ref i) = true
has_complex (one_or_more p) = has_complex p
has_complex (choice p q) = has_complex p || has_complex q
has_complex (group p q) = has_complex p || has_complex q
has_complex (interleave p q) = has_complex p || has_complex q
has_complex _ = false

-- whether two sides may stand beside one another, by what stands in each: a string, and an element or text
abbrev pub go_beside : (s c t d : Bool) → Bool
go_beside s c t d = not (s && (t || d)) && not (t && c)

abbrev pub are_beside : Pattern → Pattern → Bool
are_beside p q = go_beside (has_string_leaf p) (has_complex p) (has_string_leaf q) (has_complex q)

-- whether no string stands beside another one, an element or text, nor is repeated
abbrev pub is_alone : Pattern → Bool
is_alone (one_or_more p) = not (has_string_leaf p) && is_alone p
is_alone (choice p q) = is_alone p && is_alone q
is_alone (group p q) = are_beside p q && (is_alone p && is_alone q)
is_alone (interleave p q) = are_beside p q && (is_alone p && is_alone q)
is_alone _ = true

-- each content is so
pub record HaveAloneContents (g : List Definition) : Type 0 where
  pub alone : (i : ℕ) (d : Definition) → slice_get g i ≡ Some d → is_alone d.content ≡ true

-- ---- laws

-- a content with a content type is so
abbrev pub TypedAreAlone : Type 0
TypedAreAlone = (p : Pattern) (t : Content) → HasType p t → is_alone p ≡ true

-- and no string of it stands beside a string or an element
abbrev pub AloneAreUnmixed : Type 0
AloneAreUnmixed = (p : Pattern) → is_alone p ≡ true → is_unmixed p ≡ true

-- what pruning leaves of such a content is one
abbrev pub PruningKeepsAlone : Type 0
PruningKeepsAlone = (g : List Definition) (numbers : List ℕ) (p r : Pattern) → Prunes g numbers p r → is_alone p ≡ true → is_alone r ≡ true
