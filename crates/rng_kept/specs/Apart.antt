-- Contents whose attributes are apart: those of the two sides of a group or an interleave share no name, and below a repetition no
-- attribute stands below a group or an interleave. ISO/IEC 19757-2, sections 10.2 and 10.4.
use Rattle.std.specs.Prelude.{◌≡◌, Bool, true, false, ◌&&◌, ◌||◌}
use Rattle.nx_base.specs.declared.name.Name.{Name}
use Rattle.rng_core.specs.Names.{Class, has_attribute_name}
use Rattle.rng_core.specs.Patterns.{Pattern, attribute, one_or_more, choice, group, interleave}

-- whether an attribute of that name may stand in a pattern, by the classes alone
abbrev pub mentions : Pattern → Name → Bool
mentions (attribute c p) n = has_attribute_name c n
mentions (one_or_more p) n = mentions p n
mentions (choice p q) n = mentions p n || mentions q n
mentions (group p q) n = mentions p n || mentions q n
mentions (interleave p q) n = mentions p n || mentions q n
mentions _ n = false

-- whether no attribute stands in a pattern
abbrev pub is_attribute_free : Pattern → Bool
is_attribute_free (attribute c p) = false
is_attribute_free (one_or_more p) = is_attribute_free p
is_attribute_free (choice p q) = is_attribute_free p && is_attribute_free q
is_attribute_free (group p q) = is_attribute_free p && is_attribute_free q
is_attribute_free (interleave p q) = is_attribute_free p && is_attribute_free q
is_attribute_free _ = true

-- whether no attribute stands below a group or an interleave
abbrev pub is_loose : Pattern → Bool
is_loose (one_or_more p) = is_loose p
is_loose (choice p q) = is_loose p && is_loose q
is_loose (group p q) = is_attribute_free p && is_attribute_free q
is_loose (interleave p q) = is_attribute_free p && is_attribute_free q
is_loose _ = true

pub data IsApart : Pattern → Type 0 where
  apart_free : {p : Pattern} → is_attribute_free p ≡ true → IsApart p
  apart_attribute : {c : Class} {p : Pattern} → IsApart (attribute c p)
  apart_one_or_more : {p : Pattern} → is_loose p ≡ true → IsApart p → IsApart (one_or_more p)
  apart_choice : {p q : Pattern} → IsApart p → IsApart q → IsApart (choice p q)
  apart_group : {p q : Pattern} → IsApart p → IsApart q
      → ((n : Name) → mentions p n ≡ true → mentions q n ≡ true → ⊥) → IsApart (group p q)
  apart_interleave : {p q : Pattern} → IsApart p → IsApart q
      → ((n : Name) → mentions p n ≡ true → mentions q n ≡ true → ⊥) → IsApart (interleave p q)
