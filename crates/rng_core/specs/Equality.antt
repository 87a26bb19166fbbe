-- Whether two classes, or two patterns, are put together alike, as answers.
use Rattle.std.specs.Prelude.{◌≡◌, Bool, true, false, ◌&&◌, ◌==◌, IsTrue, ◌↔◌}
use Rattle.std.specs.Str.{bytes_eq}
use Rattle.nx_base.specs.Names.{same_name}
use Rattle.rng_types.specs.Equality.{same_datatype, same_excepts}
use Rattle.rng_core.specs.Names.{Class, any_name, ns_name, the_name, either, without}
use Rattle.rng_core.specs.Patterns.{Pattern, not_allowed, empty, any_text, typed, literal, listed, attribute, ref}
use Rattle.rng_core.specs.Patterns.{one_or_more, choice, group, interleave}

abbrev pub same_class : Class → Class → Bool
same_class any_name any_name = true
same_class (ns_name a) (ns_name b) = bytes_eq a b
same_class (the_name n) (the_name m) = same_name n m
same_class (either a b) (either c d) = same_class b d && same_class a c
same_class (without a b) (without c d) = same_class a c && same_class b d
same_class c d = false

abbrev pub same_pattern : Pattern → Pattern → Bool
same_pattern not_allowed not_allowed = true
same_pattern empty empty = true
same_pattern any_text any_text = true
same_pattern (typed a excepts) (typed b others) = same_datatype a b && same_excepts excepts others
same_pattern (literal a text) (literal b other) = same_datatype a b && bytes_eq text other
same_pattern (listed p) (listed q) = same_pattern p q
same_pattern (attribute c p) (attribute d q) = same_class c d && same_pattern p q
same_pattern (ref i) (ref j) = i == j
same_pattern (one_or_more p) (one_or_more q) = same_pattern p q
same_pattern (choice p q) (choice r s) = same_pattern q s && same_pattern p r
same_pattern (group p q) (group r s) = same_pattern q s && same_pattern p r
same_pattern (interleave p q) (interleave r s) = same_pattern q s && same_pattern p r
same_pattern p q = false

-- the answers are right
abbrev pub EqualityIsDecided : Type 0
EqualityIsDecided = ((c d : Class) → IsTrue (same_class c d) ↔ (c ≡ d)) × ((p q : Pattern) → IsTrue (same_pattern p q) ↔ (p ≡ q))
