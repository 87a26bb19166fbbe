-- Whether the text of a string can matter to a pattern, beside whether it is blank.
use Rattle.std.specs.Prelude.{◌≡◌, ℕ, List, Bool, true, false, ◌&&◌, ◌||◌}
use Rattle.nx_base.specs.declared.name.Name.{Name}
use Rattle.nx_base.specs.Characters.{is_blank}
use Rattle.rng_core.specs.Names.{has_attribute_name}
use Rattle.rng_core.specs.Patterns.{Pattern, typed, literal, listed, attribute, one_or_more, choice, group, interleave}
use Rattle.rng_kept.specs.Strings.{after}
use Rattle.rng_kept.specs.Attributes.{after_attribute}

-- a type, a value or a list stands in it, outside of attributes
abbrev pub tells_strings : Pattern → Bool
tells_strings (typed type excepts) = true
tells_strings (literal type wanted) = true
tells_strings (listed p) = true
tells_strings (one_or_more p) = tells_strings p
tells_strings (choice p q) = tells_strings p || tells_strings q
tells_strings (group p q) = tells_strings p || tells_strings q
tells_strings (interleave p q) = tells_strings p || tells_strings q
tells_strings _ = false

-- one stands in an attribute that has the name
abbrev pub tells_values : Name → Pattern → Bool
tells_values n (attribute class p) = has_attribute_name class n && tells_strings p
tells_values n (one_or_more p) = tells_values n p
tells_values n (choice p q) = tells_values n p || tells_values n q
tells_values n (group p q) = tells_values n p || tells_values n q
tells_values n (interleave p q) = tells_values n p || tells_values n q
tells_values n _ = false

-- a pattern that tells none apart is the same behind all strings, and behind all values of an attribute that are blank, or aren't
pub record StringsAreAlike : Type 0 where
  pub strings : (t u : List ℕ) (p : Pattern) → tells_strings p ≡ false → after t p ≡ after u p
  pub values : (n : Name) (v w : List ℕ) (p : Pattern) → is_blank v ≡ is_blank w → tells_values n p ≡ false
      → after_attribute n v p ≡ after_attribute n w p
