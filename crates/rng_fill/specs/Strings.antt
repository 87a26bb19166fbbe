-- Strings that patterns take, and names that classes have, as they are chosen for a filling.
use Rattle.std.specs.Prelude.{◌≡◌, ◌≤◌, ℕ, Bool, true, false, not, ◌&&◌, ◌||◌, List, [], ◌∷◌, Option, None, Some, length, IsTrue, if◌then◌else◌}
use Rattle.std.specs.List.{list_all}
use Rattle.nx_base.specs.declared.name.Name.{Name}
use Rattle.nx_base.specs.Characters.{is_blank, is_of_chars}
use Rattle.nx_base.specs.Trees.{nil, string}
use Rattle.rng_types.specs.Answers.{is_accepted}
use Rattle.rng_types.specs.MemberTest.{has_member}
use Rattle.rng_types.specs.WellMade.{is_well_made, is_sound_except}
use Rattle.rng_types.specs.declared.datatype.Except.{Except}
use Rattle.rng_types.specs.declared.datatype.Except.TheVariants.{BuiltinToken}
use Rattle.rng_core.specs.Names.{Class, has_name, has_attribute_name}
use Rattle.rng_core.specs.Patterns.{Pattern, Definition, not_allowed, empty, any_text, typed, literal, listed, attribute, ref}
use Rattle.rng_core.specs.Patterns.{one_or_more, choice, group, interleave}
use Rattle.rng_core.specs.Matching.{Matches}
use Rattle.rng_core.specs.declared.name_class.Bearer.{Bearer}
use Rattle.rng_core.specs.declared.name_class.Bearer.TheVariants.{Element, Attribute}
use Rattle.rng_kept.specs.Nullable.{nullable}
use Rattle.rng_kept.specs.SolidStrings.{has_words}
use Rattle.rng_live.specs.Living.{has_name_for}

-- ---- names

-- whether a class has a name as that of an element, or of an attribute
abbrev pub has_name_as : Bearer → Class → Name → Bool
has_name_as Element class name = has_name class name
has_name_as Attribute class name = has_attribute_name class name

-- such a name; none only where there is none
abbrev pub IsNameAnswer : Bearer → Class → Option Name → Type 0
IsNameAnswer bearer class None = has_name_for bearer class ≡ false
IsNameAnswer bearer class (Some name) = IsTrue (has_name_as bearer class name)

-- ---- strings

-- each type is well made, with at most 128 excepts that belong to it, and each literal is a text of its type and of characters that
-- XML allows
abbrev pub AreSoundTexts : Pattern → Type 0
AreSoundTexts not_allowed = Unit {0}
AreSoundTexts empty = Unit {0}
AreSoundTexts any_text = Unit {0}
AreSoundTexts (typed type excepts) = (length excepts ≤ 128) × IsTrue (is_well_made type) × IsTrue (list_all (is_sound_except type) excepts)
AreSoundTexts (literal type text) = IsTrue (is_accepted type text) × IsTrue (is_of_chars text)
AreSoundTexts (listed p) = AreSoundTexts p
AreSoundTexts (attribute class p) = AreSoundTexts p
AreSoundTexts (ref i) = Unit {0}
AreSoundTexts (one_or_more p) = AreSoundTexts p
AreSoundTexts (choice p q) = AreSoundTexts p × AreSoundTexts q
AreSoundTexts (group p q) = AreSoundTexts p × AreSoundTexts q
AreSoundTexts (interleave p q) = AreSoundTexts p × AreSoundTexts q

-- excepts, and where a string is to be solid, the empty token beside them: then no blank text is left
abbrev pub beside_blanks : Bool → List Except → List Except
beside_blanks solid excepts = if solid then BuiltinToken [] ∷ excepts else excepts

-- whether some string is matched alone, one that isn't blank where it is to be solid
abbrev pub has_some_string : Bool → Pattern → Bool
has_some_string solid any_text = true
has_some_string solid (typed type excepts) = has_member type (beside_blanks solid excepts) false
has_some_string solid (literal type text) = not (solid && is_blank text)
has_some_string solid (listed p) = has_words p || (not solid && nullable p)
has_some_string solid (one_or_more p) = has_some_string solid p
has_some_string solid (choice p q) = has_some_string solid p || has_some_string solid q
has_some_string solid (group p q) = (has_some_string solid p && nullable q) || (nullable p && has_some_string solid q)
has_some_string solid (interleave p q) = (has_some_string solid p && nullable q) || (nullable p && has_some_string solid q)
has_some_string solid _ = false

-- a string that a pattern takes alone
pub record IsStringOf (p : Pattern) (text : List ℕ) : Type 0 where
  pub of_chars : IsTrue (is_of_chars text)
  pub matched : (g : List Definition) → Matches g p [] (string text nil)

-- such a string, not blank where it is to be solid; none only where there is none
abbrev pub IsStringAnswer : Bool → Pattern → Option (List ℕ) → Type 0
IsStringAnswer solid p None = has_some_string solid p ≡ false
IsStringAnswer solid p (Some text) = IsStringOf p text × (IsTrue (solid && is_blank text) → ⊥)

-- the same, blank only where each string that is taken is
abbrev pub IsBestString : Bool → Pattern → Option (List ℕ) → Type 0
IsBestString solid p None = has_some_string solid p ≡ false
IsBestString solid p (Some text) = IsStringOf p text × (is_blank text ≡ true → (solid ≡ false) × (has_some_string true p ≡ false))

-- a value of attributes with this body
pub record IsValueOf (body : Pattern) (value : List ℕ) : Type 0 where
  pub of_chars : IsTrue (is_of_chars value)
  pub matched : (g : List Definition) (class : Class) (name : Name) → IsTrue (has_attribute_name class name)
      → Matches g (attribute class body) (record { name = name; value = value } ∷ []) nil

-- such a value; none only where there is none
abbrev pub IsValueAnswer : Pattern → Option (List ℕ) → Type 0
IsValueAnswer body None = (has_some_string false body || nullable body) ≡ false
IsValueAnswer body (Some value) = IsValueOf body value
