-- Whether a pattern lives, told from the definitions that are marked as living.
use Rattle.std.specs.Prelude.{◌≡◌, ◌<◌, ◌≤◌, ℕ, Bool, true, false, ◌&&◌, ◌||◌, List, [], length, IsTrue}
use Rattle.std.specs.List.{list_all, AllByRecursion}
use Rattle.std.specs.Str.{is_utf8}
use Rattle.rng_types.specs.MemberTest.{has_member}
use Rattle.rng_types.specs.WellMade.{is_well_made, is_sound_except}
use Rattle.rng_core.specs.declared.name_class.Bearer.{Bearer}
use Rattle.rng_core.specs.declared.name_class.Bearer.TheVariants.{Element, Attribute}
use Rattle.rng_core.specs.Names.{Class}
use Rattle.rng_core.specs.Unmentioned.{borne, overlaps}
use Rattle.rng_core.specs.Patterns.{Pattern, Definition, not_allowed, empty, any_text, typed, literal, listed, attribute, ref, one_or_more}
use Rattle.rng_core.specs.Patterns.{choice, group, interleave}
use Rattle.rng_kept.specs.Nullable.{nullable}
use Rattle.rng_kept.specs.SolidStrings.{has_words}
use Rattle.rng_live.specs.Conditions.{is_marked}

-- whether a class has a name that an element, or an attribute, can have
abbrev pub has_name_for : Bearer → Class → Bool
has_name_for bearer c = overlaps (borne bearer c) c

abbrev pub has_some_name : Class → Bool
has_some_name c = has_name_for Element c

abbrev pub has_some_attribute_name : Class → Bool
has_some_attribute_name c = has_name_for Attribute c

-- whether some string is matched, alone and without attributes
abbrev pub has_string : Pattern → Bool
has_string not_allowed = false
has_string empty = false
has_string any_text = true
has_string (typed type excepts) = has_member type excepts false
has_string (literal type wanted) = true
has_string (listed p) = has_words p || nullable p
has_string (attribute class p) = false
has_string (ref i) = false
has_string (one_or_more p) = has_string p
has_string (choice p q) = has_string p || has_string q
has_string (group p q) = (has_string p && nullable q) || (nullable p && has_string q)
has_string (interleave p q) = (has_string p && nullable q) || (nullable p && has_string q)

-- whether a pattern lives, where the definitions that are marked do
abbrev pub lives_with : List Bool → Pattern → Bool
lives_with marks not_allowed = false
lives_with marks empty = true
lives_with marks any_text = true
lives_with marks (typed type excepts) = has_member type excepts false
lives_with marks (literal type wanted) = true
lives_with marks (listed p) = (has_words p || nullable p) && lives_with marks p
lives_with marks (attribute c p) = (has_some_attribute_name c && (has_string p || nullable p)) && lives_with marks p
lives_with marks (ref i) = is_marked marks i
lives_with marks (one_or_more p) = lives_with marks p
lives_with marks (choice p q) = lives_with marks p || lives_with marks q
lives_with marks (group p q) = lives_with marks p && lives_with marks q
lives_with marks (interleave p q) = lives_with marks p && lives_with marks q

abbrev pub definition_lives_with : List Bool → Definition → Bool
definition_lives_with marks d = has_some_name d.class && lives_with marks d.content

-- the types and texts of a pattern are in order
abbrev pub HasSoundLeaves : Pattern → Type 0
HasSoundLeaves not_allowed = Unit {0}
HasSoundLeaves empty = Unit {0}
HasSoundLeaves any_text = Unit {0}
HasSoundLeaves (typed type excepts) = (length excepts ≤ 128) × IsTrue (is_well_made type) × IsTrue (list_all (is_sound_except type) excepts)
HasSoundLeaves (literal type text) = IsTrue (is_utf8 text)
HasSoundLeaves (listed p) = HasSoundLeaves p
HasSoundLeaves (attribute c p) = HasSoundLeaves p
HasSoundLeaves (ref i) = Unit {0}
HasSoundLeaves (one_or_more p) = HasSoundLeaves p
HasSoundLeaves (choice p q) = HasSoundLeaves p × HasSoundLeaves q
HasSoundLeaves (group p q) = HasSoundLeaves p × HasSoundLeaves q
HasSoundLeaves (interleave p q) = HasSoundLeaves p × HasSoundLeaves q

abbrev pub HaveSoundLeaves : List Definition → Type 0
HaveSoundLeaves g = AllByRecursion (λ d. HasSoundLeaves d.content) g
