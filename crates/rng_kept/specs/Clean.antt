-- Patterns each part of which matches something.
use Rattle.std.specs.Prelude.{◌≡◌, ℕ, List, [], ◌∷◌, Bool, true, false, not, ◌||◌, IsTrue}
use Rattle.nx_base.specs.declared.name.Name.{Name}
use Rattle.nx_base.specs.Characters.{is_blank, is_of_chars}
use Rattle.nx_base.specs.Trees.{Attribute, Children, nil, string, element, AreChildren, AreWritable, children_flat}
use Rattle.rng_types.specs.declared.datatype.Datatype.{Datatype}
use Rattle.rng_types.specs.declared.datatype.Except.{Except}
use Rattle.rng_core.specs.Names.{Class}
use Rattle.rng_core.specs.Patterns.{Pattern, Definition, empty, any_text, typed, literal, listed, attribute, ref, one_or_more, choice}
use Rattle.rng_core.specs.Patterns.{group, interleave}
use Rattle.rng_core.specs.Matching.{Matches}
use Rattle.rng_core.specs.Soundness.{IsSoundPattern}
use Rattle.rng_kept.specs.SmallPatterns.{is_not_allowed}
use Rattle.rng_kept.specs.Lists.{has_no_list, has_flat_lists}

-- a string that the pattern matches; one that isn't blank, where `blanks` is false
pub record TakesString (g : List Definition) (blanks : Bool) (p : Pattern) : Type 0 where
  pub text : List ℕ
  pub of_chars : IsTrue (is_of_chars text)
  pub kind : (blanks || not (is_blank text)) ≡ true
  pub matched : Matches g p [] (string text nil)

-- No part of the pattern is dead: each matches something that can be written. Each leaf is one of a sound grammar, and no list stands
-- in a list. Two questions tell where the pattern stands. `attributes`: may attributes come? They may in a start tag that is open; where
-- they may not, no attribute pattern is left. `blanks`: does a blank string count? It does among children as they stand; where it
-- doesn't, since children are seen without blank strings, each leaf matches a string that isn't blank. So a pattern is
--     `Clean g true true` in an open start tag,
--     `Clean g false true` for children as they stand, and
--     `Clean g false false` for children without blank strings
pub data Clean (g : List Definition) (attributes blanks : Bool) : Pattern → Type 0 where
  clean_empty : Clean g attributes blanks empty
  clean_text : Clean g attributes blanks any_text
  clean_data : {count : ℕ} {type : Datatype} {excepts : List Except} → IsSoundPattern count (typed type excepts)
      → TakesString g blanks (typed type excepts) → Clean g attributes blanks (typed type excepts)
  clean_value : {count : ℕ} {type : Datatype} {text : List ℕ} → IsSoundPattern count (literal type text)
      → (blanks || not (is_blank text)) ≡ true → Clean g attributes blanks (literal type text)
  clean_list : {count : ℕ} {p : Pattern} → IsSoundPattern count p → has_no_list p ≡ true
      → TakesString g blanks (listed p) → Clean g attributes blanks (listed p)
  clean_attribute : {class : Class} {p : Pattern} (a : Attribute) → has_flat_lists p ≡ true → attributes ≡ true
      → IsTrue (is_of_chars a.value) → Matches g (attribute class p) (a ∷ []) nil → Clean g attributes blanks (attribute class p)
  clean_ref : {i : ℕ} (n : Name) (a : List Attribute) (k : Children) → AreChildren (element n a k nil)
      → AreWritable (children_flat (element n a k nil) []) → Matches g (ref i) [] (element n a k nil) → Clean g attributes blanks (ref i)
  clean_one_or_more : {p : Pattern} → Clean g attributes blanks p → Clean g attributes blanks (one_or_more p)
  clean_choice : {p q : Pattern} → Clean g attributes blanks p → Clean g attributes blanks q → Clean g attributes blanks (choice p q)
  clean_group : {p q : Pattern} → Clean g attributes blanks p → Clean g attributes blanks q → Clean g attributes blanks (group p q)
  clean_interleave : {p q : Pattern} → Clean g attributes blanks p → Clean g attributes blanks q
      → Clean g attributes blanks (interleave p q)

-- such a pattern, or notAllowed: a view of the children (as they stand, or without blank strings) that is dead as a whole
pub record Fine (g : List Definition) (attributes blanks : Bool) (p : Pattern) : Type 0 where
  pub clean : is_not_allowed p ≡ false → Clean g attributes blanks p
