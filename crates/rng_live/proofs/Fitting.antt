-- Definitions that fit: what the restrictions give of those that a start reaches, and marks on them.
use Rattle.std.specs.Prelude.{◌≡◌, ℕ, zero, suc, Bool, true, false, List, Option, Some, map, length, slice_get, IsTrue}
use Rattle.std.specs.Str.{is_utf8}
use Rattle.rng_types.specs.declared.datatype.Datatype.{Datatype}
use Rattle.rng_types.specs.declared.datatype.Except.{Except}
use Rattle.rng_core.specs.Names.{Class}
use Rattle.rng_core.specs.Patterns.{Pattern, Definition, not_allowed, empty, any_text, typed, literal, listed, attribute, ref, one_or_more, choice, group, interleave}
use Rattle.rng_core.specs.Soundness.{IsSoundPattern}
use Rattle.rng_kept.specs.Lists.{has_no_list, has_flat_lists}
use Rattle.rng_live.specs.Dead.{Lives}
use Rattle.rng_live.specs.Conditions.{is_marked}
use Rattle.rng_live.specs.Living.{lives_with, definition_lives_with}
use Rattle.rng_live.specs.Left.{refs_are}

-- one round: each definition by the marks so far
abbrev pub round : List Definition → List Bool → List Bool
round g marks = map (definition_lives_with marks) g

-- so many rounds; the first begins without marks
abbrev pub rounds : List Definition → ℕ → List Bool
rounds g zero = map (λ d. false) g
rounds g (suc n) = round g (rounds g n)

-- as many as there are definitions
abbrev pub living : List Definition → List Bool
living g = rounds g (length g)

abbrev pub has_no_ref : Pattern → Bool
has_no_ref p = refs_are (λ i. false) p

-- patterns that are sound, with references of this kind; in lists stand no lists and no references, in attributes no references
pub data Fits (named : ℕ → Bool) : Pattern → Type 0 where
  fits_not_allowed : Fits named not_allowed
  fits_empty : Fits named empty
  fits_text : Fits named any_text
  fits_data : {count : ℕ} {type : Datatype} {excepts : List Except} → IsSoundPattern count (typed type excepts) → Fits named (typed type excepts)
  fits_value : {count : ℕ} {type : Datatype} {text : List ℕ} → IsSoundPattern count (literal type text) → Fits named (literal type text)
  fits_list : {count : ℕ} {p : Pattern} → IsSoundPattern count p → has_no_list p ≡ true → has_no_ref p ≡ true → Fits named p → Fits named (listed p)
  fits_attribute : {class : Class} {p : Pattern} → has_flat_lists p ≡ true → has_no_ref p ≡ true → Fits named p → Fits named (attribute class p)
  fits_ref : {i : ℕ} → named i ≡ true → Fits named (ref i)
  fits_one_or_more : {p : Pattern} → Fits named p → Fits named (one_or_more p)
  fits_choice : {p q : Pattern} → Fits named p → Fits named q → Fits named (choice p q)
  fits_group : {p q : Pattern} → Fits named p → Fits named q → Fits named (group p q)
  fits_interleave : {p q : Pattern} → Fits named p → Fits named q → Fits named (interleave p q)

-- the contents of these definitions are so, and refer to these alone
pub record AllFit (named : ℕ → Bool) (g : List Definition) : Type 0 where
  pub there : (i : ℕ) → named i ≡ true → (d : Definition) × (slice_get g i ≡ Some d)
  pub content : (i : ℕ) (d : Definition) → named i ≡ true → slice_get g i ≡ Some d → Fits named d.content

-- what is marked, of these definitions, has a derivation
pub record AreDerived (named : ℕ → Bool) (g : List Definition) (marks : List Bool) : Type 0 where
  pub derived : (i : ℕ) → named i ≡ true → is_marked marks i ≡ true → Lives g (ref i)

-- what isn't marked is closed: by the marks it doesn't live
pub record AreClosed (g : List Definition) (marks : List Bool) : Type 0 where
  pub closed : (i : ℕ) (d : Definition) → slice_get g i ≡ Some d → definition_lives_with marks d ≡ true → is_marked marks i ≡ true
