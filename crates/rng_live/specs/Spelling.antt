-- Conditions that spell out when the patterns of a grammar live.
use Rattle.std.specs.Prelude.{◌≡◌, ◌≤◌, ◌<◌, ℕ, Bool, true, false, ◌&&◌, ◌||◌, List, [], ◌∷◌, ◌++◌, length, Some, slice_get}
use Rattle.rng_types.specs.declared.datatype.Datatype.{Datatype}
use Rattle.rng_types.specs.declared.datatype.Except.{Except}
use Rattle.rng_types.specs.MemberTest.{has_member}
use Rattle.rng_core.specs.Names.{Class}
use Rattle.rng_core.specs.Patterns.{Pattern, Definition, not_allowed, empty, any_text, typed, literal, listed, attribute, ref, one_or_more}
use Rattle.rng_core.specs.Patterns.{choice, group, interleave}
use Rattle.rng_kept.specs.Nullable.{nullable}
use Rattle.rng_kept.specs.SolidStrings.{has_words}
use Rattle.rng_live.specs.declared.condition.Condition.{Condition}
use Rattle.rng_live.specs.declared.condition.Condition.TheVariants.{Known, If, Both, Either}
use Rattle.rng_live.specs.Living.{has_some_name, has_some_attribute_name, has_string}

-- a number from a low one on is that of a condition
pub record IsAt (low : ℕ) (conditions : List Condition) (k : ℕ) (c : Condition) : Type 0 where
  pub high : low ≤ k
  pub is : slice_get conditions k ≡ Some c

-- the condition of a number, and those that it rests on, spell out when a pattern lives
pub data Spells (low : ℕ) (conditions : List Condition) : ℕ → Pattern → Type 0 where
  spells_not_allowed : {k : ℕ} → IsAt low conditions k (Known false) → Spells low conditions k not_allowed
  spells_empty : {k : ℕ} → IsAt low conditions k (Known true) → Spells low conditions k empty
  spells_text : {k : ℕ} → IsAt low conditions k (Known true) → Spells low conditions k any_text
  spells_data : {k : ℕ} {type : Datatype} {excepts : List Except} → IsAt low conditions k (Known (has_member type excepts false))
      → Spells low conditions k (typed type excepts)
  spells_value : {k : ℕ} {type : Datatype} {text : List ℕ} → IsAt low conditions k (Known true)
      → Spells low conditions k (literal type text)
  spells_list : {k a : ℕ} {p : Pattern} → IsAt low conditions k (If (has_words p || nullable p) a) → Spells low conditions a p
      → Spells low conditions k (listed p)
  spells_attribute : {k a : ℕ} {c : Class} {p : Pattern}
      → IsAt low conditions k (If (has_some_attribute_name c && (has_string p || nullable p)) a) → Spells low conditions a p
      → Spells low conditions k (attribute c p)
  spells_ref : {k i : ℕ} → IsAt low conditions k (If true i) → Spells low conditions k (ref i)
  spells_one_or_more : {k a : ℕ} {p : Pattern} → IsAt low conditions k (If true a) → Spells low conditions a p
      → Spells low conditions k (one_or_more p)
  spells_choice : {k a b : ℕ} {p q : Pattern} → IsAt low conditions k (Either a b) → Spells low conditions a p → Spells low conditions b q
      → Spells low conditions k (choice p q)
  spells_group : {k a b : ℕ} {p q : Pattern} → IsAt low conditions k (Both a b) → Spells low conditions a p → Spells low conditions b q
      → Spells low conditions k (group p q)
  spells_interleave : {k a b : ℕ} {p q : Pattern} → IsAt low conditions k (Both a b) → Spells low conditions a p → Spells low conditions b q
      → Spells low conditions k (interleave p q)

-- a condition was added at the end, under a number
pub record IsAdded (c : Condition) (before after : List Condition) (k : ℕ) : Type 0 where
  pub number : k ≡ length before
  pub is : after ≡ before ++ c ∷ []

-- conditions were added behind these, one of which spells a pattern
pub record IsSpelled (before after : List Condition) (k : ℕ) (p : Pattern) : Type 0 where
  pub more : List Condition
  pub is : after ≡ before ++ more
  pub spells : (low : ℕ) → low ≤ length before → Spells low after k p

-- the condition of a definition's number, and those of its content, spell out when it lives
pub record IsSpelledOut (low : ℕ) (conditions : List Condition) (i : ℕ) (d : Definition) : Type 0 where
  pub root : ℕ
  pub is : slice_get conditions i ≡ Some (If (has_some_name d.class) root)
  pub spells : Spells low conditions root d.content

-- a definition got its condition, and conditions were added behind
pub record IsDefined (before after : List Condition) (i : ℕ) (d : Definition) : Type 0 where
  pub grown : length before ≤ length after
  pub stays : (k : ℕ) (c : Condition) → (k ≡ i → ⊥) → slice_get before k ≡ Some c → slice_get after k ≡ Some c
  pub root : ℕ
  pub is : slice_get after i ≡ Some (If (has_some_name d.class) root)
  pub spells : (low : ℕ) → low ≤ length before → i < low → Spells low after root d.content

-- those of the first so many definitions do
pub record AreSpelledTo (count : ℕ) (g : List Definition) (conditions : List Condition) : Type 0 where
  pub spelled : (i : ℕ) (d : Definition) → i < count → slice_get g i ≡ Some d → IsSpelledOut (length g) conditions i d
  pub room : length g ≤ length conditions

-- and of all
pub record AreSpelled (g : List Definition) (conditions : List Condition) : Type 0 where
  pub spelled : (i : ℕ) (d : Definition) → slice_get g i ≡ Some d → IsSpelledOut (length g) conditions i d
