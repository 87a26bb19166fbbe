-- Pruned grammars.
use Rattle.std.specs.Prelude.{◌≡◌, ◌↔◌, ℕ, List, Some, slice_get, length}
use Rattle.nx_base.specs.Trees.{Attribute, Children}
use Rattle.rng_types.specs.declared.datatype.Datatype.{Datatype}
use Rattle.rng_types.specs.declared.datatype.Except.{Except}
use Rattle.rng_core.specs.Names.{Class}
use Rattle.rng_core.specs.Patterns.{Pattern, Definition, not_allowed, empty, any_text, typed, literal, listed, attribute, ref, one_or_more}
use Rattle.rng_core.specs.Patterns.{choice, group, interleave}
use Rattle.rng_core.specs.Matching.{Matches}
use Rattle.rng_restrict.specs.Standing.{Stands}
use Rattle.rng_core.specs.Patterns.{Language}
use Rattle.rng_live.specs.Dead.{ValuesAre, StringsAre, IsOfUtf8, Lives, IsDead}

-- a pattern with the other side in the place of each choice with one dead side, where the definition that had the k-th of
-- these numbers has the number k. Which patterns live and which are dead is given
pub data PrunesBy (Live Dead : Pattern → Type 0) (numbers : List ℕ) : Pattern → Pattern → Type 0 where
  prunes_not_allowed : PrunesBy Live Dead numbers not_allowed not_allowed
  prunes_empty : PrunesBy Live Dead numbers empty empty
  prunes_text : PrunesBy Live Dead numbers any_text any_text
  prunes_data : {type : Datatype} {excepts : List Except} → PrunesBy Live Dead numbers (typed type excepts) (typed type excepts)
  prunes_value : {type : Datatype} {text : List ℕ} → PrunesBy Live Dead numbers (literal type text) (literal type text)
  prunes_list : {p r : Pattern} → PrunesBy Live Dead numbers p r → PrunesBy Live Dead numbers (listed p) (listed r)
  prunes_attribute : {class : Class} {p r : Pattern} → PrunesBy Live Dead numbers p r
      → PrunesBy Live Dead numbers (attribute class p) (attribute class r)
  prunes_ref : {i k : ℕ} → slice_get numbers k ≡ Some i → PrunesBy Live Dead numbers (ref i) (ref k)
  prunes_one_or_more : {p r : Pattern} → PrunesBy Live Dead numbers p r → PrunesBy Live Dead numbers (one_or_more p) (one_or_more r)
  -- both sides live; the second is dead; the first is dead
  prunes_neither : {p q r s : Pattern} → Live p → Live q → PrunesBy Live Dead numbers p r → PrunesBy Live Dead numbers q s
      → PrunesBy Live Dead numbers (choice p q) (choice r s)
  prunes_second : {p q r : Pattern} → Live p → Dead q → PrunesBy Live Dead numbers p r → PrunesBy Live Dead numbers (choice p q) r
  prunes_first : {p q s : Pattern} → Dead p → PrunesBy Live Dead numbers q s → PrunesBy Live Dead numbers (choice p q) s
  prunes_group : {p q r s : Pattern} → PrunesBy Live Dead numbers p r → PrunesBy Live Dead numbers q s
      → PrunesBy Live Dead numbers (group p q) (group r s)
  prunes_interleave : {p q r s : Pattern} → PrunesBy Live Dead numbers p r → PrunesBy Live Dead numbers q s
      → PrunesBy Live Dead numbers (interleave p q) (interleave r s)

abbrev pub Prunes : List Definition → List ℕ → Pattern → Pattern → Type 0
Prunes g numbers p r = PrunesBy (Lives g) (IsDead g) numbers p r

-- a definition is the one of a number, with its class and its pruned content
pub record PrunesDefinitionBy (Live Dead : Pattern → Type 0) (g : List Definition) (numbers : List ℕ) (i : ℕ)
    (e : Definition) : Type 0 where
  pub definition : Definition
  pub is : slice_get g i ≡ Some definition
  pub same_class : e.class ≡ definition.class
  pub content : PrunesBy Live Dead numbers definition.content e.content

abbrev pub PrunesDefinition : List Definition → List ℕ → ℕ → Definition → Type 0
PrunesDefinition g numbers i e = PrunesDefinitionBy (Lives g) (IsDead g) g numbers i e

-- a start reaches the definition of a number, through contents
pub data Reaches (start : Pattern) (g : List Definition) : ℕ → Type 0 where
  reaches_first : {i : ℕ} → Stands (ref i) start → Reaches start g i
  reaches_more : {i j : ℕ} {d : Definition} → Reaches start g j → slice_get g j ≡ Some d → Stands (ref i) d.content → Reaches start g i

-- each number stands once
pub record AreOnce (numbers : List ℕ) : Type 0 where
  pub once : (j k i : ℕ) → slice_get numbers j ≡ Some i → slice_get numbers k ≡ Some i → j ≡ k

-- a grammar of which the start lives, and the same with each choice that has one dead side pruned. Of the definitions it has
-- those alone that its start reaches, each once; nothing else changes but their numbers
pub record IsPruned (old new : Language) : Type 0 where
  pub lives : Lives old.definitions old.start
  -- the old numbers of the definitions that are kept, in the order of the new ones
  pub numbers : List ℕ
  pub once : AreOnce numbers
  pub start : Prunes old.definitions numbers old.start new.start
  pub as_many : length new.definitions ≡ length numbers
  pub definitions : (k i : ℕ) (e : Definition) → slice_get numbers k ≡ Some i → slice_get new.definitions k ≡ Some e
      → PrunesDefinition old.definitions numbers i e
  pub reached : (k : ℕ) (d : Definition) → slice_get new.definitions k ≡ Some d → Reaches new.start new.definitions k

-- two grammars match the same attributes and children whose strings are UTF-8
abbrev pub MatchSame : Language → Language → Type 0
MatchSame old new = (a : List Attribute) (c : Children) → ValuesAre IsOfUtf8 a → StringsAre IsOfUtf8 c
    → Matches new.definitions new.start a c ↔ Matches old.definitions old.start a c
