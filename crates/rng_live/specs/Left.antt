-- What is left of a pattern by marks, and which definitions it refers to.
use Rattle.std.specs.Prelude.{◌≡◌, ◌<◌, ℕ, zero, Bool, true, false, ◌&&◌, List, Option, None, Some, slice_get, get_or, map, nat_lt}
use Rattle.rng_core.specs.Patterns.{Pattern, Definition, not_allowed, empty, any_text, typed, literal, listed, attribute, ref, one_or_more}
use Rattle.rng_core.specs.Patterns.{choice, group, interleave}
use Rattle.rng_restrict.specs.Finding.{is_among, with_references}
use Rattle.rng_live.specs.declared.condition.Condition.{Condition}
use Rattle.rng_live.specs.declared.condition.Condition.TheVariants.{Known, If, Both, Either}
use Rattle.rng_live.specs.Conditions.{is_marked, AreHeld}
use Rattle.rng_live.specs.Living.{lives_with}
use Rattle.rng_live.specs.Spelling.{Spells}
use Rattle.rng_live.specs.Pruned.{PrunesBy}

-- two sides, of which those stand that live
abbrev pub sides : Bool → Bool → Pattern → Pattern → Pattern
sides true true p q = choice p q
sides true false p q = p
sides false b p q = q

-- a pattern with the other side in the place of each choice with a side that doesn't live, under the old numbers
abbrev pub prune : List Bool → Pattern → Pattern
prune marks not_allowed = not_allowed
prune marks empty = empty
prune marks any_text = any_text
prune marks (typed type excepts) = typed type excepts
prune marks (literal type text) = literal type text
prune marks (listed p) = listed (prune marks p)
prune marks (attribute class p) = attribute class (prune marks p)
prune marks (ref i) = ref i
prune marks (one_or_more p) = one_or_more (prune marks p)
prune marks (choice p q) = sides (lives_with marks p) (lives_with marks q) (prune marks p) (prune marks q)
prune marks (group p q) = group (prune marks p) (prune marks q)
prune marks (interleave p q) = interleave (prune marks p) (prune marks q)

abbrev pub prune_definition : List Bool → Definition → Definition
prune_definition marks d = record { class = d.class; content = prune marks d.content }

-- the definitions with pruned contents, under their numbers
abbrev pub prune_all : List Bool → List Definition → List Definition
prune_all marks g = map (prune_definition marks) g

-- the parts that a condition rests on
abbrev pub first_of : Option Condition → ℕ
first_of None = zero
first_of (Some (Known b)) = zero
first_of (Some (If b a)) = a
first_of (Some (Both a b)) = a
first_of (Some (Either a b)) = a

abbrev pub second_of : Option Condition → ℕ
second_of None = zero
second_of (Some (Known b)) = zero
second_of (Some (If b a)) = zero
second_of (Some (Both a b)) = b
second_of (Some (Either a b)) = b

-- each reference passes a test
abbrev pub refs_are : (ℕ → Bool) → Pattern → Bool
refs_are test not_allowed = true
refs_are test empty = true
refs_are test any_text = true
refs_are test (typed type excepts) = true
refs_are test (literal type text) = true
refs_are test (listed p) = refs_are test p
refs_are test (attribute class p) = refs_are test p
refs_are test (ref i) = test i
refs_are test (one_or_more p) = refs_are test p
refs_are test (choice p q) = refs_are test p && refs_are test q
refs_are test (group p q) = refs_are test p && refs_are test q
refs_are test (interleave p q) = refs_are test p && refs_are test q

-- where each number stands in the list
pub record ArePlaced (numbers places : List ℕ) : Type 0 where
  pub placed : (i : ℕ) → is_among i numbers ≡ true → slice_get numbers (get_or places i 0) ≡ Some i

-- what is left of a pattern, under the new numbers, and the numbers that were found with it
pub record IsLeft (count : ℕ) (marks : List Bool) (p : Pattern) (numbers numbers' : List ℕ) (r : Pattern) : Type 0 where
  pub found : numbers' ≡ with_references count (prune marks p) numbers
  pub left : PrunesBy (λ q. lives_with marks q ≡ true) (λ q. lives_with marks q ≡ false) numbers' p r

-- that is what is left, where the number is that of the pattern's condition, and the marks are those of the conditions that hold
pub record LeavesTo (conditions : List Condition) (marks : List Bool) (count number : ℕ) (p : Pattern) (numbers numbers' : List ℕ)
    (r : Pattern) : Type 0 where
  pub leaves : (low : ℕ) → Spells low conditions number p → AreHeld conditions marks → refs_are (λ i. nat_lt i count) p ≡ true
      → IsLeft count marks p numbers numbers' r
