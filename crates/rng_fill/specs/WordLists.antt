-- Words that the body of a list matches. Nothing here is needed to believe what is answered.
use Rattle.std.specs.Prelude.{◌≡◌, ℕ, Bool, true, false, List, [], ◌∷◌, ◌++◌, Option, None, Some, IsTrue}
use Rattle.std.specs.List.{AllByRecursion}
use Rattle.nx_base.specs.Characters.{is_of_chars}
use Rattle.nx_base.specs.Trees.{strings}
use Rattle.rng_types.specs.Members.{is_one_token}
use Rattle.rng_core.specs.Patterns.{Pattern, Definition}
use Rattle.rng_core.specs.Matching.{Matches}
use Rattle.rng_kept.specs.Nullable.{nullable}
use Rattle.rng_kept.specs.SolidStrings.{has_words}
use Rattle.rng_fill.specs.declared.words.Takes.{Takes}

-- one token of characters that XML allows
pub record IsWord (word : List ℕ) : Type 0 where
  pub token : IsTrue (is_one_token word)
  pub of_chars : IsTrue (is_of_chars word)

-- words were added behind others, one at least, which the pattern matches
pub record AddsWords (p : Pattern) (old new : List (List ℕ)) : Type 0 where
  pub words : List (List ℕ)
  pub good : AllByRecursion IsWord words
  pub some : words ≡ [] → ⊥
  pub matched : (g : List Definition) → Matches g p [] (strings words)
  pub is : new ≡ old ++ words

-- such words were added, or nothing
abbrev pub AddsIf : Bool → Pattern → List (List ℕ) → List (List ℕ) → Type 0
AddsIf true p old new = AddsWords p old new
AddsIf false p old new = new ≡ old

-- words that a body matches were added where it matches some, and it is told whether it matches none
pub record AddsBy (p : Pattern) (old new : List (List ℕ)) (takes : Takes) : Type 0 where
  pub nothing : takes.nothing ≡ nullable p
  pub words : takes.words ≡ has_words p
  pub adds : AddsIf takes.words p old new

-- a word was added, if there is one
abbrev pub IsAddedWord : Option (List ℕ) → Bool → List (List ℕ) → List (List ℕ) → Type 0
IsAddedWord None some old new = (some ≡ false) × (new ≡ old)
IsAddedWord (Some word) some old new = (some ≡ true) × (new ≡ old ++ word ∷ [])
