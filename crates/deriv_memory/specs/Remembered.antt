-- What is remembered: the parts of names by their numbers, and answers of calls.
use Rattle.std.specs.Prelude.{◌≡◌, ℕ, ◌<◌, ◌≤◌, ◌⊎◌, List, [], ◌∷◌, ◌++◌, length, Option, Some, slice_index_or}
use Rattle.std.specs.Map.{lookup}
use Rattle.nx_base.specs.declared.name.Name.{Name}
use Rattle.deriv_memory.specs.declared.asked.Asked.{Asked}
use Rattle.deriv_memory.specs.Calls.{same_asked}

-- what contracts see: the texts, whose numbers are their places, and calls with their answers
pub record Remembered : Type 0 where
  pub texts : List (List ℕ)
  pub answers : List (Asked × Option ℕ)

-- what was noted of a call: nothing, or its answer, which is none or a number
abbrev pub noted : Remembered → Asked → Option (Option ℕ)
noted m call = lookup (same_asked call) m.answers

-- ---- texts and names

-- the number of a text
pub record IsText (texts : List (List ℕ)) (text : List ℕ) (i : ℕ) : Type 0 where
  pub there : i < length texts
  pub meaning : slice_index_or texts i [] ≡ text

-- the numbers of a name's parts
pub record IsName (texts : List (List ℕ)) (name : Name) (numbers : ℕ × ℕ) : Type 0 where
  pub ns : IsText texts name.ns numbers.0
  pub local : IsText texts name.local numbers.1

-- no text has two numbers
abbrev pub AreOnce : List (List ℕ) → Type 0
AreOnce texts = (i j : ℕ) → i < length texts → j < length texts → slice_index_or texts i [] ≡ slice_index_or texts j [] → i ≡ j

-- the texts as they were, or with this one at the end
abbrev pub IsAtMostOneMore : List (List ℕ) → List (List ℕ) → List ℕ → Type 0
IsAtMostOneMore old new text = (new ≡ old) ⊎ (new ≡ old ++ text ∷ [])

-- the texts as they were, or with the name's namespace at the end, or its local part, or both in this order
abbrev pub AreAtMostTwoMore : List (List ℕ) → List (List ℕ) → Name → Type 0
AreAtMostTwoMore old new name = (between : List (List ℕ)) × (IsAtMostOneMore old between name.ns × IsAtMostOneMore between new name.local)

-- ---- later memories

-- the texts that were there have their numbers
pub record TextsGrow (old new : List (List ℕ)) : Type 0 where
  pub grows : length old ≤ length new
  pub stays : (i : ℕ) → i < length old → slice_index_or new i [] ≡ slice_index_or old i []

-- what was there is there, and each answer that was noted is the answer still
pub record LaterMemory (old new : Remembered) : Type 0 where
  pub texts : TextsGrow old.texts new.texts
  pub answers : (call : Asked) (answer : Option ℕ) → noted old call ≡ Some answer → noted new call ≡ Some answer

-- this call has this answer, and that of every other is what it was
pub record IsNoted (old new : Remembered) (call : Asked) (answer : Option ℕ) : Type 0 where
  pub texts : new.texts ≡ old.texts
  pub here : noted new call ≡ Some answer
  pub others : (other : Asked) → (other ≡ call → ⊥) → noted new other ≡ noted old other
