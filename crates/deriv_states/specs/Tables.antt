-- Tables: things that are put together of parts by numbers, each behind its parts.
use Rattle.std.specs.Prelude.{◌≡◌, ℕ, ◌<◌, ◌≤◌, suc, List, [], ◌∷◌, ◌++◌, length, slice_index_or}

-- the wholes of parts, where each is put together of those before it
abbrev pub wholes_behind : {S M : Type 0} → (List M → S → M) → List M → List S → List M
wholes_behind whole done [] = done
wholes_behind whole done (s ∷ ss) = wholes_behind whole (done ++ whole done s ∷ []) ss

unfoldable pub wholes_of : {S M : Type 0} → (List M → S → M) → List S → List M
wholes_of whole ss = wholes_behind whole [] ss

-- each stands behind its parts, the first of them at this place
abbrev pub AreOrdered : {S : Type 0} → (ℕ → S → Type 0) → ℕ → List S → Type 0
AreOrdered IsBelow n [] = Unit {0}
AreOrdered IsBelow n (s ∷ ss) = IsBelow n s × AreOrdered IsBelow (suc n) ss

-- what was there stands where it stood, and is what it was
pub record Grows {M : Type 0} (none : M) (old new : List M) : Type 0 where
  pub grows : length old ≤ length new
  pub stays : (i : ℕ) → i < length old → slice_index_or new i none ≡ slice_index_or old i none

-- no two numbers are those of one thing
abbrev pub AreApart : {M : Type 0} → M → List M → Type 0
AreApart none xs = (i j : ℕ) → i < length xs → j < length xs → slice_index_or xs i none ≡ slice_index_or xs j none → i ≡ j
