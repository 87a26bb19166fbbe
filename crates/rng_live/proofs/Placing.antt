-- Where numbers stand in a list.
use Rattle.std.proofs.Common.{◌≡◌, ℕ, ◌<◌, List, [], ◌∷◌, ◌++◌, length, get_or, Bool, true, false, ◌||◌, ◌==◌, Some, sym, ap, ◌∙◌, arith, inl, inr, ◌⊎◌, true≢false}
use Rattle.std.specs.Prelude.{slice_get}
use Rattle.std.proofs.Math.ListN.{set}
use Rattle.std.proofs.lemmas.Bool.{cases_eq, or_cases, eqb-true}
use Rattle.std.proofs.lemmas.List.{get_or_default, get_or-set_same, get_or-set_other}
use Rattle.std.proofs.lemmas.List.Folds.{list_any-append}
use Rattle.rng_restrict.specs.Finding.{is_among}
use Rattle.rng_live.specs.Left.{ArePlaced}
use Rattle.rng_live.proofs.Places.{at_front, at_end}

pub among_more : (i n : ℕ) (found : List ℕ) → is_among i (found ++ n ∷ []) ≡ true → (is_among i found ≡ true) ⊎ (n ≡ i)
among_more i n found h = elim (or_cases (is_among i found) ((n == i) || false) (sym (list_any-append (λ m. m == i) found (n ∷ [])) ∙ h)) [
  | inl before ↦ inl before
  | inr last ↦ elim (or_cases (n == i) false last) [ inl same ↦ inr (eqb-true n i same) | inr none ↦ absurd (true≢false (sym none)) ]
]

pub last_is : (numbers : List ℕ) {numbers' : List ℕ} {n k : ℕ} → k ≡ length numbers → numbers' ≡ numbers ++ n ∷ [] → slice_get numbers' k ≡ Some n
last_is numbers {n = n} {k = k} e is = ap (λ (x : List ℕ). slice_get x k) is ∙ ap (slice_get (numbers ++ n ∷ [])) e ∙ at_end numbers n

pub placed_before : {numbers places : List ℕ} {n k : ℕ} → ArePlaced numbers places → n < length places → is_among n numbers ≡ true → k ≡ get_or places n k → slice_get numbers k ≡ Some n
placed_before {numbers = numbers} {places = places} {n = n} {k = k} p inside there read = ap (slice_get numbers) (read ∙ get_or_default places n k 0 inside) ∙ p.placed n there

pub placed_more : {numbers places numbers' : List ℕ} {n k : ℕ} → ArePlaced numbers places → n < length places → k ≡ length numbers → numbers' ≡ numbers ++ n ∷ [] → ArePlaced numbers' (set places n k)
placed_more {numbers = numbers} {places = places} {numbers' = numbers'} {n = n} {k = k} p inside last is = record {
  placed = λ i there. elim (cases_eq i n) [
    | inl same ↦
        ap (λ (x : ℕ). slice_get numbers' (get_or (set places n k) x 0)) same ∙ ap (slice_get numbers') (get_or-set_same places n k 0 inside) ∙ last_is numbers last is ∙ ap (λ (x : ℕ). Some x) (sym same)
    | inr other ↦ elim (among_more i n numbers (ap (is_among i) (sym is) ∙ there)) [
      | inl before ↦
          ap (slice_get numbers') (get_or-set_other places n i k 0 other) ∙ ap (λ (x : List ℕ). slice_get x (get_or places i 0)) is ∙ at_front numbers (n ∷ []) (get_or places i 0) i (p.placed i before)
      | inr same ↦ absurd (other (sym same))
    ]
  ];
}
