-- Items of a list, and tests of all and of some.
use Rattle.std.specs.Prelude.{◌≡◌, ◌⊎◌, Bool, true, false, List, [], ◌∷◌}
use Rattle.std.proofs.Common.{refl, sym, ap, ◌∙◌, subst, inl, inr}
use Rattle.std.proofs.lemmas.Bool.{and_parts, and_from, and_cases, or_left, or_right, or_cases, false≢true}
use Rattle.std.specs.List.{list_all, list_any, AllByRecursion}

-- x stands in the list
abbrev pub In : {X : Type 0} → X → List X → Type 0
In x [] = ⊥
In x (y ∷ ys) = (x ≡ y) ⊎ In x ys

-- an item with that answer
pub record Item {X : Type 0} (test : X → Bool) (answer : Bool) (xs : List X) : Type 0 where
  pub item : X
  pub inside : In item xs
  pub is : test item ≡ answer

module _ {X : Type 0} where
  pub all_at : (p : X → Bool) (x : X) (xs : List X) → list_all p xs ≡ true → In x xs → p x ≡ true
  all_at p x [] all inside = absurd inside
  all_at p x (y ∷ xs) all inside = elim inside [
    | inl same ↦ ap p same ∙ (and_parts (p y) (list_all p xs) all).0
    | inr more ↦ all_at p x xs (and_parts (p y) (list_all p xs) all).1 more
  ]

  pub any_from : (p : X → Bool) (x : X) (xs : List X) → In x xs → p x ≡ true → list_any p xs ≡ true
  any_from p x [] inside passes = absurd inside
  any_from p x (y ∷ xs) inside passes = elim inside [
    | inl same ↦ or_left (p y) (list_any p xs) (ap p (sym same) ∙ passes)
    | inr more ↦ or_right (p y) (list_any p xs) (any_from p x xs more passes)
  ]

  pub all_from : (p : X → Bool) (xs : List X) → ((x : X) → In x xs → p x ≡ true) → list_all p xs ≡ true
  all_from p [] each = refl
  all_from p (x ∷ xs) each = and_from _ _ (each x (inl refl)) (all_from p xs (λ y inside. each y (inr inside)))

  pub each_at : (P : X → Type 0) (x : X) (xs : List X) → AllByRecursion P xs → In x xs → P x
  each_at P x [] all inside = absurd inside
  each_at P x (y ∷ xs) all inside = elim inside [
    | inl same ↦ subst P (sym same) all.0
    | inr more ↦ each_at P x xs all.1 more
  ]

  later : {p : X → Bool} {answer : Bool} {x : X} {xs : List X} → Item p answer xs → Item p answer (x ∷ xs)
  later found = record { item = found.item; inside = inr found.inside; is = found.is }

  pub failing : (p : X → Bool) (xs : List X) → list_all p xs ≡ false → Item p false xs
  failing p [] fails = absurd (cc)
  failing p (x ∷ xs) fails = elim (and_cases (p x) (list_all p xs) fails) [
    | inl first ↦ record { item = x; inside = inl refl; is = first }
    | inr more ↦ later (failing p xs more)
  ]

  pub passing : (p : X → Bool) (xs : List X) → list_any p xs ≡ true → Item p true xs
  passing p [] some = absurd (false≢true some)
  passing p (x ∷ xs) some = elim (or_cases (p x) (list_any p xs) some) [
    | inl first ↦ record { item = x; inside = inl refl; is = first }
    | inr more ↦ later (passing p xs more)
  ]
