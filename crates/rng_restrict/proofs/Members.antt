-- Members of lists, and tests of them.
use Rattle.std.specs.Prelude.{◌≡◌, Bool, true, List, [], ◌∷◌, ◌++◌}
use Rattle.std.specs.List.{list_any}
use Rattle.std.proofs.Common.{◌⊎◌, inl, inr}
use Rattle.std.proofs.lemmas.Bool.{false≢true, or_left, or_right, or_cases}

pub data IsIn {A : Type 0} (x : A) : List A → Type 0 where
  here : {xs : List A} → IsIn x (x ∷ xs)
  further : {y : A} {xs : List A} → IsIn x xs → IsIn x (y ∷ xs)

pub in_left : {A : Type 0} {x : A} {xs : List A} (ys : List A) → IsIn x xs → IsIn x (xs ++ ys)
in_left ys here = here
in_left ys (further m) = further (in_left ys m)

pub in_right : {A : Type 0} {x : A} (xs : List A) {ys : List A} → IsIn x ys → IsIn x (xs ++ ys)
in_right [] m = m
in_right (y ∷ xs) m = further (in_right xs m)

pub in_either : {A : Type 0} {x : A} (xs ys : List A) → IsIn x (xs ++ ys) → IsIn x xs ⊎ IsIn x ys
in_either [] ys m = inr m
in_either (y ∷ xs) ys here = inl here
in_either (y ∷ xs) ys (further m) = elim (in_either xs ys m) [ inl first ↦ inl (further first) | inr second ↦ inr second ]

-- a member that passes a test
pub record Passing {A : Type 0} (test : A → Bool) (xs : List A) : Type 0 where
  pub item : A
  pub member : IsIn item xs
  pub passed : test item ≡ true

pub any_passes : {A : Type 0} (test : A → Bool) (xs : List A) → list_any test xs ≡ true → Passing test xs
any_passes test [] found = absurd (false≢true found)
any_passes test (x ∷ xs) found = elim (or_cases (test x) (list_any test xs) found) [
  | inl first ↦ record { item = x; member = here; passed = first }
  | inr more ↦ let p = any_passes test xs more in record { item = p.item; member = further p.member; passed = p.passed }
]

pub passes_any : {A : Type 0} (test : A → Bool) {x : A} {xs : List A} → IsIn x xs → test x ≡ true → list_any test xs ≡ true
passes_any test here passed = or_left _ _ passed
passes_any test (further {y = y} m) passed = or_right (test y) _ (passes_any test m passed)
