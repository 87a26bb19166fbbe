-- Small facts about tests and options.
use Rattle.std.proofs.Common.{◌≡◌, ℕ, Bool, true, false, cond, Option, Some, None, refl, List, [], ◌∷◌, length, option_map, arith}
use Rattle.std.specs.Option.{option_and_then}

-- a value that is there only where a test is true
pub chosen : {A : Type 0} (test : Bool) (x y : A) → cond test (Some x) None ≡ Some y → (test ≡ true) × (x ≡ y)
chosen true x y e = (refl, cc)
chosen false x y e = absurd cc

pub guarded : {A : Type 0} (test : Bool) (found : Option A) (y : A) → cond test found None ≡ Some y → (test ≡ true) × (found ≡ Some y)
guarded true found y e = (refl, e)
guarded false found y e = absurd cc

pub unless : {A : Type 0} (test : Bool) (found : Option A) (y : A) → cond test None found ≡ Some y → (test ≡ false) × (found ≡ Some y)
unless true found y e = absurd cc
unless false found y e = (refl, e)

-- the step before found something
pub bound : {A B : Type 0} (f : A → Option B) (found : Option A) (y : B) → option_and_then f found ≡ Some y → (x : A) × (found ≡ Some x) × (f x ≡ Some y)
bound f None y e = absurd cc
bound f (Some x) y e = (x, refl, e)

pub mapped : {A B : Type 0} (f : A → B) (found : Option A) (y : B) → option_map f found ≡ Some y → (x : A) × (found ≡ Some x) × (f x ≡ y)
mapped f None y e = absurd cc
mapped f (Some x) y e = (x, refl, cc)

pub empty_list : (xs : List ℕ) → length xs ≡ 0 → xs ≡ []
empty_list [] e = refl
empty_list (x ∷ xs) e = absurd (omega arith)

pub some_value : {A : Type 0} (x y : A) → Some x ≡ Some y → x ≡ y
some_value x y e = cc
