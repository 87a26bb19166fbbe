-- Numbers written in decimal digits.
use Rattle.std.specs.Prelude.{◌≡◌, ℕ, zero, suc, ◌+◌, ◌*◌, ◌/◌, ◌%◌, ◌^◌, ◌<◌, List, [], ◌∷◌, ◌++◌, length}
use Rattle.std.proofs.Common.{refl, arith, length-append}
use Rattle.std.proofs.Math.Nat.{pow-suc}
use Rattle.rng_types.proofs.Digits.{Digits, no_digit, more_digits, Digits-append, value, value-append}

-- that many digits of a number, from its end
pub fixed : ℕ → ℕ → List ℕ
fixed zero d = []
fixed (suc w) d = fixed w (d / 10) ++ (48 + d % 10) ∷ []

pub length-fixed : (w d : ℕ) → length (fixed w d) ≡ w
unfolding fixed
length-fixed zero d = refl
length-fixed (suc w) d = omega (arith, length-append (fixed w (d / 10)) ((48 + d % 10) ∷ []), length-fixed w (d / 10))

pub Digits-fixed : (w d : ℕ) → Digits (fixed w d)
unfolding fixed
Digits-fixed zero d = no_digit
Digits-fixed (suc w) d = Digits-append (Digits-fixed w (d / 10)) (more_digits (omega arith) (omega arith) no_digit)

tenth_below : (w d : ℕ) → d < 10 ^ suc w → d / 10 < 10 ^ w
tenth_below w d small =
    let h : d < 10 ^ w * 10 = rw pow-suc at small in
    omega arith

pub value-fixed : (w d : ℕ) → d < 10 ^ w → value (fixed w d) ≡ d
unfolding fixed
value-fixed zero d small = omega arith
value-fixed (suc w) d small =
    let front : value (fixed w (d / 10)) ≡ d / 10 = value-fixed w (d / 10) (tenth_below w d small) in
    let whole = value-append (fixed w (d / 10)) ((48 + d % 10) ∷ []) in
    omega (arith, front, whole)

-- a number has fewer digits than itself and one
pub below_ten_pow : (n : ℕ) → n < 10 ^ n
below_ten_pow zero = omega arith
below_ten_pow (suc n) =
    let before = below_ten_pow n in
    rw pow-suc (omega arith)

pub below_longer : (d i : ℕ) → d < 10 ^ (d + 1 + i)
below_longer d i = omega (arith, below_ten_pow (d + 1 + i))
