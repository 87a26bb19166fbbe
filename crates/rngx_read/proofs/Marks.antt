-- Bytes at the front of a text.
use Rattle.std.proofs.Common.{◌≡◌, ℕ, Bool, true, false, List, [], ◌∷◌, length, take, drop, refl, ap}
use Rattle.std.specs.Prelude.{nat_eq, ◌&&◌}
use Rattle.std.specs.Cmp.Lexicographic.{pointwise}
use Rattle.nx_base.specs.Tokens.{begins_with, order_mark}
use Rattle.rngx_read.specs.Files.{behind_mark}

-- as the program compares them
pub begins_is : (mark text : List ℕ) → begins_with mark text ≡ pointwise nat_eq (take (length mark) text) mark
unfolding begins_with
begins_is [] text = refl
begins_is (m ∷ mark) [] = refl
begins_is (m ∷ mark) (b ∷ text) = ap (λ (t : Bool). nat_eq b m && t) (begins_is mark text)

pub mark_is_passed : (text : List ℕ) → pointwise nat_eq (take 3 text) order_mark ≡ true → drop 3 text ≡ behind_mark text
unfolding behind_mark
mark_is_passed text e = rw (begins_is order_mark text, e) refl

pub no_mark_is_passed : (text : List ℕ) → pointwise nat_eq (take 3 text) order_mark ≡ false → text ≡ behind_mark text
unfolding behind_mark
no_mark_is_passed text e = rw (begins_is order_mark text, e) refl
