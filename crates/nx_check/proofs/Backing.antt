-- Where a part begins that ends at a byte offset: one byte more, and the last.
use Rattle.std.proofs.Common.{◌≡◌, ℕ, zero, suc, ◌-◌, ◌<◌, ◌≤◌, Bool, true, false, cond, List, Option, Some, None, refl, sym, ap, ◌∙◌, subst, arith}
use Rattle.std.specs.Prelude.{slice_get}
use Rattle.nx_check.specs.Places.{back_over, has, has_there}
use Rattle.nx_check.specs.declared.place.Part.{Part}

-- the byte in front is of the part
pub back-more : (part : Part) (text : List ℕ) (at : ℕ) (byte : ℕ) → 0 < at → slice_get text (at - 1) ≡ Some byte → has part byte ≡ true →
    back_over part text at ≡ back_over part text (at - 1)
unfolding back_over
back-more part text zero byte lt is it = absurd (omega (arith, lt))
back-more part text (suc at) byte lt is it =
    let one : suc at - 1 ≡ at = omega arith in
    let there : slice_get text at ≡ Some byte = subst (λ (k : ℕ). slice_get text k ≡ Some byte) one is in
    ap (λ o. cond (has_there part o) (back_over part text at) (suc at)) there ∙ ap (λ b. cond b (back_over part text at) (suc at)) it
    ∙ ap (back_over part text) (sym one)

-- it isn't, or there is none
pub back-stop : (part : Part) (text : List ℕ) (at : ℕ) → 0 < at → has_there part (slice_get text (at - 1)) ≡ false → at ≡ back_over part text at
unfolding back_over
back-stop part text zero lt no-part = absurd (omega (arith, lt))
back-stop part text (suc at) lt no-part =
    let one : suc at - 1 ≡ at = omega arith in
    let there : has_there part (slice_get text at) ≡ false = subst (λ (k : ℕ). has_there part (slice_get text k) ≡ false) one no-part in
    sym (ap (λ b. cond b (back_over part text at) (suc at)) there)

pub back-start : (part : Part) (text : List ℕ) (at : ℕ) → at ≤ 0 → at ≡ back_over part text at
unfolding back_over
back-start part text zero low = refl
back-start part text (suc at) low = absurd (omega (arith, low))
