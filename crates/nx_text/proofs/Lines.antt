-- Where a line begins.
use Rattle.std.proofs.Common.{◌≡◌, ◌∙◌, ◌+◌, ◌-◌, ◌≤◌, ℕ, Bool, true, false, not, List, length, take, drop, reverse, get_or, eqb}
use Rattle.std.proofs.Common.{refl, sym, ap, subst, arith, inl, inr, eqb-true}
use Rattle.std.specs.List.{suffix_len, prefix_len}
use Rattle.std.specs.Str.{IsUtf8, IsCharBoundary}
use Rattle.std.proofs.lemmas.Bool.{cases_lt}
use Rattle.std.proofs.lemmas.List.{length-take-le, length-reverse, drop-take, get_or-reverse, get_or-take}
use Rattle.std.proofs.lemmas.List.Sums.{prefix_len_stops}
use Rattle.std.proofs.lemmas.Str.{IsCharBoundary-start, IsCharBoundary-after_ascii}
use Rattle.nx_text.specs.Places.{is_in_line, line_front}

byte_is : (b : Bool) → not b ≡ false → b ≡ true
byte_is true h = refl
byte_is false h = sym h

-- behind a line feed, or at the start, stands a place
pub starts_at_place : (text : List ℕ) (at n : ℕ) → IsUtf8 text → at ≤ length text → n ≡ suffix_len is_in_line (take at text)
    → IsCharBoundary text (at - n)
starts_at_place text at n u le is = elim (cases_lt n at) [
  | inl lt ↦ (
      let front = take at text in
      let len : length front ≡ at = length-take-le at text le in
      let m = prefix_len is_in_line (reverse front) in
      let rev : length (reverse front) ≡ length front = length-reverse front in
      let same : n ≡ m = is in
      let stops : is_in_line (get_or (reverse front) m 0) ≡ false = prefix_len_stops is_in_line (reverse front) 0 (omega arith) in
      let back : get_or (reverse front) m 0 ≡ get_or front (length front - 1 - m) 0 = get_or-reverse front m 0 (omega arith) in
      let j : length front - 1 - m ≡ at - 1 - n = omega arith in
      let byte : get_or (reverse front) m 0 ≡ get_or text (at - 1 - n) 0 =
      back ∙ ap (λ i. get_or front i 0) j ∙ get_or-take at text (at - 1 - n) 0 (omega arith) in
      let is_feed : get_or text (at - 1 - n) 0 ≡ 10 =
      sym byte ∙ eqb-true (get_or (reverse front) m 0) 10 (byte_is (eqb (get_or (reverse front) m 0) 10) stops) in
      let end : at - 1 - n + 1 ≡ at - n = omega arith in
      subst (IsCharBoundary text) end (IsCharBoundary-after_ascii text (at - 1 - n) u (omega arith) (omega arith)))
  | inr past ↦ (let e : 0 ≡ at - n = omega arith in subst (IsCharBoundary text) e (IsCharBoundary-start text u))
]

-- what stands from there to the place
pub stands_in_line : (text : List ℕ) (at n : ℕ) → at ≤ length text → n ≡ suffix_len is_in_line (take at text) → n ≤ at
    → take (at - (at - n)) (drop (at - n) text) ≡ line_front text at
stands_in_line text at n le is short =
    let len : length (take at text) ≡ at = length-take-le at text le in
    let start : at - n ≡ length (take at text) - suffix_len is_in_line (take at text) = omega arith in
    let width : at - (at - n) ≡ n = omega arith in
    let whole : at - n + n ≡ at = omega arith in
    ap (λ m. take m (drop (at - n) text)) width ∙ sym (drop-take (at - n) n text) ∙ ap (λ m. drop (at - n) (take m text)) whole
    ∙ ap (λ m. drop m (take at text)) start
