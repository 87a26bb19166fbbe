-- Bytes that are written over others.
use Rattle.std.proofs.Common.{◌≡◌, ℕ, ◌+◌, ◌-◌, ◌/◌, ◌<◌, ◌≤◌, List, [], ◌∷◌, ◌++◌, length, take, drop, set, slice_index, refl, ap, sym, ◌∙◌, arith, length-drop, take-take, take_all, take-append-drop}
use Rattle.std.proofs.Math.Seq.{take-append_seam}

-- in front of what is left of a list that they are written over stand the bytes
pub over_front : (xs ys new : List ℕ) (n len : ℕ) → len ≡ length xs → length new ≡ length xs → take n new ≡ ys →
    take n (take len (new ++ drop (length new) xs)) ≡ ys
over_front xs ys new n len is same copied =
    ap (λ m. take n (take m (new ++ drop (length new) xs))) (is ∙ sym same)
    ∙ ap (take n) (take-append_seam new (drop (length new) xs)) ∙ copied

-- the first bytes in front of where the last ones begin, and these
pub both_parts : (xs : List ℕ) (n rest : ℕ) → rest ≡ length xs - n → n ≤ length xs → length xs ≤ n + n
    → take rest (take n xs) ++ take n (drop rest xs) ≡ xs
both_parts xs n rest is enough all =
    (λ k. take-take rest n xs (omega (arith, is)) k ++ take_all n (drop rest xs) (omega (arith, is, length-drop rest xs)) k) ∙ take-append-drop rest xs

-- the first bytes, and over them the last ones
pub both_ends : (xs mid new : List ℕ) (n rest : ℕ) → rest ≡ length xs - n → n ≤ length xs → length xs ≤ n + n
    → take (0 + n) mid ≡ take n xs → take (rest + n) new ≡ take rest mid ++ take n (drop rest xs) → take (length xs) new ≡ xs
both_ends xs mid new n rest is enough all first second =
    let whole : length xs ≡ rest + n = omega (arith, is) in
    let front : take rest mid ≡ take rest (take n xs) = sym (take-take rest (0 + n) mid (omega (arith, is))) ∙ ap (take rest) first in
    ap (λ k. take k new) whole ∙ second ∙ ap (λ l. l ++ take n (drop rest xs)) front ∙ both_parts xs n rest is enough all

-- the first byte, the one in the middle and the last, where there are three at most
pub three_at_most : (xs old : List ℕ) → 0 < length xs → length xs ≤ 3 → length xs ≤ length old
    → take (length xs) (set (set (set old 0 (slice_index xs 0)) (length xs / 2) (slice_index xs (length xs / 2)))
    (length xs - 1) (slice_index xs (length xs - 1))) ≡ xs
three_at_most [] old some few room = absurd (omega (arith, some))
three_at_most (a ∷ []) [] some few room = absurd (omega (arith, room))
three_at_most (a ∷ []) (o ∷ old) some few room = refl
three_at_most (a ∷ b ∷ []) [] some few room = absurd (omega (arith, room))
three_at_most (a ∷ b ∷ []) (o ∷ []) some few room = absurd (omega (arith, room))
three_at_most (a ∷ b ∷ []) (o ∷ p ∷ old) some few room = refl
three_at_most (a ∷ b ∷ c ∷ []) [] some few room = absurd (omega (arith, room))
three_at_most (a ∷ b ∷ c ∷ []) (o ∷ []) some few room = absurd (omega (arith, room))
three_at_most (a ∷ b ∷ c ∷ []) (o ∷ p ∷ []) some few room = absurd (omega (arith, room))
three_at_most (a ∷ b ∷ c ∷ []) (o ∷ p ∷ q ∷ old) some few room = refl
three_at_most (a ∷ b ∷ c ∷ d ∷ xs) old some few room = absurd (omega (arith, few))
