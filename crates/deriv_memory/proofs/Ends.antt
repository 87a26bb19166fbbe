-- Texts that are compared by loads of their first and their last bytes.
use Rattle.std.proofs.Common.{◌≡◌, ◌↔◌, ◌∙◌, ℕ, ◌+◌, ◌-◌, ◌*◌, ◌%◌, ◌^◌, ◌≤◌, eqb, nat_eq, cond, Bool, true, false, not, IsTrue, List, [], ◌∷◌, ◌++◌, map, length, take, drop, take_all, take-append-drop, refl, sym, ap, ap₂, subst, arith}
use Rattle.std.specs.Prelude.{◌&&◌}
use Rattle.std.proofs.lemmas.Bool.{and_parts, and_from, eqb-true}
use Rattle.std.proofs.lemmas.Bool.Decides.{Decides-eqb}
use Rattle.std.proofs.lemmas.List.{length-map, length-drop, drop-drop}
use Rattle.std.proofs.lemmas.Simd.{mask_l-mod, length-chunk, length-zip2}
use lib.Lanes.{chunk, zip2, mask_l, top}

-- ---- lanes of two loads

-- what the lanes say of two bytes
abbrev differ : ℕ → ℕ → ℕ
differ x y = cond (not (eqb x y)) 255 0

one_same : (t : Bool) (m : ℕ) → cond (top 7 (cond (not t) 255 0)) 1 0 + 2 * m ≡ 0 → (t ≡ true) × (m ≡ 0)
one_same true m e = (refl, omega (arith, e))
one_same false m e = absurd (omega (arith, e))

none_differ : (xs ys : List ℕ) → length xs ≡ length ys → mask_l (map (top 7) (zip2 differ xs ys)) ≡ 0 → xs ≡ ys
none_differ [] [] l e = refl
none_differ [] (y ∷ ys) l e = absurd (omega (arith, l))
none_differ (x ∷ xs) [] l e = absurd (omega (arith, l))
none_differ (x ∷ xs) (y ∷ ys) l e =
    let t = one_same (eqb x y) (mask_l (map (top 7) (zip2 differ xs ys))) e in
    ap₂ (λ a b. a ∷ b) (eqb-true x y t.0) (none_differ xs ys (omega (arith, l)) t.1)

all_same : (xs : List ℕ) → mask_l (map (top 7) (zip2 differ xs xs)) ≡ 0
all_same [] = refl
all_same (x ∷ xs) = ap₂ (λ t m. cond (top 7 (cond (not t) 255 0)) 1 0 + 2 * m) ((Decides-eqb x x).1 refl) (all_same xs)

-- no lanes differ just where the bytes are the same
pub same_from_lanes : (a b : List ℕ) (i n : ℕ) → i + n ≤ length a → i + n ≤ length b → n ≤ 64
    → IsTrue (nat_eq (mask_l (map (top 7) (zip2 differ (chunk i n a) (chunk i n b))) % 2 ^ 64) 0) ↔ (take n (drop i a) ≡ take n (drop i b))
same_from_lanes a b i n room room_b few =
    let xs = chunk i n a in
    let ys = chunk i n b in
    let one : length xs ≡ length ys = length-chunk i n a room ∙ sym (length-chunk i n b room_b) in
    let compared = zip2 differ xs ys in
    let len = length-map compared (top 7) ∙ length-zip2 differ xs ys one in
    let mask = mask_l-mod (map (top 7) compared) 64 (omega (arith, len, length-chunk i n a room, few)) in
    let P : List ℕ → Type 0 = λ zs. IsTrue (nat_eq (mask_l (map (top 7) (zip2 differ xs zs)) % 2 ^ 64) 0) in (
      λ none. none_differ xs ys one (sym mask ∙ eqb-true _ 0 none),
      λ same. subst P same (ap (λ m. nat_eq (m % 2 ^ 64) 0) (all_same xs)),
    )

-- ---- first and last bytes

behind : (a b : List ℕ) (n : ℕ) → length a ≡ length b → length a ≤ n + n
    → take n (drop (length a - n) a) ≡ take n (drop (length a - n) b) → drop n a ≡ drop n b
behind a b n one covered last =
    let k = length a - n in
    let from : k + (n - k) ≡ n = omega (arith, covered) in
    let whole_a : take n (drop k a) ≡ drop k a = take_all n (drop k a) (omega (arith, length-drop k a)) in
    let whole_b : take n (drop k b) ≡ drop k b = take_all n (drop k b) (omega (arith, length-drop k b, one)) in
    let step_a : drop (n - k) (drop k a) ≡ drop n a = drop-drop (n - k) k a ∙ ap (λ m. drop m a) from in
    let step_b : drop (n - k) (drop k b) ≡ drop n b = drop-drop (n - k) k b ∙ ap (λ m. drop m b) from in
    sym step_a ∙ (ap (λ zs. drop (n - k) zs) (sym whole_a ∙ (last ∙ whole_b)) ∙ step_b)

-- they are all bytes of a text that isn't longer than both
pub ends_tell : (r s : Bool) (a b : List ℕ) (n : ℕ) → length a ≡ length b → length a ≤ n + n
    → IsTrue r ↔ (take n (drop 0 a) ≡ take n (drop 0 b)) → IsTrue s ↔ (take n (drop (length a - n) a) ≡ take n (drop (length a - n) b))
    → IsTrue (r && s) ↔ (a ≡ b)
ends_tell r s a b n one covered first last = (
  λ both.
      let t = and_parts r s both in
      sym (take-append-drop n a) ∙ (ap₂ (λ front rest. front ++ rest) (first.0 t.0) (behind a b n one covered (last.0 t.1)) ∙ take-append-drop n b),
  λ is. and_from r s (first.1 (ap (λ x. take n (drop 0 x)) is)) (last.1 (ap (λ x. take n (drop (length a - n) x)) is)),
)
