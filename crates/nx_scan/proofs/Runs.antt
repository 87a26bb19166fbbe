-- Runs of bytes of a class, told by what one load of sixteen says.
use Rattle.std.proofs.Common.{◌≡◌, ◌∙◌, ℕ, ◌+◌, ◌%◌, ◌^◌, ◌<◌, ◌≤◌, eqb, cond, Bool, true, false, not, List, [], ◌∷◌, map, length, take, drop, get_or}
use Rattle.std.proofs.Common.{replicate, Fits, w8, refl, sym, ap, ap₂, arith}
use Rattle.std.specs.Prelude.{if◌then◌else◌, ◌==◌, ◌&&◌, ◌||◌}
use Rattle.std.specs.Int.{w64, trailing_zeros}
use Rattle.std.specs.List.{prefix_len}
use Rattle.std.proofs.lemmas.Bool.{false≢true, agree_below, agree_below_at, eq-eqb, ne_eqb, cases_lt, lt-ltb, le-ltb, lt-leb, le-leb}
use Rattle.std.proofs.Common.{leb, ltb, bit_or, inl, inr}
use Rattle.nx_base.specs.Characters.{is_name_start, is_name_char}
use Rattle.std.specs.Char.{is_ascii_alphabetic}
use Rattle.nx_scan.specs.Tag.{is_name_byte, is_value_byte}
use Rattle.std.proofs.lemmas.Simd.{mask_l-mod, length-chunk, chunk-drop, chunk-fits, first_set_mask_l, zip2-map}
use Rattle.std.proofs.lemmas.List.{length-map, get_or-take}
use Rattle.std.proofs.lemmas.List.Folds.{prefix_len-append}
use Rattle.std.proofs.lemmas.List.Sums.{prefix_len-le-length, prefix_len_passes}
use lib.Lanes.{chunk, zip2, mask_l, top, Each1}

-- an operation on two vectors that were computed lane by lane from v
pub joined : (h : ℕ → ℕ → ℕ) (f g : ℕ → ℕ) (v : List ℕ) {a b : List ℕ} → a ≡ map f v → b ≡ map g v → zip2 h a b ≡ map (λ x. h (f x) (g x)) v
joined h f g v p q = ap₂ (zip2 h) p q ∙ zip2-map h f g v

pub splat_is : (v : List ℕ) (n y : ℕ) → length v ≡ n → replicate n y ≡ map (λ _. y) v
splat_is [] n y e = ap (λ k. replicate k y) (sym e)
splat_is (x ∷ xs) n y e = ap (λ k. replicate k y) (sym e) ∙ ap (λ r. y ∷ r) (splat_is xs (length xs) y refl)

pub itself : (v : List ℕ) → v ≡ map (λ x. x) v
itself [] = refl
itself (x ∷ xs) = ap (λ r. x ∷ r) (itself xs)

-- lanes that stop just where the test fails
each_byte : (f : ℕ → ℕ) (q : ℕ → Bool) → ((b : ℕ) → b < 256 → top 7 (f b) ≡ not (q b)) → (v : List ℕ) → Each1 (Fits w8) v →
    map (top 7) (map f v) ≡ map (λ x. not (q x)) v
each_byte f q same [] fits = refl
each_byte f q same (x ∷ xs) fits = ap₂ (λ a b. a ∷ b) (same x fits.0.fits) (each_byte f q same xs fits.1)

twice : (b : Bool) → not (not b) ≡ b
twice true = refl
twice false = refl

not-not : (q : ℕ → Bool) (v : List ℕ) → prefix_len (λ x. not (not (q x))) v ≡ prefix_len q v
not-not q [] = refl
not-not q (x ∷ xs) = ap₂ (λ b n. cond b (1 + n) 0) (twice (q x)) (not-not q xs)

pub run_is : (q : ℕ → Bool) (d z : List ℕ) (r : ℕ) → 16 ≤ length d → ((k : ℕ) → Fits w8 (get_or d k 0)) →
    r ≡ (if mask_l (map (top 7) z) % 2 ^ 64 == 0 then 16 else trailing_zeros w64 (mask_l (map (top 7) z) % 2 ^ 64)) →
    (f : ℕ → ℕ) → z ≡ map f (chunk 0 16 d) → ((b : ℕ) → b < 256 → top 7 (f b) ≡ not (q b)) → r ≡ prefix_len q (take 16 d)
run_is q d z r room fits found f lanes same =
    let v = chunk 0 16 d in
    let p : ℕ → Bool = λ x. not (q x) in
    let long : length v ≡ 16 = length-chunk 0 16 d room in
    let mask : mask_l (map (top 7) z) % 2 ^ 64 ≡ mask_l (map p v) =
    ap (λ l. mask_l l % 2 ^ 64) (ap (map (top 7)) lanes ∙ each_byte f q same v (chunk-fits w8 0 16 d fits)) ∙ mask_l-mod (map p v) 64 (omega (arith, length-map v p, long)) in
    found ∙ ap (λ m. if m == 0 then 16 else trailing_zeros w64 m) mask ∙ first_set_mask_l p v 16 long (omega arith) ∙ not-not q v

-- the same where the lanes are computed from the bytes alone
pub run_agrees : (q : ℕ → Bool) (d z : List ℕ) (r : ℕ) → 16 ≤ length d → ((k : ℕ) → Fits w8 (get_or d k 0)) →
    r ≡ (if mask_l (map (top 7) z) % 2 ^ 64 == 0 then 16 else trailing_zeros w64 (mask_l (map (top 7) z) % 2 ^ 64)) →
    (f : ℕ → ℕ) → z ≡ map f (chunk 0 16 d) → agree_below (λ x. top 7 (f x)) (λ x. not (q x)) 256 ≡ true → r ≡ prefix_len q (take 16 d)
run_agrees q d z r room fits found f lanes all =
    run_is q d z r room fits found f lanes (λ b low. agree_below_at (λ x. top 7 (f x)) (λ x. not (q x)) 256 b all low)

-- lanes that stop at a byte of more than a character, at a quote, and at `<`
stops_of : (high quoted less : Bool) → top 7 (bit_or (bit_or (cond high 255 0) (cond quoted 255 0)) (cond less 255 0)) ≡ not (not high && (not quoted && not less))
stops_of true true true = refl
stops_of true true false = refl
stops_of true false true = refl
stops_of true false false = refl
stops_of false true true = refl
stops_of false true false = refl
stops_of false false true = refl
stops_of false false false = refl

high_or_low : (b : ℕ) → not (leb 128 b) ≡ ltb b 128
high_or_low b = elim (cases_lt b 128) [
  | inl low ↦ ap not (lt-leb 128 b low) ∙ sym (lt-ltb b 128 low)
  | inr high ↦ ap not (le-leb 128 b high) ∙ sym (le-ltb b 128 high)
]

pub value_stops : (quote b : ℕ) → top 7 (bit_or (bit_or (cond (leb 128 b) 255 0) (cond (eqb b quote) 255 0)) (cond (eqb b 60) 255 0)) ≡ not (is_value_byte quote b)
value_stops quote b =
    stops_of (leb 128 b) (eqb b quote) (eqb b 60) ∙ ap (λ t. not (t && (not (eqb b quote) && not (eqb b 60)))) (high_or_low b)

-- a run through the first sixteen bytes goes on behind them
split : (q : ℕ → Bool) (d : List ℕ) → prefix_len q d
    ≡ cond (eqb (prefix_len q (take 16 d)) (length (take 16 d))) (length (take 16 d) + prefix_len q (drop 16 d)) (prefix_len q (take 16 d))
split q d = ap (prefix_len q) (chunk-drop 0 16 d) ∙ prefix_len-append q (take 16 d) (drop 16 d)

module _ (q : ℕ → Bool) (d : List ℕ) (r : ℕ) (room : 16 ≤ length d) (run : r ≡ prefix_len q (take 16 d)) where
  long : length (take 16 d) ≡ 16
  long = length-chunk 0 16 d room

  pub run-stops : r < 16 → r ≡ prefix_len q d
  run-stops short =
      run ∙ sym (split q d ∙ ap (λ b. cond b (length (take 16 d) + prefix_len q (drop 16 d)) (prefix_len q (take 16 d)))
      (ne_eqb _ _ (λ (e : prefix_len q (take 16 d) ≡ length (take 16 d)). omega (arith, run, long))))

  pub run-through : 16 ≤ r → 16 + prefix_len q (drop 16 d) ≡ prefix_len q d
  run-through whole =
      let is : r ≡ 16 = omega (arith, run, long, prefix_len-le-length q (take 16 d)) in
      sym (split q d ∙ ap (λ b. cond b (length (take 16 d) + prefix_len q (drop 16 d)) (prefix_len q (take 16 d))) (eq-eqb _ _ (sym run ∙ is ∙ sym long))
      ∙ ap (λ k. k + prefix_len q (drop 16 d)) long)

-- the bytes of a run are in a name
implied : (p q : Bool) → (not p || q) ≡ true → p ≡ true → q ≡ true
implied true q e h = e
implied false q e h = absurd (false≢true h)

letters_agree : agree_below (λ b. not (is_ascii_alphabetic b) || is_name_byte b) (λ _. true) 256 ≡ true
unfolding is_name_char is_name_start
letters_agree = refl

letter-in_name : (b : ℕ) → b < 256 → is_ascii_alphabetic b ≡ true → is_name_byte b ≡ true
letter-in_name b low =
    implied (is_ascii_alphabetic b) (is_name_byte b) (agree_below_at (λ x. not (is_ascii_alphabetic x) || is_name_byte x) (λ _. true) 256 b letters_agree low)

pub letters-in_name : (d : List ℕ) (r : ℕ) → ((k : ℕ) → Fits w8 (get_or d k 0)) → r ≡ prefix_len is_ascii_alphabetic (take 16 d) → r < 16 →
    (k : ℕ) → k < r → is_name_byte (get_or d k 0) ≡ true
letters-in_name d r fits run short k less =
    letter-in_name (get_or d k 0) (fits k).fits
    (ap is_ascii_alphabetic (sym (get_or-take 16 d k 0 (omega (arith, less, short))))
    ∙ prefix_len_passes is_ascii_alphabetic (take 16 d) k 0 (omega (arith, run, less)))

pub run-in_name : (d : List ℕ) (r : ℕ) → r ≡ prefix_len is_name_byte d → (k : ℕ) → k < r → is_name_byte (get_or d k 0) ≡ true
run-in_name d r run k less = prefix_len_passes is_name_byte d k 0 (omega (arith, run, less))
