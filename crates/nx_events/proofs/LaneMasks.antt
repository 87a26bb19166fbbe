-- What the mask of one load tells of its bytes.
use Rattle.std.proofs.Common.{◌≡◌, ◌∙◌, ℕ, ◌+◌, ◌-◌, ◌*◌, ◌%◌, ◌^◌, ◌<◌, ◌≤◌, eqb, cond, Bool, true, false, not, List, [], ◌∷◌, map, length, take, drop, get_or, take-append-drop}
use Rattle.std.proofs.Common.{replicate, Fits, w8, bit_and, refl, sym, ap, ap₂, arith, get_or-take, get_or-drop}
use Rattle.std.specs.Bool.{OnTrue}
use Rattle.std.specs.Int.{w64, trailing_zeros}
use Rattle.std.specs.List.{prefix_len, position_or_len}
use Rattle.std.specs.Prelude.{◌==◌, ◌||◌, if◌then◌else◌}
use Rattle.std.proofs.lemmas.Bool.{agree_below, agree_below_at, eqb-true, ne_eqb, false≢true, OnTrue_from}
use Rattle.std.proofs.lemmas.List.{length-map}
use Rattle.std.proofs.lemmas.List.Folds.{prefix_len-append}
use Rattle.std.proofs.lemmas.Simd.{mask_l-mod, first_set_mask_l, length-chunk, chunk-fits, none_from_empty_mask, zip2-map, zip2_splat, length-zip2}
use Rattle.nx_events.specs.ByteClasses.{AllBetween, SameBetween, is_plain_or}
use Rattle.nx_events.specs.Plain.{is_plain}
use lib.Lanes.{chunk, zip2, mask_l, top, Each1}

-- an operation on two vectors that were computed lane by lane from v
pub joined : (h : ℕ → ℕ → ℕ) (f g : ℕ → ℕ) (v : List ℕ) {a b : List ℕ} → a ≡ map f v → b ≡ map g v → zip2 h a b ≡ map (λ x. h (f x) (g x)) v
joined h f g v p q = ap₂ (zip2 h) p q ∙ zip2-map h f g v

pub splat_is : (v : List ℕ) (n y : ℕ) → length v ≡ n → replicate n y ≡ map (λ _. y) v
splat_is [] n y e = ap (λ k. replicate k y) (sym e)
splat_is (x ∷ xs) n y e = ap (λ k. replicate k y) (sym e) ∙ ap (λ r. y ∷ r) (splat_is xs (length xs) y refl)

-- lanes that are set just where the test holds
each_byte : (f : ℕ → ℕ) (p : ℕ → Bool) → ((b : ℕ) → b < 256 → top 7 (f b) ≡ p b) → (v : List ℕ) → Each1 (Fits w8) v → map (top 7) (map f v) ≡ map p v
each_byte f p same [] fits = refl
each_byte f p same (x ∷ xs) fits = ap₂ (λ a b. a ∷ b) (same x fits.0.fits) (each_byte f p same xs fits.1)

pub holds : (b : Bool) → not b ≡ false → b ≡ true
holds true e = refl
holds false e = absurd (false≢true (sym e))

module _ (q : ℕ → Bool) (d : List ℕ) (i n : ℕ) (room : i + n ≤ length d) (few : n ≤ 64) (fits : (k : ℕ) → Fits w8 (get_or d k 0)) where
  -- no lane is set: each byte passes
  pub all_pass_test : (f : ℕ → ℕ) (z : List ℕ) → z ≡ map f (chunk i n d) → ((b : ℕ) → b < 256 → top 7 (f b) ≡ not (q b)) →
      OnTrue (mask_l (map (top 7) z) % 2 ^ 64 == 0) (AllBetween q d i (i + n))
  all_pass_test f z lanes same =
      let v = chunk i n d in
      let p : ℕ → Bool = λ x. not (q x) in
      let long : length v ≡ n = length-chunk i n d room in
      let mask : mask_l (map (top 7) z) % 2 ^ 64 ≡ mask_l (map p v) =
      ap (λ l. mask_l l % 2 ^ 64) (ap (map (top 7)) lanes ∙ each_byte f p same v (chunk-fits w8 i n d fits)) ∙ mask_l-mod (map p v) 64 (omega (arith, length-map v p, long, few)) in
      OnTrue_from (mask_l (map (top 7) z) % 2 ^ 64 == 0) (AllBetween q d i (i + n)) (λ e k from to. holds (q (get_or d k 0)) (none_from_empty_mask p d i n 0 room (sym mask ∙ eqb-true _ 0 e) k from to))

  -- the same where the lanes are computed from the bytes alone
  pub all_pass_by_trying : (f : ℕ → ℕ) (z : List ℕ) → z ≡ map f (chunk i n d) → agree_below (λ x. top 7 (f x)) (λ x. not (q x)) 256 ≡ true →
      OnTrue (mask_l (map (top 7) z) % 2 ^ 64 == 0) (AllBetween q d i (i + n))
  all_pass_by_trying f z lanes all = all_pass_test f z lanes (λ b low. agree_below_at (λ x. top 7 (f x)) (λ x. not (q x)) 256 b all low)

-- lanes that are set where a byte is strange, but for one byte
but_one : (plain one : Bool) → top 7 (bit_and (cond plain 0 255) (cond (not one) 255 0)) ≡ not (plain || one)
but_one true true = refl
but_one true false = refl
but_one false true = refl
but_one false false = refl

strange_but_one : (also b : ℕ) (f : ℕ → ℕ) → agree_below (λ x. f x == cond (is_plain x) 0 255) (λ _. true) 256 ≡ true → b < 256 →
    top 7 (bit_and (f b) (cond (not (eqb b also)) 255 0)) ≡ not (is_plain_or also b)
strange_but_one also b f all low =
    let is : f b ≡ cond (is_plain b) 0 255 = eqb-true (f b) (cond (is_plain b) 0 255) (agree_below_at (λ x. f x == cond (is_plain x) 0 255) (λ _. true) 256 b all low) in
    ap (λ x. top 7 (bit_and x (cond (not (eqb b also)) 255 0))) is ∙ but_one (is_plain b) (eqb b also)

pub plain_or_from_lanes : (also : ℕ) (d : List ℕ) (i n : ℕ) → i + n ≤ length d → n ≤ 64 → ((k : ℕ) → Fits w8 (get_or d k 0)) →
    (f : ℕ → ℕ) (strange : List ℕ) → strange ≡ map f (chunk i n d) → agree_below (λ x. f x == cond (is_plain x) 0 255) (λ _. true) 256 ≡ true →
    OnTrue (mask_l (map (top 7) (zip2 bit_and strange (zip2 (λ a b. cond (not (eqb a b)) 255 0) (chunk i n d) (replicate n also)))) % 2 ^ 64 == 0) (AllBetween (is_plain_or also) d i (i + n))
plain_or_from_lanes also d i n room few fits f strange lanes all =
    let v = chunk i n d in
    let other : ℕ → ℕ → ℕ = λ a b. cond (not (eqb a b)) 255 0 in
    all_pass_test (is_plain_or also) d i n room few fits (λ b. bit_and (f b) (other b also)) (zip2 bit_and strange (zip2 other v (replicate n also)))
    (joined bit_and f (λ b. other b also) v lanes (zip2_splat {Y = ℕ} other v n also (length-chunk i n d room)))
    (λ b low. strange_but_one also b f all low)

-- two loads of which no lanes differ
one_same : (t : Bool) (m : ℕ) → cond (top 7 (cond (not t) 255 0)) 1 0 + 2 * m ≡ 0 → (t ≡ true) × (m ≡ 0)
one_same true m e = (refl, omega (arith, e))
one_same false m e = absurd (omega (arith, e))

none_differ : (xs ys : List ℕ) → length xs ≡ length ys → mask_l (map (top 7) (zip2 (λ a b. cond (not (eqb a b)) 255 0) xs ys)) ≡ 0 → xs ≡ ys
none_differ [] [] l e = refl
none_differ [] (y ∷ ys) l e = absurd (omega (arith, l))
none_differ (x ∷ xs) [] l e = absurd (omega (arith, l))
none_differ (x ∷ xs) (y ∷ ys) l e =
    let t = one_same (eqb x y) (mask_l (map (top 7) (zip2 (λ a b. cond (not (eqb a b)) 255 0) xs ys))) e in
    ap₂ (λ a b. a ∷ b) (eqb-true x y t.0) (none_differ xs ys (omega (arith, l)) t.1)

lane_is : (d : List ℕ) (i n k : ℕ) → i ≤ k → k < i + n → get_or d k 0 ≡ get_or (chunk i n d) (k - i) 0
lane_is d i n k from to =
    let back : i + (k - i) ≡ k = omega (arith, from) in
    sym (get_or-take n (drop i d) (k - i) 0 (omega (arith, from, to)) ∙ get_or-drop i d (k - i) 0 ∙ ap (λ (j : ℕ). get_or d j 0) back)

pub same_from_lanes : (a b : List ℕ) (i n : ℕ) → i + n ≤ length a → i + n ≤ length b → n ≤ 64 →
    OnTrue (mask_l (map (top 7) (zip2 (λ a b. cond (not (eqb a b)) 255 0) (chunk i n a) (chunk i n b))) % 2 ^ 64 == 0) (SameBetween a b i (i + n))
same_from_lanes a b i n room room_b few =
    let xs = chunk i n a in
    let ys = chunk i n b in
    let long : length xs ≡ n = length-chunk i n a room in
    let long_b : length ys ≡ n = length-chunk i n b room_b in
    let compared = zip2 (λ a b. cond (not (eqb a b)) 255 0) xs ys in
    let len = length-map compared (top 7) ∙ length-zip2 (λ a b. cond (not (eqb a b)) 255 0) xs ys (long ∙ sym long_b) in
    let mask = mask_l-mod (map (top 7) compared) 64 (omega (arith, len, long, few)) in
    OnTrue_from (mask_l (map (top 7) compared) % 2 ^ 64 == 0) (SameBetween a b i (i + n)) (λ e k from to.
    lane_is a i n k from to
    ∙ ap (λ (zs : List ℕ). get_or zs (k - i) 0) (none_differ xs ys (long ∙ sym long_b) (sym mask ∙ eqb-true _ 0 e))
    ∙ sym (lane_is b i n k from to))

-- the first byte of a kind among the first n
module _ (p : ℕ → Bool) (d : List ℕ) (n : ℕ) (few : n ≤ 64) (room : n ≤ length d) where
  front_len : length (take n d) ≡ n
  front_len = length-chunk 0 n d (omega (arith, room))

  pub first_is : ((k : ℕ) → Fits w8 (get_or d k 0)) → (z : List ℕ) (r : ℕ) →
      r ≡ (if mask_l (map (top 7) z) % 2 ^ 64 == 0 then n else trailing_zeros w64 (mask_l (map (top 7) z) % 2 ^ 64)) →
      (f : ℕ → ℕ) → z ≡ map f (chunk 0 n d) → ((b : ℕ) → b < 256 → top 7 (f b) ≡ p b) → r ≡ position_or_len p (take n d)
  first_is fits z r found f lanes same =
      let v = chunk 0 n d in
      let mask : mask_l (map (top 7) z) % 2 ^ 64 ≡ mask_l (map p v) =
      ap (λ l. mask_l l % 2 ^ 64) (ap (map (top 7)) lanes ∙ each_byte f p same v (chunk-fits w8 0 n d fits)) ∙ mask_l-mod (map p v) 64 (omega (arith, length-map v p, front_len, few)) in
      found ∙ ap (λ m. if m == 0 then n else trailing_zeros w64 m) mask ∙ first_set_mask_l p v n front_len few

  pub first_by_trying : ((k : ℕ) → Fits w8 (get_or d k 0)) → (z : List ℕ) (r : ℕ) →
      r ≡ (if mask_l (map (top 7) z) % 2 ^ 64 == 0 then n else trailing_zeros w64 (mask_l (map (top 7) z) % 2 ^ 64)) →
      (f : ℕ → ℕ) → z ≡ map f (chunk 0 n d) → agree_below (λ x. top 7 (f x)) p 256 ≡ true → r ≡ position_or_len p (take n d)
  first_by_trying fits z r found f lanes all = first_is fits z r found f lanes (λ b low. agree_below_at (λ x. top 7 (f x)) p 256 b all low)

  -- is the first of all
  pub first_of_all : (r : ℕ) → r ≡ position_or_len p (take n d) → r < n → r ≡ position_or_len p d
  first_of_all r first short =
      let q : ℕ → Bool = λ x. not (p x) in
      let split : prefix_len q d
      ≡ cond (eqb (prefix_len q (take n d)) (length (take n d))) (length (take n d) + prefix_len q (drop n d)) (prefix_len q (take n d)) =
      ap (prefix_len q) (sym (take-append-drop n d)) ∙ prefix_len-append q (take n d) (drop n d) in
      first ∙ sym (split ∙ ap (λ b. cond b (length (take n d) + prefix_len q (drop n d)) (prefix_len q (take n d)))
      (ne_eqb _ _ (λ (e : prefix_len q (take n d) ≡ length (take n d)). omega (arith, e, first, front_len, short))))

pub hit_is : (t : Bool) → top 7 (cond t 255 0) ≡ t
hit_is true = refl
hit_is false = refl
