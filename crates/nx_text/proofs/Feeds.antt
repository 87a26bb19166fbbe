-- The line feeds of a text, and of its parts.
use Rattle.std.proofs.Common.{◌≡◌, ◌∙◌, ℕ, zero, suc, ◌+◌, ◌-◌, ◌<◌, ◌≤◌, Bool, true, false, cond, List, [], ◌∷◌, ◌++◌, map, length}
use Rattle.std.proofs.Common.{take, drop, get_or, refl, sym, ap, arith}
use Rattle.std.specs.List.{count_by}
use Rattle.std.specs.Prelude.{min}
use Rattle.std.proofs.lemmas.List.{length-take}
use Rattle.std.proofs.lemmas.List.Recursion.{is_count_by}
use Rattle.nx_text.specs.Feeds.{feeds_from, feeds_to_end}
use Rattle.nx_text.specs.Places.{is_line_feed}

-- how many line feeds a text has, and how many stand in front of an offset
abbrev pub feed_count : List ℕ → ℕ
feed_count [] = 0
feed_count (byte ∷ rest) = cond (is_line_feed byte) (1 + feed_count rest) (feed_count rest)

abbrev pub feeds_before : List ℕ → ℕ → ℕ
feeds_before text at = feed_count (take at text)

pub counted : (text : List ℕ) → feed_count text ≡ count_by is_line_feed text
counted text = is_count_by feed_count is_line_feed refl (λ x xs. refl) text

pub feeds_of_front : (n m : ℕ) (xs : List ℕ) → feeds_from n (take m xs) ≡ take (feeds_before xs m) (feeds_from n xs)
feeds_of_front n zero [] = refl
feeds_of_front n zero (x ∷ xs) = refl
feeds_of_front n (suc m) [] = refl
feeds_of_front n (suc m) (x ∷ xs) = step (is_line_feed x) n (feeds_before xs m) (feeds_from (n + 1) (take m xs)) (feeds_from (n + 1) xs) (feeds_of_front (n + 1) m xs)
  where
    step : (b : Bool) (n c : ℕ) (part rest : List ℕ) → part ≡ take c rest
        → cond b (n ∷ part) part ≡ take (cond b (1 + c) c) (cond b (n ∷ rest) rest)
    step true n c part rest e = ap (λ t. n ∷ t) e ∙ sym (ap (λ k. take k (n ∷ rest)) (one_more c))
      where
        one_more : (c : ℕ) → 1 + c ≡ suc c
        one_more c = omega arith
    step false n c part rest e = e

pub feeds_of_rest : (m : ℕ) (xs : List ℕ) → feeds_to_end (drop m xs) ≡ drop (feeds_before xs m) (feeds_to_end xs)
feeds_of_rest zero [] = refl
feeds_of_rest zero (x ∷ xs) = refl
feeds_of_rest (suc m) [] = refl
feeds_of_rest (suc m) (x ∷ xs) = feeds_of_rest m xs ∙ step (is_line_feed x) (length xs + 1) (feeds_before xs m) (feeds_to_end xs)
  where
    step : (b : Bool) (n c : ℕ) (rest : List ℕ) → drop c rest ≡ drop (cond b (1 + c) c) (cond b (n ∷ rest) rest)
    step true n c rest = sym (ap (λ k. drop k (n ∷ rest)) (one_more c))
      where
        one_more : (c : ℕ) → 1 + c ≡ suc c
        one_more c = omega arith
    step false n c rest = refl

-- a line feed is as far from the end as the text is long from it on
pub from_end : (n : ℕ) (xs : List ℕ) → feeds_to_end xs ≡ map (λ at. n + length xs - at) (feeds_from n xs)
from_end n [] = refl
from_end n (x ∷ xs) = step (is_line_feed x) n (length xs) (feeds_from (n + 1) xs) (feeds_to_end xs) (from_end (n + 1) xs)
  where
    step : (b : Bool) (n len : ℕ) (fs rest : List ℕ) → rest ≡ map (λ at. n + 1 + len - at) fs
        → cond b ((len + 1) ∷ rest) rest ≡ map (λ at. n + suc len - at) (cond b (n ∷ fs) fs)
    step true n len fs rest e =
        let head : len + 1 ≡ n + suc len - n = omega arith in
        let sum : n + 1 + len ≡ n + suc len = omega arith in
        ap (λ k. k ∷ rest) head ∙ ap (λ t. (n + suc len - n) ∷ t) (e ∙ ap (λ k. map (λ at. k - at) fs) sum)
    step false n len fs rest e =
        let sum : n + 1 + len ≡ n + suc len = omega arith in
        e ∙ ap (λ k. map (λ at. k - at) fs) sum

pub feeds_counted : (n : ℕ) (xs : List ℕ) → length (feeds_from n xs) ≡ feed_count xs
feeds_counted n [] = refl
feeds_counted n (x ∷ xs) = step (is_line_feed x) n (feed_count xs) (feeds_from (n + 1) xs) (feeds_counted (n + 1) xs)
  where
    step : (b : Bool) (n c : ℕ) (fs : List ℕ) → length fs ≡ c → length (cond b (n ∷ fs) fs) ≡ cond b (1 + c) c
    step true n c fs e = omega arith
    step false n c fs e = e

pub feeds_of_both : (n : ℕ) (xs ys : List ℕ) → feeds_from n (xs ++ ys) ≡ feeds_from n xs ++ feeds_from (n + length xs) ys
feeds_of_both n [] ys = ap (λ k. feeds_from k ys) (none n)
  where
    none : (n : ℕ) → n ≡ n + 0
    none n = omega arith
feeds_of_both n (x ∷ xs) ys =
    step (is_line_feed x) n (length xs) (feeds_from (n + 1) (xs ++ ys)) (feeds_from (n + 1) xs) ys (feeds_of_both (n + 1) xs ys)
  where
    step : (b : Bool) (n len : ℕ) (all fs ys : List ℕ) → all ≡ fs ++ feeds_from (n + 1 + len) ys
        → cond b (n ∷ all) all ≡ cond b (n ∷ fs) fs ++ feeds_from (n + suc len) ys
    step true n len all fs ys e =
        let sum : n + 1 + len ≡ n + suc len = omega arith in
        ap (λ t. n ∷ t) (e ∙ ap (λ k. fs ++ feeds_from k ys) sum)
    step false n len all fs ys e =
        let sum : n + 1 + len ≡ n + suc len = omega arith in
        e ∙ ap (λ k. fs ++ feeds_from k ys) sum

pub count_of_both : (xs ys : List ℕ) → feed_count (xs ++ ys) ≡ feed_count xs + feed_count ys
count_of_both [] ys = omega arith
count_of_both (x ∷ xs) ys = step (is_line_feed x) (feed_count (xs ++ ys)) (feed_count xs) (feed_count ys) (count_of_both xs ys)
  where
    step : (b : Bool) (all front back : ℕ) → all ≡ front + back → cond b (1 + all) all ≡ cond b (1 + front) front + back
    step true all front back e = omega arith
    step false all front back e = e

-- those in front of a place are among all
pub fewer_before : (n m : ℕ) (xs : List ℕ) → feeds_before xs m ≤ length (feeds_from n xs)
fewer_before n m xs =
    let part : length (feeds_from n (take m xs)) ≡ feeds_before xs m = feeds_counted n (take m xs) in
    let least : length (feeds_from n (take m xs)) ≡ min (feeds_before xs m) (length (feeds_from n xs)) =
    ap length (feeds_of_front n m xs) ∙ length-take (feeds_before xs m) (feeds_from n xs) in
    omega (arith, part, least)

-- the offsets rise: those of the feeds in front of a place are below it, the others aren't
low_step : (b : Bool) (n : ℕ) (fs : List ℕ) (d : ℕ) → ((k : ℕ) → k < length fs → n + 1 ≤ get_or fs k d)
    → (k : ℕ) → k < length (cond b (n ∷ fs) fs) → n ≤ get_or (cond b (n ∷ fs) fs) k d
low_step true n fs d h zero lt = omega arith
low_step true n fs d h (suc k) lt = let low = h k (omega arith) in omega arith
low_step false n fs d h k lt = let low = h k lt in omega arith

pub low : (n : ℕ) (xs : List ℕ) (d k : ℕ) → k < length (feeds_from n xs) → n ≤ get_or (feeds_from n xs) k d
low n [] d k lt = absurd (omega arith)
low n (x ∷ xs) d k lt = low_step (is_line_feed x) n (feeds_from (n + 1) xs) d (low (n + 1) xs d) k lt

below_step : (b : Bool) (n a c : ℕ) (fs : List ℕ) (d : ℕ) → ((k : ℕ) → k < c → get_or fs k d < n + 1 + a)
    → (k : ℕ) → k < cond b (1 + c) c → get_or (cond b (n ∷ fs) fs) k d < n + suc a
below_step true n a c fs d h zero lt = omega arith
below_step true n a c fs d h (suc k) lt = let less = h k (omega arith) in omega arith
below_step false n a c fs d h k lt = let less = h k lt in omega arith

pub feed_below : (n a : ℕ) (xs : List ℕ) (d k : ℕ) → k < feeds_before xs a → get_or (feeds_from n xs) k d < n + a
feed_below n zero [] d k lt = absurd (omega arith)
feed_below n zero (x ∷ xs) d k lt = absurd (omega arith)
feed_below n (suc a) [] d k lt = absurd (omega arith)
feed_below n (suc a) (x ∷ xs) d k lt =
    below_step (is_line_feed x) n a (feeds_before xs a) (feeds_from (n + 1) xs) d (feed_below (n + 1) a xs d) k lt

above_step : (b : Bool) (n a c : ℕ) (fs : List ℕ) (d : ℕ) → ((k : ℕ) → c ≤ k → k < length fs → n + 1 + a ≤ get_or fs k d)
    → (k : ℕ) → cond b (1 + c) c ≤ k → k < length (cond b (n ∷ fs) fs) → n + suc a ≤ get_or (cond b (n ∷ fs) fs) k d
above_step true n a c fs d h zero le lt = absurd (omega arith)
above_step true n a c fs d h (suc k) le lt = let more = h k (omega arith) (omega arith) in omega arith
above_step false n a c fs d h k le lt = let more = h k le lt in omega arith

pub feed_above : (n a : ℕ) (xs : List ℕ) (d k : ℕ) → feeds_before xs a ≤ k → k < length (feeds_from n xs)
    → n + a ≤ get_or (feeds_from n xs) k d
feed_above n zero [] d k le lt = absurd (omega arith)
feed_above n zero (x ∷ xs) d k le lt = let least = low n (x ∷ xs) d k lt in omega arith
feed_above n (suc a) [] d k le lt = absurd (omega arith)
feed_above n (suc a) (x ∷ xs) d k le lt =
    above_step (is_line_feed x) n a (feeds_before xs a) (feeds_from (n + 1) xs) d (feed_above (n + 1) a xs d) k le lt
