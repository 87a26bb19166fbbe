-- The first place of a byte, and what is listed and counted behind it.
use Rattle.std.proofs.Common.{◌≡◌, ◌∙◌, ℕ, zero, suc, ◌+◌, ◌-◌, ◌<◌, ◌≤◌, Bool, true, false, cond, List, [], ◌∷◌, ◌++◌, length}
use Rattle.std.proofs.Common.{take, drop, get_or, refl, sym, ap, ap₂, subst, arith, append-nil, take_all, inl, inr}
use Rattle.std.specs.Prelude.{◌==◌}
use Rattle.std.proofs.lemmas.List.{length-drop, append_assoc, drop-append-le, drop-drop, take-append-drop, length-take-le}
use Rattle.std.proofs.Math.Seq.{drop-append-add}
use Rattle.memchr.specs.Find.{Passes, Nowhere, NoneBefore, is_byte}
use Rattle.nx_base.specs.Tokens.{bytes_up_to}
use Rattle.nx_text.specs.Feeds.{feeds_from}
use Rattle.nx_text.specs.Places.{is_line_feed}
use Rattle.nx_text.specs.Reading.{StandFrom}
use Rattle.std.specs.List.{count_by, prefix_len}
use Rattle.std.proofs.Common.{◌%◌, ◌^◌, eqb, not, map, replicate, w8}
use Rattle.std.proofs.lemmas.Simd.{bitmask_splat, first_set_mask_l}
use Rattle.std.proofs.lemmas.Bool.{cases_Bool, eq-eqb, ne_eqb, cond-true, cond-false}
use lib.Lanes.{zip2, mask_l, top}
use lib.Count.{count_trailing_zeros}
use Rattle.nx_text.proofs.Feeds.{feed_count, counted, count_of_both}

-- the byte stands at a place, and at none before it
abbrev pub IsFirstAt : ℕ → List ℕ → ℕ → Type 0
IsFirstAt byte xs n = NoneBefore (Passes (is_byte byte) xs) 0 (length xs) n × Passes (is_byte byte) xs n

apart : (b : Bool) → ¬ (b ≡ true) → b ≡ false
apart true none = absurd (none refl)
apart false none = refl

-- the first of a list with one more in front
not_first : (byte x : ℕ) (xs : List ℕ) (n : ℕ) → IsFirstAt byte (x ∷ xs) (suc n) → (x == byte) ≡ false
not_first byte x xs n is = apart (x == byte) (is.0.before 0 (omega arith) (omega arith))

behind : (byte x : ℕ) (xs : List ℕ) (n : ℕ) → IsFirstAt byte (x ∷ xs) (suc n) → IsFirstAt byte xs n
behind byte x xs n is = (
  record {
    low = omega arith;
    high = (let high = is.0.high in omega arith);
    before = λ k low high. is.0.before (suc k) (omega arith) (omega arith);
  },
  is.1,
)

none_behind : (byte x : ℕ) (xs : List ℕ) → Nowhere (Passes (is_byte byte) (x ∷ xs)) 0 (length (x ∷ xs))
    → Nowhere (Passes (is_byte byte) xs) 0 (length xs)
none_behind byte x xs none k low high = none (suc k) (omega arith) (omega arith)

pub up_to_found : (byte : ℕ) (xs : List ℕ) (n : ℕ) → IsFirstAt byte xs n → n ≡ bytes_up_to byte xs
unfolding bytes_up_to
up_to_found byte [] n is = absurd (let high = is.0.high in omega arith)
up_to_found byte (x ∷ xs) zero is = rw is.1 refl
up_to_found byte (x ∷ xs) (suc n) is =
    rw (not_first byte x xs n is) (let e = up_to_found byte xs n (behind byte x xs n is) in omega arith)

pub up_to_none : (byte : ℕ) (xs : List ℕ) → Nowhere (Passes (is_byte byte) xs) 0 (length xs) → length xs ≡ bytes_up_to byte xs
unfolding bytes_up_to
up_to_none byte [] none = refl
up_to_none byte (x ∷ xs) none =
    rw (apart (x == byte) (none 0 (omega arith) (omega arith))) (let e = up_to_none byte xs (none_behind byte x xs none) in omega arith)

-- how far it is to a byte in two pieces
front_step : (b : Bool) (len near all : ℕ) → (near < len → near ≡ all) → cond b 0 (near + 1) < suc len
    → cond b 0 (near + 1) ≡ cond b 0 (all + 1)
front_step true len near all e less = refl
front_step false len near all e less = ap (λ k. k + 1) (e (omega arith))

back_step : (b : Bool) (len near far all : ℕ) → (len ≤ near → len + far ≡ all) → suc len ≤ cond b 0 (near + 1)
    → suc len + far ≡ cond b 0 (all + 1)
back_step true len near far all e more = absurd (omega arith)
back_step false len near far all e more = let sum = e (omega arith) in omega (arith, sum)

pub up_to_in_front : (byte : ℕ) (xs ys : List ℕ) → bytes_up_to byte xs < length xs → bytes_up_to byte xs ≡ bytes_up_to byte (xs ++ ys)
unfolding bytes_up_to
up_to_in_front byte [] ys less = absurd (omega arith)
up_to_in_front byte (x ∷ xs) ys less =
    front_step (x == byte) (length xs) (bytes_up_to byte xs) (bytes_up_to byte (xs ++ ys)) (up_to_in_front byte xs ys) less

pub up_to_in_back : (byte : ℕ) (xs ys : List ℕ) → length xs ≤ bytes_up_to byte xs
    → length xs + bytes_up_to byte ys ≡ bytes_up_to byte (xs ++ ys)
unfolding bytes_up_to
up_to_in_back byte [] ys more = omega arith
up_to_in_back byte (x ∷ xs) ys more =
    back_step (x == byte) (length xs) (bytes_up_to byte xs) (bytes_up_to byte ys) (bytes_up_to byte (xs ++ ys)) (up_to_in_back byte xs ys) more

-- the line feeds through the first one, and those behind it
pub feeds_found : (at : ℕ) (xs : List ℕ) (n : ℕ) → IsFirstAt 10 xs n → feeds_from at xs ≡ (at + n) ∷ feeds_from (at + n + 1) (drop (suc n) xs)
feeds_found at [] n is = absurd (let high = is.0.high in omega arith)
feeds_found at (x ∷ xs) zero is =
    ap (λ b. cond b (at ∷ feeds_from (at + 1) xs) (feeds_from (at + 1) xs)) is.1
    ∙ ap (λ k. k ∷ feeds_from (k + 1) xs) (none at)
  where
    none : (at : ℕ) → at ≡ at + 0
    none at = omega arith
feeds_found at (x ∷ xs) (suc n) is =
    ap (λ b. cond b (at ∷ feeds_from (at + 1) xs) (feeds_from (at + 1) xs)) (not_first 10 x xs n is)
    ∙ feeds_found (at + 1) xs n (behind 10 x xs n is)
    ∙ ap (λ k. k ∷ feeds_from (k + 1) (drop (suc n) xs)) (sum at n)
  where
    sum : (at n : ℕ) → at + 1 + n ≡ at + suc n
    sum at n = omega arith

pub count_found : (xs : List ℕ) (n : ℕ) → IsFirstAt 10 xs n → feed_count xs ≡ 1 + feed_count (drop (suc n) xs)
count_found [] n is = absurd (let high = is.0.high in omega arith)
count_found (x ∷ xs) zero is = ap (λ b. cond b (1 + feed_count xs) (feed_count xs)) is.1
count_found (x ∷ xs) (suc n) is =
    ap (λ b. cond b (1 + feed_count xs) (feed_count xs)) (not_first 10 x xs n is) ∙ count_found xs n (behind 10 x xs n is)

pub feeds_none : (at : ℕ) (xs : List ℕ) → Nowhere (Passes (is_byte 10) xs) 0 (length xs) → feeds_from at xs ≡ []
feeds_none at [] none = refl
feeds_none at (x ∷ xs) none =
    ap (λ b. cond b (at ∷ feeds_from (at + 1) xs) (feeds_from (at + 1) xs)) (apart (x == 10) (none 0 (omega arith) (omega arith)))
    ∙ feeds_none (at + 1) xs (none_behind 10 x xs none)

-- what a slice to the end is
rest_of : (xs : List ℕ) (from : ℕ) → take (length xs - from) (drop from xs) ≡ drop from xs
rest_of xs from = take_all (length xs - from) (drop from xs) (let len = length-drop from xs in omega (arith, len))

-- one line feed more was put in
pub one_fed : (at size n : ℕ) (front next left rest all : List ℕ) → length left ≤ size → IsFirstAt 10 left n
    → next ≡ front ++ (at + (size - length left) + n) ∷ [] → rest ≡ take (length left - (n + 1)) (drop (n + 1) left)
    → front ++ feeds_from (at + (size - length left)) left ≡ all
    → next ++ feeds_from (at + (size - length rest)) rest ≡ all
one_fed at size n front next left rest all short is pushed part so_far =
    let cut : rest ≡ drop (n + 1) left = part ∙ rest_of left (n + 1) in
    let start = at + (size - length left) in
    let one : n + 1 ≡ suc n = omega arith in
    let high = is.0.high in
    let len : length rest ≡ length left - (n + 1) = ap length cut ∙ length-drop (n + 1) left in
    let there : at + (size - length rest) ≡ start + n + 1 = omega (arith, len, high) in
    ap₂ (λ s k. s ++ feeds_from k rest) pushed there
    ∙ append_assoc front ((start + n) ∷ []) (feeds_from (start + n + 1) rest)
    ∙ ap (λ t. front ++ (start + n) ∷ feeds_from (start + n + 1) t) (cut ∙ ap (λ k. drop k left) one)
    ∙ ap (λ t. front ++ t) (sym (feeds_found start left n is)) ∙ so_far

-- from an offset on
pub found_near : (byte : ℕ) (front back : List ℕ) (from found : ℕ) → from < length front
    → found ≡ bytes_up_to byte (take (length front - from) (drop from front))
    → from + found < length front → from + found ≡ from + bytes_up_to byte (drop from (front ++ back))
found_near byte front back from found low is less =
    let len = length-drop from front in
    let there : found ≡ bytes_up_to byte (drop from front) = is ∙ ap (bytes_up_to byte) (rest_of front from) in
    let e = up_to_in_front byte (drop from front) back (omega (arith, there, len)) in
    ap (λ k. from + k) (there ∙ e ∙ ap (bytes_up_to byte) (sym (drop-append-le from front back (omega arith))))

pub found_far : (byte : ℕ) (front back : List ℕ) (from found far : ℕ) → from < length front
    → found ≡ bytes_up_to byte (take (length front - from) (drop from front))
    → length front ≤ from + found → far ≡ bytes_up_to byte back → length front + far ≡ from + bytes_up_to byte (drop from (front ++ back))
found_far byte front back from found far low is more there =
    let len = length-drop from front in
    let near : found ≡ bytes_up_to byte (drop from front) = is ∙ ap (bytes_up_to byte) (rest_of front from) in
    let e = up_to_in_back byte (drop from front) back (omega (arith, near, len)) in
    let whole : bytes_up_to byte (drop from (front ++ back)) ≡ bytes_up_to byte (drop from front ++ back) =
    ap (bytes_up_to byte) (drop-append-le from front back (omega arith)) in
    omega (arith, e, whole, len)

behind_front : (front back : List ℕ) (from : ℕ) → length front ≤ from → drop from (front ++ back) ≡ drop (from - length front) back
behind_front front back from past =
    let sum : length front + (from - length front) ≡ from = omega arith in
    ap (λ k. drop k (front ++ back)) (sym sum) ∙ drop-append-add front back (from - length front)

pub found_behind : (byte : ℕ) (front back : List ℕ) (from found : ℕ) → length front ≤ from
    → found ≡ bytes_up_to byte (take (length back - (from - length front)) (drop (from - length front) back))
    → from + found ≡ from + bytes_up_to byte (drop from (front ++ back))
found_behind byte front back from found past is =
    ap (λ k. from + k) (is ∙ ap (bytes_up_to byte) (rest_of back (from - length front) ∙ sym (behind_front front back from past)))

pub stands_in_front : (front back : List ℕ) (from : ℕ) → from < length front
    → StandFrom (front ++ back) from (take (length front - from) (drop from front))
stands_in_front front back from low = record {
  rest = back;
  whole = drop-append-le from front back (omega arith) ∙ ap (λ t. t ++ back) (sym (rest_of front from));
}

pub stands_in_back : (front back : List ℕ) (from : ℕ) → length front ≤ from
    → StandFrom (front ++ back) from (take (length back - (from - length front)) (drop (from - length front) back))
stands_in_back front back from past = record {
  rest = [];
  whole = behind_front front back from past ∙ sym (rest_of back (from - length front))
      ∙ sym (append-nil (take (length back - (from - length front)) (drop (from - length front) back)));
}

pub fewer_left : (n : ℕ) (left rest : List ℕ) → IsFirstAt 10 left n → rest ≡ take (length left - (n + 1)) (drop (n + 1) left)
    → feed_count left ≡ 1 + feed_count rest
fewer_left n left rest is part =
    let one : suc n ≡ n + 1 = omega arith in
    count_found left n is ∙ ap (λ k. 1 + feed_count (drop k left)) one ∙ ap (λ t. 1 + feed_count t) (sym (part ∙ rest_of left (n + 1)))

-- so many bytes more are counted
fewer : (b : Bool) (count len : ℕ) → count ≤ len → cond b (1 + count) count ≤ suc len
fewer true count len h = omega arith
fewer false count len h = omega arith

few_feeds : (xs : List ℕ) → feed_count xs ≤ length xs
few_feeds [] = omega arith
few_feeds (x ∷ xs) = fewer (is_line_feed x) (feed_count xs) (length xs) (few_feeds xs)

pub counted_on : (n count few : ℕ) (left rest text : List ℕ) → n ≤ length left → few ≡ count_by is_line_feed (take n left)
    → rest ≡ take (length left - n) (drop n left) → count + feed_count left ≡ feed_count text → count + few + feed_count rest ≡ feed_count text
counted_on n count few left rest text short is part so_far =
    let here = counted (take n left) in
    let both : feed_count (take n left ++ drop n left) ≡ feed_count (take n left) + feed_count (drop n left) = count_of_both (take n left) (drop n left) in
    let whole : feed_count (take n left ++ drop n left) ≡ feed_count left = ap feed_count (take-append-drop n left) in
    let there : feed_count rest ≡ feed_count (drop n left) = ap feed_count (part ∙ rest_of left n) in
    omega (arith, here, is, both, whole, there, so_far)

pub fits_on : (n count few : ℕ) (left rest text : List ℕ) → n ≤ length left → few ≡ count_by is_line_feed (take n left)
    → rest ≡ take (length left - n) (drop n left) → count + length left ≤ length text → count + few + length rest ≤ length text
fits_on n count few left rest text short is part so_far =
    let here = counted (take n left) in let most = few_feeds (take n left) in
    let len = length-take-le n left short in
    let there : length rest ≡ length left - n = ap length (part ∙ rest_of left n) ∙ length-drop n left in
    omega (arith, here, is, most, len, there, so_far)

-- the byte stands among the first of a list
pub found_among : (byte n : ℕ) (xs : List ℕ) → n ≤ length xs → bytes_up_to byte (take n xs) < n → bytes_up_to byte (take n xs) ≡ bytes_up_to byte xs
unfolding bytes_up_to
found_among byte zero xs room less = absurd (omega arith)
found_among byte (suc n) [] room less = absurd (omega arith)
found_among byte (suc n) (x ∷ xs) room less =
    front_step (x == byte) n (bytes_up_to byte (take n xs)) (bytes_up_to byte xs) (λ l. found_among byte n xs (omega arith) l) less

-- the byte is looked for in the first lanes behind those that were passed
module _ (byte passed near : ℕ) (bytes : List ℕ) (room : passed + 16 ≤ length bytes)
    (is : near ≡ bytes_up_to byte (take 16 (take (length bytes - passed) (drop passed bytes))))
    (so_far : passed + bytes_up_to byte (drop passed bytes) ≡ bytes_up_to byte bytes) where
  here : near ≡ bytes_up_to byte (take 16 (drop passed bytes))
  here = is ∙ ap (λ t. bytes_up_to byte (take 16 t)) (rest_of bytes passed)

  pub near_found : near < 16 → passed + near ≡ bytes_up_to byte bytes
  near_found less =
      let len = length-drop passed bytes in
      let e = found_among byte 16 (drop passed bytes) (omega (arith, len)) (omega (arith, here, less)) in
      ap (λ k. passed + k) (here ∙ e) ∙ so_far

  pub near_passed : 16 ≤ near → passed + 16 + bytes_up_to byte (drop (passed + 16) bytes) ≡ bytes_up_to byte bytes
  near_passed more =
      let rest = drop passed bytes in
      let len = length-drop passed bytes in
      let long : length (take 16 rest) ≡ 16 = length-take-le 16 rest (omega (arith, len)) in
      let e = up_to_in_back byte (take 16 rest) (drop 16 rest) (omega (arith, long, here, more)) in
      let whole : bytes_up_to byte (take 16 rest ++ drop 16 rest) ≡ bytes_up_to byte rest = ap (bytes_up_to byte) (take-append-drop 16 rest) in
      let there : bytes_up_to byte (drop 16 rest) ≡ bytes_up_to byte (drop (passed + 16) bytes) = ap (bytes_up_to byte) (drop-drop 16 passed bytes) in
      omega (arith, long, e, whole, there, so_far)

-- what stands at the first such byte, and in front of it
early_first : (b : Bool) (near : ℕ) → 0 < cond b 0 (near + 1) → b ≡ true → ⊥
early_first true near less e = absurd (omega arith)
early_first false near less e = cc

early_step : (b : Bool) (k near : ℕ) → suc k < cond b 0 (near + 1) → k < near
early_step true k near less = absurd (omega arith)
early_step false k near less = omega arith

none_early : (byte : ℕ) (xs : List ℕ) (k : ℕ) → k < bytes_up_to byte xs → ¬ Passes (is_byte byte) xs k
unfolding bytes_up_to
none_early byte [] k less = absurd (omega arith)
none_early byte (x ∷ xs) zero less = λ e. early_first (x == byte) (bytes_up_to byte xs) less e
none_early byte (x ∷ xs) (suc k) less = none_early byte xs k (early_step (x == byte) k (bytes_up_to byte xs) less)

stands_there : (byte : ℕ) (xs : List ℕ) → bytes_up_to byte xs < length xs → Passes (is_byte byte) xs (bytes_up_to byte xs)
unfolding bytes_up_to
stands_there byte [] = λ less. absurd (omega arith)
stands_there byte (x ∷ xs) = elim (cases_Bool (x == byte)) [
  | inl e ↦ rw e (λ less. e)
  | inr e ↦ rw e (λ less. ap (λ n. get_or (x ∷ xs) n 0 == byte) (next (bytes_up_to byte xs)) ∙ stands_there byte xs (omega arith))
]
  where
    next : (n : ℕ) → n + 1 ≡ suc n
    next n = omega arith

pub first_there : (byte n : ℕ) (xs : List ℕ) → n ≡ bytes_up_to byte xs → n < length xs → IsFirstAt byte xs n
first_there byte n xs is less = subst (IsFirstAt byte xs) (sym is) (
  record { low = omega arith; high = omega (arith, is, less); before = λ k low high. none_early byte xs k high },
  stands_there byte xs (omega (arith, is, less)),
)

pub none_there : (byte n : ℕ) (xs : List ℕ) → n ≡ bytes_up_to byte xs → length xs ≤ n → Nowhere (Passes (is_byte byte) xs) 0 (length xs)
none_there byte n xs is past k low high = none_early byte xs k (omega (arith, is, past, high))

-- what the mask of one load says
one_more : (b : Bool) (n m : ℕ) → n ≡ m → cond (not b) (1 + n) 0 ≡ cond b 0 (m + 1)
one_more true n m e = refl
one_more false n m e = omega (arith, e)

others_len : (byte : ℕ) (xs : List ℕ) → prefix_len (λ x. not (eqb x byte)) xs ≡ bytes_up_to byte xs
unfolding bytes_up_to
others_len byte [] = refl
others_len byte (x ∷ xs) =
    one_more (x == byte) (prefix_len (λ y. not (eqb y byte)) xs) (bytes_up_to byte xs) (others_len byte xs)

module _ (byte : ℕ) (xs : List ℕ) (room : 16 ≤ length xs) where
  abbrev pub mask : ℕ
  mask = mask_l (map (top 7) (zip2 (λ a b. cond (eqb a b) 255 0) (take 16 xs) (replicate 16 byte))) % 2 ^ 64

  long : length (take 16 xs) ≡ 16
  long = length-take-le 16 xs room

  lanes_told : cond (eqb mask 0) 16 (count_trailing_zeros 64 mask) ≡ bytes_up_to byte (take 16 xs)
  lanes_told =
      ap (λ m. cond (eqb m 0) 16 (count_trailing_zeros 64 m)) (bitmask_splat w8 eqb (take 16 xs) 16 byte long (omega arith))
      ∙ first_set_mask_l (λ x. eqb x byte) (take 16 xs) 16 long (omega arith) ∙ others_len byte (take 16 xs)

  pub lanes_none : mask ≡ 0 → 16 ≡ bytes_up_to byte (take 16 xs)
  lanes_none none = sym (cond-true _ _ _ (eq-eqb mask 0 none)) ∙ lanes_told

  pub lanes_some : ¬ (mask ≡ 0) → count_trailing_zeros 64 mask ≡ bytes_up_to byte (take 16 xs)
  lanes_some some = sym (cond-false _ _ _ (ne_eqb mask 0 some)) ∙ lanes_told
