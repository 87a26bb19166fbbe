-- A gap in a list, as it is moved and filled.
use Rattle.std.proofs.Common.{◌≡◌, ◌∙◌, ℕ, ◌+◌, ◌-◌, ◌<◌, ◌≤◌, List, [], ◌++◌, length, take, drop, sym, ap, ap₂, arith, append_assoc, drop_at}
use Rattle.std.proofs.Common.{length-append, length-take-le, drop-drop, take_all}
use Rattle.std.specs.Prelude.{slice_range}
use Rattle.std.proofs.lemmas.List.{drop-append-le, take-append-le, take-append-drop, drop-take, length-drop}
use Rattle.std.proofs.Math.Seq.{paste, take-append_seam, drop-append-add, take-append-add, take-paste}
use Rattle.std.proofs.lemmas.Slice.{drop-put_mid}
use borrow.Rule.Slice.PartMut.{put_mid, same_len_mid, mid_len}

module _ {A : Type 0} where
  -- the items in front of the gap from `at` on, copied to the gap's end
  pub back_of_lower : (xs : List A) (at start end : ℕ) → at < start → start ≤ end → end ≤ length xs
      → drop (end - (start - at)) (paste xs (end - (start - at)) (drop at xs) (start - at)) ≡ drop at (take start xs ++ drop end xs)
  back_of_lower xs at start end low some fits =
      let n = start - at in
      let stop : end - n + n ≡ end = omega arith in
      let front : take (end - n) xs ++ (take n (drop at xs) ++ drop (end - n + n) xs) ≡ paste xs (end - n) (drop at xs) n =
      sym (append_assoc (take (end - n) xs) (take n (drop at xs)) (drop (end - n + n) xs)) in
      let len : length (take (end - n) xs) ≡ end - n = length-take-le (end - n) xs (omega arith) in
      let there : drop (end - n) (paste xs (end - n) (drop at xs) n) ≡ take n (drop at xs) ++ drop (end - n + n) xs =
      sym (ap (drop (end - n)) front) ∙ drop_at (take (end - n) xs) (take n (drop at xs) ++ drop (end - n + n) xs) (end - n) len in
      let whole : at + n ≡ start = omega arith in
      let part : drop at (take start xs) ≡ take n (drop at xs) = sym (ap (λ k. drop at (take k xs)) whole) ∙ drop-take at n xs in
      let width : length (take start xs) ≡ start = length-take-le start xs (omega arith) in
      there ∙ ap (λ k. take n (drop at xs) ++ drop k xs) stop ∙ ap (λ t. t ++ drop end xs) (sym part)
      ∙ sym (drop-append-le at (take start xs) (drop end xs) (omega (arith, width)))

  -- an index behind the gap is as far behind its end
  pub in_reach : (xs : List A) (at start end : ℕ) → start ≤ at → start ≤ end → end ≤ length xs
      → at ≤ length (take start xs) + length (drop end xs) → end + (at - start) ≤ length xs
  in_reach xs at start end low some fits asked =
      let front : length (take start xs) ≡ start = length-take-le start xs (omega arith) in
      let back : length (drop end xs) ≡ length xs - end = length-drop end xs in
      omega (arith, asked, front, back)

  -- the items behind the gap up to `at`, copied to the gap's start
  pub front_of_higher : (xs : List A) (at start end : ℕ) → start ≤ at → start ≤ end → end ≤ length xs → end + (at - start) ≤ length xs
      → take at (paste xs start (drop end xs) (end + (at - start) - end)) ≡ take at (take start xs ++ drop end xs)
  front_of_higher xs at start end low some fits reach =
      let n = at - start in
      let whole : start + n ≡ at = omega arith in
      let width : end + n - end ≡ n = omega arith in
      let len : length (take start xs) ≡ start = length-take-le start xs (omega arith) in
      let rest : length (drop end xs) ≡ length xs - end = length-drop end xs in
      let there : take (start + n) (paste xs start (drop end xs) n) ≡ take start xs ++ take n (drop end xs) =
      take-paste xs start (drop end xs) n (omega arith) (omega (arith, rest)) in
      let here : take (length (take start xs) + n) (take start xs ++ drop end xs) ≡ take start xs ++ take n (drop end xs) =
      take-append-add (take start xs) (drop end xs) n in
      ap (λ k. take at (paste xs start (drop end xs) k)) width ∙ sym (ap (λ k. take k (paste xs start (drop end xs) n)) whole) ∙ there
      ∙ sym here ∙ ap (λ k. take (k + n) (take start xs ++ drop end xs)) len ∙ ap (λ k. take k (take start xs ++ drop end xs)) whole

  pub back_of_higher : (xs : List A) (at start end : ℕ) → start ≤ at → start ≤ end → end ≤ length xs → end + (at - start) ≤ length xs
      → drop (end + (at - start)) (paste xs start (drop end xs) (end + (at - start) - end)) ≡ drop at (take start xs ++ drop end xs)
  back_of_higher xs at start end low some fits reach =
      let n = at - start in
      let whole : start + n ≡ at = omega arith in
      let width : end + n - end ≡ n = omega arith in
      let len : length (take start xs) ≡ start = length-take-le start xs (omega arith) in
      let rest : length (drop end xs) ≡ length xs - end = length-drop end xs in
      let past : length (take start xs ++ take n (drop end xs)) ≡ start + n =
      length-append (take start xs) (take n (drop end xs)) ∙ ap₂ (λ a b. a + b) len (length-take-le n (drop end xs) (omega (arith, rest))) in
      let gap : start + n + (end + n - (start + n)) ≡ end + n = omega arith in
      let there : drop (end + n) (paste xs start (drop end xs) n) ≡ drop (end + n) xs =
      sym (ap (λ k. drop k (paste xs start (drop end xs) n)) gap)
      ∙ sym (ap (λ k. drop (k + (end + n - (start + n))) (paste xs start (drop end xs) n)) past)
      ∙ drop-append-add (take start xs ++ take n (drop end xs)) (drop (start + n) xs) (end + n - (start + n))
      ∙ drop-drop (end + n - (start + n)) (start + n) xs
      ∙ ap (λ k. drop k xs) gap in
      let here : drop (length (take start xs) + n) (take start xs ++ drop end xs) ≡ drop n (drop end xs) =
      drop-append-add (take start xs) (drop end xs) n in
      ap (λ k. drop (end + n) (paste xs start (drop end xs) k)) width ∙ there
      ∙ sym (drop-drop n end xs) ∙ sym here
      ∙ ap (λ k. drop (k + n) (take start xs ++ drop end xs)) len ∙ ap (λ k. drop k (take start xs ++ drop end xs)) whole

  -- items written into the gap leave what is behind it
  pub behind_write : (xs ys : List A) (start stop end len : ℕ) → len ≡ length xs → start ≤ stop → stop ≤ end → end ≤ length xs
      → length ys ≡ stop - start
      → drop end (take len (put_mid start (stop - start) xs ys ++ drop (length (put_mid start (stop - start) xs ys)) xs)) ≡ drop end xs
  behind_write xs ys start stop end len is some fits within n =
      let k = stop - start in
      let all : length (put_mid start k xs ys) ≡ length xs =
      same_len_mid start k xs ys (n ∙ sym (mid_len start stop xs (omega arith))) in
      ap (λ m. drop end (take m (put_mid start k xs ys ++ drop (length (put_mid start k xs ys)) xs))) (is ∙ sym all)
      ∙ ap (drop end) (take-append_seam (put_mid start k xs ys) (drop (length (put_mid start k xs ys)) xs))
      ∙ drop-put_mid start k xs ys end (omega arith) (omega arith) n

  -- a range of one part, or of both
  pub range_of_front : (front back : List A) (from to : ℕ) → from ≤ to → to ≤ length front
      → slice_range (front ++ back) from to ≡ slice_range front from to
  range_of_front front back from to order short =
      let len : length (drop from front) ≡ length front - from = length-drop from front in
      ap (take (to - from)) (drop-append-le from front back (omega arith))
      ∙ take-append-le (to - from) (drop from front) back (omega (arith, len))

  pub range_of_back : (front back : List A) (from to : ℕ) → from ≤ to → length front ≤ from
      → slice_range (front ++ back) from to ≡ slice_range back (from - length front) (to - length front)
  range_of_back front back from to order past =
      let sum : length front + (from - length front) ≡ from = omega arith in
      let width : to - from ≡ to - length front - (from - length front) = omega arith in
      ap₂ (λ n t. take n t) width (ap (λ k. drop k (front ++ back)) (sym sum) ∙ drop-append-add front back (from - length front))

  pub range_of_both : (front back : List A) (from to : ℕ) → from ≤ length front → length front ≤ to
      → slice_range (front ++ back) from to ≡ drop from front ++ take (to - length front) back
  range_of_both front back from to low high =
      let len : length (drop from front) ≡ length front - from = length-drop from front in
      let sum : length (drop from front) + (to - length front) ≡ to - from = omega arith in
      ap (take (to - from)) (drop-append-le from front back low) ∙ ap (λ k. take k (drop from front ++ back)) (sym sum)
      ∙ take-append-add (drop from front) back (to - length front)

  -- what is put behind nothing
  pub put_first : (none xs part : List A) → none ≡ [] → xs ≡ none ++ part → xs ≡ part
  put_first none xs part is whole = whole ∙ ap (λ t. t ++ part) is

  pub put_both : (none first xs near far : List A) → none ≡ [] → first ≡ none ++ near → xs ≡ first ++ far → xs ≡ near ++ far
  put_both none first xs near far is one whole = whole ∙ ap (λ t. t ++ far) (put_first none first near is one)

  -- what is copied from the back part, and from both
  pub copied_back : (front back part xs : List A) (from to start : ℕ) → from ≤ to → length front ≡ start → start ≤ from → part ≡ back
      → xs ≡ slice_range part (from - start) (to - start) → xs ≡ slice_range (front ++ back) from to
  copied_back front back part xs from to start order len past is whole =
      whole ∙ ap₂ (λ t k. slice_range t (from - k) (to - k)) is (sym len) ∙ sym (range_of_back front back from to order (omega arith))

  pub copied_both : (front back f b xs : List A) (from to start : ℕ) → from ≤ to → length front ≡ start → from ≤ start → start ≤ to
      → f ≡ front → b ≡ back → xs ≡ take (length f - from) (drop from f) ++ take (to - start) b → xs ≡ slice_range (front ++ back) from to
  copied_both front back f b xs from to start order len low high is_front is_back whole =
      let all : take (length front - from) (drop from front) ≡ drop from front =
      take_all (length front - from) (drop from front) (let n = length-drop from front in omega (arith, n)) in
      whole ∙ ap₂ (λ s t. take (length s - from) (drop from s) ++ take (to - start) t) is_front is_back
      ∙ ap (λ t. t ++ take (to - start) back) all ∙ ap (λ k. drop from front ++ take (to - k) back) (sym len)
      ∙ sym (range_of_both front back from to (omega arith) (omega arith))

  -- the first items of a list whose front lies in two parts
  pub front_of_parts : (a b n : ℕ) (xs first rest second : List A) → first ≡ take a xs → rest ≡ drop a xs → second ≡ take b rest
      → a ≤ length xs → b ≤ length rest → n ≤ a + b → take n (first ++ second) ≡ take n xs
  front_of_parts a b n xs first rest second f r s some more few =
      let whole : (first ++ second) ++ drop b rest ≡ xs =
      append_assoc first second (drop b rest) ∙ ap (λ t. first ++ (t ++ drop b rest)) s ∙ ap (λ t. first ++ t) (take-append-drop b rest)
      ∙ ap₂ (λ t u. t ++ u) f r ∙ take-append-drop a xs in
      let long : length (first ++ second) ≡ a + b =
      length-append first second ∙ ap₂ (λ i j. i + j) (ap length f ∙ length-take-le a xs some) (ap length s ∙ length-take-le b rest more) in
      sym (take-append-le n (first ++ second) (drop b rest) (omega (arith, long, few))) ∙ ap (take n) whole
