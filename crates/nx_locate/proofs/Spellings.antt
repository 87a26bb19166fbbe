-- What stands in a text from a place on.
use Rattle.std.proofs.Common.{◌≡◌, refl, sym, ap, ◌∙◌, ℕ, zero, suc, ◌+◌, ◌-◌, ◌<◌, ◌≤◌, Bool, true, false, eqb, leb, not, List, [], ◌∷◌, ◌++◌, length, take, drop, get_or, Some, None, slice_get, arith, append_assoc, append-nil}
use Rattle.std.specs.List.{before_first, position_or_len, suffix_len}
use Rattle.std.proofs.lemmas.List.{drop-drop}
use Rattle.std.proofs.lemmas.List.Sums.{suffix_len_is}
use Rattle.nx_events.specs.Tags.{written_name, start_name, ends_name}
use Rattle.nx_locate.specs.Patterns.{folder_len}

drop_at : (xs : List ℕ) (n b : ℕ) → Some b ≡ slice_get xs n → drop n xs ≡ b ∷ drop (suc n) xs
drop_at [] n b h = let never : ⊥ = cc in absurd never
drop_at (x ∷ xs) zero b h = let same : x ≡ b = cc in ap (λ y. y ∷ xs) same
drop_at (x ∷ xs) (suc n) b h = drop_at xs n b h

drop_past : (xs : List ℕ) (n : ℕ) → None ≡ slice_get xs n → drop n xs ≡ []
drop_past [] zero h = refl
drop_past [] (suc n) h = refl
drop_past (x ∷ xs) zero h = let never : ⊥ = cc in absurd never
drop_past (x ∷ xs) (suc n) h = drop_past xs n h

pub inside_at : (xs : List ℕ) (n b : ℕ) → Some b ≡ slice_get xs n → n < length xs
inside_at [] n b h = let never : ⊥ = cc in absurd never
inside_at (x ∷ xs) zero b h = omega arith
inside_at (x ∷ xs) (suc n) b h = omega (arith, inside_at xs n b h)

before_stop : (p : ℕ → Bool) (b : ℕ) (bs : List ℕ) → p b ≡ true → before_first p (b ∷ bs) ≡ []
before_stop p b bs h = rw h refl

before_on : (p : ℕ → Bool) (b : ℕ) (bs : List ℕ) → p b ≡ false → before_first p (b ∷ bs) ≡ b ∷ before_first p bs
before_on p b bs h =
    let n : ℕ = position_or_len p bs in
    let more : 1 + n ≡ suc n = omega arith in
    rw h (ap (λ k. take k (b ∷ bs)) more)

written_stop : (b : ℕ) (bs : List ℕ) → ends_name b ≡ true → written_name (b ∷ bs) ≡ []
unfolding written_name
written_stop b bs h = before_stop ends_name b bs h

written_on : (b : ℕ) (bs : List ℕ) → ends_name b ≡ false → written_name (b ∷ bs) ≡ b ∷ written_name bs
unfolding written_name
written_on b bs h = before_on ends_name b bs h

written_none : written_name [] ≡ []
unfolding written_name
written_none = refl

behind_mark : (text : List ℕ) (from : ℕ) → start_name (drop from text) ≡ written_name (drop (from + 1) text)
behind_mark text from = ap written_name (drop-drop 1 from text)

pub no_tag : (text : List ℕ) (from : ℕ) → None ≡ slice_get text from → [] ≡ start_name (drop from text)
no_tag text from none = sym (ap start_name (drop_past text from none) ∙ written_none)

module _ (text name : List ℕ) (from at : ℕ) (inv : name ++ written_name (drop at text) ≡ written_name (drop (from + 1) text)) where
  pub name_ended : (b : ℕ) → Some b ≡ slice_get text at → ends_name b ≡ true → name ≡ start_name (drop from text)
  name_ended b here ends =
      sym (append-nil name) ∙ ap (λ xs. name ++ xs) (sym (ap written_name (drop_at text at b here) ∙ written_stop b (drop (suc at) text) ends))
      ∙ inv ∙ sym (behind_mark text from)

  pub name_further : (b : ℕ) (new : List ℕ) → Some b ≡ slice_get text at → ends_name b ≡ false → new ≡ name ++ b ∷ [] →
      new ++ written_name (drop (at + 1) text) ≡ written_name (drop (from + 1) text)
  name_further b new here goes_on pushed =
      let next : at + 1 ≡ suc at = omega arith in
      ap (λ xs. xs ++ written_name (drop (at + 1) text)) pushed ∙ append_assoc name (b ∷ []) (written_name (drop (at + 1) text))
      ∙ ap (λ k. name ++ b ∷ written_name (drop k text)) next
      ∙ ap (λ xs. name ++ xs) (sym (ap written_name (drop_at text at b here) ∙ written_on b (drop (suc at) text) goes_on)) ∙ inv

  pub name_whole : None ≡ slice_get text at → name ≡ start_name (drop from text)
  name_whole none =
      sym (append-nil name) ∙ ap (λ xs. name ++ xs) (sym (ap written_name (drop_past text at none) ∙ written_none))
      ∙ inv ∙ sym (behind_mark text from)

-- ---- folders

pub slash_found : (uri : List ℕ) (len : ℕ) → 0 < len → len ≤ length uri → get_or uri (len - 1) 0 ≡ 47 →
    ((k : ℕ) → len ≤ k → k < length uri → not (eqb (get_or uri k 0) 47) ≡ true) → len ≡ folder_len uri
slash_found uri len some within slash others =
    let is : suffix_len (λ b. not (eqb b 47)) uri ≡ length uri - len =
    suffix_len_is (λ b. not (eqb b 47)) uri len 0 within others (λ _. ap (λ b. not (eqb b 47)) slash) in
    omega (arith, is, within)

pub no_slash : (uri : List ℕ) (len : ℕ) → len ≡ 0 →
    ((k : ℕ) → len ≤ k → k < length uri → not (eqb (get_or uri k 0) 47) ≡ true) → len ≡ folder_len uri
no_slash uri len none others =
    let is : suffix_len (λ b. not (eqb b 47)) uri ≡ length uri - len =
    suffix_len_is (λ b. not (eqb b 47)) uri len 0 (omega (arith, none)) others (λ some. absurd (omega (arith, some, none))) in
    omega (arith, is, none)

pub one_further : (uri : List ℕ) (len : ℕ) → 0 < len → not (eqb (get_or uri (len - 1) 0) 47) ≡ true →
    ((k : ℕ) → len ≤ k → k < length uri → not (eqb (get_or uri k 0) 47) ≡ true) →
    (k : ℕ) → len - 1 ≤ k → k < length uri → not (eqb (get_or uri k 0) 47) ≡ true
one_further uri len some here others k from below = by (leb len k) refl
  where
    by : (past : Bool) → leb len k ≡ past → not (eqb (get_or uri k 0) 47) ≡ true
    by true e = others k (grind (arith, e)) below
    by false e =
        let same : len - 1 ≡ k = grind (arith, e, from) in
        ap (λ i. not (eqb (get_or uri i 0) 47)) (sym same) ∙ here
