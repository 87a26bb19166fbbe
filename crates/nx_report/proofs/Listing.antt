-- A list told item by item.
use Rattle.std.proofs.Common.{◌≡◌, ◌∙◌, ◌⊎◌, inl, inr, ℕ, zero, suc, ◌+◌, ◌-◌, ◌<◌, ◌≤◌, Bool, cond, List, [], ◌∷◌, ◌++◌, length, take, drop, map}
use Rattle.std.proofs.Common.{refl, sym, ap, arith, append_assoc}
use Rattle.std.specs.Prelude.{nat_lt, codes}
use Rattle.std.specs.List.{flat_map}
use Rattle.std.proofs.lemmas.Bool.{cases_lt, lt-ltb, le-ltb}
use Rattle.nx_report.specs.Lists.{more_text, listed, introduced}

-- the items behind the first, of which so many stand in front of these
abbrev pub told_from : ℕ → List (List ℕ) → List ℕ
told_from between [] = more_text (between - 7)
told_from between (item ∷ items) = cond (nat_lt between 7) (codes ", " ++ item) [] ++ told_from (between + 1) items

abbrev comma : List ℕ → List ℕ
comma item = codes ", " ++ item

no_more : (n : ℕ) → flat_map comma (take n []) ≡ []
no_more zero = refl
no_more (suc n) = refl

others : (n : ℕ) (items : List (List ℕ)) → flat_map comma (take (7 - n) items) ++ more_text (n + length items - 7) ≡ told_from n items
others n [] =
    let same : n + 0 - 7 ≡ n - 7 = omega arith in
    ap (λ (t : List ℕ). t ++ more_text (n + 0 - 7)) (no_more (7 - n)) ∙ ap more_text same
others n (item ∷ items) = by (cases_lt n 7) (others (n + 1) items)
  where
    by : (n < 7) ⊎ (7 ≤ n) → flat_map comma (take (7 - (n + 1)) items) ++ more_text (n + 1 + length items - 7) ≡ told_from (n + 1) items
        → flat_map comma (take (7 - n) (item ∷ items)) ++ more_text (n + length (item ∷ items) - 7) ≡ told_from n (item ∷ items)
    by (inl less) more =
        let one : 7 - n ≡ suc (7 - (n + 1)) = omega arith in
        let count : n + length (item ∷ items) - 7 ≡ n + 1 + length items - 7 = omega arith in
        ap (λ (k : ℕ). flat_map comma (take k (item ∷ items)) ++ more_text (n + length (item ∷ items) - 7)) one
        ∙ ap (λ (k : ℕ). (comma item ++ flat_map comma (take (7 - (n + 1)) items)) ++ more_text k) count
        ∙ append_assoc (comma item) (flat_map comma (take (7 - (n + 1)) items)) (more_text (n + 1 + length items - 7))
        ∙ ap (λ (t : List ℕ). comma item ++ t) more
        ∙ sym (ap (λ (b : Bool). cond b (comma item) [] ++ told_from (n + 1) items) (lt-ltb n 7 less))
    by (inr past) more =
        let none : 7 - n ≡ 0 = omega arith in
        let still : 7 - (n + 1) ≡ 0 = omega arith in
        let count : n + length (item ∷ items) - 7 ≡ n + 1 + length items - 7 = omega arith in
        ap (λ (k : ℕ). flat_map comma (take k (item ∷ items)) ++ more_text (n + length (item ∷ items) - 7)) none
        ∙ ap more_text count
        ∙ sym (ap (λ (k : ℕ). flat_map comma (take k items) ++ more_text (n + 1 + length items - 7)) still)
        ∙ more
        ∙ sym (ap (λ (b : Bool). cond b (comma item) [] ++ told_from (n + 1) items) (le-ltb n 7 past))

-- so a list is its first item and the others
pub listed_is : (item : List ℕ) (items : List (List ℕ)) → listed (item ∷ items) ≡ item ++ told_from 0 items
listed_is item items =
    let count : length (item ∷ items) - 8 ≡ 0 + length items - 7 = omega arith in
    ap (λ (k : ℕ). (item ++ flat_map comma (take 7 items)) ++ more_text k) count
    ∙ append_assoc item (flat_map comma (take 7 items)) (more_text (0 + length items - 7))
    ∙ ap (λ (t : List ℕ). item ++ t) (others 0 items)

-- a loop's start: words and the first item are written
pub begun : (old words item : List ℕ) (items : List (List ℕ)) → ((old ++ words) ++ item) ++ told_from 0 items ≡ old ++ introduced words (item ∷ items)
begun old words item items =
    append_assoc (old ++ words) item (told_from 0 items) ∙ append_assoc old words (item ++ told_from 0 items)
    ∙ ap (λ (t : List ℕ). old ++ (words ++ t)) (sym (listed_is item items))

-- one item more
pub further : (old item whole : List ℕ) (n : ℕ) (items : List (List ℕ)) → old ++ told_from n (item ∷ items) ≡ whole
    → (old ++ cond (nat_lt n 7) (codes ", " ++ item) []) ++ told_from (n + 1) items ≡ whole
further old item whole n items is = append_assoc old (cond (nat_lt n 7) (comma item) []) (told_from (n + 1) items) ∙ is

-- a loop's end: no item is left
pub ended : {T : Type 0} (old whole : List ℕ) (n : ℕ) (f : T → List ℕ) (xs : List T) → old ++ told_from n (map f (drop n xs)) ≡ whole → n ≡ length xs
    → old ++ more_text (length xs - 7) ≡ whole
ended old whole n f xs is all =
    ap (λ (k : ℕ). old ++ more_text (k - 7)) (sym all) ∙ sym (ap (λ t. old ++ told_from n (map f t)) (drop-all n xs all)) ∙ is
  where
    drop-all : {T : Type 0} (n : ℕ) (xs : List T) → n ≡ length xs → drop n xs ≡ []
    drop-all zero [] all = refl
    drop-all zero (x ∷ xs) all = absurd (omega (arith, all))
    drop-all (suc n) [] all = refl
    drop-all (suc n) (x ∷ xs) all = drop-all n xs (omega (arith, all))
