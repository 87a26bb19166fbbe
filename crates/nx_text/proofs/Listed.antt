-- What the list of a text's line feeds holds.
use Rattle.std.proofs.Common.{◌≡◌, ◌∙◌, ℕ, zero, suc, ◌+◌, ◌-◌, ◌<◌, ◌≤◌, Bool, true, false, cond, List, [], ◌∷◌, ◌++◌, map, length}
use Rattle.std.proofs.Common.{get_or, refl, sym, ap, ap₂, subst, arith, length-append, eqb-true}
use Rattle.std.specs.List.{Contains}
use Rattle.std.proofs.lemmas.Bool.{false≢true}
use Rattle.nx_text.specs.Gap.{Parted}
use Rattle.nx_text.specs.Feeds.{feeds_from, feeds_of, feeds_to_end, joined, IsKept}
use Rattle.nx_text.specs.Places.{is_line_feed}
use Rattle.nx_text.proofs.Feeds.{feeds_of_both, low}

from_start : (n : ℕ) (xs : List ℕ) → feeds_from n xs ≡ map (λ left. n + length xs - left) (feeds_to_end xs)
from_start n [] = refl
from_start n (x ∷ xs) = step (is_line_feed x) n (length xs) (feeds_from (n + 1) xs) (feeds_to_end xs) (from_start (n + 1) xs)
  where
    step : (b : Bool) (n len : ℕ) (fs rest : List ℕ) → fs ≡ map (λ left. n + 1 + len - left) rest
        → cond b (n ∷ fs) fs ≡ map (λ left. n + suc len - left) (cond b ((len + 1) ∷ rest) rest)
    step true n len fs rest e =
        let head : n ≡ n + suc len - (len + 1) = omega arith in
        let sum : n + 1 + len ≡ n + suc len = omega arith in
        ap (λ k. k ∷ fs) head ∙ ap (λ t. (n + suc len - (len + 1)) ∷ t) (e ∙ ap (λ k. map (λ left. k - left) rest) sum)
    step false n len fs rest e =
        let sum : n + 1 + len ≡ n + suc len = omega arith in
        e ∙ ap (λ k. map (λ left. k - left) rest) sum

pub kept_feeds : (bytes feeds : Parted ℕ) → IsKept bytes feeds
    → feeds_of (joined bytes) ≡ feeds.front ++ map (λ left. length (joined bytes) - left) feeds.back
kept_feeds bytes feeds is =
    let front = bytes.front in let back = bytes.back in
    let whole : 0 + length front + length back ≡ length (front ++ back) = (let len = length-append front back in omega (arith, len)) in
    feeds_of_both 0 front back
    ∙ ap (λ t. feeds_of front ++ t) (from_start (0 + length front) back ∙ ap (λ k. map (λ left. k - left) (feeds_to_end back)) whole)
    ∙ ap₂ (λ s t. s ++ map (λ left. length (front ++ back) - left) t) (sym is.front_feeds) (sym is.back_feeds)

rise_step : (b : Bool) (n : ℕ) (fs : List ℕ) → ((k : ℕ) → k < length fs → n + 1 ≤ get_or fs k 0)
    → ((k : ℕ) → k + 1 < length fs → get_or fs k 0 < get_or fs (k + 1) 0)
    → (k : ℕ) → k + 1 < length (cond b (n ∷ fs) fs) → get_or (cond b (n ∷ fs) fs) k 0 < get_or (cond b (n ∷ fs) fs) (k + 1) 0
rise_step true n fs least rise zero lt = let more = least 0 (omega arith) in omega arith
rise_step true n fs least rise (suc k) lt =
    let next : get_or (n ∷ fs) (suc k + 1) 0 ≡ get_or fs (k + 1) 0 = ap (λ j. get_or (n ∷ fs) j 0) (one_more k) in
    let less = rise k (omega arith) in
    omega (arith, next, less)
  where
    one_more : (k : ℕ) → suc k + 1 ≡ suc (k + 1)
    one_more k = omega arith
rise_step false n fs least rise k lt = rise k lt

pub rises : (n : ℕ) (xs : List ℕ) (k : ℕ) → k + 1 < length (feeds_from n xs) → get_or (feeds_from n xs) k 0 < get_or (feeds_from n xs) (k + 1) 0
rises n [] k lt = absurd (omega arith)
rises n (x ∷ xs) k lt = rise_step (is_line_feed x) n (feeds_from (n + 1) xs) (low (n + 1) xs 0) (rises (n + 1) xs) k lt

-- a line feed stands at an offset
abbrev IsFeedAt : List ℕ → ℕ → Type 0
IsFeedAt xs at = (at < length xs) × (get_or xs at 0 ≡ 10)

found_step : (b : Bool) (n x at : ℕ) (xs fs : List ℕ) → is_line_feed x ≡ b
    → ((k : ℕ) → k < length fs → get_or fs k at ≡ at → (n + 1 ≤ at) × IsFeedAt xs (at - (n + 1)))
    → (k : ℕ) → k < length (cond b (n ∷ fs) fs) → get_or (cond b (n ∷ fs) fs) k at ≡ at → (n ≤ at) × IsFeedAt (x ∷ xs) (at - n)
found_step true n x at xs fs is h zero lt e =
    let start : 0 ≡ at - n = omega arith in
    (omega arith, subst (IsFeedAt (x ∷ xs)) start (omega arith, eqb-true x 10 is))
found_step true n x at xs fs is h (suc k) lt e =
    let r = h k (omega arith) e in let le = r.0 in
    let next : suc (at - (n + 1)) ≡ at - n = omega arith in
    let inside = r.1.0 in
    (omega arith, subst (IsFeedAt (x ∷ xs)) next (omega arith, r.1.1))
found_step false n x at xs fs is h k lt e =
    let r = h k lt e in let le = r.0 in
    let next : suc (at - (n + 1)) ≡ at - n = omega arith in
    let inside = r.1.0 in
    (omega arith, subst (IsFeedAt (x ∷ xs)) next (omega arith, r.1.1))

found : (n : ℕ) (xs : List ℕ) (at k : ℕ) → k < length (feeds_from n xs) → get_or (feeds_from n xs) k at ≡ at
    → (n ≤ at) × IsFeedAt xs (at - n)
found n [] at k lt e = absurd (omega arith)
found n (x ∷ xs) at k lt e = found_step (is_line_feed x) n x at xs (feeds_from (n + 1) xs) refl (found (n + 1) xs at) k lt e

one_behind : (b : Bool) (n at : ℕ) (fs : List ℕ) → Contains fs at → Contains (cond b (n ∷ fs) fs) at
one_behind true n at fs h = (suc h.0, (let lt = h.1 in omega arith), h.2)
one_behind false n at fs h = h

here : (b : Bool) (n at : ℕ) (fs : List ℕ) → b ≡ true → n ≡ at → Contains (cond b (n ∷ fs) fs) at
here true n at fs is e = (0, omega arith, e)
here false n at fs is e = absurd (false≢true is)

listed : (n : ℕ) (xs : List ℕ) (j : ℕ) → j < length xs → get_or xs j 0 ≡ 10 → Contains (feeds_from n xs) (n + j)
listed n [] j lt e = absurd (omega arith)
listed n (x ∷ xs) zero lt e =
    here (is_line_feed x) n (n + 0) (feeds_from (n + 1) xs) (ap is_line_feed e) (none n)
  where
    none : (n : ℕ) → n ≡ n + 0
    none n = omega arith
listed n (x ∷ xs) (suc j) lt e =
    let sum : n + 1 + j ≡ n + suc j = omega arith in
    one_behind (is_line_feed x) n (n + suc j) (feeds_from (n + 1) xs)
    (subst (Contains (feeds_from (n + 1) xs)) sum (listed (n + 1) xs j (omega arith) e))

pub each_feed : (text : List ℕ) (at : ℕ) → (Contains (feeds_of text) at → IsFeedAt text at) × (IsFeedAt text at → Contains (feeds_of text) at)
each_feed text at = (
  λ c. (let r = found 0 text at c.0 c.1 c.2 in let none : at - 0 ≡ at = omega arith in subst (IsFeedAt text) none r.1),
  λ f. (let zero_more : 0 + at ≡ at = omega arith in subst (Contains (feeds_of text)) zero_more (listed 0 text at f.0 f.1)),
)
