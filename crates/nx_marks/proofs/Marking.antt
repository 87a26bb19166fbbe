-- The last mark at or before a place is found.
use Rattle.std.proofs.Common.{◌≡◌, ◌⊎◌, inl, inr, ℕ, ◌+◌, ◌<◌, ◌≤◌, Bool, true, false, List, [], ◌∷◌, ◌++◌, length, refl, sym, ap, subst, ◌∙◌, arith, append_assoc}
use Rattle.std.specs.Prelude.{IsUtf8}
use Rattle.std.proofs.lemmas.List.{length-append}
use Rattle.std.proofs.lemmas.Str.{IsCharBoundary-start}
use Rattle.nx_base.specs.Rules.{Rules, RulesLaws}
use Rattle.nx_marks.specs.Before.{marks_with, IsLast, LiesInFront, IsMarkBefore}
use Rattle.nx_marks.specs.Chain.{AreWhole, Chain, FirstMeans, Kept, all_of, frontier_of, reach}
use Rattle.nx_marks.specs.Right.{IsRight}
use Rattle.nx_marks.specs.declared.mark.Mark.{Mark}
use Rattle.nx_marks.proofs.Places.{cuts-end}
use Rattle.nx_marks.proofs.Reading.{led, Led}
use Rattle.nx_marks.proofs.Stepping.{reach-append}

-- ---- the mark that is found

pub found_here : {S : Type 0} (at place : ℕ) (k : Kept S) → (k.marked ≡ false → 0 < length k.front) → (k.marked ≡ true) ⊎ (k.front ≡ []) → place ≡ frontier_of k → place ≤ at → IsLast at place k k.here
found_here at place k some c p le = record {
  earlier = k.front;
  later = [];
  behind = k.aside;
  are = by k.marked refl;
  all = refl;
  front = omega arith;
  here = p;
  before = le;
  none_later = λ lt. absurd (omega arith);
}
  where
    unmarked : k.marked ≡ false → (k.marked ≡ true) ⊎ (k.front ≡ []) → ⊥
    unmarked e (inl f) = absurd (cc)
    unmarked e (inr f) = let n = ap length f in let m = some e in absurd (omega arith)

    by : (b : Bool) → k.marked ≡ b → marks_with k.front k.here b ≡ k.front ++ k.here ∷ []
    by true e = refl
    by false e = absurd (unmarked e c)

pub found_front : {S : Type 0} (at place : ℕ) (k : Kept S) (mark : Mark S) (f : LiesInFront at k.front place mark) → (k.marked ≡ true → at < frontier_of k) → IsLast at place k mark
found_front {S = S} at place k mark f ahead = by k.marked refl
  where
    all : all_of k ≡ f.earlier ++ mark ∷ (f.later ++ k.here ∷ k.aside)
    all = ap (λ l. l ++ k.here ∷ k.aside) f.are ∙ append_assoc f.earlier (mark ∷ f.later) (k.here ∷ k.aside)

    short : length f.earlier ≤ length k.front
    short = let n = ap length f.are in let m = length-append f.earlier (mark ∷ f.later) in omega arith

    far : frontier_of k ≡ reach f.earlier + (mark.len + reach f.later)
    far = ap reach f.are ∙ reach-append f.earlier (mark ∷ f.later)

    nearer : k.marked ≡ true → (f.later ≡ []) ⊎ (at < place + mark.len) → at < place + mark.len
    nearer m (inl none) = let e = ap reach none in let h = f.here in let a = ahead m in let n = far in omega arith
    nearer m (inr lt) = lt

    unmarked : (f.later ≡ []) ⊎ (at < place + mark.len) → 0 < length f.later → at < place + mark.len
    unmarked (inl none) some = absurd (let e = ap length none in omega arith)
    unmarked (inr lt) some = lt

    by : (b : Bool) → k.marked ≡ b → IsLast at place k mark
    by true e = record {
      earlier = f.earlier;
      later = f.later ++ k.here ∷ [];
      behind = f.later ++ k.here ∷ k.aside;
      are = ap (marks_with k.front k.here) e ∙ ap (λ l. l ++ k.here ∷ []) f.are ∙ append_assoc f.earlier (mark ∷ f.later) (k.here ∷ []);
      all = all;
      front = short;
      here = f.here;
      before = f.before;
      none_later = λ _. nearer e f.next;
    }
    by false e = record {
      earlier = f.earlier;
      later = f.later;
      behind = f.later ++ k.here ∷ k.aside;
      are = ap (marks_with k.front k.here) e ∙ f.are;
      all = all;
      front = short;
      here = f.here;
      before = f.before;
      none_later = λ some. unmarked f.next some;
    }

-- ---- its state

whole-first : {S : Type 0} (xs ys us vs : List (Mark S)) → xs ++ ys ≡ us ++ vs → length xs ≤ length us → AreWhole us → AreWhole xs
whole-first [] ys us vs e le w = tt
whole-first (x ∷ xs) ys [] vs e le w = absurd (omega arith)
whole-first {S = S} (x ∷ xs) ys (u ∷ us) vs e le w =
    let head : x ≡ u = cc in
    let tail : xs ++ ys ≡ us ++ vs = cc in
    let P : Mark S → Type 0 = λ m. m.whole ≡ true in
    (subst P (sym head) w.0, whole-first xs ys us vs tail (omega arith) w.1)

-- the marks in front of it lead to it
pub led_there : {S M : Type 0} (is_state : S → Type 0) (means : S → M) (r : Rules M) → RulesLaws r → (t : List ℕ) (at place : ℕ) (k : Kept S) (mark : Mark S) → IsRight is_state means r t k →
    (last : IsLast at place k mark) → Led is_state means r t 0 r.first last.earlier place mark last.behind
led_there {S = S} is_state means r laws t at place k mark h last =
    let F : List (Mark S) → Type 0 = λ l. FirstMeans means r.first l in
    let C : List (Mark S) → Type 0 = λ l. Chain is_state means r t 0 l in
    let wholes = whole-first last.earlier (mark ∷ last.behind) k.front (k.here ∷ k.aside) (sym last.all) last.front h.holds.whole in
    led is_state means r t laws 0 r.first last.earlier place mark last.behind (let e = last.here in omega arith) wholes (subst F last.all h.holds.first) (subst C last.all h.holds.chain)

pub mark_before_right : {S M : Type 0} (is_state : S → Type 0) (means : S → M) (r : Rules M) → RulesLaws r → (t : List ℕ) (at place : ℕ) (k : Kept S) (mark : Mark S) (state : S) → IsUtf8 t → IsRight is_state means r t k →
    IsLast at place k mark → is_state state → means state ≡ means mark.state → IsMarkBefore is_state means r t at k place state
mark_before_right {S = S} is_state means r laws t at place k mark state utf8 h last own same =
    let l = led_there is_state means r laws t at place k mark h last in
    record {
      mark = mark;
      last = last;
      same = same;
      within = far last.earlier (mark ∷ last.behind) k.front (k.here ∷ k.aside) (sym last.all) last.front last.here;
      border = cuts-end t 0 place l.tokens utf8 (IsCharBoundary-start t utf8) l.cuts;
      tokens = l.tokens;
      cuts = l.cuts;
      own = own;
      meaning = same ∙ l.meaning;
    }
  where
    near : (xs ys us vs : List (Mark S)) → xs ++ ys ≡ us ++ vs → length xs ≤ length us → reach xs ≤ reach us
    near [] ys us vs e le = omega arith
    near (x ∷ xs) ys [] vs e le = absurd (omega arith)
    near (x ∷ xs) ys (u ∷ us) vs e le =
        let head : x.len ≡ u.len = ap (λ (m : Mark S). m.len) (let q : x ≡ u = cc in q) in
        let tail : xs ++ ys ≡ us ++ vs = cc in
        let rest = near xs ys us vs tail (omega arith) in
        omega arith

    far : (xs ys us vs : List (Mark S)) → xs ++ ys ≡ us ++ vs → length xs ≤ length us → place ≡ reach xs → place ≤ reach us
    far xs ys us vs e le p = let n = near xs ys us vs e le in omega arith
