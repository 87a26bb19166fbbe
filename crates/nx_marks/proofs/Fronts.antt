-- Where the frontier lies behind an edit.
use Rattle.std.proofs.Common.{◌≡◌, ◌⊎◌, inl, inr, ℕ, ◌+◌, ◌-◌, ◌<◌, ◌≤◌, Bool, true, false, ◌||◌, nat_lt, List, [], ◌∷◌, ◌++◌, refl, sym, ap, subst, ◌∙◌, arith}
use Rattle.std.specs.Prelude.{if◌then◌else◌}
use Rattle.nx_base.specs.Rules.{Rules}
use Rattle.nx_marks.specs.Chain.{AreWhole, reach, Kept, all_of, frontier_of, MarksHold}
use Rattle.nx_marks.specs.Editing.{place_after, stays, is_apart, first_kept, broken, kept_mark, kept_marks, edit_all, split, split_all, edit_noted, EditBehind}
use Rattle.nx_marks.specs.declared.mark.Mark.{Mark}
use Rattle.nx_marks.proofs.Places.{below, is_below, Apart, before, behind, apart, stays-before}
use Rattle.nx_marks.proofs.Splits.{split-there}

-- each whole mark that a row of whole ones leads to ends before the edit
abbrev Under : {S : Type 0} → ℕ → ℕ → List (Mark S) → Type 0
Under from p [] = Unit {0}
Under from p (x ∷ xs) = x.whole ≡ true → (p + x.len < from) × Under from (p + x.len) xs

apart-under : (from to p len : ℕ) → from ≤ to → p < from → is_apart from to p len ≡ true → p + len < from
apart-under from to p len le lt h = by (apart from to p len h)
  where
    by : Apart from to p len → p + len < from
    by (before b) = b
    by (behind b) = absurd (omega arith)

under-kept : {S : Type 0} (from to added p : ℕ) (xs : List (Mark S)) → from ≤ to → p < from → Under from p (kept_marks from to added p xs)
under-kept from to added p [] le lt = tt
under-kept from to added p (x ∷ xs) le lt = by (stays from to p) (stays-before from to p lt) (λ l. under-kept from to added (p + x.len) xs le l)
  where
    one : (b : Bool) → is_apart from to p x.len ≡ b → (p + x.len < from → Under from (p + x.len) (kept_marks from to added (p + x.len) xs)) →
        Under from p ((if b then x else broken x (place_after from to added (first_kept from to (p + x.len) xs) - place_after from to added p)) ∷ kept_marks from to added (p + x.len) xs)
    one true e rest = λ w. let l = apart-under from to p x.len le lt e in (l, rest l)
    one false e rest = λ w. absurd (cc)

    by : (b : Bool) → b ≡ true → (p + x.len < from → Under from (p + x.len) (kept_marks from to added (p + x.len) xs)) →
        Under from p (if b then kept_mark from to added p x (first_kept from to (p + x.len) xs) ∷ kept_marks from to added (p + x.len) xs else kept_marks from to added (p + x.len) xs)
    by true e rest = one (is_apart from to p x.len) refl rest
    by false e rest = absurd (cc)

under-all : {S : Type 0} (from to added : ℕ) (xs : List (Mark S)) → from ≤ to → Under from 0 (edit_all from to added xs)
under-all from to added [] le = tt
under-all from to added (x ∷ xs) le = one (nat_lt (0 + x.len) from) refl
  where
    one : (b : Bool) → nat_lt (0 + x.len) from ≡ b →
        Under from 0 ((if b then x else broken x (place_after from to added (first_kept from to (0 + x.len) xs))) ∷ kept_marks from to added (0 + x.len) xs)
    one true e = λ w. let l = below (0 + x.len) from e in (l, under-kept from to added (0 + x.len) xs le l)
    one false e = λ w. absurd (cc)

under-split : {S : Type 0} (from p : ℕ) (marked : Bool) (x : Mark S) (ys : List (Mark S)) → Under from p (x ∷ ys) → (p + reach (split marked x ys).front < from) ⊎ (reach (split marked x ys).front ≡ 0)
under-split from p marked x [] h = inr refl
under-split from p marked x (y ∷ ys) h = by x.whole refl (λ u. under-split from (p + x.len) marked y ys u)
  where
    on : (n : ℕ) → p + x.len < from → (p + x.len + n < from) ⊎ (n ≡ 0) → (p + (x.len + n) < from) ⊎ (x.len + n ≡ 0)
    on n l (inl e) = inl (omega arith)
    on n l (inr e) = inl (omega arith)

    by : (b : Bool) → x.whole ≡ b → (Under from (p + x.len) (y ∷ ys) → (p + x.len + reach (split marked y ys).front < from) ⊎ (reach (split marked y ys).front ≡ 0)) →
        (p + reach (if b then (let k = split marked y ys in record k { front = x ∷ k.front }) else record { front = []; here = x; marked = marked; aside = y ∷ ys }).front < from)
        ⊎ (reach (if b then (let k = split marked y ys in record k { front = x ∷ k.front }) else record { front = []; here = x; marked = marked; aside = y ∷ ys }).front ≡ 0)
    by true e rest = let g = h e in on (reach (split marked y ys).front) g.0 (rest g.1)
    by false e rest = inr refl

-- the frontier lies before the edit, or is the start
pub edit_frontier : {S : Type 0} (from to added : ℕ) (k : Kept S) → from ≤ to → (frontier_of (edit_noted from to added k) < from) ⊎ (frontier_of (edit_noted from to added k) ≡ 0)
edit_frontier {S = S} from to added k le = by (if nat_lt (frontier_of k) from then k.marked else true) k.front
  where
    one : (marked : Bool) (x : Mark S) (ys : List (Mark S)) → Under from 0 (x ∷ ys) → (reach (split marked x ys).front < from) ⊎ (reach (split marked x ys).front ≡ 0)
    one marked x ys u = plain (reach (split marked x ys).front) (under-split from 0 marked x ys u)
      where
        plain : (n : ℕ) → (0 + n < from) ⊎ (n ≡ 0) → (n < from) ⊎ (n ≡ 0)
        plain n (inl e) = inl (omega arith)
        plain n (inr e) = inr e

    by : (marked : Bool) (xs : List (Mark S)) → (frontier_of (split_all k marked (edit_all from to added (xs ++ k.here ∷ k.aside))) < from) ⊎ (frontier_of (split_all k marked (edit_all from to added (xs ++ k.here ∷ k.aside))) ≡ 0)
    by marked [] =
        one marked (if nat_lt (0 + k.here.len) from then k.here else broken k.here (place_after from to added (first_kept from to (0 + k.here.len) k.aside)))
        (kept_marks from to added (0 + k.here.len) k.aside) (under-all from to added (k.here ∷ k.aside) le)
    by marked (x ∷ xs) =
        one marked (if nat_lt (0 + x.len) from then x else broken x (place_after from to added (first_kept from to (0 + x.len) (xs ++ k.here ∷ k.aside))))
        (kept_marks from to added (0 + x.len) (xs ++ k.here ∷ k.aside)) (under-all from to added (x ∷ xs ++ k.here ∷ k.aside) le)

-- ---- an edit behind the frontier

pub kept-apart : {S : Type 0} (from to added p q : ℕ) (x : Mark S) → p + x.len < from → kept_mark from to added p x q ≡ x
kept-apart from to added p q x lt = by (nat_lt (p + x.len) from) (is_below (p + x.len) from lt)
  where
    by : (a : Bool) → a ≡ true → (if a || nat_lt to p then x else broken x (place_after from to added q - place_after from to added p)) ≡ x
    by true f = refl
    by false f = absurd (cc)

pub kept-cons : {S : Type 0} (from to added p : ℕ) (x : Mark S) (xs : List (Mark S)) → p < from →
    kept_marks from to added p (x ∷ xs) ≡ kept_mark from to added p x (first_kept from to (p + x.len) xs) ∷ kept_marks from to added (p + x.len) xs
kept-cons from to added p x xs lt = by (stays from to p) (stays-before from to p lt)
  where
    by : (b : Bool) → b ≡ true →
        (if b then kept_mark from to added p x (first_kept from to (p + x.len) xs) ∷ kept_marks from to added (p + x.len) xs else kept_marks from to added (p + x.len) xs)
        ≡ kept_mark from to added p x (first_kept from to (p + x.len) xs) ∷ kept_marks from to added (p + x.len) xs
    by true e = refl
    by false e = absurd (cc)

-- a mark that isn't whole isn't afterwards, and the front before it stays
pub record Left {S : Type 0} (from to added q : ℕ) (xs : List (Mark S)) (z : Mark S) (zs all : List (Mark S)) : Type 0 where
  pub here : Mark S
  pub same : all ≡ xs ++ here ∷ kept_marks from to added (q + z.len) zs
  pub state : here.state ≡ z.state
  pub ends : here.whole ≡ false

kept-state : {S : Type 0} (from to added p q : ℕ) (z : Mark S) → (kept_mark from to added p z q).state ≡ z.state
kept-state from to added p q z = by (is_apart from to p z.len)
  where
    by : (a : Bool) → (if a then z else broken z (place_after from to added q - place_after from to added p)).state ≡ z.state
    by true = refl
    by false = refl

kept-ends : {S : Type 0} (from to added p q : ℕ) (z : Mark S) → z.whole ≡ false → (kept_mark from to added p z q).whole ≡ false
kept-ends from to added p q z e = by (is_apart from to p z.len)
  where
    by : (a : Bool) → (if a then z else broken z (place_after from to added q - place_after from to added p)).whole ≡ false
    by true = e
    by false = refl

left-kept : {S : Type 0} (from to added p q : ℕ) (xs : List (Mark S)) (z : Mark S) (zs : List (Mark S)) → AreWhole xs → z.whole ≡ false → p + reach xs ≡ q → q < from →
    Left from to added q xs z zs (kept_marks from to added p (xs ++ z ∷ zs))
left-kept from to added p q [] z zs w e at lt =
    let there : p ≡ q = omega arith in
    let P : ℕ → Type 0 = λ n. Left from to added n [] z zs (kept_marks from to added p (z ∷ zs)) in
    subst P there (record {
      here = kept_mark from to added p z (first_kept from to (p + z.len) zs);
      same = kept-cons from to added p z zs (omega arith);
      state = kept-state from to added p (first_kept from to (p + z.len) zs) z;
      ends = kept-ends from to added p (first_kept from to (p + z.len) zs) z e;
    })
left-kept from to added p q (x ∷ xs) z zs w e at lt =
    let rest = left-kept from to added (p + x.len) q xs z zs w.1 e (omega arith) lt in
    record {
      here = rest.here;
      same =
          kept-cons from to added p x (xs ++ z ∷ zs) (omega arith)
          ∙ ap (λ y. y ∷ kept_marks from to added (p + x.len) (xs ++ z ∷ zs)) (kept-apart from to added p (first_kept from to (p + x.len) (xs ++ z ∷ zs)) x (omega arith))
          ∙ ap (λ l. x ∷ l) rest.same;
      state = rest.state;
      ends = rest.ends;
    }

pub left-all : {S : Type 0} (from to added q : ℕ) (xs : List (Mark S)) (z : Mark S) (zs : List (Mark S)) → AreWhole xs → z.whole ≡ false → reach xs ≡ q → q < from →
    Left from to added q xs z zs (edit_all from to added (xs ++ z ∷ zs))
left-all from to added q [] z zs w e at lt =
    let P : ℕ → Type 0 = λ n. Left from to added n [] z zs (edit_all from to added (z ∷ zs)) in
    subst P at (record {
      here = if nat_lt (0 + z.len) from then z else broken z (place_after from to added (first_kept from to (0 + z.len) zs));
      same = refl;
      state = state (nat_lt (0 + z.len) from);
      ends = ends (nat_lt (0 + z.len) from);
    })
  where
    state : (a : Bool) → (if a then z else broken z (place_after from to added (first_kept from to (0 + z.len) zs))).state ≡ z.state
    state true = refl
    state false = refl

    ends : (a : Bool) → (if a then z else broken z (place_after from to added (first_kept from to (0 + z.len) zs))).whole ≡ false
    ends true = e
    ends false = refl
left-all from to added q (x ∷ xs) z zs w e at lt =
    let rest = left-kept from to added (0 + x.len) q xs z zs w.1 e (omega arith) lt in
    let near : 0 + x.len < from = omega arith in
    record {
      here = rest.here;
      same =
          ap (λ y. y ∷ kept_marks from to added (0 + x.len) (xs ++ z ∷ zs)) (by (nat_lt (0 + x.len) from) (is_below (0 + x.len) from near))
          ∙ ap (λ l. x ∷ l) rest.same;
      state = rest.state;
      ends = rest.ends;
    }
  where
    by : (a : Bool) → a ≡ true → (if a then x else broken x (place_after from to added (first_kept from to (0 + x.len) (xs ++ z ∷ zs)))) ≡ x
    by true f = refl
    by false f = absurd (cc)

pub edit_behind : {S M : Type 0} (is_state : S → Type 0) (means : S → M) (r : Rules M) (t : List ℕ) (from to added : ℕ) (k : Kept S) → MarksHold is_state means r t k → frontier_of k < from → EditBehind from to added k (edit_noted from to added k)
edit_behind is_state means r t from to added k h lt = by (nat_lt (frontier_of k) from) (is_below (frontier_of k) from lt)
  where
    l : Left from to added (frontier_of k) k.front k.here k.aside (edit_all from to added (all_of k))
    l = left-all from to added (frontier_of k) k.front k.here k.aside h.whole h.ends refl lt

    by : (b : Bool) → b ≡ true → EditBehind from to added k (split_all k (if b then k.marked else true) (edit_all from to added (all_of k)))
    by true e =
        let there = ap (split_all k k.marked) l.same ∙ split-there k.marked k.front l.here (kept_marks from to added (frontier_of k + k.here.len) k.aside) k h.whole l.ends in
        let P : Kept _ → Type 0 = λ i. EditBehind from to added k i in
        subst P (sym there) (record { front = refl; state = l.state; marked = refl; aside = refl })
    by false e = absurd (cc)
