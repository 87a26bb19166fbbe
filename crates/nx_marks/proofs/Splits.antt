-- The front ends before the first mark that isn't whole.
use Rattle.std.proofs.Common.{◌≡◌, ℕ, ◌+◌, ◌≤◌, Bool, true, false, nat_lt, List, [], ◌∷◌, ◌++◌, length, refl, sym, ap, subst, ◌∙◌}
use Rattle.std.specs.Prelude.{IsUtf8, if◌then◌else◌}
use Rattle.nx_base.specs.Text.{IsPlace, edited}
use Rattle.nx_base.specs.Rules.{Rules}
use Rattle.nx_marks.specs.Chain.{FirstMeans, Chain, AreWhole, Kept, all_of, frontier_of, MarksHold}
use Rattle.nx_marks.specs.Editing.{place_after, first_kept, broken, edit_all, split, split_all, edit_noted}
use Rattle.nx_marks.specs.declared.mark.Mark.{Mark}
use Rattle.nx_marks.proofs.Edits.{whole-link, chain-all}

module _ {S : Type 0} (marked : Bool) where
  pub split-is : (x : Mark S) (ys : List (Mark S)) → all_of (split marked x ys) ≡ x ∷ ys
  split-is x [] = refl
  split-is x (y ∷ ys) = by x.whole (split-is y ys)
    where
      by : (b : Bool) → all_of (split marked y ys) ≡ y ∷ ys →
          all_of (if b then (let k = split marked y ys in record k { front = x ∷ k.front }) else record { front = []; here = x; marked = marked; aside = y ∷ ys }) ≡ x ∷ y ∷ ys
      by true rest = ap (λ l. x ∷ l) rest
      by false rest = refl

  pub split-whole : (x : Mark S) (ys : List (Mark S)) → AreWhole (split marked x ys).front
  split-whole x [] = tt
  split-whole x (y ∷ ys) = by x.whole refl (split-whole y ys)
    where
      by : (b : Bool) → x.whole ≡ b → AreWhole (split marked y ys).front →
          AreWhole (if b then (let k = split marked y ys in record k { front = x ∷ k.front }) else record { front = []; here = x; marked = marked; aside = y ∷ ys }).front
      by true e rest = (e, rest)
      by false e rest = tt

  pub split-marked : (x : Mark S) (ys : List (Mark S)) → (split marked x ys).marked ≡ marked
  split-marked x [] = refl
  split-marked x (y ∷ ys) = by x.whole (split-marked y ys)
    where
      by : (b : Bool) → (split marked y ys).marked ≡ marked →
          (if b then (let k = split marked y ys in record k { front = x ∷ k.front }) else record { front = []; here = x; marked = marked; aside = y ∷ ys }).marked ≡ marked
      by true rest = rest
      by false rest = refl

  pub split-on : (x y : Mark S) (ys : List (Mark S)) (i : Kept S) → x.whole ≡ true → split marked y ys ≡ i → split marked x (y ∷ ys) ≡ record i { front = x ∷ i.front }
  split-on x y ys i e same = by x.whole e ∙ ap (λ (k : Kept S). record k { front = x ∷ k.front }) same
    where
      by : (b : Bool) → b ≡ true →
          (if b then (let k = split marked y ys in record k { front = x ∷ k.front }) else record { front = []; here = x; marked = marked; aside = y ∷ ys })
          ≡ (let k = split marked y ys in record k { front = x ∷ k.front })
      by true e = refl
      by false e = absurd (cc)

  pub split-off : (x y : Mark S) (ys : List (Mark S)) → x.whole ≡ false → split marked x (y ∷ ys) ≡ record { front = []; here = x; marked = marked; aside = y ∷ ys }
  split-off x y ys e = by x.whole e
    where
      by : (b : Bool) → b ≡ false →
          (if b then (let k = split marked y ys in record k { front = x ∷ k.front }) else record { front = []; here = x; marked = marked; aside = y ∷ ys })
          ≡ record { front = []; here = x; marked = marked; aside = y ∷ ys }
      by true e = absurd (cc)
      by false e = refl

  -- a front, and a mark that isn't whole
  pub split-there : (xs : List (Mark S)) (z : Mark S) (zs : List (Mark S)) (k : Kept S) → AreWhole xs → z.whole ≡ false →
      split_all k marked (xs ++ z ∷ zs) ≡ record { front = xs; here = z; marked = marked; aside = zs }
  split-there [] z [] k w e = refl
  split-there [] z (y ∷ ys) k w e = split-off z y ys e
  split-there (x ∷ []) z zs k w e = split-on x z zs (record { front = []; here = z; marked = marked; aside = zs }) w.0 (split-there [] z zs k tt e)
  split-there (x ∷ y ∷ xs) z zs k w e = split-on x y (xs ++ z ∷ zs) (record { front = y ∷ xs; here = z; marked = marked; aside = zs }) w.0 (split-there (y ∷ xs) z zs k w.1 e)

module _ {S M : Type 0} (is_state : S → Type 0) (means : S → M) (r : Rules M) (t : List ℕ) (marked : Bool) where
  pub split-ends : (p : ℕ) (x : Mark S) (ys : List (Mark S)) → Chain is_state means r t p (x ∷ ys) → (split marked x ys).here.whole ≡ false
  split-ends p x [] h = by x.whole refl
    where
      by : (b : Bool) → x.whole ≡ b → x.whole ≡ false
      by true e = absurd (whole-link means r t p x.whole x [] e h.1.0).leads
      by false e = e
  split-ends p x (y ∷ ys) h = by x.whole refl (split-ends (p + x.len) y ys h.1.1)
    where
      by : (b : Bool) → x.whole ≡ b → (split marked y ys).here.whole ≡ false →
          (if b then (let k = split marked y ys in record k { front = x ∷ k.front }) else record { front = []; here = x; marked = marked; aside = y ∷ ys }).here.whole ≡ false
      by true e rest = rest
      by false e rest = e

  -- marks are right, however many of them are in front
  pub split-holds : (xs : List (Mark S)) (k : Kept S) → FirstMeans means r.first xs → Chain is_state means r t 0 xs → MarksHold is_state means r t (split_all k marked xs)
  split-holds [] k f h = absurd f
  split-holds (x ∷ xs) k f h =
      let same = split-is marked x xs in
      let P : List (Mark S) → Type 0 = λ ys. FirstMeans means r.first ys in
      let Q : List (Mark S) → Type 0 = λ ys. Chain is_state means r t 0 ys in
      record {
        first = subst P (sym same) f;
        chain = subst Q (sym same) h;
        whole = split-whole marked x xs;
        ends = split-ends 0 x xs h;
      }

first-all : {S M : Type 0} (means : S → M) (from to added : ℕ) (m : M) (xs : List (Mark S)) → FirstMeans means m xs → FirstMeans means m (edit_all from to added xs)
first-all means from to added m [] f = f
first-all means from to added m (x ∷ xs) f = by (nat_lt (0 + x.len) from)
  where
    by : (b : Bool) → means (if b then x else broken x (place_after from to added (first_kept from to (0 + x.len) xs))).state ≡ m
    by true = f
    by false = f

-- the law of an edit
module _ {S M : Type 0} (is_state : S → Type 0) (means : S → M) (r : Rules M) (t added : List ℕ) (from to : ℕ)
    (utf8 : IsUtf8 t) (added_utf8 : IsUtf8 added) (f : IsPlace t from) (o : IsPlace t to) (le : from ≤ to) where
  chain-of : (xs : List (Mark S)) → FirstMeans means r.first xs → Chain is_state means r t 0 xs → Chain is_state means r (edited t from to added) 0 (edit_all from to (length added) xs)
  chain-of [] g h = absurd g
  chain-of (x ∷ xs) g h = chain-all is_state means r t added from to utf8 added_utf8 f o le x xs h

  pub edit_holds : (k : Kept S) → MarksHold is_state means r t k → MarksHold is_state means r (edited t from to added) (edit_noted from to (length added) k)
  edit_holds k h =
      split-holds is_state means r (edited t from to added) (if nat_lt (frontier_of k) from then k.marked else true) (edit_all from to (length added) (all_of k)) k
      (first-all means from to (length added) r.first (all_of k) h.first) (chain-of (all_of k) h.first h.chain)
