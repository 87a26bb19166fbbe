-- Marks stay right under an edit.
use Rattle.std.proofs.Common.{◌≡◌, ℕ, ◌+◌, ◌-◌, ◌≤◌, Bool, true, false, nat_lt, List, [], ◌∷◌, length, refl, sym, ap, subst, ◌∙◌, arith}
use Rattle.std.specs.Prelude.{IsUtf8, if◌then◌else◌}
use Rattle.nx_base.specs.Text.{IsPlace, edited}
use Rattle.nx_base.specs.Rules.{Rules, Lexeme}
use Rattle.nx_base.specs.Running.{CutsTo, after_all}
use Rattle.nx_marks.specs.Chain.{FirstMeans, Segment, Link, Chain}
use Rattle.nx_marks.specs.Editing.{place_after, stays, is_apart, first_kept, broken, kept_mark, kept_marks, edit_all}
use Rattle.nx_marks.specs.declared.mark.Mark.{Mark}
use Rattle.nx_marks.proofs.Places.{below, moved-before, moved-behind, moved-grows, Apart, before, behind, apart, stays-before, stays-behind, size, cuts-size, cuts-before, cuts-behind, edited-length}

pub first-ge : {S : Type 0} (from to p : ℕ) (xs : List (Mark S)) → p ≤ first_kept from to p xs
first-ge from to p [] = omega arith
first-ge from to p (x ∷ xs) = by (stays from to p) (first-ge from to (p + x.len) xs)
  where
    by : (b : Bool) → p + x.len ≤ first_kept from to (p + x.len) xs → p ≤ (if b then p else first_kept from to (p + x.len) xs)
    by true rest = omega arith
    by false rest = omega arith

pub first-stays : {S : Type 0} (from to p : ℕ) (xs : List (Mark S)) → stays from to p ≡ true → first_kept from to p xs ≡ p
first-stays from to p [] h = refl
first-stays from to p (x ∷ xs) h = rw h refl

module _ {S M : Type 0} (means : S → M) where
  -- a mark that is kept has its state
  pub kept-means : (from to added p q : ℕ) (x : Mark S) (m : M) (xs : List (Mark S)) → means x.state ≡ m → FirstMeans means m (kept_mark from to added p x q ∷ xs)
  kept-means from to added p q x m xs h = by (is_apart from to p x.len)
    where
      by : (b : Bool) → means (if b then x else broken x (place_after from to added q - place_after from to added p)).state ≡ m
      by true = h
      by false = h

  pub first-means : (from to added p : ℕ) (xs : List (Mark S)) (m : M) → stays from to p ≡ true → FirstMeans means m xs → FirstMeans means m (kept_marks from to added p xs)
  first-means from to added p [] m h f = f
  first-means from to added p (x ∷ xs) m h f =
      let P : List (Mark S) → Type 0 = λ ys. FirstMeans means m ys in
      by (stays from to p) h
    where
      by : (b : Bool) → b ≡ true → FirstMeans means m (if b then kept_mark from to added p x (first_kept from to (p + x.len) xs) ∷ kept_marks from to added (p + x.len) xs else kept_marks from to added (p + x.len) xs)
      by true e = kept-means from to added p (first_kept from to (p + x.len) xs) x m (kept_marks from to added (p + x.len) xs) f
      by false e = absurd (cc)

-- a mark whose segment is right leads a chain on
pub record Whole {S M : Type 0} (means : S → M) (r : Rules M) (t : List ℕ) (p : ℕ) (x : Mark S) (xs : List (Mark S)) : Type 0 where
  pub tokens : List Lexeme
  pub segment : Segment r t p (means x.state) x.len x.tags x.faults tokens
  pub leads : FirstMeans means (after_all r (means x.state) tokens) xs

pub linked : {S M : Type 0} (means : S → M) (r : Rules M) (t : List ℕ) (p : ℕ) (b : Bool) (x : Mark S) (xs : List (Mark S)) → Whole means r t p x xs → Link means r t p b x xs
linked means r t p true x xs w = (w.tokens, (w.segment, w.leads))
linked means r t p false x xs w = tt

pub whole-link : {S M : Type 0} (means : S → M) (r : Rules M) (t : List ℕ) (p : ℕ) (b : Bool) (x : Mark S) (xs : List (Mark S)) → b ≡ true → Link means r t p b x xs → Whole means r t p x xs
whole-link means r t p true x xs e h = record { tokens = h.0; segment = h.1.0; leads = h.1.1 }
whole-link means r t p false x xs e h = absurd (cc)

pub open-ended : {S M : Type 0} (means : S → M) (r : Rules M) (t : List ℕ) (p : ℕ) (b : Bool) (x : Mark S) (xs : List (Mark S)) → b ≡ false → Link means r t p b x xs
open-ended means r t p true x xs e = absurd (cc)
open-ended means r t p false x xs e = tt

module _ {S M : Type 0} (is_state : S → Type 0) (means : S → M) (r : Rules M) (t added : List ℕ) (from to : ℕ)
    (utf8 : IsUtf8 t) (added_utf8 : IsUtf8 added) (f : IsPlace t from) (o : IsPlace t to) (le : from ≤ to) where
  -- the segment in the new text, and where it ends
  record Shifted (p : ℕ) (len : ℕ) (ks : List Lexeme) : Type 0 where
    cuts : CutsTo (edited t from to added) (place_after from to (length added) p) ks (place_after from to (length added) p + len)
    end : place_after from to (length added) (p + len) ≡ place_after from to (length added) p + len
    stays_on : stays from to (p + len) ≡ true

  shifted : (p len : ℕ) (ks : List Lexeme) → Apart from to p len → CutsTo t p ks (p + len) → Shifted p len ks
  shifted p len ks (before lt) h =
      let e : place_after from to (length added) p ≡ p = moved-before from to (length added) p (omega arith) in
      let e2 : place_after from to (length added) (p + len) ≡ p + len = moved-before from to (length added) (p + len) lt in
      let P : ℕ → Type 0 = λ n. CutsTo (edited t from to added) n ks (n + len) in
      record {
        cuts = subst P (sym e) (cuts-before t added from to utf8 added_utf8 f o le p (p + len) ks lt h);
        end = omega arith;
        stays_on = stays-before from to (p + len) lt;
      }
  shifted p len ks (behind lt) h =
      let e : place_after from to (length added) p ≡ from + length added + (p - to) = moved-behind from to (length added) p (omega arith) in
      let e2 : place_after from to (length added) (p + len) ≡ from + length added + (p + len - to) = moved-behind from to (length added) (p + len) (omega arith) in
      let n = cuts-size t p (p + len) ks h in
      let same : place_after from to (length added) p + size ks ≡ place_after from to (length added) p + len = omega arith in
      let P : ℕ → Type 0 = λ q. CutsTo (edited t from to added) (place_after from to (length added) p) ks q in
      record {
        cuts = subst P same (cuts-behind t added from to utf8 added_utf8 f o le p (p + len) ks lt h);
        end = omega arith;
        stays_on = stays-behind from to (p + len) (omega arith);
      }

  record ApartEnd (p len : ℕ) : Type 0 where
    end : place_after from to (length added) (p + len) ≡ place_after from to (length added) p + len
    stays_on : stays from to (p + len) ≡ true

  apart-end : (p len : ℕ) → Apart from to p len → ApartEnd p len
  apart-end p len (before lt) =
      let e : place_after from to (length added) p ≡ p = moved-before from to (length added) p (omega arith) in
      let e2 : place_after from to (length added) (p + len) ≡ p + len = moved-before from to (length added) (p + len) lt in
      record { end = omega arith; stays_on = stays-before from to (p + len) lt }
  apart-end p len (behind lt) =
      let e : place_after from to (length added) p ≡ from + length added + (p - to) = moved-behind from to (length added) p (omega arith) in
      let e2 : place_after from to (length added) (p + len) ≡ from + length added + (p + len - to) = moved-behind from to (length added) (p + len) (omega arith) in
      record { end = omega arith; stays_on = stays-behind from to (p + len) (omega arith) }

  segment-shifted : (p : ℕ) (m : M) (x : Mark S) (ks : List Lexeme) → Apart from to p x.len → Segment r t p m x.len x.tags x.faults ks →
      Segment r (edited t from to added) (place_after from to (length added) p) m x.len x.tags x.faults ks
  segment-shifted p m x ks a h =
      record { back = h.back; cuts = (shifted p x.len ks a h.cuts).cuts; tags_are = h.tags_are; faults_are = h.faults_are; sparse = h.sparse }

  -- one mark that stays, before the others that do
  kept-one : (p : ℕ) (x : Mark S) (xs : List (Mark S)) → is_state x.state → Link means r t p x.whole x xs →
      Chain is_state means r (edited t from to added) (place_after from to (length added) (first_kept from to (p + x.len) xs)) (kept_marks from to (length added) (p + x.len) xs) →
      Chain is_state means r (edited t from to added) (place_after from to (length added) p)
      (kept_mark from to (length added) p x (first_kept from to (p + x.len) xs) ∷ kept_marks from to (length added) (p + x.len) xs)
  kept-one p x xs own link rest = by x.whole refl (is_apart from to p x.len) refl
    where
      goes : Mark S → Type 0
      goes y = Chain is_state means r (edited t from to added) (place_after from to (length added) p) (y ∷ kept_marks from to (length added) (p + x.len) xs)

      cut_off : goes (broken x (place_after from to (length added) (first_kept from to (p + x.len) xs) - place_after from to (length added) p))
      cut_off =
          let ge = first-ge from to (p + x.len) xs in
          let grows = moved-grows from to (length added) p (first_kept from to (p + x.len) xs) le (omega arith) in
          let e : place_after from to (length added) (first_kept from to (p + x.len) xs) ≡ place_after from to (length added) p + (place_after from to (length added) (first_kept from to (p + x.len) xs) - place_after from to (length added) p) = omega arith in
          let P : ℕ → Type 0 = λ n. Chain is_state means r (edited t from to added) n (kept_marks from to (length added) (p + x.len) xs) in
          (own, (tt, subst P e rest))

      by : (b : Bool) → x.whole ≡ b → (a : Bool) → is_apart from to p x.len ≡ a →
          goes (if a then x else broken x (place_after from to (length added) (first_kept from to (p + x.len) xs) - place_after from to (length added) p))
      by true e true i =
          let w = whole-link means r t p x.whole x xs e link in
          let s = shifted p x.len w.tokens (apart from to p x.len i) w.segment.cuts in
          let on : first_kept from to (p + x.len) xs ≡ p + x.len = first-stays from to (p + x.len) xs s.stays_on in
          let there : place_after from to (length added) (first_kept from to (p + x.len) xs) ≡ place_after from to (length added) p + x.len = ap (place_after from to (length added)) on ∙ s.end in
          let P : ℕ → Type 0 = λ n. Chain is_state means r (edited t from to added) n (kept_marks from to (length added) (p + x.len) xs) in (
            own,
            (
              linked means r (edited t from to added) (place_after from to (length added) p) x.whole x (kept_marks from to (length added) (p + x.len) xs) (record {
                tokens = w.tokens;
                segment = segment-shifted p (means x.state) x w.tokens (apart from to p x.len i) w.segment;
                leads = first-means means from to (length added) (p + x.len) xs (after_all r (means x.state) w.tokens) s.stays_on w.leads;
              }),
              subst P there rest,
            ),
          )
      by false e true i =
          let s = apart-end p x.len (apart from to p x.len i) in
          let on : first_kept from to (p + x.len) xs ≡ p + x.len = first-stays from to (p + x.len) xs s.stays_on in
          let there : place_after from to (length added) (first_kept from to (p + x.len) xs) ≡ place_after from to (length added) p + x.len = ap (place_after from to (length added)) on ∙ s.end in
          let P : ℕ → Type 0 = λ n. Chain is_state means r (edited t from to added) n (kept_marks from to (length added) (p + x.len) xs) in
          (own, (open-ended means r (edited t from to added) (place_after from to (length added) p) x.whole x (kept_marks from to (length added) (p + x.len) xs) e, subst P there rest))
      by b e false i = cut_off

  -- marks that stay are right
  pub chain-kept : (p : ℕ) (xs : List (Mark S)) → Chain is_state means r t p xs →
      Chain is_state means r (edited t from to added) (place_after from to (length added) (first_kept from to p xs)) (kept_marks from to (length added) p xs)
  chain-kept p [] h = by (nat_lt p from) refl
    where
      by : (b : Bool) → nat_lt p from ≡ b → (if b then p else from + length added + (p - to)) ≤ length (edited t from to added)
      by true e = let n = edited-length t added from to utf8 added_utf8 f o le in let lt = below p from e in omega arith
      by false e = let n = edited-length t added from to utf8 added_utf8 f o le in omega (arith, o.0)
  chain-kept p (x ∷ xs) h = by (stays from to p) (chain-kept (p + x.len) xs h.1.1)
    where
      by : (b : Bool) → Chain is_state means r (edited t from to added) (place_after from to (length added) (first_kept from to (p + x.len) xs)) (kept_marks from to (length added) (p + x.len) xs) →
          Chain is_state means r (edited t from to added) (place_after from to (length added) (if b then p else first_kept from to (p + x.len) xs))
          (if b then kept_mark from to (length added) p x (first_kept from to (p + x.len) xs) ∷ kept_marks from to (length added) (p + x.len) xs else kept_marks from to (length added) (p + x.len) xs)
      by true rest = kept-one p x xs h.0 h.1.0 rest
      by false rest = rest

  -- the start stays
  pub chain-all : (x : Mark S) (xs : List (Mark S)) → Chain is_state means r t 0 (x ∷ xs) → Chain is_state means r (edited t from to added) 0 (edit_all from to (length added) (x ∷ xs))
  chain-all x xs h = by x.whole refl (nat_lt (0 + x.len) from) refl (chain-kept (0 + x.len) xs h.1.1)
    where
      cut_off : Chain is_state means r (edited t from to added) (place_after from to (length added) (first_kept from to (0 + x.len) xs)) (kept_marks from to (length added) (0 + x.len) xs) →
          Chain is_state means r (edited t from to added) 0 (broken x (place_after from to (length added) (first_kept from to (0 + x.len) xs)) ∷ kept_marks from to (length added) (0 + x.len) xs)
      cut_off rest =
          let e : place_after from to (length added) (first_kept from to (0 + x.len) xs) ≡ 0 + place_after from to (length added) (first_kept from to (0 + x.len) xs) = omega arith in
          let P : ℕ → Type 0 = λ n. Chain is_state means r (edited t from to added) n (kept_marks from to (length added) (0 + x.len) xs) in
          (h.0, (tt, subst P e rest))

      by : (b : Bool) → x.whole ≡ b → (a : Bool) → nat_lt (0 + x.len) from ≡ a →
          Chain is_state means r (edited t from to added) (place_after from to (length added) (first_kept from to (0 + x.len) xs)) (kept_marks from to (length added) (0 + x.len) xs) →
          Chain is_state means r (edited t from to added) 0
          ((if a then x else broken x (place_after from to (length added) (first_kept from to (0 + x.len) xs))) ∷ kept_marks from to (length added) (0 + x.len) xs)
      by true e true i rest =
          let lt = below (0 + x.len) from i in
          let w = whole-link means r t 0 x.whole x xs e h.1.0 in
          let here : place_after from to (length added) 0 ≡ 0 = moved-before from to (length added) 0 (omega arith) in
          let on : first_kept from to (0 + x.len) xs ≡ 0 + x.len = first-stays from to (0 + x.len) xs (stays-before from to (0 + x.len) lt) in
          let there : place_after from to (length added) (first_kept from to (0 + x.len) xs) ≡ 0 + x.len = ap (place_after from to (length added)) on ∙ moved-before from to (length added) (0 + x.len) lt in
          let P : ℕ → Type 0 = λ n. Chain is_state means r (edited t from to added) n (kept_marks from to (length added) (0 + x.len) xs) in
          let Q : ℕ → Type 0 = λ n. Segment r (edited t from to added) n (means x.state) x.len x.tags x.faults w.tokens in (
            h.0,
            (
              linked means r (edited t from to added) 0 x.whole x (kept_marks from to (length added) (0 + x.len) xs) (record {
                tokens = w.tokens;
                segment = subst Q here (segment-shifted 0 (means x.state) x w.tokens (before lt) w.segment);
                leads = first-means means from to (length added) (0 + x.len) xs (after_all r (means x.state) w.tokens) (stays-before from to (0 + x.len) lt) w.leads;
              }),
              subst P there rest,
            ),
          )
      by false e true i rest =
          let lt = below (0 + x.len) from i in
          let on : first_kept from to (0 + x.len) xs ≡ 0 + x.len = first-stays from to (0 + x.len) xs (stays-before from to (0 + x.len) lt) in
          let there : place_after from to (length added) (first_kept from to (0 + x.len) xs) ≡ 0 + x.len = ap (place_after from to (length added)) on ∙ moved-before from to (length added) (0 + x.len) lt in
          let P : ℕ → Type 0 = λ n. Chain is_state means r (edited t from to added) n (kept_marks from to (length added) (0 + x.len) xs) in
          (h.0, (open-ended means r (edited t from to added) 0 x.whole x (kept_marks from to (length added) (0 + x.len) xs) e, subst P there rest))
      by b e false i rest = cut_off rest
