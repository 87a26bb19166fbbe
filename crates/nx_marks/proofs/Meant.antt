-- What is kept, with what its states mean in their places, is what is kept.
use Rattle.std.proofs.Common.{◌≡◌, ◌⊎◌, inl, inr, ℕ, suc, ◌+◌, ◌-◌, Bool, true, false, nat_lt, List, [], ◌∷◌, ◌++◌, length, refl, sym, ap, subst, ◌∙◌, arith}
use Rattle.std.specs.Prelude.{if◌then◌else◌}
use Rattle.nx_base.specs.Rules.{Rules, LaterLaws}
use Rattle.nx_base.specs.Running.{CutsTo, after_all}
use Rattle.nx_marks.specs.Bound.{row_len, WillReach}
use Rattle.nx_marks.specs.Chain.{FirstMeans, Link, Chain, AreWhole, Kept, all_of, frontier_of, reach}
use Rattle.nx_marks.specs.Editing.{place_after, stays, is_apart, first_kept, broken, kept_mark, kept_marks, edit_all, split, split_all, noted, edit_noted, edit_kept}
use Rattle.nx_marks.specs.Keeping.{places_from, places_of, next_of, IsAmong, Stands, AreCalledFor, last_of, LeadsTo, AreUsed, KeepsMarks}
use Rattle.nx_marks.specs.Meant.{mark_by, marks_by, kept_by, is_any, itself}
use Rattle.nx_marks.specs.Right.{IsRight, NonePends, tags_behind}
use Rattle.nx_marks.specs.Ruling.{is_due}
use Rattle.nx_marks.specs.declared.mark.Mark.{Mark}
use Rattle.nx_marks.proofs.Keeping.{standing, standing-is, called-more}
use Rattle.nx_marks.proofs.Taking.{chain-tail}

-- ---- an edit

module _ {S M : Type 0} (f : S → M) where
  pub reach_by : (xs : List (Mark S)) → reach (marks_by f xs) ≡ reach xs
  reach_by [] = refl
  reach_by (x ∷ xs) = ap (λ n. x.len + n) (reach_by xs)

  pub append_by : (xs ys : List (Mark S)) → marks_by f (xs ++ ys) ≡ marks_by f xs ++ marks_by f ys
  append_by [] ys = refl
  append_by (x ∷ xs) ys = ap (λ l. mark_by f x ∷ l) (append_by xs ys)

  all_by : (k : Kept S) → all_of (kept_by f k) ≡ marks_by f (all_of k)
  all_by k = sym (append_by k.front (k.here ∷ k.aside))

  first_kept_by : (from to p : ℕ) (xs : List (Mark S)) → first_kept from to p (marks_by f xs) ≡ first_kept from to p xs
  first_kept_by from to p [] = refl
  first_kept_by from to p (x ∷ xs) = ap (λ n. if stays from to p then p else n) (first_kept_by from to (p + x.len) xs)

  chosen : (b : Bool) (x y : Mark S) → (if b then mark_by f x else mark_by f y) ≡ mark_by f (if b then x else y)
  chosen true x y = refl
  chosen false x y = refl

  kept_mark_by : (from to added p q : ℕ) (x : Mark S) → kept_mark from to added p (mark_by f x) q ≡ mark_by f (kept_mark from to added p x q)
  kept_mark_by from to added p q x = chosen (is_apart from to p x.len) x (broken x (place_after from to added q - place_after from to added p))

  kept_marks_by : (from to added p : ℕ) (xs : List (Mark S)) → kept_marks from to added p (marks_by f xs) ≡ marks_by f (kept_marks from to added p xs)
  kept_marks_by from to added p [] = refl
  kept_marks_by from to added p (x ∷ xs) = by (stays from to p) (kept_marks_by from to added (p + x.len) xs)
    where
      by : (b : Bool) → kept_marks from to added (p + x.len) (marks_by f xs) ≡ marks_by f (kept_marks from to added (p + x.len) xs) →
          (if b then kept_mark from to added p (mark_by f x) (first_kept from to (p + x.len) (marks_by f xs)) ∷ kept_marks from to added (p + x.len) (marks_by f xs)
          else kept_marks from to added (p + x.len) (marks_by f xs))
          ≡ marks_by f (if b then kept_mark from to added p x (first_kept from to (p + x.len) xs) ∷ kept_marks from to added (p + x.len) xs else kept_marks from to added (p + x.len) xs)
      by true e =
          ap (λ y. y ∷ kept_marks from to added (p + x.len) (marks_by f xs))
          (ap (kept_mark from to added p (mark_by f x)) (first_kept_by from to (p + x.len) xs) ∙ kept_mark_by from to added p (first_kept from to (p + x.len) xs) x)
          ∙ ap (λ l. mark_by f (kept_mark from to added p x (first_kept from to (p + x.len) xs)) ∷ l) e
      by false e = e

  edit_all_by : (from to added : ℕ) (xs : List (Mark S)) → edit_all from to added (marks_by f xs) ≡ marks_by f (edit_all from to added xs)
  edit_all_by from to added [] = refl
  edit_all_by from to added (x ∷ xs) =
      let rest : List (Mark M) = kept_marks from to added (0 + x.len) (marks_by f xs) in
      ap (λ n. (if nat_lt (0 + x.len) from then mark_by f x else broken (mark_by f x) (place_after from to added n)) ∷ rest) (first_kept_by from to (0 + x.len) xs)
      ∙ ap (λ y. y ∷ rest) (chosen (nat_lt (0 + x.len) from) x (broken x (place_after from to added (first_kept from to (0 + x.len) xs))))
      ∙ ap (λ l. mark_by f (if nat_lt (0 + x.len) from then x else broken x (place_after from to added (first_kept from to (0 + x.len) xs))) ∷ l) (kept_marks_by from to added (0 + x.len) xs)

  split_by : (marked : Bool) (x : Mark S) (ys : List (Mark S)) → split marked (mark_by f x) (marks_by f ys) ≡ kept_by f (split marked x ys)
  split_by marked x [] = refl
  split_by marked x (y ∷ ys) = by x.whole (split_by marked y ys)
    where
      by : (b : Bool) → split marked (mark_by f y) (marks_by f ys) ≡ kept_by f (split marked y ys) →
          (if b then (let k = split marked (mark_by f y) (marks_by f ys) in record k { front = mark_by f x ∷ k.front })
          else record { front = []; here = mark_by f x; marked = marked; aside = mark_by f y ∷ marks_by f ys })
          ≡ kept_by f (if b then (let k = split marked y ys in record k { front = x ∷ k.front }) else record { front = []; here = x; marked = marked; aside = y ∷ ys })
      by true e = ap (λ (k : Kept M). record k { front = mark_by f x ∷ k.front }) e
      by false e = refl

  split_all_by : (k : Kept S) (marked : Bool) (xs : List (Mark S)) → split_all (kept_by f k) marked (marks_by f xs) ≡ kept_by f (split_all k marked xs)
  split_all_by k marked [] = refl
  split_all_by k marked (x ∷ xs) = split_by marked x xs

  edit_noted_by : (from to added : ℕ) (k : Kept S) → edit_noted from to added (kept_by f k) ≡ kept_by f (edit_noted from to added k)
  edit_noted_by from to added k =
      let marked : ℕ → Bool = λ n. if nat_lt n from then k.marked else true in
      ap (λ n. split_all (kept_by f k) (marked n) (edit_all from to added (all_of (kept_by f k)))) (reach_by k.front)
      ∙ ap (λ l. split_all (kept_by f k) (marked (frontier_of k)) (edit_all from to added l)) (all_by k)
      ∙ ap (split_all (kept_by f k) (marked (frontier_of k))) (edit_all_by from to added (all_of k))
      ∙ split_all_by k (marked (frontier_of k)) (edit_all from to added (all_of k))

  -- an edit looks at no state
  pub edit_kept_by : (from to added : ℕ) (k : Kept S) → edit_kept from to added (kept_by f k) ≡ kept_by f (edit_kept from to added k)
  edit_kept_by from to added k = edit_noted_by from to added (noted k)

  -- ---- places

  places_from_by : (p : ℕ) (xs : List (Mark S)) → places_from p (marks_by f xs) ≡ places_from p xs
  places_from_by p [] = refl
  places_from_by p (x ∷ xs) = ap (λ l. p ∷ l) (places_from_by (p + x.len) xs)

  standing_by : (front : List (Mark S)) (marked : Bool) → standing (marks_by f front) marked ≡ standing front marked
  standing_by front true = ap (λ l. l ++ reach (marks_by f front) ∷ []) (places_from_by 0 front) ∙ ap (λ n. places_from 0 front ++ n ∷ []) (reach_by front)
  standing_by front false = places_from_by 0 front

  pub places_by : (k : Kept S) → places_of (kept_by f k) ≡ places_of k
  places_by k = standing-is (marks_by f k.front) (mark_by f k.here) k.marked ∙ standing_by k.front k.marked ∙ sym (standing-is k.front k.here k.marked)

  pub next_by : (k : Kept S) → next_of (kept_by f k) ≡ next_of k
  next_by k = ap (λ n. n + k.here.len) (reach_by k.front)

-- ---- reading on

module _ {S M : Type 0} (f g : S → M) (r : Rules M) (t : List ℕ) where
  leads_by : (p : ℕ) (s : S) → LeadsTo f r t p s → LeadsTo itself r t p (f s)
  leads_by p s w = record { tokens = w.tokens; cuts = w.cuts; meaning = w.meaning }

  led_by : (p : ℕ) (s : S) → LeadsTo itself r t p (f s) → LeadsTo f r t p s
  led_by p s w = record { tokens = w.tokens; cuts = w.cuts; meaning = w.meaning }

  stands_by : (at p : ℕ) (xs : List (Mark S)) → Stands f r t at p xs → Stands itself r t at p (marks_by f xs)
  stands_by at p [] h = h
  stands_by at p (x ∷ xs) (inl h) = inl (h.0, h.1, leads_by p x.state h.2)
  stands_by at p (x ∷ xs) (inr h) = inr (stands_by at (p + x.len) xs h)

  used_by : (now : List ℕ) (p : ℕ) (xs : List (Mark S)) → AreUsed f r t now p xs → AreUsed itself r t now p (marks_by f xs)
  used_by now p [] h = tt
  used_by now p (x ∷ xs) h = ((λ m. by (h.0 m)), used_by now (p + x.len) xs h.1)
    where
      by : IsAmong p now ⊎ (LeadsTo f r t p x.state → ⊥) → IsAmong p now ⊎ (LeadsTo itself r t p (f x.state) → ⊥)
      by (inl i) = inl i
      by (inr never) = inr (λ w. never (led_by p x.state w))

  -- it is the same of meanings, where `g` tells what the states mean that are kept afterwards
  pub keeps_by : (old new : Kept S) → marks_by g new.aside ≡ marks_by f new.aside → KeepsMarks f r t old new → KeepsMarks itself r t (kept_by f old) (kept_by g new)
  keeps_by old new same h =
      let D : ℕ → ℕ → Type 0 = λ n q. AreCalledFor r t (λ at. Stands itself r t at n (marks_by f old.aside)) q h.more in
      let U : List ℕ → ℕ → Type 0 = λ l n. AreUsed itself r t l n (marks_by f h.gone) in
      let due = called-more r t (λ at. Stands f r t at (next_of old) old.aside) (λ at. Stands itself r t at (next_of old) (marks_by f old.aside)) (last_of 0 (places_of old)) h.more
      (λ at s. stands_by at (next_of old) old.aside s) h.due in
      let now : places_of (kept_by g new) ≡ places_of new = places_by g new in
      record {
        more = h.more;
        stay = now ∙ h.stay ∙ ap (λ l. l ++ h.more) (sym (places_by f old));
        due = subst (λ (n : ℕ). D n (last_of 0 (places_of (kept_by f old)))) (sym (next_by f old)) (subst (λ (l : List ℕ). D (next_of old) (last_of 0 l)) (sym (places_by f old)) due);
        gone = marks_by f h.gone;
        aside = ap (marks_by f) h.aside ∙ append_by f h.gone new.aside ∙ ap (λ l. marks_by f h.gone ++ l) (sym same);
        next = far h.next;
        used = subst (λ (l : List ℕ). U l (next_of (kept_by f old))) (sym now) (subst (λ (n : ℕ). U (places_of new) n) (sym (next_by f old)) (used_by (places_of new) (next_of old) h.gone h.used));
      }
    where
      far : (new.aside ≡ []) ⊎ (next_of new ≡ next_of old + reach h.gone) →
          (marks_by g new.aside ≡ []) ⊎ (next_of (kept_by g new) ≡ next_of (kept_by f old) + reach (marks_by f h.gone))
      far (inl none) = inl (ap (marks_by g) none)
      far (inr e) = inr (let a = next_by g new in let b = next_by f old in let c = reach_by f h.gone in omega arith)

module _ {S M : Type 0} (f : S → M) (r : Rules M) (t : List ℕ) where
  first_by : (m : M) (xs : List (Mark S)) → FirstMeans f m xs → FirstMeans itself m (marks_by f xs)
  first_by m [] h = h
  first_by m (x ∷ xs) h = h

  first_of : (m : M) (xs : List (Mark S)) → FirstMeans itself m (marks_by f xs) → FirstMeans f m xs
  first_of m [] h = h
  first_of m (x ∷ xs) h = h

  row_by : (xs : List (Mark S)) → row_len (marks_by f xs) ≡ row_len xs
  row_by [] = refl
  row_by (x ∷ xs) = ap (λ (k : Kept M). reach k.front) (split_by f true x xs) ∙ reach_by f (split true x xs).front

  -- where meanings will be joined, states will
  pub will_by : (n end : ℕ) (k : Kept S) → WillReach itself r t n end (kept_by f k) → WillReach f r t n end k
  will_by n end k w =
      let at : frontier_of (kept_by f k) ≡ frontier_of k = reach_by f k.front in
      let C : ℕ → Type 0 = λ p. CutsTo t p w.left (p + k.here.len) in
      record {
        left = w.left;
        cuts = subst C at w.cuts;
        first = first_of (after_all r (f k.here.state) w.left) k.aside w.first;
        row = (let a = w.row in let b = row_by k.aside in omega arith);
        count = w.count;
      }

  -- what is right is right of meanings
  link_by : (is_state : S → Type 0) (p : ℕ) (b : Bool) (x : Mark S) (xs : List (Mark S)) → Link f r t p b x xs → Link itself r t p b (mark_by f x) (marks_by f xs)
  link_by is_state p false x xs h = tt
  link_by is_state p true x xs h = (h.0, (h.1.0, first_by (after_all r (f x.state) h.0) xs h.1.1))

  chain_by : (is_state : S → Type 0) (p : ℕ) (xs : List (Mark S)) → Chain is_state f r t p xs → Chain is_any itself r t p (marks_by f xs)
  chain_by is_state p [] h = h
  chain_by is_state p (x ∷ xs) h = (tt, (link_by is_state p x.whole x xs h.1.0, chain_by is_state (p + x.len) xs h.1.1))

  whole_by : (xs : List (Mark S)) → AreWhole xs → AreWhole (marks_by f xs)
  whole_by [] h = tt
  whole_by (x ∷ xs) h = (h.0, whole_by xs h.1)

  pends_by : (xs : List (Mark S)) → NonePends f r xs → NonePends itself r (marks_by f xs)
  pends_by [] h = tt
  pends_by (x ∷ xs) h = (h.0, pends_by xs h.1)

  tags_by : (xs : List (Mark S)) → tags_behind (marks_by f xs) ≡ tags_behind xs
  tags_by [] = refl
  tags_by (x ∷ []) = refl
  tags_by (x ∷ y ∷ ys) = tags_by (y ∷ ys)

  length_by : (xs : List (Mark S)) → length (marks_by f xs) ≡ length xs
  length_by [] = refl
  length_by (x ∷ xs) = ap suc (length_by xs)

  pub right_by : (is_state : S → Type 0) (k : Kept S) → IsRight is_state f r t k → IsRight is_any itself r t (kept_by f k)
  right_by is_state k h =
      let A : List (Mark M) → Type 0 = λ l. FirstMeans itself r.first l in
      let C : List (Mark M) → Type 0 = λ l. Chain is_any itself r t 0 l in
      let D : ℕ → Type 0 = λ n. is_due r (f k.here.state) n ≡ false in
      record {
        holds = record {
          first = subst A (append_by f k.front (k.here ∷ k.aside)) (first_by r.first (all_of k) h.holds.first);
          chain = subst C (append_by f k.front (k.here ∷ k.aside)) (chain_by is_state 0 (all_of k) h.holds.chain);
          whole = whole_by k.front h.holds.whole;
          ends = h.holds.ends;
        };
        rule = record {
          rule = λ e. subst D (sym (tags_by k.front)) (h.rule.rule e);
          some = λ e. (let a = h.rule.some e in let b = length_by k.front in omega arith);
          mark = h.rule.mark;
          saved = pends_by k.aside h.rule.saved;
        };
      }

-- ---- later machines

abbrev with_meaning : {S M : Type 0} → Mark S → M → Mark M
with_meaning x m = record { state = m; len = x.len; tags = x.tags; faults = x.faults; whole = x.whole; saved = x.saved }

abbrev kept_of : {S : Type 0} → List (Mark S) → Mark S → Bool → List (Mark S) → Kept S
kept_of front here marked aside = record { front = front; here = here; marked = marked; aside = aside }

module _ {Self S M : Type 0} (later : Self → Self → Type 0) (is_state : Self → S → Type 0) (means : Self → S → M) (rules : Self → Rules M)
    (laws : LaterLaws later is_state means rules) where
  marks_later : (a b : Self) (r : Rules M) (t : List ℕ) (p : ℕ) (xs : List (Mark S)) → later a b → Chain (is_state a) (means a) r t p xs → marks_by (means b) xs ≡ marks_by (means a) xs
  marks_later a b r t p [] l h = refl
  marks_later a b r t p (x ∷ xs) l h =
      ap (λ (m : M). with_meaning x m ∷ marks_by (means b) xs) (laws.meaning a b x.state l h.0)
      ∙ ap (λ ys. mark_by (means a) x ∷ ys) (marks_later a b r t (p + x.len) xs l h.1.1)

  front_later : (a b : Self) (r : Rules M) (t : List ℕ) (p : ℕ) (xs ys : List (Mark S)) → later a b → Chain (is_state a) (means a) r t p (xs ++ ys) → marks_by (means b) xs ≡ marks_by (means a) xs
  front_later a b r t p [] ys l h = refl
  front_later a b r t p (x ∷ xs) ys l h =
      ap (λ (m : M). with_meaning x m ∷ marks_by (means b) xs) (laws.meaning a b x.state l h.0)
      ∙ ap (λ zs. mark_by (means a) x ∷ zs) (front_later a b r t (p + x.len) xs ys l h.1.1)

  -- a later machine gives the same meanings
  pub kept_later : (a b : Self) (r : Rules M) (t : List ℕ) (k : Kept S) → later a b → IsRight (is_state a) (means a) r t k → kept_by (means b) k ≡ kept_by (means a) k
  kept_later a b r t k l h =
      let tail = chain-tail (is_state a) (means a) r t 0 (0 + reach k.front) k.front (k.here ∷ k.aside) refl h.holds.chain in
      ap (λ (xs : List (Mark M)). kept_of xs (mark_by (means b) k.here) k.marked (marks_by (means b) k.aside)) (front_later a b r t 0 k.front (k.here ∷ k.aside) l h.holds.chain)
      ∙ ap (λ (m : M). kept_of (marks_by (means a) k.front) (with_meaning k.here m) k.marked (marks_by (means b) k.aside)) (laws.meaning a b k.here.state l tail.0)
      ∙ ap (λ (xs : List (Mark M)). kept_of (marks_by (means a) k.front) (mark_by (means a) k.here) k.marked xs) (marks_later a b r t (0 + reach k.front + k.here.len) k.aside l tail.1.1)

  -- what reading on does is the same of meanings, each by the machine of its time
  pub keeps_over : (a b : Self) (t : List ℕ) (old new : Kept S) → later a b → IsRight (is_state a) (means a) (rules a) t old → KeepsMarks (means a) (rules a) t old new →
      KeepsMarks itself (rules a) t (kept_by (means a) old) (kept_by (means b) new)
  keeps_over a b t old new l h g =
      let here : ℕ = 0 + reach old.front + old.here.len in
      let tail = chain-tail (is_state a) (means a) (rules a) t 0 (0 + reach old.front) old.front (old.here ∷ old.aside) refl h.holds.chain in
      let C : List (Mark S) → Type 0 = λ l. Chain (is_state a) (means a) (rules a) t here l in
      let left = chain-tail (is_state a) (means a) (rules a) t here (here + reach g.gone) g.gone new.aside refl (subst C g.aside tail.1.1) in
      keeps_by (means a) (means b) (rules a) t old new (marks_later a b (rules a) t (here + reach g.gone) new.aside l left) g
