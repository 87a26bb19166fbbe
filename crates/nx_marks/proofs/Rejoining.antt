-- Rows aside are joined.
use Rattle.std.proofs.Common.{◌≡◌, ◌⊎◌, inl, inr, ℕ, ◌+◌, ◌<◌, ◌≤◌, Bool, true, false, ◌||◌, List, [], ◌∷◌, ◌++◌, length, refl, sym, ap, subst, ◌∙◌, arith}
use Rattle.std.specs.Prelude.{IsUtf8, if◌then◌else◌}
use Rattle.nx_base.specs.Rules.{Rules, RulesLaws, Lexeme}
use Rattle.nx_base.specs.Running.{CutsTo, after_all}
use Rattle.nx_marks.specs.Bound.{WillReach}
use Rattle.nx_marks.specs.Chain.{FirstMeans, Chain, Kept, all_of, frontier_of, reach}
use Rattle.nx_marks.specs.Editing.{split}
use Rattle.nx_marks.specs.Keeping.{KeepsMarks}
use Rattle.nx_marks.specs.Rejoining.{Joins, RejoinsOne, Rejoins}
use Rattle.nx_marks.specs.Right.{IsRight, IsRightForSome, NonePends, tags_behind}
use Rattle.nx_marks.specs.Ruling.{is_due}
use Rattle.nx_marks.specs.Taking.{row_joined, marked_behind}
use Rattle.nx_marks.specs.Walking.{PassesNext, TakesNext, Follows, farther}
use Rattle.nx_marks.specs.declared.mark.Mark.{Mark}
use Rattle.nx_marks.proofs.Taking.{chain-tail, chain-with, first-with, open-link}
use Rattle.nx_marks.proofs.Rules.{rule-same}
use Rattle.nx_marks.proofs.Joining.{joined_right}
use Rattle.nx_marks.proofs.Bounding.{joined_all}
use Rattle.nx_marks.proofs.Keeping.{keeps_all, keeps_on, keeps_dropping, keeps_joined}
use Rattle.nx_marks.proofs.Stepping.{reach-append, all_within, own_states}

kept_of : {S : Type 0} → List (Mark S) → Mark S → Bool → List (Mark S) → Kept S
kept_of front here marked aside = record { front = front; here = here; marked = marked; aside = aside }

tags-some : {S : Type 0} (xs : List (Mark S)) (y : Mark S) (ys : List (Mark S)) → tags_behind (xs ++ y ∷ ys) ≡ tags_behind (y ∷ ys)
tags-some [] y ys = refl
tags-some (x ∷ []) y ys = refl
tags-some (x ∷ z ∷ xs) y ys = tags-some (z ∷ xs) y ys

length-both : {S : Type 0} (xs ys : List (Mark S)) → length (xs ++ ys) ≡ length xs + length ys
length-both [] ys = omega arith
length-both (x ∷ xs) ys = let e = length-both xs ys in omega arith

-- the row at hand, behind the marks that were in front
pub followed_row : {S : Type 0} (k a b : Kept S) (t : TakesNext k a) → Follows a b →
    b ≡ (let row = split k.marked t.mark t.behind in record { front = k.front ++ row.front; here = row.here; marked = k.marked; aside = row.aside })
followed_row {S = S} k a b t f =
    let P : Kept S → Type 0 = λ i. b ≡ (let row = split i.marked i.here i.aside in record { front = i.front ++ row.front; here = row.here; marked = i.marked; aside = row.aside }) in
    subst P t.is f

pub row_longer : {S : Type 0} (k a b : Kept S) → TakesNext k a → Follows a b → length k.front ≤ length b.front
row_longer {S = S} k a b t f =
    let n = ap (λ (i : Kept S). length i.front) (followed_row k a b t f) in
    let m = length-both k.front (split k.marked t.mark t.behind).front in
    omega arith

pub joins_without : {S M : Type 0} (means : S → M) (r : Rules M) (k a b : Kept S) → TakesNext k a → Follows a b → length b.front ≡ length k.front → Joins means r k (record { front = b.front; here = b.here; marked = b.marked || b.here.saved; aside = b.aside })
unfolding kept_of
joins_without {S = S} means r k a b t f same =
    let row = split k.marked t.mark t.behind in
    let is = followed_row k a b t f in
    let n = ap (λ (i : Kept S). length i.front) is in
    let m = length-both k.front row.front in
    record {
      mark = t.mark;
      behind = t.behind;
      are = t.are;
      is = ap (λ (i : Kept S). kept_of i.front i.here (i.marked || i.here.saved) i.aside) is ∙ ap (λ c. kept_of (k.front ++ row.front) row.here c row.aside) (by row.front (omega arith));
    }
  where
    by : (l : List (Mark S)) → length l ≡ 0 → (k.marked || (split k.marked t.mark t.behind).here.saved) ≡ marked_behind means r k.marked (split k.marked t.mark t.behind).here l
    by [] e = refl
    by (x ∷ xs) e = absurd (omega arith)

pub joins_with : {S M : Type 0} (means : S → M) (r : Rules M) (k a b : Kept S) (due : Bool) → TakesNext k a → Follows a b → length k.front < length b.front → due ≡ is_due r (means b.here.state) (tags_behind b.front) →
    Joins means r k (record { front = b.front; here = b.here; marked = b.here.saved || due; aside = b.aside })
unfolding kept_of
joins_with {S = S} {M = M} means r k a b due t f more is_it =
    let row = split k.marked t.mark t.behind in
    let is = followed_row k a b t f in
    let n = ap (λ (i : Kept S). length i.front) is in
    let m = length-both k.front row.front in
    let front : b.front ≡ k.front ++ row.front = ap (λ (i : Kept S). i.front) is in
    let here : b.here ≡ row.here = ap (λ (i : Kept S). i.here) is in
    let aside : b.aside ≡ row.aside = ap (λ (i : Kept S). i.aside) is in
    let due_is : (b.here.saved || due) ≡ marked_behind means r k.marked row.here row.front =
    ap (λ c. b.here.saved || c) is_it ∙ ap (λ (x : Mark S). x.saved || is_due r (means x.state) (tags_behind b.front)) here ∙ ap (λ l. row.here.saved || is_due r (means row.here.state) (tags_behind l)) front ∙ by row.front (omega arith) in
    record {
      mark = t.mark;
      behind = t.behind;
      are = t.are;
      is = ap (λ l. kept_of l b.here (b.here.saved || due) b.aside) front ∙ ap (λ x. kept_of (k.front ++ row.front) x (b.here.saved || due) b.aside) here ∙ ap (λ c. kept_of (k.front ++ row.front) row.here c b.aside) due_is
          ∙ ap (kept_of (k.front ++ row.front) row.here (marked_behind means r k.marked row.here row.front)) aside;
    }
  where
    by : (l : List (Mark S)) → 0 < length l → ((split k.marked t.mark t.behind).here.saved || is_due r (means (split k.marked t.mark t.behind).here.state) (tags_behind (k.front ++ l))) ≡ marked_behind means r k.marked (split k.marked t.mark t.behind).here l
    by [] e = absurd (omega arith)
    by (x ∷ xs) e = ap (λ n. (split k.marked t.mark t.behind).here.saved || is_due r (means (split k.marked t.mark t.behind).here.state) n) (tags-some k.front x xs)

-- several of them
pub record Rejoining {S M : Type 0} (is_state : S → Type 0) (means : S → M) (r : Rules M) (old now : Kept S) : Type 0 where
  pub right : (t : List ℕ) → IsUtf8 t → IsRight is_state means r t old → IsRight is_state means r t now
  pub further : frontier_of old ≤ frontier_of now
  pub joins : (t : List ℕ) (end : ℕ) → IsUtf8 t → WillReach means r t 0 end old → (now ≡ old) ⊎ (end ≤ frontier_of now)
  pub keeps : (t : List ℕ) → IsUtf8 t → IsRight is_state means r t old → KeepsMarks means r t old now
  pub waits : 0 < old.here.len → now ≡ old

module _ {S M : Type 0} (is_state : S → Type 0) (means : S → M) (r : Rules M) (laws : RulesLaws r) where
  first-of : (k : Kept S) (y : Mark S) (ys : List (Mark S)) (m : M) → k.aside ≡ y ∷ ys → FirstMeans means m k.aside → means y.state ≡ m
  first-of k y ys m e f = let P : List (Mark S) → Type 0 = λ l. FirstMeans means m l in subst P e f

  -- what is joined is right
  pub joins_right : (t : List ℕ) (k j : Kept S) → Joins means r k j → k.here.len ≡ 0 → FirstMeans means (means k.here.state) k.aside → IsRight is_state means r t k → IsRight is_state means r t j
  joins_right t k j s here f h =
      let P : Kept S → Type 0 = λ i. IsRight is_state means r t i in
      subst P (sym s.is) (joined_right is_state means r t laws k s.mark s.behind s.are here (first-of k s.mark s.behind (means k.here.state) s.are f) h)

  -- the state at the row's end is the machine's
  pub end_own : (t : List ℕ) (k a b : Kept S) (n : TakesNext k a) → Follows a b → k.here.len ≡ 0 → FirstMeans means (means k.here.state) k.aside → IsRight is_state means r t k → is_state b.here.state
  end_own t k a b n f here same h =
      let j = row_joined means r k n.mark n.behind in
      let right = joined_right is_state means r t laws k n.mark n.behind n.are here (first-of k n.mark n.behind (means k.here.state) n.are same) h in
      let P : Mark S → Type 0 = λ x. is_state x.state in
      subst P (sym (ap (λ (i : Kept S). i.here) (followed_row k a b n f))) (own_states is_state means r t j right).here

  -- the row lies in the text
  pub take_fits : (t : List ℕ) (k a : Kept S) → TakesNext k a → IsRight is_state means r t k → reach (all_of a) ≤ length t
  take_fits t k a n h =
      let all = all_within is_state means r t k h in
      let e = ap (λ (i : Kept S). reach (all_of i)) n.is in
      let parts = reach-append k.front (n.mark ∷ n.behind) in
      let was = ap reach n.are in
      omega arith

  split-fewer : (marked : Bool) (x : Mark S) (ys : List (Mark S)) → length (split marked x ys).aside ≤ length ys
  split-fewer marked x [] = omega arith
  split-fewer marked x (y ∷ ys) = by x.whole (split-fewer marked y ys)
    where
      by : (b : Bool) → length (split marked y ys).aside ≤ length ys →
          length (if b then (let k = split marked y ys in record k { front = x ∷ k.front }) else record { front = []; here = x; marked = marked; aside = y ∷ ys }).aside ≤ length (y ∷ ys)
      by true e = omega arith
      by false e = omega arith

  pub rejoins_by_joining : (k j : Kept S) → Joins means r k j → k.here.len ≡ 0 → FirstMeans means (means k.here.state) k.aside → RejoinsOne is_state means r k j
  rejoins_by_joining k j s here f =
      let few = split-fewer k.marked s.mark s.behind in
      let same = ap (λ (i : Kept S). length i.aside) s.is in
      let was = ap length s.are in
      let far = ap (λ (i : Kept S). frontier_of i) s.is in
      let parts = reach-append k.front (split k.marked s.mark s.behind).front in
      record {
        right = λ t utf8 h. joins_right t k j s here f h;
        further = omega arith;
        joins = λ t end utf8 w. (let e : frontier_of j ≡ end = ap (λ (i : Kept S). frontier_of i) s.is ∙ (joined_all is_state means r t utf8 k s.mark s.behind 0 end s.are here w).1 in omega arith);
        keeps = λ t utf8 h. (let P : Kept S → Type 0 = λ i. KeepsMarks means r t k i in
            subst P (sym s.is) (keeps_joined is_state means r t laws k s.mark s.behind s.are here h (joined_right is_state means r t laws k s.mark s.behind s.are here (first-of k s.mark s.behind (means k.here.state) s.are f) h)));
        fewer = omega arith;
      }

  -- a mark that differs is dropped
  passed_right : (t : List ℕ) (k j : Kept S) → PassesNext k j → IsRight is_state means r t k → IsRight is_state means r t j
  passed_right t k j s h =
      let at : ℕ = 0 + reach k.front in
      let here : Mark S = farther k.here s.mark.len in
      let tail = chain-tail is_state means r t 0 at k.front (k.here ∷ k.aside) refl h.holds.chain in
      let A : List (Mark S) → Type 0 = λ l. Chain is_state means r t (at + k.here.len) l in
      let next = subst A s.are tail.1.1 in
      let there : at + k.here.len + s.mark.len ≡ at + (k.here.len + s.mark.len) = omega arith in
      let N : ℕ → Type 0 = λ n. Chain is_state means r t n s.behind in
      let on : Chain is_state means r t at (here ∷ s.behind) = (tail.0, (open-link is_state means r t at k.here.whole here s.behind h.holds.ends, subst N there next.1.1)) in
      let N2 : List (Mark S) → Type 0 = λ l. NonePends means r l in
      let P : Kept S → Type 0 = λ i. IsRight is_state means r t i in
      subst P (sym s.is) (record {
        holds = record {
          first = first-with is_state means r t k.front k.here here k.aside s.behind r.first refl h.holds.first;
          chain = chain-with is_state means r t 0 at k.front k.here here k.aside s.behind refl refl h.holds.chain on;
          whole = h.holds.whole;
          ends = h.holds.ends;
        };
        rule = rule-same means r k (record { front = k.front; here = here; marked = k.marked; aside = s.behind }) refl refl refl (subst N2 s.are h.rule.saved).1 h.rule;
      })

  -- with no token left the states mean the same
  joins_now : (t : List ℕ) (end : ℕ) (k : Kept S) → IsUtf8 t → k.here.len ≡ 0 → WillReach means r t 0 end k → FirstMeans means (means k.here.state) k.aside
  joins_now t end k utf8 here w = by k.aside refl
    where
      by : (l : List (Mark S)) → k.aside ≡ l → FirstMeans means (means k.here.state) l
      by [] e = absurd (let P : List (Mark S) → Type 0 = λ l. FirstMeans means (after_all r (means k.here.state) w.left) l in subst P e w.first)
      by (y ∷ ys) e = (joined_all is_state means r t utf8 k y ys 0 end e here w).0

  pub rejoins_by_passing : (k j : Kept S) → PassesNext k j → k.here.len ≡ 0 → (FirstMeans means (means k.here.state) k.aside → ⊥) → RejoinsOne is_state means r k j
  rejoins_by_passing k j s here differs =
      let same = ap (λ (i : Kept S). length i.aside) s.is in
      let was = ap length s.are in
      let far = ap (λ (i : Kept S). frontier_of i) s.is in
      record {
        right = λ t utf8 h. passed_right t k j s h;
        further = omega arith;
        joins = λ t end utf8 w. absurd (differs (joins_now t end k utf8 here w));
        keeps = λ t utf8 h. keeps_dropping is_state means r t laws k j s.mark s.behind utf8 h s.are here
            (λ e. differs (let F : List (Mark S) → Type 0 = λ l. FirstMeans means (means k.here.state) l in subst F (sym s.are) e))
            (ap (λ (i : Kept S). i.front) s.is) (ap (λ (i : Kept S). i.marked) s.is) (ap (λ (i : Kept S). i.aside) s.is) (ap (λ (i : Kept S). i.here.len) s.is);
        fewer = omega arith;
      }

  pub rejoin_began : (k : Kept S) → Rejoining is_state means r k k
  rejoin_began k = record { right = λ t utf8 h. h; further = omega arith; joins = λ t end utf8 w. inl refl; keeps = λ t utf8 h. keeps_all means r t k; waits = λ _. refl }

  pub rejoin_more : (old k j : Kept S) → Rejoining is_state means r old k → k.here.len ≡ 0 → RejoinsOne is_state means r k j → Rejoining is_state means r old j
  rejoin_more old k j g here s = record {
    right = λ t utf8 h. s.right t utf8 (g.right t utf8 h);
    further = (let a = g.further in let b = s.further in omega arith);
    joins = λ t end utf8 w. inr (by t end utf8 w (g.joins t end utf8 w));
    keeps = λ t utf8 h. keeps_on means r t old k j (g.keeps t utf8 h) (s.keeps t utf8 (g.right t utf8 h));
    waits = λ lt. absurd (let e = ap (λ (i : Kept S). i.here.len) (g.waits lt) in omega arith);
  }
    where
      by : (t : List ℕ) (end : ℕ) → IsUtf8 t → WillReach means r t 0 end old → (k ≡ old) ⊎ (end ≤ frontier_of k) → end ≤ frontier_of j
      by t end utf8 w (inl e) = let P : Kept S → Type 0 = λ i. WillReach means r t 0 end i in s.joins t end utf8 (subst P (sym e) w)
      by t end utf8 w (inr e) = let a = s.further in omega arith

  pub rejoin_some : (old k : Kept S) → Rejoining is_state means r old k → IsRightForSome is_state means r old → IsRightForSome is_state means r k
  rejoin_some old k g h = record { text = h.text; utf8 = h.utf8; fits = h.fits; right = g.right h.text h.utf8 h.right }

  pub rejoin_ended : (old k : Kept S) → Rejoining is_state means r old k → (0 < k.here.len) ⊎ (k.aside ≡ []) → Rejoins is_state means r old k
  rejoin_ended old k g e = record {
    right = g.right;
    further = g.further;
    joins = λ t end utf8 w. by t end utf8 w (g.joins t end utf8 w) e;
    keeps = g.keeps;
    waits = g.waits;
    settled = e;
  }
    where
      none : (t : List ℕ) (end : ℕ) → WillReach means r t 0 end old → (l : List (Mark S)) → old.aside ≡ l → l ≡ [] → ⊥
      none t end w [] e f = let P : List (Mark S) → Type 0 = λ l. FirstMeans means (after_all r (means old.here.state) w.left) l in subst P e w.first
      none t end w (y ∷ ys) e f = let n = ap length f in absurd (omega arith)

      by : (t : List ℕ) (end : ℕ) → IsUtf8 t → WillReach means r t 0 end old → (k ≡ old) ⊎ (end ≤ frontier_of k) → (0 < k.here.len) ⊎ (k.aside ≡ []) → end ≤ frontier_of k
      by t end utf8 w (inr e) d = e
      by t end utf8 w (inl e) (inl lt) = absurd (let n = nothing w.left w.count w.cuts in let m = ap (λ (i : Kept S). i.here.len) e in omega arith)
        where
          nothing : (ks : List Lexeme) → length ks ≡ 0 → CutsTo t (frontier_of old) ks (frontier_of old + old.here.len) → old.here.len ≡ 0
          nothing [] n h = omega arith
          nothing (c ∷ cs) n h = absurd (omega arith)
      by t end utf8 w (inl e) (inr d) = absurd (none t end w old.aside refl (sym (ap (λ (i : Kept S). i.aside) e) ∙ d))

pub nothing : {X : Type 0} (xs : List X) → length xs ≡ 0 → xs ≡ []
nothing [] e = refl
nothing (x ∷ xs) e = absurd (omega arith)
