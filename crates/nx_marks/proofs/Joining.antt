-- Marks stay right when some aside are let go, and when a row is joined.
use Rattle.std.proofs.Common.{◌≡◌, inl, inr, ℕ, ◌+◌, ◌<◌, ◌≤◌, Bool, true, false, ◌&&◌, nat_le, List, [], ◌∷◌, ◌++◌, length, refl, sym, ap, subst, ◌∙◌, arith, append_assoc}
use Rattle.std.proofs.lemmas.List.{append-nil}
use Rattle.std.specs.Prelude.{if◌then◌else◌}
use Rattle.std.proofs.lemmas.Bool.Decides.{nat_tests}
use Rattle.nx_base.specs.Rules.{Rules, RulesLaws}
use Rattle.nx_marks.specs.Chain.{FirstMeans, Chain, reach, Kept, all_of}
use Rattle.nx_marks.specs.Ruling.{is_due}
use Rattle.nx_marks.specs.Editing.{split}
use Rattle.nx_marks.specs.Right.{tags_behind, MarkRule, NonePends, IsRight}
use Rattle.nx_marks.specs.Taking.{let_go, marked_behind, join_with, row_joined}
use Rattle.nx_marks.specs.declared.mark.Mark.{Mark}
use Rattle.nx_marks.proofs.Splits.{split-is, split-whole, split-ends}
use Rattle.nx_marks.proofs.Taking.{chain-tail, chain-with, first-with, open-link, whole-append}
use Rattle.nx_marks.proofs.Pending.{or-right, or-left-no, or-right-no, or-cases, pends-behind}

at_most : (a b : ℕ) → nat_le a b ≡ true → a ≤ b
at_most a b h = grind (arith, nat_tests)

module _ {S M : Type 0} (is_state : S → Type 0) (means : S → M) (r : Rules M) (t : List ℕ) where
  -- no mark aside lies before the end of a token any more
  pub record Gone (n p : ℕ) (here : Mark S) (front : List (Mark S)) (marked : Bool) (j : Kept S) : Type 0 where
    pub front_is : j.front ≡ front
    pub marked_is : j.marked ≡ marked
    pub state : j.here.state ≡ here.state
    pub ends : j.here.whole ≡ here.whole
    pub far : n ≤ j.here.len
    pub chain : Chain is_state means r t p (j.here ∷ j.aside)
    pub saved : NonePends means r j.aside

  pub gone : (n p : ℕ) (here : Mark S) (front : List (Mark S)) (marked : Bool) (aside : List (Mark S)) → here.whole ≡ false → p + n ≤ length t → Chain is_state means r t p (here ∷ aside) → NonePends means r aside →
      Gone n p here front marked (let_go n here front marked aside)
  gone n p here front marked [] e fits h u = record { front_is = refl; marked_is = refl; state = refl; ends = refl; far = omega arith; chain = (h.0, (open-link is_state means r t p here.whole _ [] e, fits)); saved = u }
  gone n p here front marked (y ∷ ys) e fits h u = by (nat_le n here.len) refl (gone n p on front marked ys e fits (h.0, (open-link is_state means r t p here.whole on ys e, subst P there h.1.1.1.1)) u.1)
    where
      on : Mark S
      on = record { state = here.state; len = here.len + y.len; tags = here.tags; faults = here.faults; whole = here.whole; saved = here.saved }

      P : ℕ → Type 0
      P m = Chain is_state means r t m ys

      there : p + here.len + y.len ≡ p + (here.len + y.len)
      there = omega arith

      by : (b : Bool) → nat_le n here.len ≡ b → Gone n p on front marked (let_go n on front marked ys) →
          Gone n p here front marked (if b then record { front = front; here = here; marked = marked; aside = y ∷ ys } else let_go n on front marked ys)
      by true i rest = record { front_is = refl; marked_is = refl; state = refl; ends = refl; far = at_most n here.len i; chain = h; saved = u }
      by false i rest = record { front_is = rest.front_is; marked_is = rest.marked_is; state = rest.state; ends = rest.ends; far = rest.far; chain = rest.chain; saved = rest.saved }

  tags-behind-some : (xs : List (Mark S)) (y : Mark S) (ys : List (Mark S)) → tags_behind (xs ++ y ∷ ys) ≡ tags_behind (y ∷ ys)
  tags-behind-some [] y ys = refl
  tags-behind-some (x ∷ []) y ys = refl
  tags-behind-some (x ∷ z ∷ xs) y ys = tags-behind-some (z ∷ xs) y ys

  longer-some : (xs : List (Mark S)) (y : Mark S) (ys : List (Mark S)) → 0 < length (xs ++ y ∷ ys)
  longer-some [] y ys = omega arith
  longer-some (x ∷ xs) y ys = omega arith

  -- the first of these, with nothing in front of it, is the end of the row
  first-here : (m : M) (front : List (Mark S)) (here : Mark S) (aside : List (Mark S)) → front ≡ [] → FirstMeans means m (front ++ here ∷ aside) → means here.state ≡ m
  first-here m [] here aside e h = h
  first-here m (x ∷ xs) here aside e h = absurd (let n = ap length e in omega arith)

  rule-joined : RulesLaws r → (k row : Kept S) → FirstMeans means (means k.here.state) (all_of row) → NonePends means r (row.here ∷ row.aside) → MarkRule means r k → MarkRule means r (join_with means r k row)
  rule-joined laws k row first pends h = by row.front refl
    where
      kept : row.here.saved ≡ true → r.back (means row.here.state) ≡ 0
      kept s = pends.0 (or-right row.here.whole row.here.saved s)

      and-left : (a b : Bool) → (a && b) ≡ true → a ≡ true
      and-left true b h = refl
      and-left false b h = h

      by : (xs : List (Mark S)) → row.front ≡ xs → MarkRule means r (record { front = k.front ++ xs; here = row.here; marked = marked_behind means r k.marked row.here xs; aside = row.aside })
      by [] e =
          let same = first-here (means k.here.state) row.front row.here row.aside e first in
          let P : M → List (Mark S) → Type 0 = λ m l. is_due r m (tags_behind l) ≡ false in
          let Q : List (Mark S) → Type 0 = λ l. 0 < length l in
          record {
            rule = λ no. subst (λ (m : M). P m (k.front ++ [])) (sym same) (subst (λ (l : List (Mark S)). P (means k.here.state) l) (sym (append-nil k.front)) (h.rule (or-left-no k.marked row.here.saved no)));
            some = λ no. subst Q (sym (append-nil k.front)) (h.some (or-left-no k.marked row.here.saved no));
            mark = λ yes. elim (or-cases k.marked row.here.saved yes) [ inl m ↦ ap r.back same ∙ h.mark m | inr s ↦ kept s ];
            saved = pends.1;
          }
      by (x ∷ xs) e = record {
        rule = λ no. ap (is_due r (means row.here.state)) (tags-behind-some k.front x xs) ∙ or-right-no row.here.saved (is_due r (means row.here.state) (tags_behind (x ∷ xs))) no;
        some = λ no. longer-some k.front x xs;
        mark = λ yes. elim (or-cases row.here.saved (is_due r (means row.here.state) (tags_behind (x ∷ xs))) yes) [ inl s ↦ kept s | inr d ↦ laws.mark_back (means row.here.state) (and-left (r.may_mark (means row.here.state)) _ d) ];
        saved = pends.1;
      }

  -- the row that begins at the frontier, in a state that means the same, is joined
  pub joined_right : RulesLaws r → (k : Kept S) (y : Mark S) (ys : List (Mark S)) → k.aside ≡ y ∷ ys → k.here.len ≡ 0 → means y.state ≡ means k.here.state →
      IsRight is_state means r t k → IsRight is_state means r t (row_joined means r k y ys)
  joined_right laws k y ys aside_is here_is same h =
      let row = split k.marked y ys in
      let at : ℕ = 0 + reach k.front in
      let P : List (Mark S) → Type 0 = λ l. FirstMeans means r.first l in
      let Q : List (Mark S) → Type 0 = λ l. Chain is_state means r t 0 l in
      let N : ℕ → Type 0 = λ n. Chain is_state means r t n (y ∷ ys) in
      let A : List (Mark S) → Type 0 = λ l. Chain is_state means r t (at + k.here.len) l in
      let N2 : List (Mark S) → Type 0 = λ l. NonePends means r l in
      let B : List (Mark S) → Type 0 = λ l. FirstMeans means (means k.here.state) l in
      let is = split-is k.marked y ys in
      let list : k.front ++ y ∷ ys ≡ (k.front ++ row.front) ++ row.here ∷ row.aside = ap (λ l. k.front ++ l) (sym is) ∙ sym (append_assoc k.front row.front (row.here ∷ row.aside)) in
      let tail = chain-tail is_state means r t 0 at k.front (k.here ∷ k.aside) refl h.holds.chain in
      let there : at + k.here.len ≡ at = omega arith in
      let from_y : Chain is_state means r t at (y ∷ ys) = subst N there (subst A aside_is tail.1.1) in
      record {
        holds = record {
          first = subst P list (first-with is_state means r t k.front k.here y k.aside ys r.first same h.holds.first);
          chain = subst Q list (chain-with is_state means r t 0 at k.front k.here y k.aside ys refl same h.holds.chain from_y);
          whole = whole-append is_state means r t k.front row.front h.holds.whole (split-whole k.marked y ys);
          ends = split-ends is_state means r t k.marked at y ys from_y;
        };
        rule = rule-joined laws k row (subst B (sym is) same) (pends-behind means r row.front (row.here ∷ row.aside) (subst N2 (sym is) (subst N2 aside_is h.rule.saved))) h.rule;
      }
