-- The rule of marks stays kept under an edit, so what is kept stays right.
use Rattle.std.proofs.Common.{◌≡◌, ◌⊎◌, inl, inr, ℕ, ◌+◌, ◌-◌, ◌<◌, ◌≤◌, Bool, true, false, ◌||◌, nat_lt, List, [], ◌∷◌, ◌++◌, length, refl, sym, ap, subst, ◌∙◌, arith}
use Rattle.std.specs.Prelude.{IsUtf8, if◌then◌else◌}
use Rattle.nx_base.specs.Text.{IsPlace, edited}
use Rattle.nx_base.specs.Rules.{Rules, RulesLaws}
use Rattle.nx_marks.specs.Chain.{FirstMeans, Chain, AreWhole, reach, Kept, all_of, frontier_of}
use Rattle.nx_marks.specs.Editing.{place_after, first_kept, broken, kept_mark, kept_marks, edit_all, split, split_all, edit_noted, edit_kept, noted}
use Rattle.nx_marks.specs.Right.{MarkRule, NonePends, IsRight}
use Rattle.nx_marks.specs.Ruling.{is_due}
use Rattle.nx_marks.specs.Frontier.{FrontierAfterEdit}
use Rattle.nx_marks.specs.Right.{tags_behind}
use Rattle.nx_marks.specs.declared.mark.Mark.{Mark}
use Rattle.nx_marks.proofs.Places.{below, above, is_below, is_above}
use Rattle.nx_marks.proofs.Edits.{whole-link}
use Rattle.nx_marks.proofs.Splits.{split-on, split-off, split-marked, edit_holds}
use Rattle.nx_marks.proofs.Pending.{pends-all, pends-edited, pends-split}
use Rattle.nx_marks.proofs.Refused.{note_right}
use Rattle.nx_marks.proofs.Fronts.{kept-apart, kept-cons, edit_behind, edit_frontier}

pub rule-same : {S M : Type 0} (means : S → M) (r : Rules M) (k j : Kept S) → j.front ≡ k.front → j.here.state ≡ k.here.state → j.marked ≡ k.marked → NonePends means r j.aside → MarkRule means r k → MarkRule means r j
rule-same {S = S} {M = M} means r k j f s m a h =
    let P : List (Mark S) → S → Type 0 = λ front state. is_due r (means state) (tags_behind front) ≡ false in
    let Q : List (Mark S) → Type 0 = λ front. 0 < length front in
    let R : S → Type 0 = λ state. r.back (means state) ≡ 0 in
    record {
      rule = λ e. subst (λ (front : List (Mark S)). P front j.here.state) (sym f) (subst (λ (state : S). P k.front state) (sym s) (h.rule (sym m ∙ e)));
      some = λ e. subst Q (sym f) (h.some (sym m ∙ e));
      mark = λ e. subst R (sym s) (h.mark (sym m ∙ e));
      saved = a;
    }

split-broken : {S : Type 0} (marked : Bool) (x : Mark S) (ys : List (Mark S)) → x.whole ≡ false → (split marked x ys).here ≡ x
split-broken marked x [] e = refl
split-broken marked x (y ∷ ys) e = ap (λ (k : Kept _). k.here) (split-off marked x y ys e)

split-whole-here : {S : Type 0} (k : Kept S) (marked : Bool) (x : Mark S) (ys : List (Mark S)) → x.whole ≡ true → 0 < length ys → (split_all k marked (x ∷ ys)).here ≡ (split_all k marked ys).here
split-whole-here k marked x [] e lt = absurd (omega arith)
split-whole-here k marked x (y ∷ ys) e lt = ap (λ (k : Kept _). k.here) (split-on marked x y ys (split marked y ys) e refl)

kept-some : {S : Type 0} (from to added p : ℕ) (xs : List (Mark S)) (z : Mark S) (zs : List (Mark S)) → p < from → 0 < length (kept_marks from to added p (xs ++ z ∷ zs))
kept-some {S = S} from to added p [] z zs lt = let P : List (Mark S) → Type 0 = λ l. 0 < length l in subst P (sym (kept-cons from to added p z zs lt)) (omega arith)
kept-some {S = S} from to added p (x ∷ xs) z zs lt = let P : List (Mark S) → Type 0 = λ l. 0 < length l in subst P (sym (kept-cons from to added p x (xs ++ z ∷ zs) lt)) (omega arith)

pub kept-broken : {S : Type 0} (from to added p q : ℕ) (x : Mark S) → from ≤ p + x.len → p ≤ to → kept_mark from to added p x q ≡ broken x (place_after from to added q - place_after from to added p)
kept-broken from to added p q x touched le = by (nat_lt (p + x.len) from) (is_above (p + x.len) from touched) (nat_lt to p) (is_above to p le)
  where
    by : (a : Bool) → a ≡ false → (b : Bool) → b ≡ false → (if a || b then x else broken x (place_after from to added q - place_after from to added p)) ≡ broken x (place_after from to added q - place_after from to added p)
    by true e b f = absurd (cc)
    by false e true f = absurd (cc)
    by false e false f = refl

pub less-or : (a b : ℕ) → (a < b) ⊎ (b ≤ a)
less-or a b = grind arith

module _ {S M : Type 0} (is_state : S → Type 0) (means : S → M) (r : Rules M) (t : List ℕ) (from to added : ℕ) (le : from ≤ to) (k : Kept S) (marked : Bool) where
  abbrev BackAt : Mark S → Type 0
  BackAt x = r.back (means x.state) ≡ 0

  abbrev BackOf : List (Mark S) → Type 0
  BackOf l = BackAt (split_all k marked l).here

  -- the frontier goes back to a mark
  back-there : (p : ℕ) (xs : List (Mark S)) (z : Mark S) (zs : List (Mark S)) → AreWhole xs → Chain is_state means r t p (xs ++ z ∷ zs) → p < from → from ≤ p + reach xs →
      BackOf (kept_marks from to added p (xs ++ z ∷ zs))
  back-there p [] z zs w h lt touched = absurd (omega arith)
  back-there p (x ∷ xs) z zs w h lt touched =
      let rest : List (Mark S) = xs ++ z ∷ zs in
      let q : ℕ = first_kept from to (p + x.len) rest in
      let P : List (Mark S) → Type 0 = λ l. BackOf l in
      let B : Mark S → Type 0 = λ y. BackAt y in
      let on : (p + x.len < from) ⊎ (from ≤ p + x.len) → BackOf (kept_mark from to added p x q ∷ kept_marks from to added (p + x.len) rest) = λ c.
      elim c [
        | inl l ↦
            (let Q : Mark S → Type 0 = λ y. BackOf (y ∷ kept_marks from to added (p + x.len) rest) in
            subst Q (sym (kept-apart from to added p q x l))
            (subst B (sym (split-whole-here k marked x (kept_marks from to added (p + x.len) rest) w.0 (kept-some from to added (p + x.len) xs z zs l)))
            (back-there (p + x.len) xs z zs w.1 h.1.1 l (omega arith))))
        | inr g ↦
            (let Q : Mark S → Type 0 = λ y. BackOf (y ∷ kept_marks from to added (p + x.len) rest) in
            let y : Mark S = broken x (place_after from to added q - place_after from to added p) in
            subst Q (sym (kept-broken from to added p q x g (omega arith)))
            (subst B (sym (split-broken marked y (kept_marks from to added (p + x.len) rest) refl)) ((whole-link means r t p x.whole x rest w.0 h.1.0).segment.back)))
      ] in
      subst P (sym (kept-cons from to added p x rest lt)) (on (less-or (p + x.len) from))

  start-broken : (x : Mark S) (q : ℕ) (a : Bool) → a ≡ false → (if a then x else broken x q) ≡ broken x q
  start-broken x q true e = absurd (cc)
  start-broken x q false e = refl

  start-apart : (x : Mark S) (q : ℕ) (a : Bool) → a ≡ true → (if a then x else broken x q) ≡ x
  start-apart x q true f = refl
  start-apart x q false f = absurd (cc)

  pub back-all : RulesLaws r → (xs : List (Mark S)) (z : Mark S) (zs : List (Mark S)) → AreWhole xs → z.whole ≡ false → FirstMeans means r.first (xs ++ z ∷ zs) → Chain is_state means r t 0 (xs ++ z ∷ zs) → from ≤ reach xs →
      BackOf (edit_all from to added (xs ++ z ∷ zs))
  back-all laws [] z zs w e f h touched =
      let q : ℕ = place_after from to added (first_kept from to (0 + z.len) zs) in
      let Q : Mark S → Type 0 = λ y. BackOf (y ∷ kept_marks from to added (0 + z.len) zs) in
      let B : Mark S → Type 0 = λ y. BackAt y in
      let y : Mark S = broken z q in
      subst Q (sym (start-broken z q (nat_lt (0 + z.len) from) (is_above (0 + z.len) from (omega arith))))
      (subst B (sym (split-broken marked y (kept_marks from to added (0 + z.len) zs) refl)) (ap r.back f ∙ laws.first_back))
  back-all laws (x ∷ xs) z zs w e f h touched =
      let rest : List (Mark S) = xs ++ z ∷ zs in
      let q : ℕ = place_after from to added (first_kept from to (0 + x.len) rest) in
      let Q : Mark S → Type 0 = λ y. BackOf (y ∷ kept_marks from to added (0 + x.len) rest) in
      let B : Mark S → Type 0 = λ y. BackAt y in
      elim (less-or (0 + x.len) from) [
        | inl l ↦
            subst Q (sym (start-apart x q (nat_lt (0 + x.len) from) (is_below (0 + x.len) from l)))
            (subst B (sym (split-whole-here k marked x (kept_marks from to added (0 + x.len) rest) w.0 (kept-some from to added (0 + x.len) xs z zs l)))
            (back-there (0 + x.len) xs z zs w.1 h.1.1 l (omega arith)))
        | inr g ↦
            (let y : Mark S = broken x q in
            subst Q (sym (start-broken x q (nat_lt (0 + x.len) from) (is_above (0 + x.len) from g)))
            (subst B (sym (split-broken marked y (kept_marks from to added (0 + x.len) rest) refl)) ((whole-link means r t 0 x.whole x rest w.0 h.1.0).segment.back)))
      ]

marked-all : {S : Type 0} (k : Kept S) (marked : Bool) (from to added : ℕ) (xs : List (Mark S)) (z : Mark S) (zs : List (Mark S)) → (split_all k marked (edit_all from to added (xs ++ z ∷ zs))).marked ≡ marked
marked-all k marked from to added [] z zs = split-marked marked _ (kept_marks from to added (0 + z.len) zs)
marked-all k marked from to added (x ∷ xs) z zs = split-marked marked _ (kept_marks from to added (0 + x.len) (xs ++ z ∷ zs))

-- the law of an edit, with the rule of marks
module _ {S M : Type 0} (is_state : S → Type 0) (means : S → M) (r : Rules M) (laws : RulesLaws r) (t added : List ℕ) (from to : ℕ)
    (utf8 : IsUtf8 t) (added_utf8 : IsUtf8 added) (f : IsPlace t from) (o : IsPlace t to) (le : from ≤ to) where
  edit_rule : (k : Kept S) → IsRight is_state means r t k → k.here.saved ≡ false → MarkRule means r (edit_noted from to (length added) k)
  edit_rule k h same = by (nat_lt (frontier_of k) from) refl
    where
      pends : (marked : Bool) → NonePends means r (split_all k marked (edit_all from to (length added) (all_of k))).aside
      pends marked = pends-split means r k marked (edit_all from to (length added) (all_of k)) (pends-edited means r from to (length added) (all_of k) (pends-all means r is_state t k h same)) h.rule.saved

      by : (b : Bool) → nat_lt (frontier_of k) from ≡ b → MarkRule means r (edit_noted from to (length added) k)
      by true e =
          let b = edit_behind is_state means r t from to (length added) k h.holds (below (frontier_of k) from e) in
          rule-same means r k (edit_noted from to (length added) k) b.front b.state b.marked (pends (if nat_lt (frontier_of k) from then k.marked else true)) h.rule
      by false e =
          let all : List (Mark S) = edit_all from to (length added) (all_of k) in
          let P : Bool → Type 0 = λ c. MarkRule means r (split_all k (if c then k.marked else true) all) in
          let is = marked-all k true from to (length added) k.front k.here k.aside in
          subst P (sym e) (record {
            rule = λ no. absurd (cc);
            some = λ no. absurd (cc);
            mark = λ _. back-all is_state means r t from to (length added) le k true laws k.front k.here k.aside h.holds.whole h.holds.ends h.holds.first h.holds.chain (above (frontier_of k) from e);
            saved = pends true;
          })

  noted_right : (k : Kept S) → IsRight is_state means r t k → k.here.saved ≡ false → IsRight is_state means r (edited t from to added) (edit_noted from to (length added) k)
  noted_right k h same = record { holds = edit_holds is_state means r t added from to utf8 added_utf8 f o le k h.holds; rule = edit_rule k h same }

  pub edit_right : (k : Kept S) → IsRight is_state means r t k → IsRight is_state means r (edited t from to added) (edit_kept from to (length added) k)
  edit_right k h = noted_right (noted k) (note_right is_state means r t k h) refl

  pub frontier_after_edit : (k : Kept S) → IsRight is_state means r t k → FrontierAfterEdit from (frontier_of k) (frontier_of (edit_noted from to (length added) k))
  frontier_after_edit k h = record {
    before = λ lt. ap reach (edit_behind is_state means r t from to (length added) k h.holds lt).front;
    back = λ _. edit_frontier from to (length added) k le;
  }
