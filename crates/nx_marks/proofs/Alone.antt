-- A token is stepped over where no mark is aside.
use Rattle.std.proofs.Common.{◌≡◌, inr, ℕ, ◌+◌, ◌-◌, ◌^◌, ◌<◌, Bool, false, List, [], ◌∷◌, ◌++◌, length, refl, sym, ap, subst, arith}
use Rattle.std.specs.Prelude.{IsUtf8}
use Rattle.nx_base.specs.Rules.{Rules, RulesLaws, LaterLaws, lexeme_of}
use Rattle.nx_base.specs.Shifting.{placed}
use Rattle.nx_base.specs.Tokens.{cut}
use Rattle.nx_base.specs.declared.token.Token.{Token}
use Rattle.nx_marks.specs.Chain.{Kept, frontier_of, reach}
use Rattle.nx_marks.specs.Keeping.{KeepsMarks}
use Rattle.nx_marks.specs.Right.{IsRight, tags_behind}
use Rattle.nx_marks.specs.Room.{Held}
use Rattle.nx_marks.specs.Ruling.{is_due}
use Rattle.nx_marks.specs.Taking.{longer, took}
use Rattle.nx_marks.specs.declared.mark.Mark.{Mark}
use Rattle.nx_marks.proofs.Holding.{further, longer as one_longer}
use Rattle.nx_marks.proofs.Keeping.{keeps_on, keeps_passing, keeps_took}
use Rattle.nx_marks.proofs.Moving.{passed}
use Rattle.nx_marks.proofs.Passing.{go_none}
use Rattle.nx_marks.proofs.Stepping.{Standing, standing, lengthened_is, stepped_right}

-- the next mark, which there isn't, is so far off
abbrev pub with_gap : {S : Type 0} → Kept S → ℕ → Kept S
with_gap k n = record {
  front = k.front;
  here = record { state = k.here.state; len = n; tags = k.here.tags; faults = k.here.faults; whole = k.here.whole; saved = k.here.saved };
  marked = k.marked;
  aside = k.aside;
}

-- what a step leaves
abbrev pub left_by : {S : Type 0} → Kept S → S → List (Mark S) → Bool → Kept S
left_by k s front due = record {
  front = front;
  here = record { state = s; len = 0; tags = k.here.tags; faults = k.here.faults; whole = k.here.whole; saved = k.here.saved };
  marked = due;
  aside = k.aside;
}

-- before a step: the token is as long as the gap up to the next mark, since there is none
pub record Alone {S M : Type 0} (is_state : S → Type 0) (means : S → M) (r : Rules M) (t : List ℕ) (k : Kept S) (token : Token) : Type 0 where
  pub right : IsRight is_state means r t k
  pub none : k.aside ≡ []
  pub stands : Standing is_state means r t (with_gap k (length token.bytes)) token
  pub keeps : KeepsMarks means r t k (with_gap k (length token.bytes))

pub alone : {S M : Type 0} (is_state : S → Type 0) (means : S → M) (r : Rules M) (t : List ℕ) (k j : Kept S) (token : Token) → k ≡ j → RulesLaws r → IsUtf8 t → IsRight is_state means r t j → frontier_of j < length t →
    token ≡ cut t (frontier_of j) → j.marked ≡ false → j.aside ≡ [] → Alone is_state means r t k token
alone {S = S} is_state means r t k j token e laws utf8 right rest is unmarked none =
    let P : Kept S → Type 0 = λ i. Alone is_state means r t i token in
    let n = length token.bytes in
    let gone = sym (go_none n j none) in
    let p = passed is_state means r laws t utf8 j (with_gap j n) n token right is rest refl gone in
    subst P (sym e) (record {
      right = right;
      none = none;
      stands = standing is_state means r t (with_gap j n) (with_gap j n) token refl laws utf8 p.right rest is (omega arith) unmarked;
      keeps = keeps_passing is_state means r t laws j (with_gap j n) n token utf8 right is refl (inr none) gone;
    })

-- marks in front of a place behind which there is none
pub held_alone : {S : Type 0} (front less more aside : List (Mark S)) (here x x' next : Mark S) (n : ℕ) → Held front here aside → front ≡ less ++ x ∷ [] → aside ≡ [] → reach front + n < 2 ^ 64 → x'.len ≡ x.len + n → next.len ≡ 0 → more ≡ less ++ x' ∷ [] →
    Held more next aside
held_alone front less more aside here x x' next n h e none fits long near g =
    let a = one_longer front less x e in
    let b = further front less x e in
    let c = one_longer more less x' g in
    let d = further more less x' g in
    let z = ap reach none in
    record { counted = (let j = h.counted in omega arith); fits = omega arith }

module _ {Self S M : Type 0} (later : Self → Self → Type 0) (is_state : Self → S → Type 0) (means : Self → S → M) (rules : Self → Rules M)
    (laws : LaterLaws later is_state means rules) (rule_laws : (s : Self) → RulesLaws (rules s)) where
  -- behind a step
  pub record Went (a b : Self) (t : List ℕ) (k : Kept S) (s : S) (front : List (Mark S)) (due : Bool) : Type 0 where
    pub right : IsRight (is_state b) (means b) (rules b) t (left_by k s front due)
    pub keeps : KeepsMarks (means a) (rules a) t k (left_by k s front due)

  pub went : (a b : Self) (t : List ℕ) (k : Kept S) (before : List (Mark S)) (x : Mark S) (token : Token) (s : S) (front : List (Mark S)) (tags : ℕ) (due : Bool) → later a b → IsUtf8 t → Alone (is_state a) (means a) (rules a) t k token →
      k.front ≡ before ++ x ∷ [] → is_state a k.here.state → is_state b s → means b s ≡ (rules a).after (means a k.here.state) (lexeme_of token) →
      front ≡ before ++ longer x (lexeme_of token) (placed (x.len - (rules a).back (means a k.here.state)) ((rules a).gives (means a k.here.state) (lexeme_of token))) ∷ [] →
      tags ≡ tags_behind front → due ≡ is_due (rules b) (means b s) tags → Went a b t k s front due
  went a b t k before x token s front tags due l utf8 ready front_is mine own same grown tags_are due_is =
      let n = length token.bytes in
      let j : Kept S = with_gap k n in
      let st = ready.stands in
      let kind = lexeme_of token in
      let is = lengthened_is later is_state means rules laws rule_laws a b j before x kind s front 0 tags due l mine grown (omega arith) tags_are due_is in
      let done = stepped_right later is_state means rules laws rule_laws a b t j before x token s l utf8 st.right st.rest st.is front_is st.unmarked st.far own same in
      let P : Kept S → Type 0 = λ i. IsRight (is_state b) (means b) (rules b) t i in
      let K : Kept S → Type 0 = λ i. KeepsMarks (means a) (rules a) t j i in
      let Q : Rules M → Type 0 = λ r. KeepsMarks (means a) r t j (took (means b) (rules b) j before x kind s) in
      let kept = keeps_took (is_state b) (means b) (rules b) t (rule_laws b) (means a) j before x kind s front_is st.unmarked st.far done in
      record {
        right = subst P (sym is) done;
        keeps = keeps_on (means a) (rules a) t k j (left_by k s front due) ready.keeps (subst K (sym is) (subst Q (laws.rule a b l) kept));
      }
