-- A token is stepped over.
use Rattle.std.proofs.Common.{◌≡◌, ℕ, ◌+◌, ◌-◌, ◌<◌, ◌≤◌, Bool, true, false, List, [], ◌∷◌, ◌++◌, length, refl, sym, ap, subst, ◌∙◌, arith, append_assoc}
use Rattle.std.specs.Prelude.{IsUtf8}
use Rattle.std.proofs.lemmas.Str.{IsUtf8-between}
use Rattle.nx_base.specs.Rules.{Rules, RulesLaws, LaterLaws, Lexeme, lexeme_of, IsLexeme}
use Rattle.nx_base.specs.Running.{CutsTo, after_all}
use Rattle.nx_base.specs.Shifting.{placed}
use Rattle.nx_base.specs.Text.{IsPlace}
use Rattle.nx_base.specs.Tokens.{cut, end_of}
use Rattle.nx_base.specs.declared.fault.Fault.{Fault}
use Rattle.nx_base.specs.declared.token.Token.{Token}
use Rattle.nx_base.specs.declared.token.TokenKind.{TokenKind}
use Rattle.nx_base.specs.declared.token.TokenKind.TheVariants as kind
use Rattle.nx_scan.proofs.Every.{cut-is_token}
use Rattle.nx_scan.proofs.OwnBytes.{cut-own}
use Rattle.nx_marks.specs.Bound.{WillReach}
use Rattle.nx_marks.specs.Chain.{FirstMeans, IsFirst, OwnStates, Chain, AreWhole, Kept, all_of, frontier_of, reach}
use Rattle.nx_marks.specs.Right.{IsRight, tags_behind}
use Rattle.nx_marks.specs.Ruling.{is_due}
use Rattle.nx_marks.specs.Tags.{tag_of, tags_in}
use Rattle.nx_marks.specs.Taking.{begun, longer, took}
use Rattle.nx_marks.specs.declared.mark.Mark.{Mark}
use Rattle.nx_marks.proofs.Places.{size, cuts-size, next}
use Rattle.nx_marks.proofs.Edits.{whole-link}
use Rattle.nx_marks.proofs.Taking.{chain-tail, reach-snoc, whole-last, took_right}
use Rattle.nx_marks.proofs.Reading.{frontier_place, front-led}
use Rattle.nx_marks.proofs.Later.{right_later}
use Rattle.nx_marks.proofs.Refused.{same_right}
use Rattle.nx_marks.proofs.Bounding.{took_nearer}
use Rattle.nx_marks.proofs.Seen.{parted_at}
use Rattle.nx_marks.proofs.Topping.{tags-last}

pub tag-one : (k : TokenKind) → tag_of k ≤ 1
tag-one kind.Bom = omega arith
tag-one kind.Text = omega arith
tag-one kind.Start = omega arith
tag-one kind.Empty = omega arith
tag-one kind.End = omega arith
tag-one kind.Comment = omega arith
tag-one kind.Pi = omega arith
tag-one kind.Cdata = omega arith
tag-one kind.Doctype = omega arith
tag-one kind.Decl = omega arith
tag-one kind.Bad = omega arith
tag-one kind.Unclosed = omega arith

-- each tag has a byte or more
tags-few : (t : List ℕ) (p q : ℕ) (ks : List Lexeme) → IsUtf8 t → CutsTo t p ks q → tags_in ks ≤ size ks
tags-few t p q [] utf8 h = omega arith
tags-few t p q (k ∷ ks) utf8 h =
    let n = next t p k utf8 h.0 h.1.0 h.1.1.0 in
    let some = n.some in
    let one = tag-one k.kind in
    let rest = tags-few t (p + length k.bytes) q ks utf8 h.1.1.1 in
    omega arith

back-size : {M : Type 0} (r : Rules M) → RulesLaws r → (m : M) (ks : List Lexeme) → r.back (after_all r m ks) ≤ r.back m + size ks
back-size r laws m [] = omega arith
back-size r laws m (k ∷ ks) = let one = laws.after_back m k in let rest = back-size r laws (r.after m k) ks in omega arith

pub chain-reach : {S M : Type 0} (is_state : S → Type 0) (means : S → M) (r : Rules M) (t : List ℕ) (p : ℕ) (xs : List (Mark S)) → Chain is_state means r t p xs → p + reach xs ≤ length t
chain-reach is_state means r t p [] h = omega arith
chain-reach is_state means r t p (x ∷ xs) h = let e = chain-reach is_state means r t (p + x.len) xs h.1.1 in omega arith

pub reach-append : {S : Type 0} (xs ys : List (Mark S)) → reach (xs ++ ys) ≡ reach xs + reach ys
reach-append [] ys = omega arith
reach-append (x ∷ xs) ys = let e = reach-append xs ys in omega arith

-- all marks lie in the text
pub all_within : {S M : Type 0} (is_state : S → Type 0) (means : S → M) (r : Rules M) (t : List ℕ) (k : Kept S) → IsRight is_state means r t k → frontier_of k + (k.here.len + reach k.aside) ≤ length t
all_within is_state means r t k h =
    let e = chain-reach is_state means r t 0 (all_of k) h.holds.chain in
    let f = reach-append k.front (k.here ∷ k.aside) in
    omega arith

pub own_states : {S M : Type 0} (is_state : S → Type 0) (means : S → M) (r : Rules M) (t : List ℕ) (k : Kept S) → IsRight is_state means r t k → OwnStates is_state k
own_states is_state means r t k h =
    let tail = chain-tail is_state means r t 0 (0 + reach k.front) k.front (k.here ∷ k.aside) refl h.holds.chain in
    record { here = tail.0; next = by k.aside tail.1.1 }
  where
    by : (l : List (Mark _)) → Chain is_state means r t (0 + reach k.front + k.here.len) l → IsFirst is_state l
    by [] g = tt
    by (x ∷ xs) g = g.0

-- what a step asks, and what fits
pub record Ready {S M : Type 0} (is_state : S → Type 0) (means : S → M) (r : Rules M) (t : List ℕ) (k : Kept S) (before : List (Mark S)) (x : Mark S) (token : Token) : Type 0 where
  pub own : is_state k.here.state
  pub back : r.back (means k.here.state) ≤ x.len
  pub utf8 : IsUtf8 token.bytes
  pub kind : IsLexeme (lexeme_of token)
  pub some : 0 < length token.bytes
  pub fits : frontier_of k + length token.bytes ≤ length t
  pub at : frontier_of k ≡ reach before + x.len
  pub tags : x.tags ≤ x.len
  pub place : IsPlace t (frontier_of k)

pub ready : {S M : Type 0} (is_state : S → Type 0) (means : S → M) (r : Rules M) (t : List ℕ) (k : Kept S) (before : List (Mark S)) (x : Mark S) (token : Token) → RulesLaws r → IsUtf8 t →
    IsRight is_state means r t k → k.front ≡ before ++ x ∷ [] → frontier_of k < length t → token ≡ cut t (frontier_of k) → Ready is_state means r t k before x token
ready {S = S} is_state means r t k before x token laws utf8 h front_is rest is =
    let all : k.front ++ k.here ∷ k.aside ≡ before ++ x ∷ k.here ∷ k.aside = ap (λ l. l ++ k.here ∷ k.aside) front_is ∙ append_assoc before (x ∷ []) (k.here ∷ k.aside) in
    let Q : List (Mark S) → Type 0 = λ l. Chain is_state means r t 0 l in
    let tail = chain-tail is_state means r t 0 (0 + reach before) before (x ∷ k.here ∷ k.aside) refl (subst Q all h.holds.chain) in
    let W : List (Mark S) → Type 0 = λ l. AreWhole l in
    let w = whole-link means r t (0 + reach before) x.whole x (k.here ∷ k.aside) (whole-last is_state means r t before x (subst W front_is h.holds.whole)) tail.1.0 in
    let sizes = cuts-size t (0 + reach before) (0 + reach before + x.len) w.tokens w.segment.cuts in
    let few = tags-few t (0 + reach before) (0 + reach before + x.len) w.tokens utf8 w.segment.cuts in
    let tags = w.segment.tags_are in
    let back = back-size r laws (means x.state) w.tokens in
    let zero = w.segment.back in
    let leads = ap r.back w.leads in
    let place = frontier_place is_state means r t laws utf8 k h in
    let here = cut-is_token t (frontier_of k) utf8 place rest in
    let len : length token.bytes ≡ length (cut t (frontier_of k)).bytes = ap (λ (i : Token). length i.bytes) is in
    let end : end_of (cut t (frontier_of k)) ≡ frontier_of k + length (cut t (frontier_of k)).bytes = ap (λ n. n + length (cut t (frontier_of k)).bytes) here.from in
    let U : List ℕ → Type 0 = λ l. IsUtf8 l in
    let bytes : token.bytes ≡ (cut t (frontier_of k)).bytes = ap (λ (i : Token). i.bytes) is in
    let L : Token → Type 0 = λ i. IsLexeme (lexeme_of i) in
    let within = here.border.0 in
    let some = here.some in
    record {
      own = (own_states is_state means r t k h).here;
      back = omega arith;
      utf8 = subst U (sym bytes) (subst U (sym here.bytes) (IsUtf8-between t (frontier_of k) (end_of (cut t (frontier_of k))) utf8 (omega arith) place here.border));
      kind = subst L (sym is) (_, cut-own t (frontier_of k) utf8 place rest);
      some = omega arith;
      fits = omega arith;
      at = ap reach front_is ∙ reach-snoc is_state means r t before x;
      tags = omega arith;
      place = place;
    }

-- the same of later machines
module _ {Self S M : Type 0} (later : Self → Self → Type 0) (is_state : Self → S → Type 0) (means : Self → S → M) (rules : Self → Rules M)
    (laws : LaterLaws later is_state means rules) (rule_laws : (s : Self) → RulesLaws (rules s)) where
  -- what is left up to the first mark aside
  pub will_later : (a b : Self) (t : List ℕ) (n end : ℕ) (k : Kept S) → later a b → OwnStates (is_state a) k → WillReach (means a) (rules a) t n end k → WillReach (means b) (rules b) t n end k
  will_later a b t n end k l own w =
      let e : means a k.here.state ≡ means b k.here.state = sym (laws.meaning a b k.here.state l own.here) in
      let r : rules a ≡ rules b = sym (laws.rule a b l) in
      let P : Rules M → M → Type 0 = λ q m. FirstMeans (means b) (after_all q m w.left) k.aside in
      record {
        left = w.left;
        cuts = w.cuts;
        first = subst (λ (q : Rules M). P q (means b k.here.state)) r (subst (λ (m : M). P (rules a) m) e (by k.aside own.next w.first));
        row = w.row;
        count = w.count;
      }
    where
      by : (xs : List (Mark S)) → IsFirst (is_state a) xs → FirstMeans (means a) (after_all (rules a) (means a k.here.state) w.left) xs → FirstMeans (means b) (after_all (rules a) (means a k.here.state) w.left) xs
      by [] o f = f
      by (y ∷ ys) o f = laws.meaning a b y.state l o ∙ f

  -- a step that was taken
  record Stepped (a b : Self) (k : Kept S) (token : Lexeme) (s : S) : Type 0 where
    is_later : later a b
    own : is_state b s
    after : means b s ≡ (rules b).after (means b k.here.state) token

  stepped : (a b : Self) (k : Kept S) (token : Lexeme) (s : S) → later a b → is_state a k.here.state → is_state b s → means b s ≡ (rules a).after (means a k.here.state) token → Stepped a b k token s
  stepped a b k token s l mine own same =
      let e : means a k.here.state ≡ means b k.here.state = sym (laws.meaning a b k.here.state l mine) in
      record { is_later = l; own = own; after = same ∙ ap (λ (q : Rules M). q.after (means a k.here.state) token) (sym (laws.rule a b l)) ∙ ap (λ m. (rules b).after m token) e }

  pub stepped_right : (a b : Self) (t : List ℕ) (k : Kept S) (before : List (Mark S)) (x : Mark S) (token : Token) (s : S) → later a b → IsUtf8 t → IsRight (is_state a) (means a) (rules a) t k → frontier_of k < length t →
      token ≡ cut t (frontier_of k) → k.front ≡ before ++ x ∷ [] → k.marked ≡ false → length token.bytes ≤ k.here.len → is_state b s → means b s ≡ (rules a).after (means a k.here.state) (lexeme_of token) →
      IsRight (is_state b) (means b) (rules b) t (took (means b) (rules b) k before x (lexeme_of token) s)
  stepped_right a b t k before x token s l utf8 h rest is front_is unmarked far own same =
      let g = right_later later is_state means rules laws a b t k l h in
      let place = frontier_place (is_state a) (means a) (rules a) t (rule_laws a) utf8 k h in
      let st = stepped a b k (lexeme_of token) s l (own_states (is_state a) (means a) (rules a) t k h).here own same in
      took_right (is_state b) (means b) (rules b) t (rule_laws b) k before x (lexeme_of token) s place rest (ap lexeme_of is) front_is unmarked far own st.after g

  pub stepped_near : (a b : Self) (t : List ℕ) (k : Kept S) (before : List (Mark S)) (x : Mark S) (token : Token) (s : S) (n end : ℕ) → later a b → IsRight (is_state a) (means a) (rules a) t k →
      token ≡ cut t (frontier_of k) → k.front ≡ before ++ x ∷ [] → is_state b s → means b s ≡ (rules a).after (means a k.here.state) (lexeme_of token) → 0 < k.here.len → WillReach (means a) (rules a) t n end k →
      (0 < n) × WillReach (means b) (rules b) t (n - 1) end (took (means b) (rules b) k before x (lexeme_of token) s)
  stepped_near a b t k before x token s n end l h is front_is own same some w =
      let o = own_states (is_state a) (means a) (rules a) t k h in
      let st = stepped a b k (lexeme_of token) s l o.here own same in
      took_nearer (is_state b) (means b) (rules b) t k before x (lexeme_of token) s n end (ap lexeme_of is) front_is st.after some (will_later a b t n end k l o w)

  -- the faults that it gives are the same for the later machine
  pub faults_later : (a b : Self) (k : Kept S) (len : ℕ) (token : Lexeme) → later a b → is_state a k.here.state →
      placed (len - (rules a).back (means a k.here.state)) ((rules a).gives (means a k.here.state) token) ≡ placed (len - (rules b).back (means b k.here.state)) ((rules b).gives (means b k.here.state) token)
  faults_later a b k len token l own =
      let f : Rules M → M → List Fault = λ q m. placed (len - q.back m) (q.gives m token) in
      ap (λ (q : Rules M). f q (means a k.here.state)) (sym (laws.rule a b l)) ∙ ap (f (rules b)) (sym (laws.meaning a b k.here.state l own))

  pub refused_right : (a b : Self) (t : List ℕ) (k : Kept S) (s : S) → later a b → IsRight (is_state a) (means a) (rules a) t k → is_state b s → means b s ≡ means a k.here.state →
      IsRight (is_state b) (means b) (rules b) t (record { front = k.front; here = record { state = s; len = k.here.len; tags = k.here.tags; faults = k.here.faults; whole = k.here.whole; saved = k.here.saved }; marked = k.marked; aside = k.aside })
  refused_right a b t k s l h own same =
      let g = right_later later is_state means rules laws a b t k l h in
      let mine = (own_states (is_state a) (means a) (rules a) t k h).here in
      same_right (is_state b) (means b) (rules b) t k (record { state = s; len = k.here.len; tags = k.here.tags; faults = k.here.faults; whole = k.here.whole; saved = k.here.saved }) refl refl own (same ∙ sym (laws.meaning a b k.here.state l mine)) g

abbrev kept_with : {S : Type 0} → List (Mark S) → S → ℕ → Mark S → Bool → List (Mark S) → Kept S
kept_with front s gap here due aside = record { front = front; here = record { state = s; len = gap; tags = here.tags; faults = here.faults; whole = here.whole; saved = here.saved }; marked = due; aside = aside }

abbrev mark_with : {S : Type 0} → Mark S → ℕ → ℕ → List Fault → Mark S
mark_with x len tags faults = record { state = x.state; len = len; tags = tags; faults = faults; whole = x.whole; saved = x.saved }

-- what the step leaves is what was to be taken
pub took_is : {S M : Type 0} (means : S → M) (r : Rules M) (k : Kept S) (before : List (Mark S)) (x : Mark S) (token : Lexeme) (s : S) (front : List (Mark S)) (len tags gap : ℕ) (fs : List Fault) (due : Bool) →
    front ≡ before ++ mark_with x len tags fs ∷ [] → len ≡ x.len + length token.bytes → tags ≡ x.tags + tag_of token.kind →
    fs ≡ x.faults ++ placed (x.len - r.back (means k.here.state)) (r.gives (means k.here.state) token) → gap ≡ k.here.len - length token.bytes → due ≡ is_due r (means s) tags →
    kept_with front s gap k.here due k.aside ≡ took means r k before x token s
took_is means r k before x token s front len tags gap fs due e l g f a d =
    ap (λ i. kept_with i s gap k.here due k.aside) e
    ∙ ap (λ n. kept_with (before ++ mark_with x n tags fs ∷ []) s gap k.here due k.aside) l
    ∙ ap (λ i. kept_with (before ++ mark_with x (x.len + length token.bytes) tags i ∷ []) s gap k.here due k.aside) f
    ∙ ap (λ n. kept_with (before ++ mark_with x (x.len + length token.bytes) tags (x.faults ++ placed (x.len - r.back (means k.here.state)) (r.gives (means k.here.state) token)) ∷ []) s n k.here due k.aside) a
    ∙ ap (λ b. kept_with (before ++ mark_with x (x.len + length token.bytes) tags (x.faults ++ placed (x.len - r.back (means k.here.state)) (r.gives (means k.here.state) token)) ∷ []) s (k.here.len - length token.bytes) k.here b k.aside) d
    ∙ ap (λ n. kept_with (before ++ mark_with x (x.len + length token.bytes) n (x.faults ++ placed (x.len - r.back (means k.here.state)) (r.gives (means k.here.state) token)) ∷ []) s (k.here.len - length token.bytes) k.here (is_due r (means s) n) k.aside) g

pub begun_at : {S : Type 0} (k : Kept S) (s : S) → frontier_of (begun k s) ≡ frontier_of k
begun_at {S = S} k s =
    let mark : Mark S = record { state = s; len = 0; tags = 0; faults = []; whole = true; saved = true } in
    let e : reach (k.front ++ mark ∷ []) ≡ reach k.front + (0 + 0) = reach-append k.front (mark ∷ []) in
    omega arith

-- a run that is pending at the frontier began in the text
pub back_within : {S M : Type 0} (is_state : S → Type 0) (means : S → M) (r : Rules M) → RulesLaws r → (t : List ℕ) → IsUtf8 t → (k : Kept S) → IsRight is_state means r t k → r.back (means k.here.state) ≤ frontier_of k
back_within is_state means r laws t utf8 k h =
    let l = front-led is_state means r t laws k h in
    let sizes = cuts-size t 0 (frontier_of k) l.tokens l.cuts in
    let back = back-size r laws r.first l.tokens in
    let zero = laws.first_back in
    let same = ap r.back l.meaning in
    omega arith

-- before a step: what is kept is right, and the token is the next one; the last mark of the front and those before it
pub record Standing {S M : Type 0} (is_state : S → Type 0) (means : S → M) (r : Rules M) (t : List ℕ) (k : Kept S) (token : Token) : Type 0 where
  pub right : IsRight is_state means r t k
  pub rest : frontier_of k < length t
  pub is : token ≡ cut t (frontier_of k)
  pub far : length token.bytes ≤ k.here.len
  pub unmarked : k.marked ≡ false
  pub before : List (Mark S)
  pub last : Mark S
  pub front_is : k.front ≡ before ++ last ∷ []
  pub ready : Ready is_state means r t k before last token

pub standing : {S M : Type 0} (is_state : S → Type 0) (means : S → M) (r : Rules M) (t : List ℕ) (k j : Kept S) (token : Token) → k ≡ j → RulesLaws r → IsUtf8 t → IsRight is_state means r t j → frontier_of j < length t →
    token ≡ cut t (frontier_of j) → length token.bytes ≤ j.here.len → j.marked ≡ false → Standing is_state means r t k token
standing {S = S} is_state means r t k j token e laws utf8 right rest is far unmarked =
    let P : Kept S → Type 0 = λ i. Standing is_state means r t i token in
    let p = parted_at j.front (right.rule.some unmarked) in
    subst P (sym e) (record {
      right = right;
      rest = rest;
      is = is;
      far = far;
      unmarked = unmarked;
      before = p.earlier;
      last = p.mark;
      front_is = p.are;
      ready = ready is_state means r t j p.earlier p.mark token laws utf8 right p.are rest is;
    })

-- what the step leaves is what was to be taken, where the last segment of the front got longer by the token
pub lengthened_is : {Self S M : Type 0} (later : Self → Self → Type 0) (is_state : Self → S → Type 0) (means : Self → S → M) (rules : Self → Rules M) → LaterLaws later is_state means rules → ((s : Self) → RulesLaws (rules s)) →
    (a b : Self) (k : Kept S) (before : List (Mark S)) (x : Mark S) (token : Lexeme) (s : S) (front : List (Mark S)) (gap tags : ℕ) (due : Bool) → later a b → is_state a k.here.state →
    front ≡ before ++ longer x token (placed (x.len - (rules a).back (means a k.here.state)) ((rules a).gives (means a k.here.state) token)) ∷ [] → gap ≡ k.here.len - length token.bytes → tags ≡ tags_behind front →
    due ≡ is_due (rules b) (means b s) tags → kept_with front s gap k.here due k.aside ≡ took (means b) (rules b) k before x token s
lengthened_is later is_state means rules laws rule_laws a b k before x token s front gap tags due l own front_is g t d =
    let more = placed (x.len - (rules a).back (means a k.here.state)) ((rules a).gives (means a k.here.state) token) in
    took_is (means b) (rules b) k before x token s front (x.len + length token.bytes) (x.tags + tag_of token.kind) gap (x.faults ++ more) due front_is refl refl
    (ap (λ fs. x.faults ++ fs) (faults_later later is_state means rules laws rule_laws a b k x.len token l own)) g
    (d ∙ ap (is_due (rules b) (means b s)) (t ∙ ap tags_behind front_is ∙ tags-last before (longer x token more)))
