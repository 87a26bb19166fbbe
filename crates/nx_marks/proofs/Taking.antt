-- Marks stay right when a token is taken, or a row is joined.
use Rattle.std.proofs.Common.{◌≡◌, ℕ, ◌+◌, ◌-◌, ◌<◌, ◌≤◌, Bool, true, false, ◌&&◌, nat_le, List, [], ◌∷◌, ◌++◌, length, refl, sym, ap, subst, ◌∙◌, arith, append_assoc}
use Rattle.std.specs.Prelude.{max}
use Rattle.std.proofs.lemmas.Bool.Decides.{nat_tests}
use Rattle.nx_base.specs.Text.{IsPlace}
use Rattle.nx_base.specs.Tokens.{cut}
use Rattle.nx_base.specs.declared.fault.Fault.{Fault}
use Rattle.nx_base.specs.Shifting.{placed}
use Rattle.nx_base.specs.Rules.{Rules, RulesLaws, Lexeme, lexeme_of}
use Rattle.nx_base.specs.Running.{CutsTo, after_all, faults_along}
use Rattle.nx_marks.specs.Tags.{tag_of, tags_in}
use Rattle.nx_marks.specs.Ruling.{is_due, Sparse}
use Rattle.nx_marks.specs.Chain.{FirstMeans, Segment, Link, Chain, AreWhole, reach, Kept, frontier_of}
use Rattle.nx_marks.specs.Right.{tags_behind, IsRight}
use Rattle.nx_marks.specs.Taking.{begun, longer, took}
use Rattle.nx_marks.specs.declared.mark.Mark.{Mark}
use Rattle.nx_marks.proofs.Places.{size, cuts-size}
use Rattle.nx_marks.proofs.Edits.{linked, whole-link}

cuts-more : (t : List ℕ) (p q : ℕ) (ks : List Lexeme) (k : Lexeme) → CutsTo t p ks q → IsPlace t q → q < length t → k ≡ lexeme_of (cut t q) → CutsTo t p (ks ++ k ∷ []) (q + length k.bytes)
cuts-more t p q [] k h place within is =
    let P : ℕ → Type 0 = λ n. CutsTo t n (k ∷ []) (q + length k.bytes) in subst P (sym h) (place, (within, (is, refl)))
cuts-more t p q (j ∷ ks) k h place within is = (h.0, (h.1.0, (h.1.1.0, cuts-more t (p + length j.bytes) q ks k h.1.1.1 place within is)))

tags-more : (ks : List Lexeme) (k : Lexeme) → tags_in (ks ++ k ∷ []) ≡ tags_in ks + tag_of k.kind
tags-more [] k = omega arith
tags-more (j ∷ ks) k = let e = tags-more ks k in omega arith

module _ {M : Type 0} (r : Rules M) where
  pub after-more : (m : M) (ks : List Lexeme) (k : Lexeme) → after_all r m (ks ++ k ∷ []) ≡ r.after (after_all r m ks) k
  after-more m [] k = refl
  after-more m (j ∷ ks) k = after-more (r.after m j) ks k

  append_none : (fs : List Fault) → fs ++ [] ≡ fs
  append_none [] = refl
  append_none (f ∷ fs) = ap (λ xs. f ∷ xs) (append_none fs)

  pub faults-more : (t : List ℕ) (p : ℕ) (m : M) (ks : List Lexeme) (k : Lexeme) →
      faults_along r p m (ks ++ k ∷ []) ≡ faults_along r p m ks ++ placed (p + size ks - r.back (after_all r m ks)) (r.gives (after_all r m ks) k)
  faults-more t p m [] k =
      let e : p ≡ p + 0 = omega arith in
      append_none (placed (p - r.back m) (r.gives m k)) ∙ ap (λ n. placed (n - r.back m) (r.gives m k)) e
  faults-more t p m (j ∷ ks) k =
      let e : p + length j.bytes + size ks ≡ p + (length j.bytes + size ks) = omega arith in
      ap (λ fs. placed (p - r.back m) (r.gives m j) ++ fs) (faults-more t (p + length j.bytes) (r.after m j) ks k)
      ∙ sym (append_assoc (placed (p - r.back m) (r.gives m j)) (faults_along r (p + length j.bytes) (r.after m j) ks) _)
      ∙ ap (λ n. placed (p - r.back m) (r.gives m j) ++ faults_along r (p + length j.bytes) (r.after m j) ks ++ placed (n - r.back (after_all r (r.after m j) ks)) (r.gives (after_all r (r.after m j) ks) k)) e

  -- no mark was due behind the last of the tokens
  sparse-more : (m : M) (n : ℕ) (ks : List Lexeme) (k : Lexeme) → Sparse r m n ks → (0 < length ks → is_due r (after_all r m ks) (n + tags_in ks) ≡ false) → Sparse r m n (ks ++ k ∷ [])
  sparse-more m n [] k h d = (λ lt. absurd (omega arith), tt)
  sparse-more m n (j ∷ []) k h d =
      let e : n + (tag_of j.kind + 0) ≡ n + tag_of j.kind = omega arith in
      let P : ℕ → Type 0 = λ q. is_due r (r.after m j) q ≡ false in
      let some : 0 < length (j ∷ []) = omega arith in
      (λ lt. subst P e (d some), (λ lt. absurd (omega arith), tt))
  sparse-more m n (j ∷ i ∷ ks) k h d =
      let e : n + (tag_of j.kind + tags_in (i ∷ ks)) ≡ n + tag_of j.kind + tags_in (i ∷ ks) = omega arith in
      let P : ℕ → Type 0 = λ q. is_due r (after_all r (r.after m j) (i ∷ ks)) q ≡ false in
      let some : 0 < length (i ∷ ks) = omega arith in
      let all : 0 < length (j ∷ i ∷ ks) = omega arith in
      (λ lt. h.0 some, sparse-more (r.after m j) (n + tag_of j.kind) (i ∷ ks) k h.1 (λ lt. subst P e (d all)))

module _ {S M : Type 0} (is_state : S → Type 0) (means : S → M) (r : Rules M) (t : List ℕ) where
  -- marks behind some others
  pub chain-tail : (p q : ℕ) (xs ys : List (Mark S)) → p + reach xs ≡ q → Chain is_state means r t p (xs ++ ys) → Chain is_state means r t q ys
  chain-tail p q [] ys e h =
      let there : p ≡ q = omega arith in
      let P : ℕ → Type 0 = λ n. Chain is_state means r t n ys in subst P there h
  chain-tail p q (x ∷ xs) ys e h = chain-tail (p + x.len) q xs ys (omega arith) h.1.1

  link-with : (p : ℕ) (b : Bool) (x : Mark S) (xs ys : List (Mark S)) → ((m : M) → FirstMeans means m xs → FirstMeans means m ys) → Link means r t p b x xs → Link means r t p b x ys
  link-with p true x xs ys f h = (h.0, (h.1.0, f (after_all r (means x.state) h.0) h.1.1))
  link-with p false x xs ys f h = h

  pub first-with : (xs : List (Mark S)) (y z : Mark S) (ys zs : List (Mark S)) (m : M) → means z.state ≡ means y.state → FirstMeans means m (xs ++ y ∷ ys) → FirstMeans means m (xs ++ z ∷ zs)
  first-with [] y z ys zs m e h = e ∙ h
  first-with (x ∷ xs) y z ys zs m e h = h

  -- other marks may follow, where the first of them means the same
  pub chain-with : (p q : ℕ) (xs : List (Mark S)) (y z : Mark S) (ys zs : List (Mark S)) → p + reach xs ≡ q → means z.state ≡ means y.state →
      Chain is_state means r t p (xs ++ y ∷ ys) → Chain is_state means r t q (z ∷ zs) → Chain is_state means r t p (xs ++ z ∷ zs)
  chain-with p q [] y z ys zs e same h g =
      let there : q ≡ p = omega arith in
      let P : ℕ → Type 0 = λ n. Chain is_state means r t n (z ∷ zs) in subst P there g
  chain-with p q (x ∷ xs) y z ys zs e same h g =
      (h.0, (link-with p x.whole x (xs ++ y ∷ ys) (xs ++ z ∷ zs) (λ m. first-with xs y z ys zs m same) h.1.0, chain-with (p + x.len) q xs y z ys zs (omega arith) same h.1.1 g))

  pub whole-append : (xs ys : List (Mark S)) → AreWhole xs → AreWhole ys → AreWhole (xs ++ ys)
  whole-append [] ys h g = g
  whole-append (x ∷ xs) ys h g = (h.0, whole-append xs ys h.1 g)

  assoc : (xs : List (Mark S)) (y z : Mark S) (zs : List (Mark S)) → (xs ++ y ∷ []) ++ z ∷ zs ≡ xs ++ y ∷ z ∷ zs
  assoc xs y z zs = append_assoc xs (y ∷ []) (z ∷ zs)

  pub open-link : (p : ℕ) (b : Bool) (x : Mark S) (xs : List (Mark S)) → b ≡ false → Link means r t p b x xs
  open-link p true x xs e = absurd (cc)
  open-link p false x xs e = tt

  -- the state at the frontier may be another, and the first mark aside nearer
  pub other-here : (p q : ℕ) (x y : Mark S) (xs : List (Mark S)) → x.whole ≡ false → y.whole ≡ false → is_state y.state → p + x.len ≡ q + y.len →
      Chain is_state means r t p (x ∷ xs) → Chain is_state means r t q (y ∷ xs)
  other-here p q x y xs e f own same h =
      let P : ℕ → Type 0 = λ n. Chain is_state means r t n xs in
      (own, (open-link q y.whole y xs f, subst P same h.1.1))

  pub tags-snoc : (xs : List (Mark S)) (x : Mark S) → tags_behind (xs ++ x ∷ []) ≡ x.tags
  tags-snoc [] x = refl
  tags-snoc (y ∷ []) x = refl
  tags-snoc (y ∷ z ∷ xs) x = tags-snoc (z ∷ xs) x

  some-snoc : (xs : List (Mark S)) (x : Mark S) → 0 < length (xs ++ x ∷ [])
  some-snoc [] x = omega arith
  some-snoc (y ∷ xs) x = omega arith

  not-due : (m : M) → is_due r m 0 ≡ false
  not-due m = by (r.may_mark m)
    where
      none : nat_le (max (r.depth m) 16) 0 ≡ false
      none = grind (arith, nat_tests)

      by : (b : Bool) → (b && nat_le (max (r.depth m) 16) 0) ≡ false
      by true = none
      by false = refl

  -- the frontier's mark goes to the front
  pub begun_right : (k : Kept S) (s : S) → is_state s → means s ≡ means k.here.state → k.marked ≡ true → IsRight is_state means r t k → IsRight is_state means r t (begun k s)
  begun_right k s own same e h =
      let mark : Mark S = record { state = s; len = 0; tags = 0; faults = []; whole = true; saved = true } in
      let at : ℕ = 0 + reach k.front in
      let tail = chain-tail 0 at k.front (k.here ∷ k.aside) refl h.holds.chain in
      let P : List (Mark S) → Type 0 = λ l. FirstMeans means r.first l in
      let Q : List (Mark S) → Type 0 = λ l. Chain is_state means r t 0 l in
      let list = assoc k.front mark k.here k.aside in
      let on : Chain is_state means r t (at + 0) (k.here ∷ k.aside) = other-here at (at + 0) k.here k.here k.aside h.holds.ends h.holds.ends tail.0 (omega arith) tail in
      let cut_here : at ≡ at + 0 = omega arith in
      record {
        holds = record {
          first = subst P (sym list) (first-with k.front k.here mark k.aside (k.here ∷ k.aside) r.first same h.holds.first);
          chain = subst Q (sym list) (chain-with 0 at k.front k.here mark k.aside (k.here ∷ k.aside) refl same h.holds.chain
              (own, (([], (record { back = ap r.back same ∙ h.rule.mark e; cuts = cut_here; tags_are = refl; faults_are = refl; sparse = tt }, sym same)), on)));
          whole = whole-append k.front (mark ∷ []) h.holds.whole (refl, tt);
          ends = h.holds.ends;
        };
        rule = record {
          rule = λ _. ap (is_due r (means k.here.state)) (tags-snoc k.front mark) ∙ not-due (means k.here.state);
          some = λ _. some-snoc k.front mark;
          mark = λ x. absurd (cc);
          saved = h.rule.saved;
        };
      }

  pub reach-snoc : (xs : List (Mark S)) (x : Mark S) → reach (xs ++ x ∷ []) ≡ reach xs + x.len
  reach-snoc [] x = omega arith
  reach-snoc (y ∷ xs) x = let e = reach-snoc xs x in omega arith

  whole-front : (xs ys : List (Mark S)) → AreWhole (xs ++ ys) → AreWhole xs
  whole-front [] ys h = tt
  whole-front (x ∷ xs) ys h = (h.0, whole-front xs ys h.1)

  pub whole-last : (xs : List (Mark S)) (x : Mark S) → AreWhole (xs ++ x ∷ []) → x.whole ≡ true
  whole-last [] x h = h.0
  whole-last (y ∷ xs) x h = whole-last xs x h.1

  no-tokens : (ks : List Lexeme) → (ks ≡ [] → ⊥) → 0 < length ks
  no-tokens [] h = absurd (h refl)
  no-tokens (k ∷ ks) h = omega arith

  -- the token at the frontier is taken
  pub took_right : RulesLaws r → (k : Kept S) (before : List (Mark S)) (x : Mark S) (token : Lexeme) (s : S) → IsPlace t (frontier_of k) → frontier_of k < length t → token ≡ lexeme_of (cut t (frontier_of k)) →
      k.front ≡ before ++ x ∷ [] → k.marked ≡ false → length token.bytes ≤ k.here.len →
      is_state s → means s ≡ r.after (means k.here.state) token → IsRight is_state means r t k → IsRight is_state means r t (took means r k before x token s)
  took_right laws k before x token s place within is front_is unmarked fits own same h =
      let more : List Fault = placed (x.len - r.back (means k.here.state)) (r.gives (means k.here.state) token) in
      let y : Mark S = longer x token more in
      let here : Mark S = record { state = s; len = k.here.len - length token.bytes; tags = k.here.tags; faults = k.here.faults; whole = k.here.whole; saved = k.here.saved } in
      let list = assoc before y here k.aside in
      let was = assoc before x k.here k.aside in
      let P : List (Mark S) → Type 0 = λ l. FirstMeans means r.first l in
      let Q : List (Mark S) → Type 0 = λ l. Chain is_state means r t 0 l in
      let W : List (Mark S) → Type 0 = λ l. AreWhole l in
      let all : k.front ++ k.here ∷ k.aside ≡ before ++ x ∷ k.here ∷ k.aside = ap (λ l. l ++ k.here ∷ k.aside) front_is ∙ was in
      let wholes = subst W front_is h.holds.whole in
      let chain = subst Q all h.holds.chain in
      let at : ℕ = 0 + reach before in
      let tail = chain-tail 0 at before (x ∷ k.here ∷ k.aside) refl chain in
      let whole = whole-last before x wholes in
      let w = whole-link means r t at x.whole x (k.here ∷ k.aside) whole tail.1.0 in
      let end : frontier_of k ≡ at + x.len = ap reach front_is ∙ reach-snoc before x ∙ (let e : reach before + x.len ≡ 0 + reach before + x.len = omega arith in e) in
      let R : ℕ → Type 0 = λ n. IsPlace t n in
      let T : ℕ → Type 0 = λ n. token ≡ lexeme_of (cut t n) in
      let ahead : at + x.len + length token.bytes ≡ at + (x.len + length token.bytes) = omega arith in
      let C : ℕ → Type 0 = λ n. CutsTo t at (w.tokens ++ token ∷ []) n in
      let sizes : 0 + size w.tokens ≡ x.len = (let e = cuts-size t at (at + x.len) w.tokens w.segment.cuts in omega arith) in
      let due : is_due r (after_all r (means x.state) w.tokens) (0 + tags_in w.tokens) ≡ false =
      (let e : tags_behind k.front ≡ 0 + tags_in w.tokens = ap tags_behind front_is ∙ tags-snoc before x ∙ w.segment.tags_are ∙ (let z : tags_in w.tokens ≡ 0 + tags_in w.tokens = omega arith in z) in
      let D : M → ℕ → Type 0 = λ m n. is_due r m n ≡ false in
      subst (λ (n : ℕ). D (after_all r (means x.state) w.tokens) n) e (subst (λ (m : M). D m (tags_behind k.front)) w.leads (h.rule.rule unmarked))) in
      let segment : Segment r t at (means x.state) (x.len + length token.bytes) (x.tags + tag_of token.kind) (x.faults ++ more) (w.tokens ++ token ∷ []) = record {
        back = w.segment.back;
        cuts = subst C ahead (cuts-more t at (at + x.len) w.tokens token w.segment.cuts (subst R end place) (omega arith) (subst T end is));
        tags_are = ap (λ n. n + tag_of token.kind) w.segment.tags_are ∙ sym (tags-more w.tokens token);
        faults_are =
            ap (λ fs. fs ++ more) w.segment.faults_are
            ∙ ap (λ m. faults_along r 0 (means x.state) w.tokens ++ placed (x.len - r.back m) (r.gives m token)) w.leads
            ∙ ap (λ n. faults_along r 0 (means x.state) w.tokens ++ placed (n - r.back (after_all r (means x.state) w.tokens)) (r.gives (after_all r (means x.state) w.tokens) token)) (sym sizes)
            ∙ sym (faults-more r t 0 (means x.state) w.tokens token);
        sparse = sparse-more r (means x.state) 0 w.tokens token w.segment.sparse (λ _. due);
      } in
      let leads : means s ≡ after_all r (means x.state) (w.tokens ++ token ∷ []) = same ∙ ap (λ m. r.after m token) w.leads ∙ sym (after-more r (means x.state) w.tokens token) in
      let on : Chain is_state means r t (at + (x.len + length token.bytes)) (here ∷ k.aside) =
      other-here (at + x.len) (at + (x.len + length token.bytes)) k.here here k.aside h.holds.ends h.holds.ends own (omega arith) tail.1.1 in
      record {
        holds = record {
          first = subst P (sym list) (first-with before x y (k.here ∷ k.aside) (here ∷ k.aside) r.first refl (subst P all h.holds.first));
          chain = subst Q (sym list) (chain-with 0 at before x y (k.here ∷ k.aside) (here ∷ k.aside) refl refl chain
              (tail.0, (linked means r t at x.whole y (here ∷ k.aside) (record { tokens = w.tokens ++ token ∷ []; segment = segment; leads = leads }), on)));
          whole = whole-append before (y ∷ []) (whole-front before (x ∷ []) wholes) (whole, tt);
          ends = h.holds.ends;
        };
        rule = record {
          rule = λ no. ap (is_due r (means s)) (tags-snoc before y) ∙ no;
          some = λ _. some-snoc before y;
          mark = λ yes. laws.mark_back (means s) (and-left (r.may_mark (means s)) (nat_le (max (r.depth (means s)) 16) (x.tags + tag_of token.kind)) yes);
          saved = h.rule.saved;
        };
      }
    where
      and-left : (a b : Bool) → (a && b) ≡ true → a ≡ true
      and-left true b h = refl
      and-left false b h = h
