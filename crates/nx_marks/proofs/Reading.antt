-- What is read from what is kept: faults, places, marks.
use Rattle.std.proofs.Common.{◌≡◌, ℕ, zero, suc, ◌+◌, ◌-◌, ◌≤◌, List, [], ◌∷◌, ◌++◌, length, map, refl, sym, ap, subst, ◌∙◌, arith, append_assoc}
use Rattle.std.specs.Prelude.{IsUtf8}
use Rattle.std.proofs.lemmas.List.{map-append}
use Rattle.std.proofs.lemmas.Str.{IsCharBoundary-start}
use Rattle.nx_base.specs.Text.{IsPlace}
use Rattle.nx_base.specs.Tokens.{cut, tokens_from, tokens_of, tokens_within}
use Rattle.nx_base.specs.declared.fault.Fault.{Fault}
use Rattle.nx_scan.proofs.Joined.{tokens-go_on}
use Rattle.nx_base.specs.Shifting.{placed, placed_fault}
use Rattle.nx_base.specs.Rules.{Rules, RulesLaws, Lexeme, lexeme_of}
use Rattle.nx_base.specs.Running.{CutsTo, after_all, faults_along, machine_faults}
use Rattle.nx_marks.specs.Chain.{FirstMeans, Chain, AreWhole, reach, Kept, frontier_of, faults_in}
use Rattle.nx_marks.specs.Right.{IsRight}
use Rattle.nx_marks.specs.declared.mark.Mark.{Mark}
use Rattle.nx_marks.proofs.Places.{size, cuts-size, cuts-end, next}
use Rattle.nx_marks.proofs.Edits.{whole-link}

pub cuts-append : (t : List ℕ) (p q s : ℕ) (ks ls : List Lexeme) → CutsTo t p ks q → CutsTo t q ls s → CutsTo t p (ks ++ ls) s
cuts-append t p q s [] ls h g = let P : ℕ → Type 0 = λ x. CutsTo t x ls s in subst P (sym h) g
cuts-append t p q s (k ∷ ks) ls h g = (h.0, (h.1.0, (h.1.1.0, cuts-append t (p + length k.bytes) q s ks ls h.1.1.1 g)))

fault_at : Fault → ℕ → ℕ → Fault
fault_at f from to = record { span = record { from = from; to = to }; kind = f.kind; detail = f.detail }

moved-add : (d e : ℕ) (f : Fault) → placed_fault d (placed_fault e f) ≡ placed_fault (d + e) f
unfolding fault_at
moved-add d e f =
    let one : d + (e + f.span.from) ≡ d + e + f.span.from = omega arith in
    let two : d + (e + f.span.to) ≡ d + e + f.span.to = omega arith in
    ap (λ x. fault_at f x (d + (e + f.span.to))) one ∙ ap (fault_at f (d + e + f.span.from)) two

placed-add : (d e : ℕ) (fs : List Fault) → placed d (placed e fs) ≡ placed (d + e) fs
placed-add d e [] = refl
placed-add d e (f ∷ fs) = rw (moved-add d e f, placed-add d e fs) refl

module _ {M : Type 0} (r : Rules M) where
  pub after-append : (m : M) (ks ls : List Lexeme) → after_all r m (ks ++ ls) ≡ after_all r (after_all r m ks) ls
  after-append m [] ls = refl
  after-append m (k ∷ ks) ls = after-append (r.after m k) ks ls

  pub faults-append : (p q : ℕ) (m : M) (ks ls : List Lexeme) → p + size ks ≡ q → faults_along r p m (ks ++ ls) ≡ faults_along r p m ks ++ faults_along r q (after_all r m ks) ls
  faults-append p q m [] ls e = ap (λ n. faults_along r n m ls) (omega arith)
  faults-append p q m (k ∷ ks) ls e =
      ap (λ fs. placed (p - r.back m) (r.gives m k) ++ fs) (faults-append (p + length k.bytes) q (r.after m k) ks ls (omega arith))
      ∙ sym (append_assoc (placed (p - r.back m) (r.gives m k)) (faults_along r (p + length k.bytes) (r.after m k) ks) _)

  -- a run that begins d later gives the same faults d later
  pub faults-moved : RulesLaws r → (d p : ℕ) (m : M) (ks : List Lexeme) → r.back m ≤ p → faults_along r (d + p) m ks ≡ placed d (faults_along r p m ks)
  faults-moved laws d p m [] h = refl
  faults-moved laws d p m (k ∷ ks) h =
      let one : d + (p - r.back m) ≡ d + p - r.back m = omega arith in
      let two : d + (p + length k.bytes) ≡ d + p + length k.bytes = omega arith in
      let grown = laws.after_back m k in
      let rest = faults-moved laws d (p + length k.bytes) (r.after m k) ks (omega arith) in
      sym (
      map-append (placed_fault d) (placed (p - r.back m) (r.gives m k)) (faults_along r (p + length k.bytes) (r.after m k) ks)
      ∙ ap (λ fs. fs ++ placed d (faults_along r (p + length k.bytes) (r.after m k) ks)) (placed-add d (p - r.back m) (r.gives m k) ∙ ap (λ n. placed n (r.gives m k)) one)
      ∙ ap (λ fs. placed (d + p - r.back m) (r.gives m k) ++ fs) (sym rest ∙ ap (λ n. faults_along r n (r.after m k) ks) two)
      )

pub whole : (t : List ℕ) (p : ℕ) (ks : List Lexeme) → IsUtf8 t → CutsTo t p ks (length t) → map lexeme_of (tokens_from t p) ≡ ks
unfolding tokens_within
whole t p [] utf8 h = none (length t - p) (omega arith)
  where
    none : (n : ℕ) → n ≡ 0 → map lexeme_of (tokens_within n t p) ≡ []
    none zero e = refl
    none (suc n) e = absurd (omega arith)
whole t p (k ∷ ks) utf8 h =
    let n = next t p k utf8 h.0 h.1.0 h.1.1.0 in
    ap (map lexeme_of) (tokens-go_on t p utf8 h.0 h.1.0)
    ∙ ap (λ q. lexeme_of (cut t p) ∷ map lexeme_of (tokens_from t q)) n.end
    ∙ ap (λ ls. lexeme_of (cut t p) ∷ ls) (whole t (p + length k.bytes) ks utf8 h.1.1.1)
    ∙ ap (λ j. j ∷ ks) (sym h.1.1.0)

module _ {S M : Type 0} (is_state : S → Type 0) (means : S → M) (r : Rules M) (t : List ℕ) where
  -- whole marks lead from p and m to a mark at q
  pub record Led (p : ℕ) (m : M) (xs : List (Mark S)) (q : ℕ) (z : Mark S) (zs : List (Mark S)) : Type 0 where
    pub tokens : List Lexeme
    pub cuts : CutsTo t p tokens q
    pub meaning : means z.state ≡ after_all r m tokens
    pub own : is_state z.state
    pub chain : Chain is_state means r t q (z ∷ zs)
    pub faults : faults_in p xs ≡ faults_along r p m tokens

  pub led : RulesLaws r → (p : ℕ) (m : M) (xs : List (Mark S)) (q : ℕ) (z : Mark S) (zs : List (Mark S)) → p + reach xs ≡ q → AreWhole xs → FirstMeans means m (xs ++ z ∷ zs) →
      Chain is_state means r t p (xs ++ z ∷ zs) → Led p m xs q z zs
  led laws p m [] q z zs e w f h =
      let at : p ≡ q = omega arith in
      let P : ℕ → Type 0 = λ n. Chain is_state means r t n (z ∷ zs) in
      record { tokens = []; cuts = at; meaning = f; own = h.0; chain = subst P at h; faults = refl }
  led laws p m (x ∷ xs) q z zs e w f h =
      let g = whole-link means r t p x.whole x (xs ++ z ∷ zs) w.0 h.1.0 in
      let rest = led laws (p + x.len) (after_all r (means x.state) g.tokens) xs q z zs (omega arith) w.1 g.leads h.1.1 in
      let sizes : p + size g.tokens ≡ p + x.len = (let s = cuts-size t p (p + x.len) g.tokens g.segment.cuts in omega arith) in
      let zero_at : p + 0 ≡ p = omega arith in
      let back : r.back (means x.state) ≤ 0 = (let b = g.segment.back in omega arith) in
      record {
        tokens = g.tokens ++ rest.tokens;
        cuts = cuts-append t p (p + x.len) q g.tokens rest.tokens g.segment.cuts rest.cuts;
        meaning = rest.meaning ∙ ap (λ n. after_all r (after_all r n g.tokens) rest.tokens) f ∙ sym (after-append r m g.tokens rest.tokens);
        own = rest.own;
        chain = rest.chain;
        faults =
            ap (λ fs. placed p fs ++ faults_in (p + x.len) xs) g.segment.faults_are
            ∙ ap (λ fs. fs ++ faults_in (p + x.len) xs) (sym (faults-moved r laws p 0 (means x.state) g.tokens back) ∙ ap (λ n. faults_along r n (means x.state) g.tokens) zero_at)
            ∙ ap (λ fs. faults_along r p (means x.state) g.tokens ++ fs) rest.faults
            ∙ sym (faults-append r p (p + x.len) (means x.state) g.tokens rest.tokens sizes)
            ∙ ap (λ n. faults_along r p n (g.tokens ++ rest.tokens)) f;
      }

  pub front-led : RulesLaws r → (k : Kept S) → IsRight is_state means r t k → Led 0 r.first k.front (frontier_of k) k.here k.aside
  front-led laws k h = led laws 0 r.first k.front (frontier_of k) k.here k.aside (omega arith) h.holds.whole h.holds.first h.holds.chain

  -- the frontier is a place of the text
  pub frontier_place : RulesLaws r → IsUtf8 t → (k : Kept S) → IsRight is_state means r t k → IsPlace t (frontier_of k)
  frontier_place laws utf8 k h = let l = front-led laws k h in cuts-end t 0 (frontier_of k) l.tokens utf8 (IsCharBoundary-start t utf8) l.cuts

  -- the faults of the segments and those of the end are the machine's for the whole text
  pub all_faults : RulesLaws r → IsUtf8 t → (k : Kept S) → IsRight is_state means r t k → frontier_of k ≡ length t →
      faults_in 0 k.front ++ placed (length t - r.back (means k.here.state)) (r.ends (means k.here.state)) ≡ machine_faults r t
  all_faults laws utf8 k h all =
      let l = front-led laws k h in
      let P : ℕ → Type 0 = λ n. CutsTo t 0 l.tokens n in
      let ts : map lexeme_of (tokens_of t) ≡ l.tokens = whole t 0 l.tokens utf8 (subst P all l.cuts) in
      ap (λ fs. fs ++ placed (length t - r.back (means k.here.state)) (r.ends (means k.here.state))) l.faults
      ∙ ap (λ m. faults_along r 0 r.first l.tokens ++ placed (length t - r.back m) (r.ends m)) l.meaning
      ∙ ap (λ ks. faults_along r 0 r.first ks ++ placed (length t - r.back (after_all r r.first ks)) (r.ends (after_all r r.first ks))) (sym ts)
