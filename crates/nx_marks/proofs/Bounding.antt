-- Each token that is taken is one fewer up to the first mark aside.
use Rattle.std.proofs.Common.{◌≡◌, ℕ, ◌+◌, ◌-◌, ◌<◌, ◌≤◌, Bool, true, false, List, [], ◌∷◌, ◌++◌, length, refl, sym, ap, subst, ◌∙◌, arith}
use Rattle.std.specs.Prelude.{IsUtf8, if◌then◌else◌}
use Rattle.nx_base.specs.Tokens.{cut}
use Rattle.nx_base.specs.Rules.{Rules, Lexeme, lexeme_of}
use Rattle.nx_base.specs.Running.{CutsTo, after_all}
use Rattle.nx_marks.specs.Chain.{FirstMeans, Chain, AreWhole, reach, Kept, frontier_of}
use Rattle.nx_marks.specs.Editing.{split}
use Rattle.nx_marks.specs.Right.{IsRight}
use Rattle.nx_marks.specs.Taking.{begun, took, let_go, row_joined}
use Rattle.nx_marks.specs.Bound.{row_len, WillReach}
use Rattle.nx_marks.specs.declared.mark.Mark.{Mark}
use Rattle.nx_marks.proofs.Places.{reaches, next}
use Rattle.nx_marks.proofs.Taking.{chain-tail, reach-snoc, chain-with, first-with}
use Rattle.nx_marks.proofs.Rules.{rule-same}
use Rattle.nx_marks.proofs.Joining.{gone}

reach-append : {S : Type 0} (xs ys : List (Mark S)) → reach (xs ++ ys) ≡ reach xs + reach ys
reach-append [] ys = omega arith
reach-append (x ∷ xs) ys = let e = reach-append xs ys in omega arith

front-alike : {S : Type 0} (a b : Bool) (x : Mark S) (ys : List (Mark S)) → (split a x ys).front ≡ (split b x ys).front
front-alike a b x [] = refl
front-alike a b x (y ∷ ys) = by x.whole (front-alike a b y ys)
  where
    by : (c : Bool) → (split a y ys).front ≡ (split b y ys).front →
        (if c then (let k = split a y ys in record k { front = x ∷ k.front }) else record { front = []; here = x; marked = a; aside = y ∷ ys }).front
        ≡ (if c then (let k = split b y ys in record k { front = x ∷ k.front }) else record { front = []; here = x; marked = b; aside = y ∷ ys }).front
    by true e = ap (λ l. x ∷ l) e
    by false e = refl

module _ {S M : Type 0} (is_state : S → Type 0) (means : S → M) (r : Rules M) (t : List ℕ) where
  nearer : (k : Kept S) (before : List (Mark S)) (x : Mark S) (token : Lexeme) (s : S) (n end : ℕ) (left : List Lexeme) → token ≡ lexeme_of (cut t (frontier_of k)) → k.front ≡ before ++ x ∷ [] →
      means s ≡ r.after (means k.here.state) token → 0 < k.here.len → CutsTo t (frontier_of k) left (frontier_of k + k.here.len) → FirstMeans means (after_all r (means k.here.state) left) k.aside →
      frontier_of k + k.here.len + row_len k.aside ≡ end → length left ≡ n → (0 < n) × WillReach means r t (n - 1) end (took means r k before x token s)
  nearer k before x token s n end [] is front_is same some cuts first row count = absurd (omega arith)
  nearer k before x token s n end (c ∷ cs) is front_is same some cuts first row count =
      let c_is : c ≡ token = cuts.1.1.0 ∙ sym is in
      let sizes : length c.bytes ≡ length token.bytes = ap (λ (l : Lexeme). length l.bytes) c_is in
      let ends = reaches t (frontier_of k + length c.bytes) (frontier_of k + k.here.len) cs cuts.1.1.1 in
      let j : Kept S = took means r k before x token s in
      let was : frontier_of k ≡ reach before + x.len = ap reach front_is ∙ reach-snoc is_state means r t before x in
      let now : frontier_of j ≡ reach before + (x.len + length token.bytes) = reach-append before _ ∙ (let e : reach before + (x.len + length token.bytes + 0) ≡ reach before + (x.len + length token.bytes) = omega arith in e) in
      let at : frontier_of k + length c.bytes ≡ frontier_of j = omega arith in
      let there : frontier_of k + k.here.len ≡ frontier_of j + (k.here.len - length token.bytes) = omega arith in
      let P : ℕ → Type 0 = λ a. CutsTo t a cs (frontier_of k + k.here.len) in
      let Q : ℕ → Type 0 = λ b. CutsTo t (frontier_of j) cs b in
      let F : M → Type 0 = λ m. FirstMeans means (after_all r m cs) k.aside in
      let meant : r.after (means k.here.state) c ≡ means s = ap (r.after (means k.here.state)) c_is ∙ sym same in
      let R : ℕ → Type 0 = λ b. b + row_len k.aside ≡ end in
      (omega arith, record { left = cs; cuts = subst Q there (subst P at cuts.1.1.1); first = subst F meant first; row = subst R there row; count = omega arith })

  -- a token that is taken is one fewer
  pub took_nearer : (k : Kept S) (before : List (Mark S)) (x : Mark S) (token : Lexeme) (s : S) (n end : ℕ) → token ≡ lexeme_of (cut t (frontier_of k)) → k.front ≡ before ++ x ∷ [] →
      means s ≡ r.after (means k.here.state) token → 0 < k.here.len → WillReach means r t n end k → (0 < n) × WillReach means r t (n - 1) end (took means r k before x token s)
  took_nearer k before x token s n end is front_is same some w = nearer k before x token s n end w.left is front_is same some w.cuts w.first w.row w.count

  -- the frontier's mark may be begun
  pub begun_near : (k : Kept S) (s : S) (n end : ℕ) → WillReach means r t n end k → WillReach means r t n end (begun k s)
  begun_near k s n end w =
      let at : frontier_of k ≡ frontier_of (begun k s) = (let e : reach k.front ≡ reach k.front + (0 + 0) = omega arith in e) ∙ sym (reach-append k.front _) in
      let P : ℕ → Type 0 = λ a. CutsTo t a w.left (a + k.here.len) in
      let R : ℕ → Type 0 = λ a. a + k.here.len + row_len k.aside ≡ end in
      record { left = w.left; cuts = subst P at w.cuts; first = w.first; row = subst R at w.row; count = w.count }

  pub none-left : IsUtf8 t → (p q : ℕ) (ks : List Lexeme) → p ≡ q → CutsTo t p ks q → ks ≡ []
  none-left utf8 p q [] e h = refl
  none-left utf8 p q (k ∷ ks) e h =
      let n = next t p k utf8 h.0 h.1.0 h.1.1.0 in
      let some = n.some in
      let le = reaches t (p + length k.bytes) q ks h.1.1.1 in
      absurd (omega arith)

  -- with no token left, the states mean the same, and all is kept behind the row
  pub joined_all : IsUtf8 t → (k : Kept S) (y : Mark S) (ys : List (Mark S)) (n end : ℕ) → k.aside ≡ y ∷ ys → k.here.len ≡ 0 → WillReach means r t n end k →
      (means y.state ≡ means k.here.state) × (frontier_of (row_joined means r k y ys) ≡ end)
  joined_all utf8 k y ys n end aside_is none w =
      let no : w.left ≡ [] = none-left utf8 (frontier_of k) (frontier_of k + k.here.len) w.left (omega arith) w.cuts in
      let P : List Lexeme → Type 0 = λ l. FirstMeans means (after_all r (means k.here.state) l) k.aside in
      let A : List (Mark S) → Type 0 = λ l. FirstMeans means (means k.here.state) l in
      let R : List (Mark S) → Type 0 = λ l. frontier_of k + k.here.len + row_len l ≡ end in
      let same_front : reach (split true y ys).front ≡ reach (split k.marked y ys).front = ap reach (front-alike true k.marked y ys) in
      let row : frontier_of k + k.here.len + reach (split true y ys).front ≡ end = subst R aside_is w.row in
      let all : frontier_of (row_joined means r k y ys) ≡ frontier_of k + reach (split k.marked y ys).front = reach-append k.front (split k.marked y ys).front in
      (subst A aside_is (subst P no w.first), omega arith)

  -- marks aside that are passed may go
  pub gone_right : (k : Kept S) (n : ℕ) → frontier_of k + n ≤ length t → IsRight is_state means r t k → IsRight is_state means r t (let_go n k.here k.front k.marked k.aside)
  gone_right k n fits h =
      let at : ℕ = 0 + reach k.front in
      let tail = chain-tail is_state means r t 0 at k.front (k.here ∷ k.aside) refl h.holds.chain in
      let g = gone is_state means r t n at k.here k.front k.marked k.aside h.holds.ends (omega arith) tail h.rule.saved in
      let j : Kept S = let_go n k.here k.front k.marked k.aside in
      let same : means j.here.state ≡ means k.here.state = ap means g.state in
      let W : List (Mark S) → Type 0 = λ l. AreWhole l in
      let F : List (Mark S) → Type 0 = λ l. FirstMeans means r.first (l ++ j.here ∷ j.aside) in
      let C : List (Mark S) → Type 0 = λ l. Chain is_state means r t 0 (l ++ j.here ∷ j.aside) in
      record {
        holds = record {
          first = subst F (sym g.front_is) (first-with is_state means r t k.front k.here j.here k.aside j.aside r.first same h.holds.first);
          chain = subst C (sym g.front_is) (chain-with is_state means r t 0 at k.front k.here j.here k.aside j.aside refl same h.holds.chain g.chain);
          whole = subst W (sym g.front_is) h.holds.whole;
          ends = g.ends ∙ h.holds.ends;
        };
        rule = rule-same means r k j g.front_is g.state g.marked_is g.saved h.rule;
      }
