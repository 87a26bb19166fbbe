-- The tokens that are left up to a mark are no more than those that the text has between two places.
use Rattle.std.proofs.Common.{◌≡◌, ℕ, ◌+◌, ◌≤◌, Bool, true, false, ◌&&◌, List, [], ◌∷◌, length, refl, ap, subst, ◌∙◌, arith}
use Rattle.std.specs.Prelude.{IsUtf8, nat_le, count_by, cond}
use Rattle.std.proofs.lemmas.List.Sums.{sum_by-cons}
use Rattle.std.proofs.lemmas.Bool.Decides.{nat_tests}
use Rattle.nx_base.specs.Rules.{Rules, RulesLaws, Lexeme}
use Rattle.nx_base.specs.Running.{CutsTo}
use Rattle.nx_base.specs.Tokens.{cut, end_of, tokens_from, token_count}
use Rattle.nx_base.specs.declared.token.Token.{Token}
use Rattle.nx_scan.proofs.Every.{cut-is_token}
use Rattle.nx_scan.proofs.Joined.{tokens-go_on}
use Rattle.nx_marks.specs.Bound.{WillJoin}
use Rattle.nx_marks.specs.Chain.{Kept, frontier_of}
use Rattle.nx_marks.specs.Right.{IsRight}
use Rattle.nx_marks.proofs.Places.{next, reaches}
use Rattle.nx_marks.proofs.Moving.{border_of}

abbrev lies : ℕ → ℕ → Token → Bool
lies from to token = nat_le from token.from && nat_le (end_of token) to

counts : (p : Token → Bool) (x : Token) (xs : List Token) → count_by p (x ∷ xs) ≡ cond (p x) 1 0 + count_by p xs
counts p x xs = sum_by-cons (λ (y : Token). cond (p y) 1 0) x xs

one-more : (p : Token → Bool) (x : Token) (xs : List Token) → p x ≡ true → count_by p (x ∷ xs) ≡ 1 + count_by p xs
one-more p x xs e = counts p x xs ∙ ap (λ b. cond b 1 0 + count_by p xs) e

no-fewer : (p : Token → Bool) (x : Token) (xs : List Token) → count_by p xs ≤ count_by p (x ∷ xs)
no-fewer p x xs = by (p x) refl
  where
    by : (b : Bool) → p x ≡ b → count_by p xs ≤ count_by p (x ∷ xs)
    by true e = let n = one-more p x xs e in omega arith
    by false e = let n : count_by p (x ∷ xs) ≡ 0 + count_by p xs = counts p x xs ∙ ap (λ b. cond b 1 0 + count_by p xs) e in omega arith

-- behind some tokens there are no more
count-behind : (t : List ℕ) (p q : ℕ) (test : Token → Bool) (ks : List Lexeme) → IsUtf8 t → CutsTo t p ks q → count_by test (tokens_from t q) ≤ count_by test (tokens_from t p)
count-behind t p q test [] utf8 h = let P : ℕ → Type 0 = λ n. count_by test (tokens_from t n) ≤ count_by test (tokens_from t p) in subst P h (omega arith)
count-behind t p q test (k ∷ ks) utf8 h =
    let n = next t p k utf8 h.0 h.1.0 h.1.1.0 in
    let list : tokens_from t p ≡ cut t p ∷ tokens_from t (p + length k.bytes) = tokens-go_on t p utf8 h.0 h.1.0 ∙ ap (λ m. cut t p ∷ tokens_from t m) n.end in
    let rest = count-behind t (p + length k.bytes) q test ks utf8 h.1.1.1 in
    let one = no-fewer test (cut t p) (tokens_from t (p + length k.bytes)) in
    let same = ap (count_by test) list in
    omega arith

-- tokens between two places are counted
count-left : (t : List ℕ) (from to p q : ℕ) (ks : List Lexeme) → IsUtf8 t → CutsTo t p ks q → from ≤ p → q ≤ to → length ks ≤ count_by (lies from to) (tokens_from t p)
count-left t from to p q [] utf8 h a b = omega arith
count-left t from to p q (k ∷ ks) utf8 h a b =
    let n = next t p k utf8 h.0 h.1.0 h.1.1.0 in
    let here = cut-is_token t p utf8 h.0 h.1.0 in
    let end = n.end in
    let far = reaches t (p + length k.bytes) q ks h.1.1.1 in
    let list : tokens_from t p ≡ cut t p ∷ tokens_from t (p + length k.bytes) = tokens-go_on t p utf8 h.0 h.1.0 ∙ ap (λ m. cut t p ∷ tokens_from t m) n.end in
    let rest = count-left t from to (p + length k.bytes) q ks utf8 h.1.1.1 (omega arith) b in
    let in_it : lies from to (cut t p) ≡ true = inside (cut t p).from (end_of (cut t p)) (omega (arith, here.from)) (omega arith) in
    let one = one-more (lies from to) (cut t p) (tokens_from t (p + length k.bytes)) in_it in
    let same = ap (count_by (lies from to)) list in
    omega arith
  where
    inside : (x y : ℕ) → from ≤ x → y ≤ to → (nat_le from x && nat_le y to) ≡ true
    inside x y a b = grind (arith, nat_tests)

pub counted : {S M : Type 0} (is_state : S → Type 0) (means : S → M) (r : Rules M) → RulesLaws r → (t : List ℕ) (n : ℕ) (k : Kept S) → IsUtf8 t → IsRight is_state means r t k → WillJoin means r t n k →
    n ≤ token_count t (frontier_of k) (frontier_of k + k.here.len)
counted is_state means r laws t n k utf8 h w =
    let b = border_of is_state means r laws t utf8 k h in
    let all = count-behind t 0 (frontier_of k) (lies (frontier_of k) (frontier_of k + k.here.len)) b.tokens utf8 b.cuts in
    let left = count-left t (frontier_of k) (frontier_of k + k.here.len) (frontier_of k) (frontier_of k + k.here.len) w.left utf8 w.cuts (omega arith) (omega arith) in
    let count = w.count in
    omega arith
