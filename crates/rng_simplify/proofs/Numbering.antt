-- A schema in one piece whose elements are numbered in order.
use Rattle.std.proofs.Common.{◌≡◌, refl, sym, ap, ◌∙◌, ℕ, zero, suc, ◌+◌, List, [], ◌∷◌, ◌++◌, length, slice_get, Some, arith}
use Rattle.std.proofs.lemmas.Option.{same_Some, none-some}
use Rattle.rng_simplify.specs.Composed.{Composed, Clauses, end_of_clauses, clause_then, numbers, numbers_in}
use Rattle.rng_simplify.specs.Composed as composed
use Rattle.rng_simplify.specs.Unnumbered.{unnumbered, unnumbered_in}

-- as many numbers as there are in the list, from this one on
abbrev counted : ℕ → List ℕ → List ℕ
counted k [] = []
counted k (x ∷ xs) = k ∷ counted (suc k) xs

counted_parts : (k : ℕ) (xs ys : List ℕ) → counted k (xs ++ ys) ≡ counted k xs ++ counted (k + length xs) ys
counted_parts k [] ys = let same : k ≡ k + length {A = ℕ} [] = omega arith in ap (λ n. counted n ys) same
counted_parts k (x ∷ xs) ys =
    let same : suc k + length xs ≡ k + length (x ∷ xs) = omega arith in
    ap (λ ns. k ∷ ns) (counted_parts (suc k) xs ys ∙ ap (λ n. counted (suc k) xs ++ counted n ys) same)

-- each is as far from the first as its place
counted_at : (k : ℕ) (xs : List ℕ) (i n : ℕ) → slice_get (counted k xs) i ≡ Some n → n ≡ k + i
counted_at k [] i n there = absurd (none-some n there)
counted_at k (x ∷ xs) zero n there = let same : k ≡ n = same_Some k n there in omega arith
counted_at k (x ∷ xs) (suc i) n there = let same : n ≡ suc k + i = counted_at (suc k) xs i n there in omega arith

abbrev mutual
  pub numbered : ℕ → Composed → Composed
  numbered k (composed.element number class p) = composed.element k class (numbered (suc k) p)
  numbered k (composed.attribute class p) = composed.attribute class (numbered k p)
  numbered k (composed.listed p) = composed.listed (numbered k p)
  numbered k (composed.ref name) = composed.ref name
  numbered k (composed.parent_ref name) = composed.parent_ref name
  numbered k composed.empty = composed.empty
  numbered k composed.any_text = composed.any_text
  numbered k composed.not_allowed = composed.not_allowed
  numbered k (composed.value type text) = composed.value type text
  numbered k (composed.typed type params except) = composed.typed type params (numbered k except)
  numbered k (composed.grammar clauses) = composed.grammar (numbered_in k clauses)
  numbered k (composed.one_or_more p) = composed.one_or_more (numbered k p)
  numbered k (composed.choice p q) = composed.choice (numbered k p) (numbered (k + length (numbers p)) q)
  numbered k (composed.group p q) = composed.group (numbered k p) (numbered (k + length (numbers p)) q)
  numbered k (composed.interleave p q) = composed.interleave (numbered k p) (numbered (k + length (numbers p)) q)

  pub numbered_in : ℕ → Clauses → Clauses
  numbered_in k end_of_clauses = end_of_clauses
  numbered_in k (clause_then name combine p more) =
      clause_then name combine (numbered k p) (numbered_in (k + length (numbers p)) more)

-- two lists of numbers, each of which is counted
both_counted : (k : ℕ) (xs ys first second : List ℕ) → first ≡ counted k xs → second ≡ counted (k + length xs) ys →
    first ++ second ≡ counted k (xs ++ ys)
both_counted k xs ys first second one other =
    ap (λ ns. ns ++ second) one ∙ ap (λ ns. counted k xs ++ ns) other ∙ sym (counted_parts k xs ys)

mutual
  numbers_counted : (k : ℕ) (p : Composed) → numbers (numbered k p) ≡ counted k (numbers p)
  numbers_counted k (composed.element number class p) = ap (λ ns. k ∷ ns) (numbers_counted (suc k) p)
  numbers_counted k (composed.attribute class p) = numbers_counted k p
  numbers_counted k (composed.listed p) = numbers_counted k p
  numbers_counted k (composed.ref name) = refl
  numbers_counted k (composed.parent_ref name) = refl
  numbers_counted k composed.empty = refl
  numbers_counted k composed.any_text = refl
  numbers_counted k composed.not_allowed = refl
  numbers_counted k (composed.value type text) = refl
  numbers_counted k (composed.typed type params except) = numbers_counted k except
  numbers_counted k (composed.grammar clauses) = numbers_counted_in k clauses
  numbers_counted k (composed.one_or_more p) = numbers_counted k p
  numbers_counted k (composed.choice p q) = both_counted k (numbers p) (numbers q) (numbers (numbered k p))
      (numbers (numbered (k + length (numbers p)) q)) (numbers_counted k p) (numbers_counted (k + length (numbers p)) q)
  numbers_counted k (composed.group p q) = both_counted k (numbers p) (numbers q) (numbers (numbered k p))
      (numbers (numbered (k + length (numbers p)) q)) (numbers_counted k p) (numbers_counted (k + length (numbers p)) q)
  numbers_counted k (composed.interleave p q) = both_counted k (numbers p) (numbers q) (numbers (numbered k p))
      (numbers (numbered (k + length (numbers p)) q)) (numbers_counted k p) (numbers_counted (k + length (numbers p)) q)

  numbers_counted_in : (k : ℕ) (clauses : Clauses) → numbers_in (numbered_in k clauses) ≡ counted k (numbers_in clauses)
  numbers_counted_in k end_of_clauses = refl
  numbers_counted_in k (clause_then name combine p more) = both_counted k (numbers p) (numbers_in more) (numbers (numbered k p))
      (numbers_in (numbered_in (k + length (numbers p)) more)) (numbers_counted k p) (numbers_counted_in (k + length (numbers p)) more)

-- the number of an element is its place among all
pub numbered_in_order : (p : Composed) (i n : ℕ) → slice_get (numbers (numbered 0 p)) i ≡ Some n → n ≡ i
numbered_in_order p i n there =
    let same : n ≡ 0 + i = counted_at 0 (numbers p) i n (sym (ap (λ ns. slice_get ns i) (numbers_counted 0 p)) ∙ there) in
    omega arith

both_same : (join : Composed → Composed → Composed) (p q r s : Composed) → p ≡ r → q ≡ s → join p q ≡ join r s
both_same join p q r s one other = ap (λ x. join x q) one ∙ ap (λ x. join r x) other

mutual
  -- all else is as it was
  pub unnumbered_same : (k : ℕ) (p : Composed) → unnumbered (numbered k p) ≡ unnumbered p
  unnumbered_same k (composed.element number class p) = ap (composed.element 0 class) (unnumbered_same (suc k) p)
  unnumbered_same k (composed.attribute class p) = ap (composed.attribute class) (unnumbered_same k p)
  unnumbered_same k (composed.listed p) = ap composed.listed (unnumbered_same k p)
  unnumbered_same k (composed.ref name) = refl
  unnumbered_same k (composed.parent_ref name) = refl
  unnumbered_same k composed.empty = refl
  unnumbered_same k composed.any_text = refl
  unnumbered_same k composed.not_allowed = refl
  unnumbered_same k (composed.value type text) = refl
  unnumbered_same k (composed.typed type params except) = ap (composed.typed type params) (unnumbered_same k except)
  unnumbered_same k (composed.grammar clauses) = ap composed.grammar (unnumbered_same_in k clauses)
  unnumbered_same k (composed.one_or_more p) = ap composed.one_or_more (unnumbered_same k p)
  unnumbered_same k (composed.choice p q) = both_same composed.choice (unnumbered (numbered k p))
      (unnumbered (numbered (k + length (numbers p)) q)) (unnumbered p) (unnumbered q) (unnumbered_same k p)
      (unnumbered_same (k + length (numbers p)) q)
  unnumbered_same k (composed.group p q) = both_same composed.group (unnumbered (numbered k p))
      (unnumbered (numbered (k + length (numbers p)) q)) (unnumbered p) (unnumbered q) (unnumbered_same k p)
      (unnumbered_same (k + length (numbers p)) q)
  unnumbered_same k (composed.interleave p q) = both_same composed.interleave (unnumbered (numbered k p))
      (unnumbered (numbered (k + length (numbers p)) q)) (unnumbered p) (unnumbered q) (unnumbered_same k p)
      (unnumbered_same (k + length (numbers p)) q)

  unnumbered_same_in : (k : ℕ) (clauses : Clauses) → unnumbered_in (numbered_in k clauses) ≡ unnumbered_in clauses
  unnumbered_same_in k end_of_clauses = refl
  unnumbered_same_in k (clause_then name combine p more) =
      ap (λ q. clause_then name combine q (unnumbered_in (numbered_in (k + length (numbers p)) more))) (unnumbered_same k p)
      ∙ ap (clause_then name combine (unnumbered p)) (unnumbered_same_in (k + length (numbers p)) more)
