-- A schema in one piece is as large as it is, whatever numbers its elements have.
use Rattle.std.proofs.Common.{◌≡◌, refl, sym, ap, ◌∙◌, subst, ℕ, zero, suc, ◌+◌, ◌<◌, ◌≤◌, ◌==◌, max, inl, inr, ◌⊎◌, List, [], ◌∷◌, ◌++◌, length, map, get_or, Contains, arith}
use Rattle.std.specs.Prelude.{sum_by}
use Rattle.std.specs.List.{IsDistinct, fold}
use Rattle.std.proofs.lemmas.Bool.{cases_lt}
use Rattle.std.proofs.lemmas.List.{map-append}
use Rattle.std.proofs.lemmas.Option.{get_or_from_slice_get}
use Rattle.rng_core.specs.Names.{Class, any_name}
use Rattle.rng_simplify.specs.Broken.{nodes_of_all}
use Rattle.rng_simplify.specs.Composed.{Composed, Clauses, end_of_clauses, clause_then, bodies, numbers, numbers_in}
use Rattle.rng_simplify.specs.Composed as composed
use Rattle.rng_simplify.specs.Forms.{Form, FormDefinition, nodes, depth}
use Rattle.rng_simplify.specs.Forms as form
use Rattle.rng_simplify.specs.Places.{place, Occurs, the_whole, further_in, a_part, a_content, a_definition}
use Rattle.rng_simplify.specs.Unnumbered.{unnumbered, unnumbered_in}
use Rattle.rng_simplify.specs.Whole.{IsForm}
use Rattle.rng_simplify.proofs.Alike.{plain, alike_by, simple_alike}
use Rattle.rng_simplify.proofs.Dense.{distinct_first, distinct_rest}
use Rattle.rng_simplify.proofs.Nodes.{in_none, in_cases, in_first, in_more}
use Rattle.rng_simplify.proofs.OneForm.{simple_one}

-- ---- sizes without numbers

nodes_plain : (p : Form) → nodes (plain p) ≡ nodes p
nodes_plain form.not_allowed = refl
nodes_plain form.empty = refl
nodes_plain form.any_text = refl
nodes_plain (form.value v) = refl
nodes_plain (form.typed type params values) = refl
nodes_plain (form.listed p) = ap (λ n. 1 + n) (nodes_plain p)
nodes_plain (form.attribute class p) = ap (λ n. 1 + n) (nodes_plain p)
nodes_plain (form.ref number) = refl
nodes_plain (form.one_or_more p) = ap (λ n. 1 + n) (nodes_plain p)
nodes_plain (form.choice p q) = ap (λ n. 1 + n + nodes (plain q)) (nodes_plain p) ∙ ap (λ n. 1 + nodes p + n) (nodes_plain q)
nodes_plain (form.group p q) = ap (λ n. 1 + n + nodes (plain q)) (nodes_plain p) ∙ ap (λ n. 1 + nodes p + n) (nodes_plain q)
nodes_plain (form.interleave p q) = ap (λ n. 1 + n + nodes (plain q)) (nodes_plain p) ∙ ap (λ n. 1 + nodes p + n) (nodes_plain q)

depth_plain : (p : Form) → depth (plain p) ≡ depth p
depth_plain form.not_allowed = refl
depth_plain form.empty = refl
depth_plain form.any_text = refl
depth_plain (form.value v) = refl
depth_plain (form.typed type params values) = refl
depth_plain (form.listed p) = ap (λ n. 1 + n) (depth_plain p)
depth_plain (form.attribute class p) = ap (λ n. 1 + n) (depth_plain p)
depth_plain (form.ref number) = refl
depth_plain (form.one_or_more p) = ap (λ n. 1 + n) (depth_plain p)
depth_plain (form.choice p q) = ap (λ n. 1 + max n (depth (plain q))) (depth_plain p) ∙ ap (λ n. 1 + max (depth p) n) (depth_plain q)
depth_plain (form.group p q) = ap (λ n. 1 + max n (depth (plain q))) (depth_plain p) ∙ ap (λ n. 1 + max (depth p) n) (depth_plain q)
depth_plain (form.interleave p q) = ap (λ n. 1 + max n (depth (plain q))) (depth_plain p) ∙ ap (λ n. 1 + max (depth p) n) (depth_plain q)

pub nodes_same : (p q : Form) → plain p ≡ plain q → nodes p ≡ nodes q
nodes_same p q same = sym (nodes_plain p) ∙ ap nodes same ∙ nodes_plain q

pub depth_same : (p q : Form) → plain p ≡ plain q → depth p ≡ depth q
depth_same p q same = sym (depth_plain p) ∙ ap depth same ∙ depth_plain q

-- ---- sums over all numbers below a bound

abbrev total : List ℕ → ℕ
total [] = 0
total (x ∷ xs) = x + total xs

abbrev up_to : (ℕ → ℕ) → ℕ → ℕ
up_to g zero = 0
up_to g (suc n) = up_to g n + g n

abbrev from_front : (ℕ → ℕ) → ℕ → ℕ
from_front g zero = 0
from_front g (suc n) = g 0 + from_front (λ i. g (suc i)) n

front_more : (n : ℕ) (g : ℕ → ℕ) → from_front g (suc n) ≡ from_front g n + g n
front_more zero g = omega arith
front_more (suc n) g = let rest = front_more n (λ i. g (suc i)) in omega arith

front_is : (n : ℕ) (g : ℕ → ℕ) → from_front g n ≡ up_to g n
front_is zero g = refl
front_is (suc n) g = front_more n g ∙ ap (λ m. m + g n) (front_is n g)

abbrev masked : (v x n : ℕ) → (x < n) ⊎ (n ≤ x) → ℕ
masked v x n (inl less) = v
masked v x n (inr least) = 0

abbrev mask : ℕ → (ℕ → ℕ) → ℕ → ℕ
mask n g x = masked (g x) x n (cases_lt x n)

masked_in : (v x n : ℕ) (h : (x < n) ⊎ (n ≤ x)) → x < n → masked v x n h ≡ v
masked_in v x n (inl less) within = refl
masked_in v x n (inr least) within = absurd (omega arith)

masked_out : (v x n : ℕ) (h : (x < n) ⊎ (n ≤ x)) → n ≤ x → masked v x n h ≡ 0
masked_out v x n (inl less) beyond = absurd (omega arith)
masked_out v x n (inr least) beyond = refl

mask_same : (g : ℕ → ℕ) (n x : ℕ) → (x ≡ n → ⊥) → mask (suc n) g x ≡ mask n g x
mask_same g n x other = elim (cases_lt x n) [
  | inl less ↦ masked_in (g x) x (suc n) (cases_lt x (suc n)) (omega arith) ∙ sym (masked_in (g x) x n (cases_lt x n) less)
  | inr least ↦ elim (cases_lt n x) [
    | inl more ↦ masked_out (g x) x (suc n) (cases_lt x (suc n)) (omega arith) ∙ sym (masked_out (g x) x n (cases_lt x n) least)
    | inr most ↦ absurd (other (omega arith))
  ]
]

none_masked : (g : ℕ → ℕ) (n : ℕ) (xs : List ℕ) → (Contains xs n → ⊥) → total (map (mask (suc n) g) xs) ≡ total (map (mask n g) xs)
none_masked g n [] none = refl
none_masked g n (x ∷ xs) none =
    let here = mask_same g n x (λ is. none (subst (λ y. Contains (x ∷ xs) y) is (in_first x xs))) in
    let rest = none_masked g n xs (λ among. none (in_more x xs n among)) in
    ap (λ m. m + total (map (mask (suc n) g) xs)) here ∙ ap (λ m. mask n g x + m) rest

one_masked : (g : ℕ → ℕ) (n : ℕ) (xs : List ℕ) → IsDistinct (λ a b. a == b) xs → Contains xs n →
    total (map (mask (suc n) g) xs) ≡ total (map (mask n g) xs) + g n
one_masked g n [] distinct among = absurd (in_none among)
one_masked g n (x ∷ xs) distinct among = elim (in_cases x xs n among) [
  | inl is ↦
      let here : mask (suc n) g x ≡ g x = masked_in (g x) x (suc n) (cases_lt x (suc n)) (omega arith) in
      let gone : mask n g x ≡ 0 = masked_out (g x) x n (cases_lt x n) (omega arith) in
      let rest = none_masked g n xs (λ further. distinct_first x xs distinct n further is) in
      let same = ap g is in
      ap (λ m. m + total (map (mask (suc n) g) xs)) here ∙ ap (λ m. g x + m) rest
      ∙ turned (g x) (g n) (mask n g x) (total (map (mask n g) xs)) same gone
  | inr further ↦
      let here = mask_same g n x (distinct_first x xs distinct n further) in
      let rest = one_masked g n xs (distinct_rest x xs distinct) further in
      ap (λ m. m + total (map (mask (suc n) g) xs)) here ∙ ap (λ m. mask n g x + m) rest
      ∙ moved (mask n g x) (total (map (mask n g) xs)) (g n)
]
  where
    turned : (a b m t : ℕ) → a ≡ b → m ≡ 0 → a + t ≡ (m + t) + b
    turned a b m t same gone = omega arith

    moved : (m t b : ℕ) → m + (t + b) ≡ (m + t) + b
    moved m t b = omega arith

all_masked : (g : ℕ → ℕ) (xs : List ℕ) → IsDistinct (λ a b. a == b) xs → (n : ℕ) → ((x : ℕ) → x < n → Contains xs x) →
    total (map (mask n g) xs) ≡ up_to g n
all_masked g xs distinct zero among = nothing xs
  where
    nothing : (ys : List ℕ) → total (map (mask 0 g) ys) ≡ 0
    nothing [] = refl
    nothing (y ∷ ys) =
        let here = masked_out (g y) y 0 (cases_lt y 0) (omega arith) in ap (λ m. m + total (map (mask 0 g) ys)) here
        ∙ ap (λ m. 0 + m) (nothing ys)
all_masked g xs distinct (suc n) among =
    one_masked g n xs distinct (among n (omega arith)) ∙ ap (λ m. m + g n) (all_masked g xs distinct n (λ x less. among x (omega arith)))

no_mask : (g : ℕ → ℕ) (n : ℕ) (xs : List ℕ) → ((x : ℕ) → Contains xs x → x < n) → total (map (mask n g) xs) ≡ total (map g xs)
no_mask g n [] below = refl
no_mask g n (x ∷ xs) below =
    ap (λ m. m + total (map (mask n g) xs)) (masked_in (g x) x n (cases_lt x n) (below x (in_first x xs)))
    ∙ ap (λ m. g x + m) (no_mask g n xs (λ y among. below y (in_more x xs y among)))

-- ---- the sum over definitions, in the order of the text

abbrev no_definition : FormDefinition
no_definition = record { class = any_name; content = form.empty }

abbrev weight : List FormDefinition → ℕ → ℕ
weight definitions n = nodes (get_or definitions n no_definition).content

sum_is : (definitions : List FormDefinition) (start : ℕ) →
    fold (λ n (d : FormDefinition). n + nodes d.content) start definitions ≡ start + from_front (weight definitions) (length definitions)
sum_is [] start = omega arith
sum_is (d ∷ definitions) start =
    sum_is definitions (start + nodes d.content) ∙ moved start (nodes d.content) (from_front (weight definitions) (length definitions))
  where
    moved : (a b c : ℕ) → (a + b) + c ≡ a + (b + c)
    moved a b c = omega arith

module _ (whole : Composed) (start : Form) (definitions : List FormDefinition) (is : IsForm whole start definitions) where
  sum_of_numbers : sum_by (λ (d : FormDefinition). nodes d.content) definitions ≡ total (map (weight definitions) (numbers whole))
  sum_of_numbers =
      sum_is definitions 0
      ∙ zero-front (from_front (weight definitions) (length definitions))
      ∙ front_is (length definitions) (weight definitions)
      ∙ sym (all_masked (weight definitions) (numbers whole) is.distinct (length definitions) (λ x less. (is.each_number x).1 less))
      ∙ no_mask (weight definitions) (length definitions) (numbers whole) (λ x among. (is.each_number x).0 among)
    where
      zero-front : (n : ℕ) → 0 + n ≡ n
      zero-front n = omega arith

-- ---- with other numbers

module _ (whole other : Composed) (start begin : Form) (definitions others : List FormDefinition) (is : IsForm whole start definitions)
    (also : IsForm other begin others) where
  abbrev one : ℕ → ℕ
  one = weight definitions

  abbrev two : ℕ → ℕ
  two = weight others

  content_same : (scopes around : List Clauses) (n m : ℕ) (class : Class) (p q : Composed) →
      Occurs whole (place scopes (composed.element n class p)) → Occurs other (place around (composed.element m class q)) →
      map unnumbered_in scopes ≡ map unnumbered_in around → unnumbered p ≡ unnumbered q → one n ≡ two m
  content_same scopes around n m class p q here there same alike =
      let a = is.each_element scopes n class p here in
      let b = also.each_element around m class q there in
      let r = simple_alike a.simple around q same alike in
      let contents : plain a.content ≡ plain b.content = r.same ∙ ap plain (simple_one r.simple b.simple) in
      ap (λ (d : FormDefinition). nodes d.content) (get_or_from_slice_get definitions n _ no_definition a.there)
      ∙ nodes_same a.content b.content contents
      ∙ sym (ap (λ (d : FormDefinition). nodes d.content) (get_or_from_slice_get others m _ no_definition b.there))

  joined_weights : (ns ms ks ls : List ℕ) → map one ns ≡ map two ms → map one ks ≡ map two ls → map one (ns ++ ks) ≡ map two (ms ++ ls)
  joined_weights ns ms ks ls first second =
      map-append one ns ks ∙ ap (λ ws. ws ++ map one ks) first ∙ ap (λ ws. map two ms ++ ws) second ∙ sym (map-append two ms ls)

  -- a pattern that is this one
  numbers_of : (p q : Composed) (ns : List ℕ) → q ≡ p → map one ns ≡ map two (numbers p) → map one ns ≡ map two (numbers q)
  numbers_of p q ns is same = same ∙ ap (λ r. map two (numbers r)) (sym is)

  there_by : (around : List Clauses) (p q : Composed) → q ≡ p → Occurs other (place around q) → Occurs other (place around p)
  there_by around p q is occurs = let P : Composed → Type 0 = λ r. Occurs other (place around r) in subst P is occurs

  mutual
    same_weights : (scopes around : List Clauses) (p q : Composed) → Occurs whole (place scopes p) → Occurs other (place around q) →
        map unnumbered_in scopes ≡ map unnumbered_in around → unnumbered p ≡ unnumbered q → map one (numbers p) ≡ map two (numbers q)
    same_weights scopes around (composed.element n class p) q here there same alike =
        let h = alike_by (composed.element n class p) q alike in
        let at = there_by around (composed.element h.0 class h.1) q h.2 there in
        let rest = same_weights scopes around p h.1 (further_in here a_content) (further_in at a_content) same (sym h.3) in
        numbers_of (composed.element h.0 class h.1) q (n ∷ numbers p) h.2
        (ap (λ w. w ∷ map one (numbers p)) (content_same scopes around n h.0 class p h.1 here at same (sym h.3)) ∙ ap (λ ws. two h.0 ∷ ws) rest)
    same_weights scopes around (composed.attribute class p) q here there same alike =
        let h = alike_by (composed.attribute class p) q alike in
        let at = there_by around (composed.attribute class h.0) q h.1 there in
        numbers_of (composed.attribute class h.0) q (numbers p) h.1 (same_weights scopes around p h.0 (further_in here (a_part (in_first p []))) (further_in at (a_part (in_first h.0 []))) same (sym h.2))
    same_weights scopes around (composed.listed p) q here there same alike =
        let h = alike_by (composed.listed p) q alike in
        let at = there_by around (composed.listed h.0) q h.1 there in
        numbers_of (composed.listed h.0) q (numbers p) h.1 (same_weights scopes around p h.0 (further_in here (a_part (in_first p []))) (further_in at (a_part (in_first h.0 []))) same (sym h.2))
    same_weights scopes around (composed.typed type params p) q here there same alike =
        let h = alike_by (composed.typed type params p) q alike in
        let at = there_by around (composed.typed type params h.0) q h.1 there in
        numbers_of (composed.typed type params h.0) q (numbers p) h.1 (same_weights scopes around p h.0 (further_in here (a_part (in_first p []))) (further_in at (a_part (in_first h.0 []))) same (sym h.2))
    same_weights scopes around (composed.one_or_more p) q here there same alike =
        let h = alike_by (composed.one_or_more p) q alike in
        let at = there_by around (composed.one_or_more h.0) q h.1 there in
        numbers_of (composed.one_or_more h.0) q (numbers p) h.1 (same_weights scopes around p h.0 (further_in here (a_part (in_first p []))) (further_in at (a_part (in_first h.0 []))) same (sym h.2))
    same_weights scopes around (composed.choice p r) q here there same alike =
        let h = alike_by (composed.choice p r) q alike in
        let at = there_by around (composed.choice h.0 h.1) q h.2 there in
        numbers_of (composed.choice h.0 h.1) q (numbers p ++ numbers r) h.2
        (joined_weights (numbers p) (numbers h.0) (numbers r) (numbers h.1)
        (same_weights scopes around p h.0 (further_in here (a_part (in_first p (r ∷ [])))) (further_in at (a_part (in_first h.0 (h.1 ∷ [])))) same (sym h.3))
        (same_weights scopes around r h.1 (further_in here (a_part (in_more p (r ∷ []) r (in_first r [])))) (further_in at (a_part (in_more h.0 (h.1 ∷ []) h.1 (in_first h.1 [])))) same (sym h.4)))
    same_weights scopes around (composed.group p r) q here there same alike =
        let h = alike_by (composed.group p r) q alike in
        let at = there_by around (composed.group h.0 h.1) q h.2 there in
        numbers_of (composed.group h.0 h.1) q (numbers p ++ numbers r) h.2
        (joined_weights (numbers p) (numbers h.0) (numbers r) (numbers h.1)
        (same_weights scopes around p h.0 (further_in here (a_part (in_first p (r ∷ [])))) (further_in at (a_part (in_first h.0 (h.1 ∷ [])))) same (sym h.3))
        (same_weights scopes around r h.1 (further_in here (a_part (in_more p (r ∷ []) r (in_first r [])))) (further_in at (a_part (in_more h.0 (h.1 ∷ []) h.1 (in_first h.1 [])))) same (sym h.4)))
    same_weights scopes around (composed.interleave p r) q here there same alike =
        let h = alike_by (composed.interleave p r) q alike in
        let at = there_by around (composed.interleave h.0 h.1) q h.2 there in
        numbers_of (composed.interleave h.0 h.1) q (numbers p ++ numbers r) h.2
        (joined_weights (numbers p) (numbers h.0) (numbers r) (numbers h.1)
        (same_weights scopes around p h.0 (further_in here (a_part (in_first p (r ∷ [])))) (further_in at (a_part (in_first h.0 (h.1 ∷ [])))) same (sym h.3))
        (same_weights scopes around r h.1 (further_in here (a_part (in_more p (r ∷ []) r (in_first r [])))) (further_in at (a_part (in_more h.0 (h.1 ∷ []) h.1 (in_first h.1 [])))) same (sym h.4)))
    same_weights scopes around (composed.ref name) q here there same alike =
        numbers_of (composed.ref name) q [] (alike_by (composed.ref name) q alike) refl
    same_weights scopes around (composed.parent_ref name) q here there same alike =
        numbers_of (composed.parent_ref name) q [] (alike_by (composed.parent_ref name) q alike) refl
    same_weights scopes around composed.empty q here there same alike =
        numbers_of composed.empty q [] (alike_by composed.empty q alike) refl
    same_weights scopes around composed.any_text q here there same alike =
        numbers_of composed.any_text q [] (alike_by composed.any_text q alike) refl
    same_weights scopes around composed.not_allowed q here there same alike =
        numbers_of composed.not_allowed q [] (alike_by composed.not_allowed q alike) refl
    same_weights scopes around (composed.value type text) q here there same alike =
        numbers_of (composed.value type text) q [] (alike_by (composed.value type text) q alike) refl
    same_weights scopes around (composed.grammar clauses) q here there same alike =
        let h = alike_by (composed.grammar clauses) q alike in
        let at = there_by around (composed.grammar h.0) q h.1 there in
        numbers_of (composed.grammar h.0) q (numbers_in clauses) h.1
        (same_weights_in (clauses ∷ scopes) (h.0 ∷ around) clauses h.0
        (λ r within. further_in here (a_definition within))
        (λ r within. further_in at (a_definition within))
        (ap (λ c. c ∷ map unnumbered_in scopes) (sym h.2) ∙ ap (λ cs. unnumbered_in h.0 ∷ cs) same)
        (sym h.2))

    same_weights_in : (scopes around : List Clauses) (clauses also_clauses : Clauses) →
        ((r : Composed) → Contains (bodies clauses) r → Occurs whole (place scopes r)) →
        ((r : Composed) → Contains (bodies also_clauses) r → Occurs other (place around r)) →
        map unnumbered_in scopes ≡ map unnumbered_in around → unnumbered_in clauses ≡ unnumbered_in also_clauses →
        map one (numbers_in clauses) ≡ map two (numbers_in also_clauses)
    same_weights_in scopes around end_of_clauses end_of_clauses here there same alike = refl
    same_weights_in scopes around end_of_clauses (clause_then name combine q more) here there same alike =
        let never : ⊥ = cc in absurd never
    same_weights_in scopes around (clause_then name combine p more) end_of_clauses here there same alike =
        let never : ⊥ = cc in absurd never
    same_weights_in scopes around (clause_then name combine p more) (clause_then name2 combine2 q rest) here there same alike =
        let head : unnumbered p ≡ unnumbered q = cc in
        let tail : unnumbered_in more ≡ unnumbered_in rest = cc in
        joined_weights (numbers p) (numbers q) (numbers_in more) (numbers_in rest)
        (same_weights scopes around p q (here p (in_first p (bodies more))) (there q (in_first q (bodies rest))) same head)
        (same_weights_in scopes around more rest (λ r within. here r (in_more p (bodies more) r within)) (λ r within. there r (in_more q (bodies rest) r within)) same tail)

  -- ---- as large as the other

  module _ (alike : unnumbered whole ≡ unnumbered other) where
    pub starts : plain start ≡ plain begin
    starts = let r = simple_alike is.start_is [] other refl alike in r.same ∙ ap plain (simple_one r.simple also.start_is)

    pub same_total : nodes_of_all start definitions ≡ nodes_of_all begin others
    same_total =
        ap (λ n. n + sum_by (λ (d : FormDefinition). nodes d.content) definitions) (nodes_same start begin starts)
        ∙ ap (λ n. nodes begin + n) (
        sum_of_numbers whole start definitions is
        ∙ ap total (same_weights [] [] whole other the_whole the_whole refl alike)
        ∙ sym (sum_of_numbers other begin others also))
