-- The elements of a schema have the numbers of its definitions, each one of its own.
use Rattle.std.proofs.Common.{◌≡◌, ◌≢◌, ◌↔◌, refl, sym, ap, ◌∙◌, subst, ℕ, zero, suc, ◌<◌, ◌≤◌, ◌==◌, inl, inr, ◌⊎◌, false, List, [], ◌∷◌, ◌++◌, length, map, get_or, slice_get, Option, Some, None, Contains, option_map, arith}
use Rattle.std.specs.List.{IsDistinct}
use Rattle.std.proofs.lemmas.Bool.{eqb-false}
use Rattle.std.proofs.lemmas.List.{map-append}
use Rattle.std.proofs.lemmas.List.Elements.{All-from_recursion, All-contains, Contains-append_left, Contains-append_right, Contains-append_cases}
use Rattle.std.proofs.lemmas.Option.{same_Some, none-some, slice_get_within, slice_get-get_or, slice_get-map}
use Rattle.rng_core.specs.Names.{Class}
use Rattle.rng_simplify.specs.declared.node.Clause.{Clause}
use Rattle.rng_simplify.specs.declared.node.Sign.{Sign}
use Rattle.rng_simplify.specs.declared.node.Sign.TheVariants as sign
use Rattle.rng_simplify.specs.declared.resolve.Resolved.{Resolved}
use Rattle.rng_simplify.specs.Cells.{Cell}
use Rattle.rng_simplify.specs.Cells as cell
use Rattle.rng_simplify.specs.Composed.{Composed, Clauses, numbers, numbers_in, bodies}
use Rattle.rng_simplify.specs.Composed as composed
use Rattle.rng_simplify.specs.CellMeanings.{IsCell, Denotes, DenoteAll, composed_by, is_element, is_attribute, is_list, is_ref, is_parent_ref, is_empty, is_text, is_not_allowed, is_value, is_type, is_grammar, is_one_or_more, is_joined, none_denoted, next_denoted}
use Rattle.rng_simplify.specs.Places.{Place, parts, IsIn, a_part as part_in, a_content as content_in, a_definition as definition_in, Occurs, the_whole, further_in}
use Rattle.rng_simplify.specs.NodePlaces.{bodies_of, inner_nodes, AreWellFormed, Stands, the_root, IsStanding}
use Rattle.rng_simplify.specs.ResolvedNodes.{IsResolved, number_at}
use Rattle.rng_simplify.proofs.Nodes.{in_none, in_first, in_more, in_cases, in_one, denoted_by, place_of}
use Rattle.rng_simplify.proofs.Posts.{stands_in}
use Rattle.rng_simplify.proofs.WalkTurns.{distinct_by_place}
use Rattle.rng_simplify.proofs.Walks.{place_in, in_by_place}

-- ---- what stands below a node

pub data Under (cells : List Cell) (top : ℕ) : ℕ → Type 0 where
  at_top : Under cells top top
  further_under : {k j : ℕ} {c : Cell} → Under cells top k → IsCell cells k c → Contains (inner_nodes c) j → Under cells top j

-- how something comes to stand below
pub record IsUnderIn (cells : List Cell) (top j : ℕ) : Type 0 where
  pub outer : ℕ
  pub cell : Cell
  pub under : Under cells top outer
  pub is_cell : IsCell cells outer cell
  pub inner : Contains (inner_nodes cell) j

under_by : {cells : List Cell} {top j : ℕ} → Under cells top j → (j ≡ top) ⊎ IsUnderIn cells top j
under_by at_top = inl refl
under_by (further_under {k = k} {c = c} under at inner) = inr (record { outer = k; cell = c; under = under; is_cell = at; inner = inner })

-- what stands directly in a node stands below it, with all that stands below that
under_on : {cells : List Cell} {top mid j : ℕ} {c : Cell} → IsCell cells top c → Contains (inner_nodes c) mid → Under cells mid j → Under cells top j
under_on at inner at_top = further_under at_top at inner
under_on at inner (further_under under at_k inner_k) = further_under (under_on at inner under) at_k inner_k

module _ {cells : List Cell} {root : ℕ} (formed : AreWellFormed cells root) where
  under_below : {top j : ℕ} → Under cells top j → j ≤ top
  under_below at_top = omega arith
  under_below (further_under {k = k} {j = j} {c = c} under at inner) =
      let le = under_below under in
      let lt = formed.inner_below k j c at inner in
      omega (arith, le, lt)

  -- of two above the same, one is above the other
  one_above : {a b j : ℕ} → Under cells a j → Under cells b j → Under cells a b ⊎ Under cells b a
  one_above at_top other = inr other
  one_above {a = a} {b = b} (further_under {k = k} {j = j} {c = c} under at inner) other =
      elim (under_by other) [
        | inl is ↦ inl (subst (λ m. Under cells a m) is (further_under under at inner))
        | inr h ↦ one_above under (subst (λ m. Under cells b m) (sym (formed.one_outer k h.outer j c h.cell at h.is_cell inner h.inner)) h.under)
      ]

  -- two that stand directly in the same have nothing in common
  not_above : (i : ℕ) {a b : ℕ} (c : Cell) → IsCell cells i c → Contains (inner_nodes c) a → Contains (inner_nodes c) b → a ≢ b → Under cells a b → ⊥
  not_above i {a = a} {b = b} c at inner_a inner_b differ under =
      elim (under_by under) [
        | inl is ↦ differ (sym is)
        | inr h ↦
            let same = formed.one_outer i h.outer b c h.cell at h.is_cell inner_b h.inner in
            let le = under_below h.under in
            let lt = formed.inner_below i a c at inner_a in
            absurd (omega (arith, same, le, lt))
      ]

  pub nothing_common : (i : ℕ) {a b j : ℕ} (c : Cell) → IsCell cells i c → Contains (inner_nodes c) a → Contains (inner_nodes c) b → a ≢ b → Under cells a j → Under cells b j → ⊥
  nothing_common i c at inner_a inner_b differ under_a under_b =
      elim (one_above under_a under_b) [
        | inl above ↦ not_above i c at inner_a inner_b differ above
        | inr above ↦ not_above i c at inner_b inner_a (λ is. differ (sym is)) above
      ]

  -- what stands below the root stands in the schema
  pub under_stands : {outers : List ℕ} {top j : ℕ} → Stands cells root outers top → Under cells top j → IsStanding cells root j
  under_stands {outers = outers} stands at_top = (outers, stands)
  under_stands stands (further_under {c = c} under at inner) =
      let above = under_stands stands under in
      (_, stands_in c above.1 at inner)

-- ---- lists in which nothing is twice

pub record IsOnce (xs : List ℕ) : Type 0 where
  pub once : (k m i : ℕ) → slice_get xs k ≡ Some i → slice_get xs m ≡ Some i → k ≡ m

none_once : IsOnce []
none_once = record { once = λ k m i at again. absurd (none-some i at) }

next_once : (x : ℕ) (xs : List ℕ) → (Contains xs x → ⊥) → IsOnce xs → IsOnce (x ∷ xs)
next_once x xs apart h = record { once = places x xs apart h }
  where
    places : (x : ℕ) (xs : List ℕ) → (Contains xs x → ⊥) → IsOnce xs → (k m i : ℕ) → slice_get (x ∷ xs) k ≡ Some i → slice_get (x ∷ xs) m ≡ Some i → k ≡ m
    places x xs apart h zero zero i at again = refl
    places x xs apart h zero (suc m) i at again = absurd (apart (in_by_place xs m x (again ∙ sym at)))
    places x xs apart h (suc k) zero i at again = absurd (apart (in_by_place xs k x (at ∙ sym again)))
    places x xs apart h (suc k) (suc m) i at again = ap suc (h.once k m i at again)

both_once : (xs ys : List ℕ) → ((i : ℕ) → Contains xs i → Contains ys i → ⊥) → IsOnce xs → IsOnce ys → IsOnce (xs ++ ys)
both_once [] ys apart first second = second
both_once (x ∷ xs) ys apart first second =
    next_once x (xs ++ ys)
    (λ among. elim (Contains-append_cases xs ys x among) [
      | inl here ↦ first_apart x xs first here
      | inr there ↦ apart x (in_first x xs) there
    ])
    (both_once xs ys (λ i here there. apart i (in_more x xs i here) there) (rest_once x xs first) second)
  where
    first_apart : (x : ℕ) (xs : List ℕ) → IsOnce (x ∷ xs) → Contains xs x → ⊥
    first_apart x xs h among =
        let place = place_in xs x among in
        let same = h.once 0 (suc place.0) x refl place.1 in
        absurd (omega (arith, same))

    rest_once : (x : ℕ) (xs : List ℕ) → IsOnce (x ∷ xs) → IsOnce xs
    rest_once x xs h = record { once = λ k m i at again. let same = h.once (suc k) (suc m) i at again in omega (arith, same) }

-- ---- the elements below a node

pub record IsElementThere (cells : List Cell) (j : ℕ) : Type 0 where
  pub class : Class
  pub part : ℕ
  pub is_element : IsCell cells j (cell.element class part)

-- below one of these nodes
pub record IsPlaced (cells : List Cell) (tops : List ℕ) (j : ℕ) : Type 0 where
  pub top : ℕ
  pub among : Contains tops top
  pub under : Under cells top j

-- they have the numbers of the pattern's elements
pub record HasElements (cells : List Cell) (number : ℕ → ℕ) (tops : List ℕ) (all : List ℕ) : Type 0 where
  pub nodes : List ℕ
  pub numbers_are : all ≡ map number nodes
  pub elements : (j : ℕ) → Contains nodes j → IsElementThere cells j
  pub placed : (j : ℕ) → Contains nodes j → IsPlaced cells tops j
  pub once : IsOnce nodes

no_elements : {cells : List Cell} {number : ℕ → ℕ} {tops : List ℕ} → HasElements cells number tops []
no_elements = record {
  nodes = [];
  numbers_are = refl;
  elements = λ j at. absurd (in_none at);
  placed = λ j at. absurd (in_none at);
  once = none_once;
}

-- below one node
under_one : {cells : List Cell} {i : ℕ} (j : ℕ) → IsPlaced cells (i ∷ []) j → Under cells i j
under_one {cells = cells} {i = i} j h = subst (λ k. Under cells k j) (sym (in_one i h.top h.among)) h.under

-- by a node above
raised_place : {cells : List Cell} {i j : ℕ} {tops : List ℕ} (c : Cell) → IsCell cells i c → ((k : ℕ) → Contains tops k → Contains (inner_nodes c) k) → IsPlaced cells tops j → IsPlaced cells (i ∷ []) j
raised_place {i = i} c at inner h = record { top = i; among = in_first i []; under = under_on {c = c} at (inner h.top h.among) h.under }

raised : {cells : List Cell} {number : ℕ → ℕ} {i : ℕ} {tops all : List ℕ} (c : Cell) → IsCell cells i c → ((k : ℕ) → Contains tops k → Contains (inner_nodes c) k) → HasElements cells number tops all → HasElements cells number (i ∷ []) all
raised {cells = cells} {i = i} c at inner h = record {
  nodes = h.nodes;
  numbers_are = h.numbers_are;
  elements = h.elements;
  placed = λ j within. raised_place c at inner (h.placed j within);
  once = h.once;
}

-- of nodes that have nothing in common
joined_elements : {cells : List Cell} {number : ℕ → ℕ} {tops others xs ys : List ℕ} → (first : HasElements cells number tops xs) → (second : HasElements cells number others ys) → ((j : ℕ) → Contains first.nodes j → Contains second.nodes j → ⊥) → HasElements cells number (tops ++ others) (xs ++ ys)
joined_elements {cells = cells} {number = number} {tops = tops} {others = others} {xs = xs} {ys = ys} first second apart = record {
  nodes = first.nodes ++ second.nodes;
  numbers_are = ap (λ ns. ns ++ ys) first.numbers_are ∙ ap (λ ns. map number first.nodes ++ ns) second.numbers_are ∙ sym (map-append number first.nodes second.nodes);
  elements = λ j at. elim (Contains-append_cases first.nodes second.nodes j at) [ inl here ↦ first.elements j here | inr there ↦ second.elements j there ];
  placed = λ j at. elim (Contains-append_cases first.nodes second.nodes j at) [
    | inl here ↦ let h = first.placed j here in record { top = h.top; among = Contains-append_left tops others h.top h.among; under = h.under }
    | inr there ↦ let h = second.placed j there in record { top = h.top; among = Contains-append_right tops others h.top h.among; under = h.under }
  ];
  once = both_once first.nodes second.nodes apart first.once second.once;
}

-- an element and those below it
with_element : {cells : List Cell} {root i part : ℕ} {number : ℕ → ℕ} {class : Class} {all : List ℕ} → AreWellFormed cells root → IsCell cells i (cell.element class part) → HasElements cells number (part ∷ []) all → HasElements cells number (i ∷ []) (number i ∷ all)
with_element {cells = cells} {i = i} {part = part} {number = number} {class = class} formed at h = record {
  nodes = i ∷ h.nodes;
  numbers_are = ap (λ ns. number i ∷ ns) h.numbers_are;
  elements = λ j within. elim (in_cases i h.nodes j within) [
    | inl is ↦ subst (λ k. IsElementThere cells k) is (record { class = class; part = part; is_element = at })
    | inr further ↦ h.elements j further
  ];
  placed = λ j within. elim (in_cases i h.nodes j within) [
    | inl is ↦ subst (λ k. IsPlaced cells (i ∷ []) k) is (record { top = i; among = in_first i []; under = at_top })
    | inr further ↦ raised_place (cell.element class part) at (λ k among. among) (h.placed j further)
  ];
  once = next_once i h.nodes
      (λ within.
      let le = under_below formed (under_one i (h.placed i within)) in
      let lt = formed.inner_below i part (cell.element class part) at (in_first part []) in
      absurd (omega (arith, le, lt)))
      h.once;
}

-- ---- distinct nodes

pub distinct_first : (x : ℕ) (xs : List ℕ) → IsDistinct (λ a b. a == b) (x ∷ xs) → (y : ℕ) → Contains xs y → x ≢ y
unfolding IsDistinct
distinct_first x xs h y among = eqb-false x y (All-contains (λ z. (x == z) ≡ false) xs y (All-from_recursion (λ z. (x == z) ≡ false) xs h.0) among)

pub distinct_rest : (x : ℕ) (xs : List ℕ) → IsDistinct (λ a b. a == b) (x ∷ xs) → IsDistinct (λ a b. a == b) xs
unfolding IsDistinct
distinct_rest x xs h = h.1

by_numbers : (by : Sign) (p q : Composed) → numbers (composed_by by p q) ≡ numbers p ++ numbers q
by_numbers sign.Choice p q = refl
by_numbers sign.Group p q = refl
by_numbers sign.Interleave p q = refl

module _ {cells : List Cell} {root : ℕ} (formed : AreWellFormed cells root) where
  mutual
    elements_of : {number : ℕ → ℕ} {i : ℕ} {p : Composed} → Denotes cells number i p → HasElements cells number (i ∷ []) (numbers p)
    elements_of (is_element at part) = with_element formed at (elements_of part)
    elements_of (is_attribute {part = k} {class = class} at part) = raised (cell.attribute class k) at (λ j within. within) (elements_of part)
    elements_of (is_list {part = k} at part) = raised (cell.listed k) at (λ j within. within) (elements_of part)
    elements_of (is_ref at) = no_elements
    elements_of (is_parent_ref at) = no_elements
    elements_of (is_empty at) = no_elements
    elements_of (is_text at) = no_elements
    elements_of (is_not_allowed at) = no_elements
    elements_of (is_value at) = no_elements
    elements_of (is_type {part = k} {type = type} {params = params} at part) = raised (cell.typed type params k) at (λ j within. within) (elements_of part)
    elements_of (is_grammar {i = i} {clauses = clauses} at all) =
        raised (cell.grammar clauses) at (λ j within. within) (elements_in i (cell.grammar clauses) at (λ k within. within) (formed.once i (cell.grammar clauses) at) all)
    elements_of (is_one_or_more {part = k} at part) = raised (cell.one_or_more k) at (λ j within. within) (elements_of part)
    elements_of {number = number} (is_joined {i = i} {first = a} {second = b} {p = p} {q = q} by at first second) =
        let c = cell.joined by a b in
        let left = elements_of first in
        let right = elements_of second in
        subst (λ all. HasElements cells number (i ∷ []) all) (sym (by_numbers by p q))
        (raised c at (λ j within. within) (joined_elements left right
        (λ j here there. nothing_common formed i c at (in_first a (b ∷ [])) (in_more a (b ∷ []) b (in_first b []))
        (distinct_first a (b ∷ []) (formed.once i c at) b (in_first b []))
        (under_one j (left.placed j here)) (under_one j (right.placed j there)))))

    elements_in : {number : ℕ → ℕ} {clauses : List Clause} {all : Clauses} (i : ℕ) (c : Cell) → IsCell cells i c → ((k : ℕ) → Contains (bodies_of clauses) k → Contains (inner_nodes c) k) → IsDistinct (λ a b. a == b) (bodies_of clauses) → DenoteAll cells number clauses all → HasElements cells number (bodies_of clauses) (numbers_in all)
    elements_in i c at inner distinct none_denoted = no_elements
    elements_in i c at inner distinct (next_denoted {clause = clause} {more = more} body rest) =
        let one = elements_of body in
        let others = elements_in i c at (λ k within. inner k (in_more clause.body (bodies_of more) k within)) (distinct_rest clause.body (bodies_of more) distinct) rest in
        joined_elements one others
        (λ j here there.
        let placed = others.placed j there in
        nothing_common formed i c at (inner clause.body (in_first clause.body (bodies_of more))) (inner placed.top (in_more clause.body (bodies_of more) placed.top placed.among))
        (distinct_first clause.body (bodies_of more) distinct placed.top placed.among)
        (under_one j (one.placed j here)) placed.under)

-- ---- numbers of what stands in a schema

in_left : {p q r : Composed} {n : ℕ} → Contains (p ∷ r ∷ []) q → Contains (numbers q) n → Contains (numbers p ++ numbers r) n
in_left {p = p} {q = q} {r = r} {n = n} within among =
    elim (in_cases p (r ∷ []) q within) [
      | inl is ↦ Contains-append_left (numbers p) (numbers r) n (subst (λ (s : Composed). Contains (numbers s) n) (sym is) among)
      | inr more ↦ Contains-append_right (numbers p) (numbers r) n (subst (λ (s : Composed). Contains (numbers s) n) (sym (in_one r q more)) among)
    ]

in_only : {p q : Composed} {n : ℕ} → Contains (p ∷ []) q → Contains (numbers q) n → Contains (numbers p) n
in_only {p = p} {q = q} {n = n} within among = subst (λ (s : Composed). Contains (numbers s) n) (sym (in_one p q within)) among

part_numbers : (p q : Composed) (n : ℕ) → Contains (parts p) q → Contains (numbers q) n → Contains (numbers p) n
part_numbers (composed.element number class p) q n within among = absurd (in_none within)
part_numbers (composed.attribute class p) q n within among = in_only within among
part_numbers (composed.listed p) q n within among = in_only within among
part_numbers (composed.ref name) q n within among = absurd (in_none within)
part_numbers (composed.parent_ref name) q n within among = absurd (in_none within)
part_numbers composed.empty q n within among = absurd (in_none within)
part_numbers composed.any_text q n within among = absurd (in_none within)
part_numbers composed.not_allowed q n within among = absurd (in_none within)
part_numbers (composed.value type text) q n within among = absurd (in_none within)
part_numbers (composed.typed type params except) q n within among = in_only within among
part_numbers (composed.grammar clauses) q n within among = absurd (in_none within)
part_numbers (composed.one_or_more p) q n within among = in_only within among
part_numbers (composed.choice p r) q n within among = in_left within among
part_numbers (composed.group p r) q n within among = in_left within among
part_numbers (composed.interleave p r) q n within among = in_left within among

body_numbers : (clauses : Clauses) (q : Composed) (n : ℕ) → Contains (bodies clauses) q → Contains (numbers q) n → Contains (numbers_in clauses) n
body_numbers composed.end_of_clauses q n within among = absurd (in_none within)
body_numbers (composed.clause_then name combine p more) q n within among =
    elim (in_cases p (bodies more) q within) [
      | inl is ↦ Contains-append_left (numbers p) (numbers_in more) n (subst (λ (s : Composed). Contains (numbers s) n) (sym is) among)
      | inr further ↦ Contains-append_right (numbers p) (numbers_in more) n (body_numbers more q n further among)
    ]

inner_numbers : {outer inner : Place} (n : ℕ) → IsIn outer inner → Contains (numbers inner.pattern) n → Contains (numbers outer.pattern) n
inner_numbers n (part_in {p = p} {q = q} within) among = part_numbers p q n within among
inner_numbers n (content_in {number = number} {p = p}) among = in_more number (numbers p) n among
inner_numbers n (definition_in {clauses = clauses} {p = p} within) among = body_numbers clauses p n within among

occurring_numbers : {whole : Composed} {at : Place} (n : ℕ) → Occurs whole at → Contains (numbers at.pattern) n → Contains (numbers whole) n
occurring_numbers n the_whole among = among
occurring_numbers n (further_in occurs within) among = occurring_numbers n occurs (inner_numbers n within among)

-- ---- the numbers of a schema

module _ (cells : List Cell) (root : ℕ) (found : Resolved) (whole : Composed) (formed : AreWellFormed cells root) (resolved : IsResolved cells root found) (denotes : Denotes cells (number_at found) root whole) where
  numbered_node : (j : ℕ) → IsStanding cells root j → IsElementThere cells j → slice_get found.elements.items (number_at found j) ≡ Some j
  numbered_node j standing h = resolved.numbered j h.class h.part standing h.is_element

  -- what has a number, by its place among the numbers
  pub record IsNumberOf (nodes : List ℕ) (k n : ℕ) : Type 0 where
    pub node : ℕ
    pub there : slice_get nodes k ≡ Some node
    pub number_is : number_at found node ≡ n

  number_of : (nodes : List ℕ) (k n : ℕ) (node : Option ℕ) → slice_get nodes k ≡ node → option_map (number_at found) node ≡ Some n → IsNumberOf nodes k n
  number_of nodes k n (Some node) at is = record { node = node; there = at; number_is = same_Some (number_at found node) n is }
  number_of nodes k n None at is = absurd (none-some n is)

  number_there : (h : HasElements cells (number_at found) (root ∷ []) (numbers whole)) (k n : ℕ) → slice_get (numbers whole) k ≡ Some n → IsNumberOf h.nodes k n
  number_there h k n at =
      number_of h.nodes k n (slice_get h.nodes k) refl (sym (slice_get-map (number_at found) h.nodes k) ∙ sym (ap (λ ns. slice_get ns k) h.numbers_are) ∙ at)

  node_there : (h : HasElements cells (number_at found) (root ∷ []) (numbers whole)) (k n : ℕ) → (is : IsNumberOf h.nodes k n) → slice_get found.elements.items n ≡ Some is.node
  node_there h k n is =
      let among = in_by_place h.nodes k is.node is.there in
      let standing = under_stands formed the_root (under_one is.node (h.placed is.node among)) in
      ap (slice_get found.elements.items) (sym is.number_is) ∙ numbered_node is.node standing (h.elements is.node among)

  -- no two elements have the same number
  pub numbers_distinct : IsDistinct (λ a b. a == b) (numbers whole)
  numbers_distinct =
      let h = elements_of formed denotes in
      distinct_by_place (numbers whole) (λ k m n at again.
      let one = number_there h k n at in
      let other = number_there h m n again in
      let same : one.node ≡ other.node = same_Some one.node other.node (sym (node_there h k n one) ∙ node_there h m n other) in
      h.once.once k m other.node (subst (λ j. slice_get h.nodes k ≡ Some j) same one.there) other.there)

  -- the numbers are those of definitions
  pub each_number : (n : ℕ) → Contains (numbers whole) n ↔ n < length found.elements.items
  each_number n = (
    λ among.
        let h = elements_of formed denotes in
        let at = place_in (numbers whole) n among in
        let is = number_there h at.0 n at.1 in
        slice_get_within found.elements.items n is.node (node_there h at.0 n is),
    λ lt.
        let node = get_or found.elements.items n 0 in
        let it = resolved.each_number n node (slice_get-get_or found.elements.items n 0 lt) in
        let h = place_of denotes it.stands.1 in
        let element = denoted_by (cell.element it.class it.part) it.is_element h.denotes in
        occurring_numbers n h.occurs (subst (λ (p : Composed). Contains (numbers p) n) (sym element.2) (subst (λ m. Contains (m ∷ numbers element.0) n) (sym it.linked) (in_first n (numbers element.0)))),
  )
