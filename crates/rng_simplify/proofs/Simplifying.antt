-- The forms of nodes in order are the simple forms of what the nodes stand for.
use Rattle.std.proofs.Common.{◌≡◌, refl, sym, ap, ◌∙◌, subst, ℕ, zero, suc, ◌+◌, ◌<◌, ◌≤◌, ◌==◌, Bool, true, false, cond, inl, inr, List, [], ◌∷◌, ◌++◌, length, map, take, get_or, slice_get, Option, Some, None, Contains, arith}
use Rattle.std.specs.Prelude.{slice_index, if◌then◌else◌}
use Rattle.std.specs.List.{IsDistinct, AllByRecursion, fold}
use Rattle.std.specs.Option.{option_map, option_and_then}
use Rattle.std.proofs.lemmas.List.{length-take, get_or-take, get_or_past, length-append, get_or_append_left}
use Rattle.std.proofs.lemmas.Bool.{cases_lt}
use Rattle.std.proofs.lemmas.Option.{same_Some, slice_get_within, slice_get-get_or, get_or_from_slice_get}
use Rattle.rnc_parse.specs.declared.surface.Defined.{Defined}
use Rattle.rnc_parse.specs.declared.surface.Defined.TheVariants as defined
use Rattle.rnc_parse.specs.declared.surface.TypeName.{TypeName}
use Rattle.rnc_parse.specs.declared.surface.Param.{Param}
use Rattle.rng_simplify.specs.declared.form.Forms.{Forms}
use Rattle.rng_simplify.specs.declared.node.Clause.{Clause}
use Rattle.rng_simplify.specs.declared.node.Sign.{Sign}
use Rattle.rng_simplify.specs.declared.node.Sign.TheVariants as sign
use Rattle.rng_simplify.specs.declared.resolve.Resolved.{Resolved}
use Rattle.rng_simplify.specs.declared.resolve.Scope.TheVariants.{Nowhere}
use Rattle.rng_simplify.specs.declared.shape.Shape.{Shape}
use Rattle.rng_simplify.specs.declared.shape.Shape.TheVariants as shape
use Rattle.rng_simplify.specs.Cells.{Cell}
use Rattle.rng_simplify.specs.Cells as cell
use Rattle.rng_simplify.specs.Composed.{Composed, Clauses, end_of_clauses, clause_then, same_defined, defining, combines, bodies}
use Rattle.rng_simplify.specs.Composed as composed
use Rattle.rng_simplify.specs.CellMeanings.{IsCell, Denotes, DenoteAll, composed_by, none_denoted, next_denoted}
use Rattle.rng_simplify.specs.Forms.{Form, Value, values_of, combine_of, combined_by, choice_of, group_of, interleave_of}
use Rattle.rng_simplify.specs.Forms as form
use Rattle.rng_simplify.specs.NodeForms.{cell_form, bodies_form, form_of, IsBefore, IsInOrder, AreForms, AreTaken}
use Rattle.rng_simplify.specs.ResolvedNodes.{link_at, number_at, target_at, cell_leads, clauses_of, combines_of, IsCombined, IsCombinedIn, IsCombinedOutside, IsResolved, leads, IsOrdered}
use Rattle.rng_simplify.specs.Shown.{joined_form, joined_of, form_by, among, shown, form_at}
use Rattle.rng_simplify.specs.Simple.{Simple, Defines, AreSimple, simple_element, simple_attribute, simple_list, simple_empty, simple_text, simple_not_allowed, simple_value, simple_type, simple_one_or_more, simple_choice, simple_group, simple_interleave, simple_grammar, simple_ref, simple_parent_ref, combined_in_order, none_simple, next_simple}
use Rattle.rng_simplify.specs.NodePlaces.{cell_parts, bodies_of, Stands, the_root, a_part, a_content, a_definition, IsStanding, AreScopes, further_scope}
use Rattle.rng_simplify.proofs.Forming.{none_before, before_next, before_later, cell_leads_are, combination_leads_are}
use Rattle.rng_simplify.proofs.Showing.{at_seam}
use Rattle.rng_simplify.proofs.Nodes.{in_cases, in_first, in_more, one_cell, DenotesBy, cell_denoted}

-- ---- an order

-- a number stands once where numbers are distinct
not_again : (x : ℕ) (xs : List ℕ) (i : ℕ) → AllByRecursion (λ y. (x == y) ≡ false) xs → slice_get xs i ≡ Some x → ⊥
not_again x [] i all h = let never : ⊥ = cc in never
not_again x (y ∷ xs) zero all h =
    let P : ℕ → Type 0 = λ z. (x == z) ≡ false in
    let differs : (x == x) ≡ false = subst P (same_Some y x h) all.0 in
    same_not x differs
  where
    same_not : (x : ℕ) → (x == x) ≡ false → ⊥
    same_not x h = grind arith
not_again x (y ∷ xs) (suc i) all h = not_again x xs i all.1 h

distinct_places : (xs : List ℕ) (a b i : ℕ) → IsDistinct (λ x y. x == y) xs → slice_get xs a ≡ Some i → slice_get xs b ≡ Some i → a ≡ b
unfolding IsDistinct
distinct_places [] a b i distinct h k = let never : ⊥ = cc in absurd never
distinct_places (x ∷ xs) zero zero i distinct h k = refl
distinct_places (x ∷ xs) zero (suc b) i distinct h k =
    let P : ℕ → Type 0 = λ y. slice_get xs b ≡ Some y in
    absurd (not_again x xs b distinct.0 (subst P (sym (same_Some x i h)) k))
distinct_places (x ∷ xs) (suc a) zero i distinct h k =
    let P : ℕ → Type 0 = λ y. slice_get xs a ≡ Some y in
    absurd (not_again x xs a distinct.0 (subst P (sym (same_Some x i k)) h))
distinct_places (x ∷ xs) (suc a) (suc b) i distinct h k = ap (λ n. suc n) (distinct_places xs a b i distinct.1 h k)

-- what is among the first numbers stands in front of the next place
taken_before : (order : List ℕ) (end j : ℕ) → Contains (take end order) j → IsBefore order end j
taken_before order end j (m, within, is) =
    let all = length-take end order in
    let less : m < end = omega arith in
    let inside : m < length order = omega arith in
    record {
      place = m;
      before = less;
      there = slice_get-get_or order m j inside ∙ ap (λ k. Some k) (sym (get_or-take end order m j less) ∙ is);
    }

pub in_place : (order : List ℕ) (place i : ℕ) → slice_get order place ≡ Some i → Contains order i
in_place order place i there = (place, slice_get_within order place i there, get_or_from_slice_get order place i i there)

module _ (cells : List Cell) (root : ℕ) (found : Resolved) (resolved : IsResolved cells root found) where
  standing_within : (i : ℕ) → IsStanding cells root i → i < length cells
  standing_within i stands =
      let somewhere = (resolved.standing i).1 stands in
      let all = resolved.all_scopes in
      elim (cases_lt i (length cells)) [
        | inl less ↦ less
        | inr more ↦ absurd (somewhere (get_or_past found.scopes.items i Nowhere (omega arith)))
      ]

  -- an order of what is resolved
  pub in_order : (order : List ℕ) → IsOrdered cells root found order → IsInOrder cells found order
  in_order order ordered = record {
    within = λ place i there. elim (ordered.nothing_else i (in_place order place i there)) [
      | inl stands ↦ let inside = standing_within i stands in omega arith
      | inr combination ↦ let inside = combination.1 in let is = combination.2 in omega arith
    ];
    all_links = resolved.all_links;
    linked = λ place i c there at. elim (ordered.nothing_else i (in_place order place i there)) [
      | inl stands ↦ resolved.linked i c stands at
      | inr combination ↦ let inside = slice_get_within cells i _ at in let is = combination.2 in absurd (omega arith)
    ];
    numbered = λ place i class part there at. elim (ordered.nothing_else i (in_place order place i there)) [
      | inl stands ↦ slice_get_within found.elements.items (number_at found i) i (resolved.numbered i class part stands at)
      | inr combination ↦ let inside = slice_get_within cells i _ at in let is = combination.2 in absurd (omega arith)
    ];
    once = λ place other i there again. distinct_places order place other i ordered.distinct there again;
    behind = λ place i j there within. taken_before order place j (ordered.behind place i j there within);
  }

-- ---- definitions of one name

defining_all : (cells : List Cell) (number : ℕ → ℕ) (name : Defined) {clauses : List Clause} {all : Clauses} → DenoteAll cells number clauses all → DenoteAll cells number (clauses_of name clauses) (defining name all)
defining_all cells number name none_denoted = none_denoted
defining_all cells number name (next_denoted {clause = clause} {more = more} {p = p} {rest = rest} body others) =
    let rec = defining_all cells number name others in
    bool_cases (same_defined name clause.name) (λ b. DenoteAll cells number (cond b (clause ∷ clauses_of name more) (clauses_of name more)) (if b then clause_then clause.name clause.combine p (defining name rest) else defining name rest))
    (next_denoted body rec)
    rec
  where
    bool_cases : (b : Bool) (P : Bool → Type 0) → P true → P false → P b
    bool_cases true P yes_it no_it = yes_it
    bool_cases false P yes_it no_it = no_it

combines_all : (cells : List Cell) (number : ℕ → ℕ) {clauses : List Clause} {all : Clauses} → DenoteAll cells number clauses all → combines all ≡ combines_of clauses
combines_all cells number none_denoted = refl
combines_all cells number (next_denoted {clause = clause} body others) = ap (λ more. clause.combine ∷ more) (combines_all cells number others)

-- a definition of the name is a definition
in_filter_by : (b : Bool) (clause : Clause) (named more : List Clause) (j : ℕ) → (Contains (bodies_of named) j → Contains (bodies_of more) j) → Contains (bodies_of (cond b (clause ∷ named) named)) j → Contains (clause.body ∷ bodies_of more) j
in_filter_by true clause named more j further h =
    elim (in_cases clause.body (bodies_of named) j h) [
      | inl e ↦ let P : ℕ → Type 0 = λ k. Contains (clause.body ∷ bodies_of more) k in subst P e (in_first clause.body (bodies_of more))
      | inr rest ↦ in_more clause.body (bodies_of more) j (further rest)
    ]
in_filter_by false clause named more j further h = in_more clause.body (bodies_of more) j (further h)

in_filter : (name : Defined) (clauses : List Clause) (j : ℕ) → Contains (bodies_of (clauses_of name clauses)) j → Contains (bodies_of clauses) j
in_filter name [] j h = h
in_filter name (clause ∷ more) j h = in_filter_by (same_defined name clause.name) clause (clauses_of name more) more j (in_filter name more j) h

-- ---- grammars around nodes

-- where a node stands in grammars, the innermost stands in the others
abbrev OuterStands : List Cell → ℕ → List ℕ → Type 0
OuterStands cells root [] = Unit {0}
OuterStands cells root (grammar ∷ outers) = Stands cells root outers grammar

outer_stands : {cells : List Cell} {root : ℕ} {outers : List ℕ} {i : ℕ} → Stands cells root outers i → OuterStands cells root outers
outer_stands the_root = tt
outer_stands (a_part stands at within) = outer_stands stands
outer_stands (a_content stands at) = outer_stands stands
outer_stands (a_definition stands at within) = stands

-- ---- simple forms

-- equal patterns have equal simple forms
so_simple : (scopes : List Clauses) (p q : Composed) (f g : Form) → p ≡ q → f ≡ g → Simple scopes q g → Simple scopes p f
so_simple scopes p q f g same also simple =
    let P : Composed → Type 0 = λ r. Simple scopes r f in
    let Q : Form → Type 0 = λ h. Simple scopes q h in
    subst P (sym same) (subst Q (sym also) simple)

by_simple : (scopes : List Clauses) (by : Sign) (p q : Composed) (f g : Form) → Simple scopes p f → Simple scopes q g → Simple scopes (composed_by by p q) (joined_of by f g)
by_simple scopes sign.Choice p q f g one other = simple_choice one other
by_simple scopes sign.Group p q f g one other = simple_group one other
by_simple scopes sign.Interleave p q f g one other = simple_interleave one other

-- the innermost of the grammars defines the name so, or the one around it
abbrev DefinesIn : Defined → List Clauses → Form → Type 0
DefinesIn name [] q = ⊥
DefinesIn name (scope ∷ outer) q = Defines scope outer name q

abbrev DefinesOutside : Defined → List Clauses → Form → Type 0
DefinesOutside name [] q = ⊥
DefinesOutside name (inner ∷ outer) q = DefinesIn name outer q

ref_simple : (scopes : List Clauses) (name : List ℕ) (q : Form) → DefinesIn (defined.Name name) scopes q → Simple scopes (composed.ref name) q
ref_simple [] name q h = absurd h
ref_simple (scope ∷ outer) name q h = simple_ref h

parent_ref_simple : (scopes : List Clauses) (name : List ℕ) (q : Form) → DefinesOutside (defined.Name name) scopes q → Simple scopes (composed.parent_ref name) q
parent_ref_simple [] name q h = absurd h
parent_ref_simple (inner ∷ []) name q h = absurd h
parent_ref_simple (inner ∷ scope ∷ outer) name q h = simple_parent_ref h

-- what a name stands for, by the forms of its definitions
defines_by : (scope : Clauses) (outer : List Clauses) (name : Defined) (qs : List Form) (q : Form) → AreSimple (scope ∷ outer) (bodies (defining name scope)) qs → (qs ≡ [] → ⊥) → q ≡ bodies_form (combine_of (combines (defining name scope))) qs → Defines scope outer name q
defines_by scope outer name [] q are some is = absurd (some refl)
defines_by scope outer name (first ∷ more) q are some is = combined_in_order are is

some_forms : (at : ℕ → Form) (clauses : List Clause) → (clauses ≡ [] → ⊥) → map at (bodies_of clauses) ≡ [] → ⊥
some_forms at [] some none = some refl
some_forms at (clause ∷ more) some none = let never : ⊥ = cc in never

same_clauses : (cells : List Cell) (i : ℕ) (some others : List Clause) → IsCell cells i (cell.grammar some) → IsCell cells i (cell.grammar others) → some ≡ others
same_clauses cells i some others at again = let same : cell.grammar some ≡ cell.grammar others = one_cell cells i _ _ at again in cc

module _ (cells : List Cell) (root : ℕ) (found : Resolved) (resolved : IsResolved cells root found) (order : List ℕ) (ordered : IsInOrder cells found order) (forms : Forms) (all_formed : AreForms cells found order forms) (taken : ℕ → List Value) where
  abbrev at : ℕ → Form
  at = form_of cells taken forms

  abbrev number : ℕ → ℕ
  number = number_at found

  -- a node's form is that of what it stands for
  abbrev IsSimpleNode : ℕ → Type 0
  IsSimpleNode i = (outers : List ℕ) (scopes : List Clauses) (p : Composed) → Stands cells root outers i → AreScopes cells number outers scopes → Denotes cells number i p → Simple scopes p (at i)

  -- the form of combined definitions is that of what the grammar defines under the name
  abbrev IsSimpleCombination : ℕ → Type 0
  IsSimpleCombination n = (grammar : ℕ) (name : Defined) (outers : List ℕ) (clauses : List Clause) (scope : Clauses) (scopes : List Clauses) → Stands cells root outers grammar → IsCombined cells found.combined.items grammar name n → IsCell cells grammar (cell.grammar clauses) → DenoteAll cells number clauses scope → AreScopes cells number outers scopes → Defines scope scopes name (at (length cells + n))

  pub record AreSimpleBefore (end : ℕ) : Type 0 where
    pub node : (i : ℕ) → IsBefore order end i → IsSimpleNode i
    pub combination : (n : ℕ) → IsBefore order end (length cells + n) → IsSimpleCombination n

  module _ (end : ℕ) (known : AreSimpleBefore end) (takes : AreTaken cells order (end + 1) taken forms) (inside : end < length order) where
    module _ (i : ℕ) (place : slice_get order end ≡ Some i) where
      is_before : IsBefore order (length order) i
      is_before = record { place = end; before = inside; there = place }

      is_next : IsBefore order (end + 1) i
      is_next = record { place = end; before = omega arith; there = place }

      -- what it leads to stands in front of it
      lead : (c : Cell) → IsCell cells i c → (j : ℕ) → Contains (cell_leads (length cells) (link_at found i) c) j → IsBefore order end j
      lead c there j within =
          let P : List ℕ → Type 0 = λ all. Contains all j in
          ordered.behind end i j place (subst P (sym (cell_leads_are cells found i c there)) within)

      -- its form is made of those
      made : (c : Cell) → IsCell cells i c → at i ≡ cell_form at (length cells) (target_at found i) (taken i) c
      made c there = all_formed.formed.node_is i c taken is_before there

      part_simple : (c : Cell) (j : ℕ) → IsCell cells i c → Contains (cell_parts c) j → Contains (cell_leads (length cells) (link_at found i) c) j → (outers : List ℕ) (scopes : List Clauses) (p : Composed) → Stands cells root outers i → AreScopes cells number outers scopes → Denotes cells number j p → Simple scopes p (at j)
      part_simple c j there part leads outers scopes p stands scoped denotes = known.node j (lead c there j leads) outers scopes p (a_part stands there part) scoped denotes

      -- combined definitions of the innermost of grammars
      inner_combination : (name : Defined) (outers : List ℕ) (scopes : List Clauses) → OuterStands cells root outers → AreScopes cells number outers scopes → IsCombinedIn cells found.combined.items outers name (link_at found i) → IsBefore order end (length cells + link_at found i) → DefinesIn name scopes (at (length cells + link_at found i))
      inner_combination name [] scopes stands scoped combined before = absurd combined
      inner_combination name (grammar ∷ outers) _ stands (further_scope {clauses = clauses} {all = scope} {scopes = scopes} there denotes more) combined before =
          known.combination (link_at found i) before grammar name outers clauses scope scopes stands combined there denotes more

      -- those of the one around it
      outer_combination : (name : Defined) (outers : List ℕ) (scopes : List Clauses) → OuterStands cells root outers → AreScopes cells number outers scopes → IsCombinedOutside cells found.combined.items outers name (link_at found i) → IsBefore order end (length cells + link_at found i) → DefinesOutside name scopes (at (length cells + link_at found i))
      outer_combination name [] scopes stands scoped combined before = absurd combined
      outer_combination name (grammar ∷ outers) _ stands (further_scope there denotes more) combined before = inner_combination name outers _ (outer_stands stands) more combined before

      -- the node's form
      simple_by : (c : Cell) (outers : List ℕ) (scopes : List Clauses) (p : Composed) → Stands cells root outers i → AreScopes cells number outers scopes → IsCell cells i c → DenotesBy cells number i c p → Simple scopes p (at i)
      simple_by (cell.element class part) outers scopes p stands scoped there (q, denotes, is) =
          so_simple scopes p _ (at i) _ is (made (cell.element class part) there) simple_element
      simple_by (cell.attribute class part) outers scopes p stands scoped there (q, denotes, is) =
          so_simple scopes p _ (at i) _ is (made (cell.attribute class part) there)
          (simple_attribute (part_simple (cell.attribute class part) part there (in_first part []) (in_first part []) outers scopes q stands scoped denotes))
      simple_by (cell.listed part) outers scopes p stands scoped there (q, denotes, is) =
          so_simple scopes p _ (at i) _ is (made (cell.listed part) there)
          (simple_list (part_simple (cell.listed part) part there (in_first part []) (in_first part []) outers scopes q stands scoped denotes))
      simple_by (cell.ref name) outers scopes p stands scoped there is =
          so_simple scopes p _ (at i) _ is (made (cell.ref name) there)
          (ref_simple scopes name _ (inner_combination (defined.Name name) outers scopes (outer_stands stands) scoped (resolved.ref_combined outers i name stands there) (lead (cell.ref name) there _ (in_first _ []))))
      simple_by (cell.parent_ref name) outers scopes p stands scoped there is =
          so_simple scopes p _ (at i) _ is (made (cell.parent_ref name) there)
          (parent_ref_simple scopes name _ (outer_combination (defined.Name name) outers scopes (outer_stands stands) scoped (resolved.parent_ref_combined outers i name stands there) (lead (cell.parent_ref name) there _ (in_first _ []))))
      simple_by cell.empty outers scopes p stands scoped there is = so_simple scopes p _ (at i) _ is (made cell.empty there) simple_empty
      simple_by cell.any_text outers scopes p stands scoped there is = so_simple scopes p _ (at i) _ is (made cell.any_text there) simple_text
      simple_by cell.not_allowed outers scopes p stands scoped there is = so_simple scopes p _ (at i) _ is (made cell.not_allowed there) simple_not_allowed
      simple_by (cell.value type text) outers scopes p stands scoped there is = so_simple scopes p _ (at i) _ is (made (cell.value type text) there) simple_value
      simple_by (cell.typed type params part) outers scopes p stands scoped there (q, denotes, is) =
          so_simple scopes p _ (at i) _ is (made (cell.typed type params part) there)
          (simple_type (part_simple (cell.typed type params part) part there (in_first part []) (in_first part []) outers scopes q stands scoped denotes) (takes.each_is i type params part is_next there))
      simple_by (cell.grammar clauses) outers scopes p stands scoped there (scope, denotes, is) =
          so_simple scopes p _ (at i) _ is (made (cell.grammar clauses) there)
          (simple_grammar (known.combination (link_at found i) (lead (cell.grammar clauses) there _ (in_first _ [])) i defined.Start outers clauses scope scopes stands (resolved.start_combined i clauses (outers, stands) there) there denotes scoped))
      simple_by (cell.one_or_more part) outers scopes p stands scoped there (q, denotes, is) =
          so_simple scopes p _ (at i) _ is (made (cell.one_or_more part) there)
          (simple_one_or_more (part_simple (cell.one_or_more part) part there (in_first part []) (in_first part []) outers scopes q stands scoped denotes))
      simple_by (cell.joined by first second) outers scopes p stands scoped there (q, r, denotes, also, is) =
          let other = in_more first (second ∷ []) second (in_first second []) in
          so_simple scopes p _ (at i) _ is (made (cell.joined by first second) there)
          (by_simple scopes by q r _ _
          (part_simple (cell.joined by first second) first there (in_first first (second ∷ [])) (in_first first (second ∷ [])) outers scopes q stands scoped denotes)
          (part_simple (cell.joined by first second) second there other other outers scopes r stands scoped also))

      node_simple : IsSimpleNode i
      node_simple outers scopes p stands scoped denotes =
          let h = cell_denoted denotes in
          simple_by h.cell outers scopes p stands scoped h.is_cell h.by

    module _ (n : ℕ) (place : slice_get order end ≡ Some (length cells + n)) where
      -- the forms of bodies in front of it
      bodies_simple : (grammar : ℕ) (outers : List ℕ) (all : List Clause) (scope : Clauses) (scopes : List Clauses) → Stands cells root outers grammar → IsCell cells grammar (cell.grammar all) → AreScopes cells number (grammar ∷ outers) (scope ∷ scopes) → {clauses : List Clause} {some : Clauses} → DenoteAll cells number clauses some → ((j : ℕ) → Contains (bodies_of clauses) j → IsBefore order end j × Contains (bodies_of all) j) → AreSimple (scope ∷ scopes) (bodies some) (map at (bodies_of clauses))
      bodies_simple grammar outers all scope scopes stands there scoped none_denoted each = none_simple
      bodies_simple grammar outers all scope scopes stands there scoped (next_denoted {clause = clause} {more = more} body others) each =
          let here = each clause.body (in_first clause.body (bodies_of more)) in
          next_simple
          (known.node clause.body here.0 (grammar ∷ outers) (scope ∷ scopes) _ (a_definition stands there here.1) scoped body)
          (bodies_simple grammar outers all scope scopes stands there scoped others (λ j within. each j (in_more clause.body (bodies_of more) j within)))

      combination_simple : IsSimpleCombination n
      combination_simple grammar name outers clauses scope scopes stands combined there denotes scoped =
          let named : List Clause = clauses_of name combined.clauses in
          let same : clauses ≡ combined.clauses = same_clauses cells grammar clauses combined.clauses there combined.is_grammar in
          let P : List Clause → Type 0 = λ some. DenoteAll cells number some scope in
          let all : DenoteAll cells number combined.clauses scope = subst P same denotes in
          let them : DenoteAll cells number named (defining name scope) = defining_all cells number name all in
          let leads : leads cells found (length cells + n) ≡ bodies_of named = combination_leads_are cells found n combined.combination combined.there ∙ combined.bodies_are in
          let each : (j : ℕ) → Contains (bodies_of named) j → IsBefore order end j × Contains (bodies_of combined.clauses) j = λ j within.
          (let Q : List ℕ → Type 0 = λ some. Contains some j in ordered.behind end (length cells + n) j place (subst Q (sym leads) within), in_filter name combined.clauses j within) in
          defines_by scope scopes name (map at (bodies_of named)) (at (length cells + n))
          (bodies_simple grammar outers combined.clauses scope scopes stands combined.is_grammar (further_scope combined.is_grammar all scoped) them each)
          (some_forms at named combined.is_defined)
          (all_formed.formed.combination_is n combined.combination taken (record { place = end; before = inside; there = place }) combined.there
          ∙ ap (λ combine. bodies_form combine (map at combined.combination.bodies.items)) combined.combine_is
          ∙ ap (λ numbers. bodies_form (combine_of (combines_of named)) (map at numbers)) combined.bodies_are
          ∙ ap (λ all. bodies_form (combine_of all) (map at (bodies_of named))) (sym (combines_all cells number them)))

    -- one more
    one_more_simple : (here : ℕ) → slice_get order end ≡ Some here → AreSimpleBefore (end + 1)
    one_more_simple here place = record {
      node = λ i h. elim (before_next order end i here place h) [
        | inl before ↦ known.node i before
        | inr is ↦ let P : ℕ → Type 0 = λ k. slice_get order end ≡ Some k in node_simple i (subst P (sym is) place)
      ];
      combination = λ n h. elim (before_next order end (length cells + n) here place h) [
        | inl before ↦ known.combination n before
        | inr is ↦ let P : ℕ → Type 0 = λ k. slice_get order end ≡ Some k in combination_simple n (subst P (sym is) place)
      ];
    }

  shorter : (end : ℕ) → AreTaken cells order (suc end) taken forms → AreTaken cells order end taken forms
  shorter end takes = record { each_is = λ i type params part h there. takes.each_is i type params part (before_later order end (suc end) i (omega arith) h) there }

  -- all in front of a place have simple forms, where what is taken from the types there is known
  simple_before : (end : ℕ) → end ≤ length order → AreTaken cells order end taken forms → AreSimpleBefore end
  simple_before zero within takes = record {
    node = λ i h. absurd (none_before order i h);
    combination = λ n h. absurd (none_before order (length cells + n) h);
  }
  simple_before (suc end) within takes =
      let less : end < length order = omega arith in
      let next : end + 1 ≡ suc end = omega arith in
      let P : ℕ → Type 0 = λ k. AreTaken cells order k taken forms in
      subst AreSimpleBefore next
      (one_more_simple end (simple_before end (omega arith) (shorter end takes)) (subst P (sym next) takes) less (get_or order end 0) (slice_get-get_or order end 0 less))

  -- a node in front of the place has the simple form of what it stands for
  pub node_is_simple : (end i : ℕ) → end ≤ length order → AreTaken cells order end taken forms → IsBefore order end i → (outers : List ℕ) (scopes : List Clauses) (p : Composed) → Stands cells root outers i → AreScopes cells number outers scopes → Denotes cells number i p → Simple scopes p (at i)
  node_is_simple end i within takes h = (simple_before end within takes).node i h

-- ---- what is taken from types

-- values don't depend on what is taken from types
record SameValues (some others : List Form) : Type 0 where
  same_length : length some ≡ length others
  same : (n : ℕ) → values_of (among some n) ≡ values_of (among others n)

values_joined : (by : Sign) (p q r s : Form) → values_of p ≡ values_of r → values_of q ≡ values_of s → values_of (joined_form by p q) ≡ values_of (joined_form by r s)
values_joined sign.Choice p q r s one other =
    ap (λ v. option_and_then (λ first. option_map (λ second. first ++ second) (values_of q)) v) one
    ∙ ap (λ v. option_and_then (λ first. option_map (λ second. first ++ second) v) (values_of r)) other
values_joined sign.Group p q r s one other = refl
values_joined sign.Interleave p q r s one other = refl

values_by : (cells : List Cell) (taken other : ℕ → List Value) (some others : ℕ → Form) (s : Shape) → ((n : ℕ) → values_of (some n) ≡ values_of (others n)) → values_of (form_by cells taken some s) ≡ values_of (form_by cells other others s)
values_by cells taken other some others shape.NotAllowed same = refl
values_by cells taken other some others shape.Empty same = refl
values_by cells taken other some others shape.Text same = refl
values_by cells taken other some others (shape.Value i) same = refl
values_by cells taken other some others (shape.Typed i) same = refl
values_by cells taken other some others (shape.Ref number) same = refl
values_by cells taken other some others (shape.List part) same = refl
values_by cells taken other some others (shape.Attribute i part) same = refl
values_by cells taken other some others (shape.OneOrMore part) same = refl
values_by cells taken other some others (shape.Joined by first second) same = values_joined by (some first) (some second) (others first) (others second) (same first) (same second)

one_more_same : (some others : List Form) (p q : Form) → SameValues some others → values_of p ≡ values_of q → SameValues (some ++ p ∷ []) (others ++ q ∷ [])
one_more_same some others p q known also =
    let all = known.same_length in
    let longer = length-append some (p ∷ []) in
    let also_longer = length-append others (q ∷ []) in
    record {
      same_length = omega arith;
      same = λ n. elim (cases_lt n (length some)) [
        | inl less ↦
            ap values_of (get_or_append_left some (p ∷ []) form.not_allowed n less)
            ∙ known.same n
            ∙ sym (ap values_of (get_or_append_left others (q ∷ []) form.not_allowed n (omega arith)))
        | inr more ↦ elim (cases_lt (length some) n) [
          | inl past ↦
              ap values_of (get_or_past (some ++ p ∷ []) n form.not_allowed (omega arith))
              ∙ sym (ap values_of (get_or_past (others ++ q ∷ []) n form.not_allowed (omega arith)))
          | inr least ↦
              let here : n ≡ length some = omega arith in
              let there : n ≡ length others = omega arith in
              ap (λ k. values_of (among (some ++ p ∷ []) k)) here
              ∙ ap values_of (at_seam some p [] form.not_allowed)
              ∙ also
              ∙ sym (ap (λ k. values_of (among (others ++ q ∷ []) k)) there ∙ ap values_of (at_seam others q [] form.not_allowed))
        ]
      ];
    }

values_from : (cells : List Cell) (taken other : ℕ → List Value) (shapes : List Shape) (some others : List Form) → SameValues some others → SameValues (fold (λ forms s. forms ++ form_by cells taken (among forms) s ∷ []) some shapes) (fold (λ forms s. forms ++ form_by cells other (among forms) s ∷ []) others shapes)
values_from cells taken other [] some others known = known
values_from cells taken other (s ∷ shapes) some others known =
    values_from cells taken other shapes (some ++ form_by cells taken (among some) s ∷ []) (others ++ form_by cells other (among others) s ∷ [])
    (one_more_same some others (form_by cells taken (among some) s) (form_by cells other (among others) s) known (values_by cells taken other (among some) (among others) s known.same))

pub same_values : (cells : List Cell) (taken other : ℕ → List Value) (shapes : List Shape) (n : ℕ) → values_of (form_at cells taken shapes n) ≡ values_of (form_at cells other shapes n)
unfolding form_at shown
same_values cells taken other shapes n = (values_from cells taken other shapes [] [] (record { same_length = refl; same = λ k. refl })).same n

-- ---- types from which values are taken

abbrev pub part_in : Option Cell → ℕ
part_in (Some (cell.typed type params part)) = part
part_in _ = 0

abbrev pub values_or_none : Option (List Value) → List Value
values_or_none (Some values) = values
values_or_none None = []

-- the values of what is taken from each type, and none where that is no choice of values
unfoldable pub taken_of : List Cell → Forms → ℕ → List Value
taken_of cells forms i = values_or_none (values_of (form_of cells (λ k. []) forms (part_in (slice_get cells i))))

pub values_known : (o : Option (List Value)) → (o ≡ None → ⊥) → o ≡ Some (values_or_none o)
values_known None some = absurd (some refl)
values_known (Some values) some = refl

-- a type's values are what is taken from it
pub taken_is : (cells : List Cell) (forms : Forms) (i : ℕ) (type : TypeName) (params : List Param) (part : ℕ) → IsCell cells i (cell.typed type params part) → (values_of (form_of cells (taken_of cells forms) forms part) ≡ None → ⊥) → values_of (form_of cells (taken_of cells forms) forms part) ≡ Some (taken_of cells forms i)
unfolding taken_of
taken_is cells forms i type params part there some =
    let same = same_values cells (taken_of cells forms) (λ k. []) forms.shapes (slice_index forms.of.items part) in
    same
    ∙ values_known (values_of (form_of cells (λ k. []) forms part)) (λ none. some (same ∙ none))
    ∙ ap (λ o. Some (values_or_none (values_of (form_of cells (λ k. []) forms (part_in o))))) (sym there)
