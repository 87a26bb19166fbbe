-- Nodes that stand in a schema, and the patterns that they stand for.
use Rattle.std.proofs.Common.{◌≡◌, refl, sym, ap, ◌∙◌, subst, ℕ, zero, suc, ◌<◌, inl, inr, ◌⊎◌, List, [], ◌∷◌, length, map, get_or, Contains, option_map, arith}
use Rattle.std.proofs.lemmas.Option.{same_Some, slice_get-map, slice_get_read}
use Rattle.rng_core.specs.Names.{Class}
use Rattle.rng_simplify.specs.declared.node.Clause.{Clause}
use Rattle.rng_simplify.specs.declared.node.Sign.{Sign}
use Rattle.rng_simplify.specs.declared.node.Sign.TheVariants as sign
use Rattle.rng_simplify.specs.declared.node.Node.{Node}
use Rattle.rng_simplify.specs.Cells.{Cell, cell_of}
use Rattle.rng_simplify.specs.Cells as cell
use Rattle.rng_simplify.specs.Composed.{Composed, Clauses, end_of_clauses, clause_then, bodies}
use Rattle.rng_simplify.specs.Composed as composed
use Rattle.rng_simplify.specs.CellMeanings.{IsCell, Denotes, DenoteAll, composed_by, is_element, is_attribute, is_list, is_ref, is_parent_ref, is_empty, is_text, is_not_allowed, is_value, is_type, is_grammar, is_one_or_more, is_joined, none_denoted, next_denoted}
use Rattle.rng_simplify.specs.Places.{Place, place, parts, IsIn, a_part as part_in, a_content as content_in, a_definition as definition_in, Occurs, the_whole, further_in}
use Rattle.rng_simplify.specs.NodePlaces.{cell_parts, bodies_of, Stands, the_root, a_part, a_content, a_definition, AreScopes, no_scopes, further_scope}

-- ---- what a list contains

-- nothing is in no list
pub in_none : {X : Type 0} {x : X} → Contains [] x → ⊥
in_none (k, lt, e) = absurd (omega arith)

-- what is in a list is its first, or further in it
pub in_cases : {X : Type 0} (first : X) (more : List X) (x : X) → Contains (first ∷ more) x → (first ≡ x) ⊎ Contains more x
in_cases first more x (zero, lt, e) = inl e
in_cases first more x (suc k, lt, e) = inr (k, omega arith, e)

pub in_first : {X : Type 0} (first : X) (more : List X) → Contains (first ∷ more) first
in_first first more = (zero, omega arith, refl)

pub in_more : {X : Type 0} (first : X) (more : List X) (x : X) → Contains more x → Contains (first ∷ more) x
in_more first more x (k, lt, e) = (suc k, omega arith, e)

-- what is in a list of one is that
pub in_one : {X : Type 0} (first x : X) → Contains (first ∷ []) x → first ≡ x
in_one first x h = elim (in_cases first [] x h) [ inl e ↦ e | inr none ↦ absurd (in_none none) ]

-- a definition's body is among the bodies
pub body_among : (clauses : List Clause) (k : ℕ) (clause : Clause) → k < length clauses → clause ≡ get_or clauses k clause → Contains (bodies_of clauses) clause.body
body_among [] k clause lt is = absurd (omega arith)
body_among (c ∷ more) zero clause lt is = subst (λ (d : Clause). Contains (bodies_of (c ∷ more)) d.body) (sym is) (in_first c.body (bodies_of more))
body_among (c ∷ more) (suc k) clause lt is = in_more c.body (bodies_of more) clause.body (body_among more k clause (omega arith) is)

-- a node's cell
pub cell_there : (nodes : List Node) (i : ℕ) (node : Node) → i < length nodes → node ≡ get_or nodes i node → IsCell (map cell_of nodes) i (cell_of node)
cell_there nodes i node lt is = slice_get-map cell_of nodes i ∙ ap (option_map cell_of) (slice_get_read nodes (length nodes) i node refl lt is)

-- a number has one cell
pub one_cell : (cells : List Cell) (i : ℕ) (c d : Cell) → IsCell cells i c → IsCell cells i d → c ≡ d
one_cell cells i c d at again = same_Some c d (sym at ∙ again)

-- ---- what a node stands for, by its cell

abbrev pub DenotesBy : List Cell → (ℕ → ℕ) → ℕ → Cell → Composed → Type 0
DenotesBy cells number i (cell.element class part) p = (q : Composed) × Denotes cells number part q × (p ≡ composed.element (number i) class q)
DenotesBy cells number i (cell.attribute class part) p = (q : Composed) × Denotes cells number part q × (p ≡ composed.attribute class q)
DenotesBy cells number i (cell.listed part) p = (q : Composed) × Denotes cells number part q × (p ≡ composed.listed q)
DenotesBy cells number i (cell.ref name) p = p ≡ composed.ref name
DenotesBy cells number i (cell.parent_ref name) p = p ≡ composed.parent_ref name
DenotesBy cells number i cell.empty p = p ≡ composed.empty
DenotesBy cells number i cell.any_text p = p ≡ composed.any_text
DenotesBy cells number i cell.not_allowed p = p ≡ composed.not_allowed
DenotesBy cells number i (cell.value type text) p = p ≡ composed.value type text
DenotesBy cells number i (cell.typed type params part) p = (q : Composed) × Denotes cells number part q × (p ≡ composed.typed type params q)
DenotesBy cells number i (cell.grammar clauses) p = (all : Clauses) × DenoteAll cells number clauses all × (p ≡ composed.grammar all)
DenotesBy cells number i (cell.one_or_more part) p = (q : Composed) × Denotes cells number part q × (p ≡ composed.one_or_more q)
DenotesBy cells number i (cell.joined by first second) p = (q r : Composed) × Denotes cells number first q × Denotes cells number second r × (p ≡ composed_by by q r)

pub record HasCell (cells : List Cell) (number : ℕ → ℕ) (i : ℕ) (p : Composed) : Type 0 where
  pub cell : Cell
  pub is_cell : IsCell cells i cell
  pub by : DenotesBy cells number i cell p

pub cell_denoted : {cells : List Cell} {number : ℕ → ℕ} {i : ℕ} {p : Composed} → Denotes cells number i p → HasCell cells number i p
cell_denoted (is_element at part) = record { cell = _; is_cell = at; by = (_, part, refl) }
cell_denoted (is_attribute at part) = record { cell = _; is_cell = at; by = (_, part, refl) }
cell_denoted (is_list at part) = record { cell = _; is_cell = at; by = (_, part, refl) }
cell_denoted (is_ref at) = record { cell = _; is_cell = at; by = refl }
cell_denoted (is_parent_ref at) = record { cell = _; is_cell = at; by = refl }
cell_denoted (is_empty at) = record { cell = _; is_cell = at; by = refl }
cell_denoted (is_text at) = record { cell = _; is_cell = at; by = refl }
cell_denoted (is_not_allowed at) = record { cell = _; is_cell = at; by = refl }
cell_denoted (is_value at) = record { cell = _; is_cell = at; by = refl }
cell_denoted (is_type at part) = record { cell = _; is_cell = at; by = (_, part, refl) }
cell_denoted (is_grammar at all) = record { cell = _; is_cell = at; by = (_, all, refl) }
cell_denoted (is_one_or_more at part) = record { cell = _; is_cell = at; by = (_, part, refl) }
cell_denoted (is_joined by at first second) = record { cell = _; is_cell = at; by = (_, _, first, second, refl) }

-- what it stands for is said by its cell
pub denoted_by : {cells : List Cell} {number : ℕ → ℕ} {i : ℕ} {p : Composed} (c : Cell) → IsCell cells i c → Denotes cells number i p → DenotesBy cells number i c p
denoted_by {cells = cells} {number = number} {i = i} {p = p} c at denotes =
    let h = cell_denoted denotes in
    subst (λ (d : Cell). DenotesBy cells number i d p) (one_cell cells i h.cell c h.is_cell at) h.by

abbrev pub AllDenotedBy : List Cell → (ℕ → ℕ) → List Clause → Clauses → Type 0
AllDenotedBy cells number [] all = all ≡ end_of_clauses
AllDenotedBy cells number (clause ∷ more) all = (p : Composed) × (rest : Clauses) × Denotes cells number clause.body p × DenoteAll cells number more rest × (all ≡ clause_then clause.name clause.combine p rest)

pub all_denoted_by : {cells : List Cell} {number : ℕ → ℕ} {clauses : List Clause} {all : Clauses} → DenoteAll cells number clauses all → AllDenotedBy cells number clauses all
all_denoted_by none_denoted = refl
all_denoted_by (next_denoted body rest) = (_, _, body, rest, refl)

-- ---- a node stands for one pattern

mutual
  pub denotes_one : {cells : List Cell} {number : ℕ → ℕ} {i : ℕ} {p q : Composed} → Denotes cells number i p → Denotes cells number i q → p ≡ q
  denotes_one {number = number} (is_element {i = i} {class = class} at part) again =
      let h = denoted_by _ at again in
      ap (composed.element (number i) class) (denotes_one part h.1) ∙ sym h.2
  denotes_one (is_attribute {class = class} at part) again =
      let h = denoted_by _ at again in
      ap (composed.attribute class) (denotes_one part h.1) ∙ sym h.2
  denotes_one (is_list at part) again =
      let h = denoted_by _ at again in
      ap composed.listed (denotes_one part h.1) ∙ sym h.2
  denotes_one (is_ref at) again = sym (denoted_by _ at again)
  denotes_one (is_parent_ref at) again = sym (denoted_by _ at again)
  denotes_one (is_empty at) again = sym (denoted_by _ at again)
  denotes_one (is_text at) again = sym (denoted_by _ at again)
  denotes_one (is_not_allowed at) again = sym (denoted_by _ at again)
  denotes_one (is_value at) again = sym (denoted_by _ at again)
  denotes_one (is_type {type = type} {params = params} at part) again =
      let h = denoted_by _ at again in
      ap (composed.typed type params) (denotes_one part h.1) ∙ sym h.2
  denotes_one (is_grammar at all) again =
      let h = denoted_by _ at again in
      ap composed.grammar (denote_all_one all h.1) ∙ sym h.2
  denotes_one (is_one_or_more at part) again =
      let h = denoted_by _ at again in
      ap composed.one_or_more (denotes_one part h.1) ∙ sym h.2
  denotes_one (is_joined {q = r} by at first second) again =
      let h = denoted_by _ at again in
      ap (λ p. composed_by by p r) (denotes_one first h.2) ∙ ap (composed_by by h.0) (denotes_one second h.3) ∙ sym h.4

  pub denote_all_one : {cells : List Cell} {number : ℕ → ℕ} {clauses : List Clause} {all others : Clauses} → DenoteAll cells number clauses all → DenoteAll cells number clauses others → all ≡ others
  denote_all_one none_denoted again = sym (all_denoted_by again)
  denote_all_one (next_denoted {clause = clause} {rest = rest} body more) again =
      let h = all_denoted_by again in
      ap (λ p. clause_then clause.name clause.combine p rest) (denotes_one body h.2)
      ∙ ap (clause_then clause.name clause.combine h.0) (denote_all_one more h.3)
      ∙ sym h.4

-- ---- from nodes to places

-- the pattern of a part
pub record PartIs (cells : List Cell) (number : ℕ → ℕ) (among : List Composed) (j : ℕ) : Type 0 where
  pub pattern : Composed
  pub denotes : Denotes cells number j pattern
  pub within : Contains among pattern

only_part : {cells : List Cell} {number : ℕ → ℕ} {part j : ℕ} {q : Composed} → Contains (part ∷ []) j → Denotes cells number part q → PartIs cells number (q ∷ []) j
only_part {cells = cells} {number = number} {part = part} {j = j} {q = q} within denotes =
    record { pattern = q; denotes = subst (λ k. Denotes cells number k q) (in_one part j within) denotes; within = in_first q [] }

either_part : {cells : List Cell} {number : ℕ → ℕ} {first second j : ℕ} {q r : Composed} → Contains (first ∷ second ∷ []) j → Denotes cells number first q → Denotes cells number second r → PartIs cells number (q ∷ r ∷ []) j
either_part {cells = cells} {number = number} {first = first} {second = second} {j = j} {q = q} {r = r} within one other =
    elim (in_cases first (second ∷ []) j within) [
      | inl e ↦ record { pattern = q; denotes = subst (λ k. Denotes cells number k q) e one; within = in_first q (r ∷ []) }
      | inr more ↦ record { pattern = r; denotes = subst (λ k. Denotes cells number k r) (in_one second j more) other; within = in_more q (r ∷ []) r (in_first r []) }
    ]

by_parts : (by : Sign) (p q : Composed) → parts (composed_by by p q) ≡ p ∷ q ∷ []
by_parts sign.Choice p q = refl
by_parts sign.Group p q = refl
by_parts sign.Interleave p q = refl

part_denoted_by : {cells : List Cell} {number : ℕ → ℕ} {j : ℕ} (i : ℕ) (c : Cell) (p : Composed) → Contains (cell_parts c) j → DenotesBy cells number i c p → PartIs cells number (parts p) j
part_denoted_by i (cell.element class part) p within h = absurd (in_none within)
part_denoted_by {cells = cells} {number = number} {j = j} i (cell.attribute class part) p within h = subst (λ (r : Composed). PartIs cells number (parts r) j) (sym h.2) (only_part within h.1)
part_denoted_by {cells = cells} {number = number} {j = j} i (cell.listed part) p within h = subst (λ (r : Composed). PartIs cells number (parts r) j) (sym h.2) (only_part within h.1)
part_denoted_by i (cell.ref name) p within h = absurd (in_none within)
part_denoted_by i (cell.parent_ref name) p within h = absurd (in_none within)
part_denoted_by i cell.empty p within h = absurd (in_none within)
part_denoted_by i cell.any_text p within h = absurd (in_none within)
part_denoted_by i cell.not_allowed p within h = absurd (in_none within)
part_denoted_by i (cell.value type text) p within h = absurd (in_none within)
part_denoted_by {cells = cells} {number = number} {j = j} i (cell.typed type params part) p within h = subst (λ (r : Composed). PartIs cells number (parts r) j) (sym h.2) (only_part within h.1)
part_denoted_by i (cell.grammar clauses) p within h = absurd (in_none within)
part_denoted_by {cells = cells} {number = number} {j = j} i (cell.one_or_more part) p within h = subst (λ (r : Composed). PartIs cells number (parts r) j) (sym h.2) (only_part within h.1)
part_denoted_by {cells = cells} {number = number} {j = j} i (cell.joined by first second) p within h =
    subst (λ (ps : List Composed). PartIs cells number ps j) (sym (ap parts h.4 ∙ by_parts by h.0 h.1)) (either_part within h.2 h.3)

-- a node's part stands for a part of what the node stands for
pub part_denoted : {cells : List Cell} {number : ℕ → ℕ} {i j : ℕ} {c : Cell} {p : Composed} → IsCell cells i c → Contains (cell_parts c) j → Denotes cells number i p → PartIs cells number (parts p) j
part_denoted {i = i} {c = c} {p = p} at within denotes = part_denoted_by i c p within (denoted_by c at denotes)

-- and a definition's body for a body
pub body_denoted : {cells : List Cell} {number : ℕ → ℕ} {clauses : List Clause} {all : Clauses} {j : ℕ} → DenoteAll cells number clauses all → Contains (bodies_of clauses) j → PartIs cells number (bodies all) j
body_denoted none_denoted within = absurd (in_none within)
body_denoted {cells = cells} {number = number} {j = j} (next_denoted {clause = clause} {more = more} {p = p} {rest = rest} body others) within =
    elim (in_cases clause.body (bodies_of more) j within) [
      | inl e ↦ record { pattern = p; denotes = subst (λ k. Denotes cells number k p) e body; within = in_first p (bodies rest) }
      | inr further ↦
          let h = body_denoted others further in
          record { pattern = h.pattern; denotes = h.denotes; within = in_more p (bodies rest) h.pattern h.within }
    ]

-- the place of a node
pub record HasPlace (cells : List Cell) (number : ℕ → ℕ) (whole : Composed) (outers : List ℕ) (i : ℕ) : Type 0 where
  pub scopes : List Clauses
  pub pattern : Composed
  pub denotes : Denotes cells number i pattern
  pub are_scopes : AreScopes cells number outers scopes
  pub occurs : Occurs whole (place scopes pattern)

occurs_content : {whole p : Composed} {scopes : List Clauses} {number : ℕ} {class : Class} {q : Composed} → p ≡ composed.element number class q → Occurs whole (place scopes p) → Occurs whole (place scopes q)
occurs_content {whole = whole} {scopes = scopes} is occurs = further_in (subst (λ r. Occurs whole (place scopes r)) is occurs) content_in

occurs_definition : {whole p : Composed} {scopes : List Clauses} {clauses : Clauses} {q : Composed} → p ≡ composed.grammar clauses → Contains (bodies clauses) q → Occurs whole (place scopes p) → Occurs whole (place (clauses ∷ scopes) q)
occurs_definition {whole = whole} {scopes = scopes} is within occurs = further_in (subst (λ r. Occurs whole (place scopes r)) is occurs) (definition_in within)

-- each node that stands in the schema has its place there
pub place_of : {cells : List Cell} {number : ℕ → ℕ} {root : ℕ} {whole : Composed} {outers : List ℕ} {i : ℕ} → Denotes cells number root whole → Stands cells root outers i → HasPlace cells number whole outers i
place_of denotes the_root = record { scopes = []; pattern = _; denotes = denotes; are_scopes = no_scopes; occurs = the_whole }
place_of denotes (a_part stands at within) =
    let h = place_of denotes stands in
    let part = part_denoted at within h.denotes in
    record { scopes = h.scopes; pattern = part.pattern; denotes = part.denotes; are_scopes = h.are_scopes; occurs = further_in h.occurs (part_in part.within) }
place_of denotes (a_content stands at) =
    let h = place_of denotes stands in
    let content = denoted_by _ at h.denotes in
    record { scopes = h.scopes; pattern = content.0; denotes = content.1; are_scopes = h.are_scopes; occurs = occurs_content content.2 h.occurs }
place_of denotes (a_definition stands at within) =
    let h = place_of denotes stands in
    let grammar = denoted_by _ at h.denotes in
    let body = body_denoted grammar.1 within in
    record { scopes = grammar.0 ∷ h.scopes; pattern = body.pattern; denotes = body.denotes; are_scopes = further_scope at grammar.1 h.are_scopes; occurs = occurs_definition grammar.2 body.within h.occurs }

-- ---- from places to nodes

-- the node of a place
pub record HasNode (cells : List Cell) (number : ℕ → ℕ) (root : ℕ) (at : Place) : Type 0 where
  pub outers : List ℕ
  pub node : ℕ
  pub stands : Stands cells root outers node
  pub denotes : Denotes cells number node at.pattern
  pub are_scopes : AreScopes cells number outers at.scopes

-- the node of a part
pub record PartHasNode (cells : List Cell) (number : ℕ → ℕ) (among : List ℕ) (q : Composed) : Type 0 where
  pub node : ℕ
  pub denotes : Denotes cells number node q
  pub within : Contains among node

only_node : {cells : List Cell} {number : ℕ → ℕ} {part : ℕ} {p q : Composed} → Contains (p ∷ []) q → Denotes cells number part p → PartHasNode cells number (part ∷ []) q
only_node {cells = cells} {number = number} {part = part} {p = p} {q = q} within denotes =
    record { node = part; denotes = subst (λ (r : Composed). Denotes cells number part r) (in_one p q within) denotes; within = in_first part [] }

either_node : {cells : List Cell} {number : ℕ → ℕ} {first second : ℕ} {p r q : Composed} → Contains (p ∷ r ∷ []) q → Denotes cells number first p → Denotes cells number second r → PartHasNode cells number (first ∷ second ∷ []) q
either_node {cells = cells} {number = number} {first = first} {second = second} {p = p} {r = r} {q = q} within one other =
    elim (in_cases p (r ∷ []) q within) [
      | inl e ↦ record { node = first; denotes = subst (λ (s : Composed). Denotes cells number first s) e one; within = in_first first (second ∷ []) }
      | inr more ↦ record { node = second; denotes = subst (λ (s : Composed). Denotes cells number second s) (in_one r q more) other; within = in_more first (second ∷ []) second (in_first second []) }
    ]

-- a part of what a node stands for is what a part of its cell stands for
pub record CellHasNode (cells : List Cell) (number : ℕ → ℕ) (i : ℕ) (q : Composed) : Type 0 where
  pub cell : Cell
  pub is_cell : IsCell cells i cell
  pub part : PartHasNode cells number (cell_parts cell) q

pub part_has_node : {cells : List Cell} {number : ℕ → ℕ} {i : ℕ} {p q : Composed} → Denotes cells number i p → Contains (parts p) q → CellHasNode cells number i q
part_has_node (is_element at part) within = absurd (in_none within)
part_has_node (is_attribute at part) within = record { cell = _; is_cell = at; part = only_node within part }
part_has_node (is_list at part) within = record { cell = _; is_cell = at; part = only_node within part }
part_has_node (is_ref at) within = absurd (in_none within)
part_has_node (is_parent_ref at) within = absurd (in_none within)
part_has_node (is_empty at) within = absurd (in_none within)
part_has_node (is_text at) within = absurd (in_none within)
part_has_node (is_not_allowed at) within = absurd (in_none within)
part_has_node (is_value at) within = absurd (in_none within)
part_has_node (is_type at part) within = record { cell = _; is_cell = at; part = only_node within part }
part_has_node (is_grammar at all) within = absurd (in_none within)
part_has_node (is_one_or_more at part) within = record { cell = _; is_cell = at; part = only_node within part }
part_has_node {q = q} (is_joined {p = p} {q = r} by at first second) within =
    record { cell = _; is_cell = at; part = either_node (subst (λ (ps : List Composed). Contains ps q) (by_parts by p r) within) first second }

body_has_node : {cells : List Cell} {number : ℕ → ℕ} {clauses : List Clause} {all : Clauses} {q : Composed} → DenoteAll cells number clauses all → Contains (bodies all) q → PartHasNode cells number (bodies_of clauses) q
body_has_node none_denoted within = absurd (in_none within)
body_has_node {cells = cells} {number = number} {q = q} (next_denoted {clause = clause} {more = more} {p = p} {rest = rest} body others) within =
    elim (in_cases p (bodies rest) q within) [
      | inl e ↦ record { node = clause.body; denotes = subst (λ (r : Composed). Denotes cells number clause.body r) e body; within = in_first clause.body (bodies_of more) }
      | inr further ↦
          let h = body_has_node others further in
          record { node = h.node; denotes = h.denotes; within = in_more clause.body (bodies_of more) h.node h.within }
    ]

-- what a node stands for, by the pattern
abbrev DenotedBy : List Cell → (ℕ → ℕ) → ℕ → Composed → Type 0
DenotedBy cells number i (composed.element n class p) = (part : ℕ) × IsCell cells i (cell.element class part) × Denotes cells number part p
DenotedBy cells number i (composed.grammar all) = (clauses : List Clause) × IsCell cells i (cell.grammar clauses) × DenoteAll cells number clauses all
DenotedBy cells number i _ = Unit {0}

joined_denoted_by : (cells : List Cell) (number : ℕ → ℕ) (i : ℕ) (by : Sign) (p q : Composed) → DenotedBy cells number i (composed_by by p q)
joined_denoted_by cells number i sign.Choice p q = tt
joined_denoted_by cells number i sign.Group p q = tt
joined_denoted_by cells number i sign.Interleave p q = tt

denoted_as : {cells : List Cell} {number : ℕ → ℕ} {i : ℕ} {p : Composed} → Denotes cells number i p → DenotedBy cells number i p
denoted_as (is_element at part) = (_, at, part)
denoted_as (is_attribute at part) = tt
denoted_as (is_list at part) = tt
denoted_as (is_ref at) = tt
denoted_as (is_parent_ref at) = tt
denoted_as (is_empty at) = tt
denoted_as (is_text at) = tt
denoted_as (is_not_allowed at) = tt
denoted_as (is_value at) = tt
denoted_as (is_type at part) = tt
denoted_as (is_grammar at all) = (_, at, all)
denoted_as (is_one_or_more at part) = tt
denoted_as {cells = cells} {number = number} {i = i} (is_joined {p = p} {q = q} by at first second) = joined_denoted_by cells number i by p q

inner_node : {cells : List Cell} {number : ℕ → ℕ} {root : ℕ} {outer inner : Place} → HasNode cells number root outer → IsIn outer inner → HasNode cells number root inner
inner_node h (part_in within) =
    let part = part_has_node h.denotes within in
    record { outers = h.outers; node = part.part.node; stands = a_part h.stands part.is_cell part.part.within; denotes = part.part.denotes; are_scopes = h.are_scopes }
inner_node h content_in =
    let content = denoted_as h.denotes in
    record { outers = h.outers; node = content.0; stands = a_content h.stands content.1; denotes = content.2; are_scopes = h.are_scopes }
inner_node h (definition_in within) =
    let grammar = denoted_as h.denotes in
    let body = body_has_node grammar.2 within in
    record { outers = h.node ∷ h.outers; node = body.node; stands = a_definition h.stands grammar.1 body.within; denotes = body.denotes; are_scopes = further_scope grammar.1 grammar.2 h.are_scopes }

-- what stands in the schema is what a node there stands for
pub node_of : {cells : List Cell} {number : ℕ → ℕ} {root : ℕ} {whole : Composed} {at : Place} → Denotes cells number root whole → Occurs whole at → HasNode cells number root at
node_of denotes the_whole = record { outers = []; node = _; stands = the_root; denotes = denotes; are_scopes = no_scopes }
node_of denotes (further_in occurs within) = inner_node (node_of denotes occurs) within
