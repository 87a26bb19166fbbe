-- Where nodes stand: in one place each, and below what they stand in.
use Rattle.std.proofs.Common.{◌≡◌, refl, sym, ap, ◌∙◌, subst, ℕ, ◌<◌, ◌≤◌, inl, inr, ◌⊎◌, List, [], ◌∷◌, length, Contains, arith}
use Rattle.rng_simplify.specs.declared.node.Clause.{Clause}
use Rattle.rng_simplify.specs.Cells.{Cell}
use Rattle.rng_simplify.specs.Cells as cell
use Rattle.rng_simplify.specs.Composed.{Clauses}
use Rattle.rng_simplify.specs.CellMeanings.{IsCell, Denotes, DenoteAll}
use Rattle.rng_simplify.specs.Places.{Place, place}
use Rattle.rng_simplify.specs.NodePlaces.{cell_parts, inner_nodes, AreWellFormed, Stands, the_root, a_part, a_content, a_definition, AreScopes, no_scopes, further_scope}
use Rattle.rng_simplify.proofs.Nodes.{in_none, in_first, in_one, one_cell, denotes_one, denote_all_one}

-- the grammars around what stands directly in a node
abbrev pub within : Cell → ℕ → List ℕ → List ℕ
within (cell.element class part) i outers = outers
within (cell.attribute class part) i outers = outers
within (cell.listed part) i outers = outers
within (cell.ref name) i outers = outers
within (cell.parent_ref name) i outers = outers
within cell.empty i outers = outers
within cell.any_text i outers = outers
within cell.not_allowed i outers = outers
within (cell.value type text) i outers = outers
within (cell.typed type params part) i outers = outers
within (cell.grammar clauses) i outers = i ∷ outers
within (cell.one_or_more part) i outers = outers
within (cell.joined sign first second) i outers = outers

-- what stands directly in a node that stands in the schema stands there too
pub stands_in : {cells : List Cell} {root : ℕ} {outers : List ℕ} {i j : ℕ} (c : Cell) → Stands cells root outers i → IsCell cells i c → Contains (inner_nodes c) j → Stands cells root (within c i outers) j
stands_in {cells = cells} {i = i} {j = j} (cell.element class part) stands at inner = a_content stands (subst (λ k. IsCell cells i (cell.element class k)) (in_one part j inner) at)
stands_in (cell.attribute class part) stands at inner = a_part stands at inner
stands_in (cell.listed part) stands at inner = a_part stands at inner
stands_in (cell.ref name) stands at inner = absurd (in_none inner)
stands_in (cell.parent_ref name) stands at inner = absurd (in_none inner)
stands_in cell.empty stands at inner = absurd (in_none inner)
stands_in cell.any_text stands at inner = absurd (in_none inner)
stands_in cell.not_allowed stands at inner = absurd (in_none inner)
stands_in (cell.value type text) stands at inner = absurd (in_none inner)
stands_in (cell.typed type params part) stands at inner = a_part stands at inner
stands_in (cell.grammar clauses) stands at inner = a_definition stands at inner
stands_in (cell.one_or_more part) stands at inner = a_part stands at inner
stands_in (cell.joined sign first second) stands at inner = a_part stands at inner

-- a part stands directly in its node
pub part_inner : {j : ℕ} (c : Cell) → Contains (cell_parts c) j → Contains (inner_nodes c) j
part_inner (cell.element class part) h = absurd (in_none h)
part_inner (cell.attribute class part) h = h
part_inner (cell.listed part) h = h
part_inner (cell.ref name) h = absurd (in_none h)
part_inner (cell.parent_ref name) h = absurd (in_none h)
part_inner cell.empty h = absurd (in_none h)
part_inner cell.any_text h = absurd (in_none h)
part_inner cell.not_allowed h = absurd (in_none h)
part_inner (cell.value type text) h = absurd (in_none h)
part_inner (cell.typed type params part) h = h
part_inner (cell.grammar clauses) h = absurd (in_none h)
part_inner (cell.one_or_more part) h = h
part_inner (cell.joined sign first second) h = h

part_within : {j : ℕ} (c : Cell) (i : ℕ) (outers : List ℕ) → Contains (cell_parts c) j → within c i outers ≡ outers
part_within (cell.element class part) i outers h = refl
part_within (cell.attribute class part) i outers h = refl
part_within (cell.listed part) i outers h = refl
part_within (cell.ref name) i outers h = refl
part_within (cell.parent_ref name) i outers h = refl
part_within cell.empty i outers h = refl
part_within cell.any_text i outers h = refl
part_within cell.not_allowed i outers h = refl
part_within (cell.value type text) i outers h = refl
part_within (cell.typed type params part) i outers h = refl
part_within (cell.grammar clauses) i outers h = absurd (in_none h)
part_within (cell.one_or_more part) i outers h = refl
part_within (cell.joined sign first second) i outers h = refl

-- how a node comes to stand: it is the root, or stands directly in another
pub record StandsIn (cells : List Cell) (root : ℕ) (outers : List ℕ) (j : ℕ) : Type 0 where
  pub around : List ℕ
  pub outer : ℕ
  pub cell : Cell
  pub stands : Stands cells root around outer
  pub is_cell : IsCell cells outer cell
  pub inner : Contains (inner_nodes cell) j
  pub outers_are : outers ≡ within cell outer around

pub record IsRoot (root : ℕ) (outers : List ℕ) (j : ℕ) : Type 0 where
  pub root_is : j ≡ root
  pub nothing_around : outers ≡ []

pub stands_by : {cells : List Cell} {root : ℕ} {outers : List ℕ} {j : ℕ} → Stands cells root outers j → IsRoot root outers j ⊎ StandsIn cells root outers j
stands_by the_root = inl (record { root_is = refl; nothing_around = refl })
stands_by (a_part {outers = outers} {i = i} {c = c} stands at inner) =
    inr (record { around = outers; outer = i; cell = c; stands = stands; is_cell = at; inner = part_inner c inner; outers_are = sym (part_within c i outers inner) })
stands_by (a_content {outers = outers} {i = i} {j = j} {class = class} stands at) =
    inr (record { around = outers; outer = i; cell = cell.element class j; stands = stands; is_cell = at; inner = in_first j []; outers_are = refl })
stands_by (a_definition {outers = outers} {i = i} {clauses = clauses} stands at inner) =
    inr (record { around = outers; outer = i; cell = cell.grammar clauses; stands = stands; is_cell = at; inner = inner; outers_are = refl })

-- nothing stands behind the root
pub stands_below : {cells : List Cell} {root : ℕ} {outers : List ℕ} {i : ℕ} → AreWellFormed cells root → Stands cells root outers i → i ≤ root
stands_below formed the_root = omega arith
stands_below formed (a_part {i = i} {j = j} {c = c} stands at inner) =
    let below = stands_below formed stands in
    let less = formed.inner_below i j c at (part_inner c inner) in
    omega (arith, below, less)
stands_below formed (a_content {i = i} {j = j} {class = class} stands at) =
    let below = stands_below formed stands in
    let less = formed.inner_below i j (cell.element class j) at (in_first j []) in
    omega (arith, below, less)
stands_below formed (a_definition {i = i} {j = j} {clauses = clauses} stands at inner) =
    let below = stands_below formed stands in
    let less = formed.inner_below i j (cell.grammar clauses) at inner in
    omega (arith, below, less)

pub stands_within : {cells : List Cell} {root : ℕ} {outers : List ℕ} {i : ℕ} → AreWellFormed cells root → Stands cells root outers i → i < length cells
stands_within formed stands = omega (arith, stands_below formed stands, formed.root_within)

-- the root stands in nothing
root_alone : {cells : List Cell} {root : ℕ} {outers : List ℕ} {j : ℕ} → AreWellFormed cells root → StandsIn cells root outers j → j ≡ root → ⊥
root_alone {j = j} formed h is =
    let below = stands_below formed h.stands in
    let less = formed.inner_below h.outer j h.cell h.is_cell h.inner in
    absurd (omega (arith, below, less, is))

-- two that stand directly in a node stand in the same, if they are the same
same_around : {cells : List Cell} {root : ℕ} {outers around : List ℕ} {i j : ℕ} (c : Cell) → AreWellFormed cells root → IsCell cells i c → Contains (inner_nodes c) j → (h : StandsIn cells root outers j) → ((others : List ℕ) → Stands cells root others i → around ≡ others) → within c i around ≡ outers
same_around {cells = cells} {root = root} {around = around} {i = i} {j = j} c formed at inner h once =
    let same : i ≡ h.outer = formed.one_outer i h.outer j c h.cell at h.is_cell inner h.inner in
    let stands : Stands cells root h.around i = subst (λ k. Stands cells root h.around k) (sym same) h.stands in
    let same_cell : c ≡ h.cell = one_cell cells h.outer c h.cell (subst (λ k. IsCell cells k c) same at) h.is_cell in
    ap (within c i) (once h.around stands) ∙ ap (λ (d : Cell). within d i h.around) same_cell ∙ ap (λ k. within h.cell k h.around) same ∙ sym h.outers_are

-- a node stands in one place
pub stands_once : {cells : List Cell} {root : ℕ} {outers others : List ℕ} {i : ℕ} → AreWellFormed cells root → Stands cells root outers i → Stands cells root others i → outers ≡ others
stands_once formed the_root again =
    elim (stands_by again) [ inl is ↦ sym is.nothing_around | inr h ↦ absurd (root_alone formed h refl) ]
stands_once {root = root} formed (a_part {outers = outers} {i = i} {j = j} {c = c} stands at inner) again =
    elim (stands_by again) [
      | inl is ↦ absurd (root_alone formed (record { around = outers; outer = i; cell = c; stands = stands; is_cell = at; inner = part_inner c inner; outers_are = refl }) is.root_is)
      | inr h ↦ sym (part_within c i outers inner) ∙ same_around c formed at (part_inner c inner) h (λ others other. stands_once formed stands other)
    ]
stands_once formed (a_content {outers = outers} {i = i} {j = j} {class = class} stands at) again =
    elim (stands_by again) [
      | inl is ↦ absurd (root_alone formed (record { around = outers; outer = i; cell = cell.element class j; stands = stands; is_cell = at; inner = in_first j []; outers_are = refl }) is.root_is)
      | inr h ↦ same_around (cell.element class j) formed at (in_first j []) h (λ others other. stands_once formed stands other)
    ]
stands_once formed (a_definition {outers = outers} {i = i} {clauses = clauses} stands at inner) again =
    elim (stands_by again) [
      | inl is ↦ absurd (root_alone formed (record { around = outers; outer = i; cell = cell.grammar clauses; stands = stands; is_cell = at; inner = inner; outers_are = refl }) is.root_is)
      | inr h ↦ same_around (cell.grammar clauses) formed at inner h (λ others other. stands_once formed stands other)
    ]

-- ---- the grammars around a node

-- the innermost of them stands in the others
pub record StandsAround (cells : List Cell) (root g : ℕ) (outers : List ℕ) : Type 0 where
  pub clauses : List Clause
  pub is_grammar : IsCell cells g (cell.grammar clauses)
  pub stands : Stands cells root outers g

abbrev pub InnermostStands : List Cell → ℕ → List ℕ → Type 0
InnermostStands cells root [] = Unit {0}
InnermostStands cells root (g ∷ outers) = StandsAround cells root g outers

pub innermost_stands : {cells : List Cell} {root : ℕ} {outers : List ℕ} {i : ℕ} → Stands cells root outers i → InnermostStands cells root outers
innermost_stands the_root = tt
innermost_stands (a_part stands at inner) = innermost_stands stands
innermost_stands (a_content stands at) = innermost_stands stands
innermost_stands (a_definition stands at inner) = record { clauses = _; is_grammar = at; stands = stands }

-- grammars are one list of definitions
abbrev ScopesBy : List Cell → (ℕ → ℕ) → List ℕ → List Clauses → Type 0
ScopesBy cells number [] scopes = scopes ≡ []
ScopesBy cells number (i ∷ outers) scopes = (clauses : List Clause) × (all : Clauses) × (rest : List Clauses) × IsCell cells i (cell.grammar clauses) × DenoteAll cells number clauses all × AreScopes cells number outers rest × (scopes ≡ all ∷ rest)

pub scopes_by : {cells : List Cell} {number : ℕ → ℕ} {outers : List ℕ} {scopes : List Clauses} → AreScopes cells number outers scopes → ScopesBy cells number outers scopes
scopes_by no_scopes = refl
scopes_by (further_scope at all more) = (_, _, _, at, all, more, refl)

-- the same grammar has the same clauses
abbrev clauses_in : Cell → List Clause
clauses_in (cell.grammar clauses) = clauses
clauses_in c = []

pub one_grammar : (cells : List Cell) (i : ℕ) (clauses others : List Clause) → IsCell cells i (cell.grammar clauses) → IsCell cells i (cell.grammar others) → clauses ≡ others
one_grammar cells i clauses others at again = ap clauses_in (one_cell cells i (cell.grammar clauses) (cell.grammar others) at again)

pub scopes_once : {cells : List Cell} {number : ℕ → ℕ} {outers : List ℕ} {scopes others : List Clauses} → AreScopes cells number outers scopes → AreScopes cells number outers others → scopes ≡ others
scopes_once no_scopes again = sym (scopes_by again)
scopes_once {cells = cells} {number = number} (further_scope {i = i} {clauses = clauses} {all = all} {scopes = scopes} at denoted more) again =
    let h = scopes_by again in
    let same : all ≡ h.1 = denote_all_one (subst (λ (cs : List Clause). DenoteAll cells number cs all) (one_grammar cells i clauses h.0 at h.3) denoted) h.4 in
    ap (λ a. a ∷ scopes) same ∙ ap (λ ss. h.1 ∷ ss) (scopes_once more h.5) ∙ sym h.6

-- ---- the place of a node

-- the node stands in the schema, and this is its place
pub record IsAt (cells : List Cell) (root : ℕ) (number : ℕ → ℕ) (i : ℕ) (at : Place) : Type 0 where
  pub outers : List ℕ
  pub stands : Stands cells root outers i
  pub are_scopes : AreScopes cells number outers at.scopes
  pub denotes : Denotes cells number i at.pattern

pub at_once : {cells : List Cell} {root : ℕ} {number : ℕ → ℕ} {i : ℕ} {here there : Place} → AreWellFormed cells root → IsAt cells root number i here → IsAt cells root number i there → here ≡ there
at_once {cells = cells} {number = number} {here = here} {there = there} formed h k =
    let same : h.outers ≡ k.outers = stands_once formed h.stands k.stands in
    let scopes : here.scopes ≡ there.scopes = scopes_once (subst (λ outers. AreScopes cells number outers here.scopes) same h.are_scopes) k.are_scopes in
    ap (λ s. place s here.pattern) scopes ∙ ap (place there.scopes) (denotes_one h.denotes k.denotes)
