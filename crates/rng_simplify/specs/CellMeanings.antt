-- What numbered cells stand for: a schema in one piece, whose elements have their numbers from `number`.
use Rattle.std.specs.Prelude.{◌≡◌, ℕ, List, [], ◌∷◌, slice_get, Some}
use Rattle.rnc_parse.specs.declared.surface.TypeName.{TypeName}
use Rattle.rnc_parse.specs.declared.surface.Param.{Param}
use Rattle.rng_core.specs.Names.{Class}
use Rattle.rng_simplify.specs.declared.node.Sign.{Sign}
use Rattle.rng_simplify.specs.declared.node.Sign.TheVariants as sign
use Rattle.rng_simplify.specs.declared.node.Clause.{Clause}
use Rattle.rng_simplify.specs.Cells.{Cell}
use Rattle.rng_simplify.specs.Cells as cell
use Rattle.rng_simplify.specs.Composed.{Composed, Clauses, end_of_clauses, clause_then}
use Rattle.rng_simplify.specs.Composed as composed

-- the cell of this number
abbrev pub IsCell : List Cell → ℕ → Cell → Type 0
IsCell cells i c = slice_get cells i ≡ Some c

abbrev pub composed_by : Sign → Composed → Composed → Composed
composed_by sign.Choice = composed.choice
composed_by sign.Group = composed.group
composed_by sign.Interleave = composed.interleave

mutual
  pub data Denotes (cells : List Cell) (number : ℕ → ℕ) : ℕ → Composed → Type 0 where
    is_element : {i part : ℕ} {class : Class} {p : Composed} → IsCell cells i (cell.element class part) → Denotes cells number part p →
        Denotes cells number i (composed.element (number i) class p)
    is_attribute : {i part : ℕ} {class : Class} {p : Composed} → IsCell cells i (cell.attribute class part) →
        Denotes cells number part p → Denotes cells number i (composed.attribute class p)
    is_list : {i part : ℕ} {p : Composed} → IsCell cells i (cell.listed part) → Denotes cells number part p →
        Denotes cells number i (composed.listed p)
    is_ref : {i : ℕ} {name : List ℕ} → IsCell cells i (cell.ref name) → Denotes cells number i (composed.ref name)
    is_parent_ref : {i : ℕ} {name : List ℕ} → IsCell cells i (cell.parent_ref name) → Denotes cells number i (composed.parent_ref name)
    is_empty : {i : ℕ} → IsCell cells i cell.empty → Denotes cells number i composed.empty
    is_text : {i : ℕ} → IsCell cells i cell.any_text → Denotes cells number i composed.any_text
    is_not_allowed : {i : ℕ} → IsCell cells i cell.not_allowed → Denotes cells number i composed.not_allowed
    is_value : {i : ℕ} {type : TypeName} {text : List ℕ} → IsCell cells i (cell.value type text) →
        Denotes cells number i (composed.value type text)
    is_type : {i part : ℕ} {type : TypeName} {params : List Param} {p : Composed} → IsCell cells i (cell.typed type params part) →
        Denotes cells number part p → Denotes cells number i (composed.typed type params p)
    is_grammar : {i : ℕ} {clauses : List Clause} {all : Clauses} → IsCell cells i (cell.grammar clauses) →
        DenoteAll cells number clauses all → Denotes cells number i (composed.grammar all)
    is_one_or_more : {i part : ℕ} {p : Composed} → IsCell cells i (cell.one_or_more part) → Denotes cells number part p →
        Denotes cells number i (composed.one_or_more p)
    is_joined : {i first second : ℕ} {p q : Composed} (by : Sign) → IsCell cells i (cell.joined by first second) →
        Denotes cells number first p → Denotes cells number second q → Denotes cells number i (composed_by by p q)

  pub data DenoteAll (cells : List Cell) (number : ℕ → ℕ) : List Clause → Clauses → Type 0 where
    none_denoted : DenoteAll cells number [] end_of_clauses
    next_denoted : {clause : Clause} {more : List Clause} {p : Composed} {rest : Clauses} → Denotes cells number clause.body p →
        DenoteAll cells number more rest → DenoteAll cells number (clause ∷ more) (clause_then clause.name clause.combine p rest)
