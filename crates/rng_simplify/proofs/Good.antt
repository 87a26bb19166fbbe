-- Classes that are refused, by the places of the nodes that have them.
use Rattle.std.proofs.Common.{◌≡◌, ◌≢◌, sym, ◌∙◌, subst, ℕ, ◌+◌, ◌<◌, ◌≤◌, inl, inr, true, List, length, map, get_or, Result, Ok, Err, arith}
use Rattle.std.proofs.lemmas.Bool.{cases_eq}
use Rattle.std.proofs.lemmas.List.{length-map}
use Rattle.std.proofs.lemmas.Option.{slice_get_within}
use Rattle.nx_base.specs.declared.cause.Cause.TheVariants as cause
use Rattle.rng_core.specs.Names.{Class}
use Rattle.rng_simplify.specs.declared.fault.SchemaFault.{SchemaFault}
use Rattle.rng_simplify.specs.declared.fault.SchemaFault.TheVariants.{Unreadable}
use Rattle.rng_simplify.specs.declared.node.Node.{Node}
use Rattle.rng_simplify.specs.declared.resolve.Resolved.{Resolved}
use Rattle.rng_simplify.specs.declared.resolve.Scope.{Scope}
use Rattle.rng_simplify.specs.declared.resolve.Scope.TheVariants.{Nowhere}
use Rattle.rng_simplify.specs.Refusals.{IsRefusal, OkOrRefused}
use Rattle.rng_simplify.specs.Broken.{HasBadExcept, HasXmlnsName}
use Rattle.rng_simplify.specs.Cells.{Cell, cell_of}
use Rattle.rng_simplify.specs.Cells as cell
use Rattle.rng_simplify.specs.Classes.{has_bad_except, names_declarations, names_declarations_of_attribute}
use Rattle.rng_simplify.specs.Composed.{Composed}
use Rattle.rng_simplify.specs.CellMeanings.{IsCell}
use Rattle.rng_simplify.specs.GoodClasses.{JudgesCell, IsGood, IsGoodAt, AreGood}
use Rattle.rng_simplify.specs.ResolvedNodes.{IsResolved}
use Rattle.rng_simplify.specs.JudgedClasses.{JudgesElementClass, JudgesAttributeClass}
use Rattle.rng_simplify.specs.NodePlaces.{IsStanding}
use Rattle.rng_simplify.proofs.Nodes.{one_cell, cell_there, denoted_by}
use Rattle.rng_simplify.proofs.Scopes.{has_at}
use Rattle.rng_simplify.proofs.WalkTurns.{scope_there}

module _ (cells : List Cell) (root i : ℕ) where
  -- an element with such a class
  element_excepts : (class : Class) (part : ℕ) → IsStanding cells root i → IsCell cells i (cell.element class part) → has_bad_except class ≡ true → IsRefusal cells root (Unreadable cause.BadExcept)
  element_excepts class part standing at bad number whole denotes =
      has_at HasBadExcept denotes standing.1 (λ scopes p are denoted.
      subst (λ (r : Composed). HasBadExcept scopes r) (sym (denoted_by (cell.element class part) at denoted).2) bad)

  element_declares : (class : Class) (part : ℕ) → IsStanding cells root i → IsCell cells i (cell.element class part) → names_declarations class ≡ true → IsRefusal cells root (Unreadable cause.XmlnsName)
  element_declares class part standing at bad number whole denotes =
      has_at HasXmlnsName denotes standing.1 (λ scopes p are denoted.
      subst (λ (r : Composed). HasXmlnsName scopes r) (sym (denoted_by (cell.element class part) at denoted).2) bad)

  -- an attribute
  attribute_excepts : (class : Class) (part : ℕ) → IsStanding cells root i → IsCell cells i (cell.attribute class part) → has_bad_except class ≡ true → IsRefusal cells root (Unreadable cause.BadExcept)
  attribute_excepts class part standing at bad number whole denotes =
      has_at HasBadExcept denotes standing.1 (λ scopes p are denoted.
      subst (λ (r : Composed). HasBadExcept scopes r) (sym (denoted_by (cell.attribute class part) at denoted).2) bad)

  attribute_declares : (class : Class) (part : ℕ) → IsStanding cells root i → IsCell cells i (cell.attribute class part) → names_declarations_of_attribute class ≡ true → IsRefusal cells root (Unreadable cause.XmlnsName)
  attribute_declares class part standing at bad number whole denotes =
      has_at HasXmlnsName denotes standing.1 (λ scopes p are denoted.
      subst (λ (r : Composed). HasXmlnsName scopes r) (sym (denoted_by (cell.attribute class part) at denoted).2) bad)

  good_at : (c : Cell) → IsCell cells i c → IsGood c → IsGoodAt cells root i
  good_at c at good other standing again = subst IsGood (one_cell cells i c other at again) good

  judged_element : {A : Type 0} (class : Class) (part : ℕ) → IsStanding cells root i → IsCell cells i (cell.element class part) → (result : Result A SchemaFault) → JudgesElementClass class result → OkOrRefused cells root (λ done. IsGoodAt cells root i) result
  judged_element class part standing at (Ok done) h = good_at (cell.element class part) at h
  judged_element class part standing at (Err (Unreadable cause.BadExcept)) h = element_excepts class part standing at h
  judged_element class part standing at (Err (Unreadable cause.XmlnsName)) h = element_declares class part standing at h
  judged_element class part standing at (Err other) h = absurd h

  judged_attribute : {A : Type 0} (class : Class) (part : ℕ) → IsStanding cells root i → IsCell cells i (cell.attribute class part) → (result : Result A SchemaFault) → JudgesAttributeClass class result → OkOrRefused cells root (λ done. IsGoodAt cells root i) result
  judged_attribute class part standing at (Ok done) h = good_at (cell.attribute class part) at h
  judged_attribute class part standing at (Err (Unreadable cause.BadExcept)) h = attribute_excepts class part standing at h
  judged_attribute class part standing at (Err (Unreadable cause.XmlnsName)) h = attribute_declares class part standing at h
  judged_attribute class part standing at (Err other) h = absurd h

  pub judged : {A : Type 0} (c : Cell) → IsStanding cells root i → IsCell cells i c → (result : Result A SchemaFault) → JudgesCell c result → OkOrRefused cells root (λ done. IsGoodAt cells root i) result
  judged (cell.element class part) standing at result h = judged_element class part standing at result h
  judged (cell.attribute class part) standing at result h = judged_attribute class part standing at result h
  judged (cell.listed part) standing at (Ok done) h = good_at (cell.listed part) at tt
  judged (cell.ref name) standing at (Ok done) h = good_at (cell.ref name) at tt
  judged (cell.parent_ref name) standing at (Ok done) h = good_at (cell.parent_ref name) at tt
  judged cell.empty standing at (Ok done) h = good_at cell.empty at tt
  judged cell.any_text standing at (Ok done) h = good_at cell.any_text at tt
  judged cell.not_allowed standing at (Ok done) h = good_at cell.not_allowed at tt
  judged (cell.value type text) standing at (Ok done) h = good_at (cell.value type text) at tt
  judged (cell.typed type params part) standing at (Ok done) h = good_at (cell.typed type params part) at tt
  judged (cell.grammar clauses) standing at (Ok done) h = good_at (cell.grammar clauses) at tt
  judged (cell.one_or_more part) standing at (Ok done) h = good_at (cell.one_or_more part) at tt
  judged (cell.joined sign first second) standing at (Ok done) h = good_at (cell.joined sign first second) at tt
  judged c standing at (Err fault) h = absurd h

-- a node that stands nowhere
pub nowhere_good : (nodes : List Node) (root : ℕ) (found : Resolved) (i : ℕ) (scope : Scope) → IsResolved (map cell_of nodes) root found → i < length nodes → scope ≡ get_or found.scopes.items i scope → scope ≡ Nowhere → IsGoodAt (map cell_of nodes) root i
nowhere_good nodes root found i scope resolved lt is none c standing at = absurd ((resolved.standing i).1 standing (scope_there nodes root found i scope resolved lt is ∙ none))

-- one that stands somewhere
pub node_judged : {A : Type 0} (nodes : List Node) (root : ℕ) (found : Resolved) (i : ℕ) (scope : Scope) (node : Node) → IsResolved (map cell_of nodes) root found → i < length nodes → scope ≡ get_or found.scopes.items i scope → scope ≢ Nowhere → node ≡ get_or nodes i node → (result : Result A SchemaFault) → JudgesCell (cell_of node) result → OkOrRefused (map cell_of nodes) root (λ done. IsGoodAt (map cell_of nodes) root i) result
node_judged nodes root found i scope node resolved lt is some node_is result h =
    judged (map cell_of nodes) root i (cell_of node) ((resolved.standing i).0 (λ none. some (sym (scope_there nodes root found i scope resolved lt is) ∙ none))) (cell_there nodes i node lt node_is) result h

-- all nodes
pub all_good : (nodes : List Node) (root upto : ℕ) → length nodes ≤ upto → ((i : ℕ) → i < upto → IsGoodAt (map cell_of nodes) root i) → AreGood (map cell_of nodes) root
all_good nodes root upto long good i c standing at = good i (omega (arith, long, slice_get_within (map cell_of nodes) i c at, length-map nodes cell_of)) c standing at

pub good_more : (cells : List Cell) (root upto : ℕ) → ((i : ℕ) → i < upto → IsGoodAt cells root i) → IsGoodAt cells root upto → (i : ℕ) → i < upto + 1 → IsGoodAt cells root i
good_more cells root upto before this i lt = elim (cases_eq i upto) [
  | inl is ↦ subst (λ k. IsGoodAt cells root k) (sym is) this
  | inr other ↦ before i (omega (arith, lt, other))
]
