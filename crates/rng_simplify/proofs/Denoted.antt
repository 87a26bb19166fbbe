-- Well-formed nodes stand for something.
use Rattle.std.proofs.Common.{refl, ℕ, zero, suc, ◌<◌, List, [], ◌∷◌, length, arith}
use Rattle.std.specs.Prelude.{Contains}
use Rattle.rng_simplify.specs.declared.node.Clause.{Clause}
use Rattle.rng_simplify.specs.Cells.{Cell}
use Rattle.rng_simplify.specs.Cells as cell
use Rattle.rng_simplify.specs.Composed.{Composed, Clauses, end_of_clauses, clause_then}
use Rattle.rng_simplify.specs.Composed as composed
use Rattle.rng_simplify.specs.Composition.{WellFormedDenotes}
use Rattle.rng_simplify.specs.CellMeanings.{IsCell, Denotes, DenoteAll, is_element, is_attribute, is_list, is_ref, is_parent_ref, is_empty, is_text, is_not_allowed, is_value, is_type, is_grammar, is_one_or_more, is_joined, composed_by, none_denoted, next_denoted}
use Rattle.rng_simplify.specs.NodePlaces.{inner_nodes, bodies_of, AreWellFormed}

module _ (cells : List Cell) (number : ℕ → ℕ) where
  pub record Denoted (i : ℕ) : Type 0 where
    pub whole : Composed
    pub denotes : Denotes cells number i whole

  pub record AllDenoted (clauses : List Clause) : Type 0 where
    pub all : Clauses
    pub denotes : DenoteAll cells number clauses all

  here : (j : ℕ) (js : List ℕ) → Contains (j ∷ js) j
  here j js = (0, omega arith, refl)

  all_denoted : (clauses : List Clause) → ((j : ℕ) → Contains (bodies_of clauses) j → Denoted j) → AllDenoted clauses
  all_denoted [] each = record { all = end_of_clauses; denotes = none_denoted }
  all_denoted (clause ∷ clauses) each =
      let first : Denoted clause.body = each clause.body (here clause.body (bodies_of clauses)) in
      let rest : AllDenoted clauses = all_denoted clauses (λ j among. each j (suc among.0, omega (arith, among.1), among.2)) in
      record {
        all = clause_then clause.name clause.combine first.whole rest.all;
        denotes = next_denoted {clause = clause} first.denotes
            rest.denotes;
      }

  cell_denotes : (i : ℕ) (c : Cell) → IsCell cells i c → ((j : ℕ) → Contains (inner_nodes c) j → Denoted j) → Denoted i
  cell_denotes i (cell.element class part) at each =
      let d : Denoted part = each part (here part []) in record {
        whole = composed.element (number i) class d.whole;
        denotes = is_element at
            d.denotes;
      }
  cell_denotes i (cell.attribute class part) at each =
      let d : Denoted part = each part (here part []) in record {
        whole = composed.attribute class d.whole;
        denotes = is_attribute at
            d.denotes;
      }
  cell_denotes i (cell.listed part) at each =
      let d : Denoted part = each part (here part []) in record { whole = composed.listed d.whole; denotes = is_list at d.denotes }
  cell_denotes i (cell.ref name) at each = record { whole = composed.ref name; denotes = is_ref at }
  cell_denotes i (cell.parent_ref name) at each = record { whole = composed.parent_ref name; denotes = is_parent_ref at }
  cell_denotes i cell.empty at each = record { whole = composed.empty; denotes = is_empty at }
  cell_denotes i cell.any_text at each = record { whole = composed.any_text; denotes = is_text at }
  cell_denotes i cell.not_allowed at each = record { whole = composed.not_allowed; denotes = is_not_allowed at }
  cell_denotes i (cell.value type text) at each = record { whole = composed.value type text; denotes = is_value at }
  cell_denotes i (cell.typed type params part) at each =
      let d : Denoted part = each part (here part []) in record {
        whole = composed.typed type params d.whole;
        denotes = is_type at
            d.denotes;
      }
  cell_denotes i (cell.grammar clauses) at each =
      let d : AllDenoted clauses = all_denoted clauses each in record { whole = composed.grammar d.all; denotes = is_grammar at d.denotes }
  cell_denotes i (cell.one_or_more part) at each =
      let d : Denoted part = each part (here part []) in record {
        whole = composed.one_or_more d.whole;
        denotes = is_one_or_more at
            d.denotes;
      }
  cell_denotes i (cell.joined by first second) at each =
      let d : Denoted first = each first (here first (second ∷ [])) in
      let e : Denoted second = each second (1, omega arith, refl) in
      record { whole = composed_by by d.whole e.whole; denotes = is_joined by at d.denotes e.denotes }

cell_there : (cells : List Cell) (i : ℕ) → i < length cells → (c : Cell) × IsCell cells i c
cell_there [] i h = absurd (omega (arith, h))
cell_there (c ∷ cells) zero h = (c, refl)
cell_there (c ∷ cells) (suc i) h = cell_there cells i (omega (arith, h))

below_denotes : (cells : List Cell) (root : ℕ) (number : ℕ → ℕ) → AreWellFormed cells root → (n i : ℕ) → i < n → i < length cells →
    Denoted cells number i
below_denotes cells root number formed zero i h within = absurd (omega (arith, h))
below_denotes cells root number formed (suc n) i h within =
    let there : (c : Cell) × IsCell cells i c = cell_there cells i within in
    cell_denotes cells number i there.0 there.1 (λ j among. let less : j < i = formed.inner_below i j there.0 there.1 among in
    below_denotes cells root number formed n j (omega arith) (omega arith))

pub well_formed_denotes : WellFormedDenotes
well_formed_denotes cells root formed number =
    let d : Denoted cells number root = below_denotes cells root number formed (suc root) root (omega arith) formed.root_within in
    (d.whole, d.denotes)
