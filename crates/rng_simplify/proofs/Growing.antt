-- Cells that are added leave what the others stand for.
use Rattle.std.proofs.Common.{refl, ℕ, zero, suc, List, [], ◌∷◌, ◌++◌, length}
use Rattle.rng_simplify.specs.Cells.{Cell}
use Rattle.rng_simplify.specs.Composed.{Composed, Clauses}
use Rattle.rng_simplify.specs.declared.node.Clause.{Clause}
use Rattle.rng_simplify.specs.SuppliedPieces.{Grows}
use Rattle.rng_simplify.specs.CellMeanings.{IsCell, Denotes, DenoteAll, is_element, is_attribute, is_list, is_ref, is_parent_ref, is_empty, is_text, is_not_allowed, is_value, is_type, is_grammar, is_one_or_more, is_joined, none_denoted, next_denoted}

pub grows_not : (cells : List Cell) → Grows cells cells
grows_not cells = record { stays = λ i c h. h }

pub grows_on : {old mid new : List Cell} → Grows old mid → Grows mid new → Grows old new
grows_on first second = record { stays = λ i c h. second.stays i c (first.stays i c h) }

stays_behind : (old more : List Cell) (i : ℕ) (c : Cell) → IsCell old i c → IsCell (old ++ more) i c
stays_behind [] more i c h = let never : ⊥ = cc in absurd never
stays_behind (x ∷ old) more zero c h = h
stays_behind (x ∷ old) more (suc i) c h = stays_behind old more i c h

-- one more
pub one_more : (cells : List Cell) (c : Cell) → Grows cells (cells ++ c ∷ [])
one_more cells c = record { stays = stays_behind cells (c ∷ []) }

pub last_cell : (cells : List Cell) (c : Cell) → IsCell (cells ++ c ∷ []) (length cells) c
last_cell [] c = refl
last_cell (x ∷ cells) c = last_cell cells c

mutual
  pub denotes_on : {old new : List Cell} {number : ℕ → ℕ} {i : ℕ} {p : Composed} → Grows old new → Denotes old number i p → Denotes new number i p
  denotes_on grows (is_element at part) = is_element (grows.stays _ _ at) (denotes_on grows part)
  denotes_on grows (is_attribute at part) = is_attribute (grows.stays _ _ at) (denotes_on grows part)
  denotes_on grows (is_list at part) = is_list (grows.stays _ _ at) (denotes_on grows part)
  denotes_on grows (is_ref at) = is_ref (grows.stays _ _ at)
  denotes_on grows (is_parent_ref at) = is_parent_ref (grows.stays _ _ at)
  denotes_on grows (is_empty at) = is_empty (grows.stays _ _ at)
  denotes_on grows (is_text at) = is_text (grows.stays _ _ at)
  denotes_on grows (is_not_allowed at) = is_not_allowed (grows.stays _ _ at)
  denotes_on grows (is_value at) = is_value (grows.stays _ _ at)
  denotes_on grows (is_type at part) = is_type (grows.stays _ _ at) (denotes_on grows part)
  denotes_on grows (is_grammar at all) = is_grammar (grows.stays _ _ at) (denote_all_on grows all)
  denotes_on grows (is_one_or_more at part) = is_one_or_more (grows.stays _ _ at) (denotes_on grows part)
  denotes_on grows (is_joined by at first second) = is_joined by (grows.stays _ _ at) (denotes_on grows first) (denotes_on grows second)

  pub denote_all_on : {old new : List Cell} {number : ℕ → ℕ} {clauses : List Clause} {all : Clauses} → Grows old new → DenoteAll old number clauses all → DenoteAll new number clauses all
  denote_all_on grows none_denoted = none_denoted
  denote_all_on grows (next_denoted body rest) = next_denoted (denotes_on grows body) (denote_all_on grows rest)
