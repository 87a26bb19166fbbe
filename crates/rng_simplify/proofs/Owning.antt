-- What composing makes has each node in one place at most, and it finds a piece for each file that is mentioned.
use Rattle.std.proofs.Common.{◌≡◌, refl, sym, ap, ◌∙◌, subst, ℕ, zero, suc, ◌+◌, ◌<◌, ◌≤◌, eqb, eq-eqb, Bool, true, false, List, [], ◌∷◌, ◌++◌, length, arith, ◌⊎◌, inl, inr}
use Rattle.std.specs.Prelude.{Contains, flat_map}
use Rattle.std.proofs.lemmas.Grind.{flat_map-append}
use Rattle.std.proofs.lemmas.Bool.{eqb-true}
use Rattle.rng_simplify.specs.Cells.{Cell}
use Rattle.rng_simplify.specs.CellMeanings.{IsCell}
use Rattle.rng_simplify.specs.MadeCells.{Stock, FilePiece, of_pattern, of_grammar}
use Rattle.rng_simplify.specs.NodePlaces.{inner_nodes, bodies_of}

-- ---- counting

abbrev pub one_if : Bool → ℕ
one_if true = 1
one_if false = 0

abbrev pub count : ℕ → List ℕ → ℕ
count i [] = 0
count i (x ∷ xs) = one_if (eqb i x) + count i xs

pub count-append : (i : ℕ) (xs ys : List ℕ) → count i (xs ++ ys) ≡ count i xs + count i ys
count-append i [] ys = omega arith
count-append i (x ∷ xs) ys = let more : count i (xs ++ ys) ≡ count i xs + count i ys = count-append i xs ys in omega arith

-- a number is another or not
bit : (i x : ℕ) → (one_if (eqb i x) ≡ 0) ⊎ ((one_if (eqb i x) ≡ 1) × (i ≡ x))
bit i x = at (eqb i x) refl
  where
    at : (b : Bool) → eqb i x ≡ b → (one_if b ≡ 0) ⊎ ((one_if b ≡ 1) × (i ≡ x))
    at true e = inr (refl, eqb-true i x e)
    at false e = inl refl

zero_not : (b : Bool) → b ≡ true → one_if b ≡ 0 → ⊥
zero_not true h e = omega (arith, e)
zero_not false h e = let never : ⊥ = cc in never

pub self_counted : (i : ℕ) → one_if (eqb i i) ≡ 1
self_counted i = at (bit i i)
  where
    at : (one_if (eqb i i) ≡ 0) ⊎ ((one_if (eqb i i) ≡ 1) × (i ≡ i)) → one_if (eqb i i) ≡ 1
    at (inl e) = absurd (zero_not (eqb i i) (eq-eqb i i refl) e)
    at (inr h) = h.0

-- what is in a list is counted
pub counted : (xs : List ℕ) (j : ℕ) → Contains xs j → 1 ≤ count j xs
counted [] j among = absurd (omega (arith, among.1))
counted (x ∷ xs) j (zero, below, is) =
    let same : one_if (eqb j x) ≡ 1 = subst (λ y. one_if (eqb j y) ≡ 1) (sym is) (self_counted j) in omega arith
counted (x ∷ xs) j (suc k, below, is) = let more : 1 ≤ count j xs = counted xs j (k, omega (arith, below), is) in omega arith

-- ---- nodes in one place

abbrev pub piece_nodes : FilePiece → List ℕ
piece_nodes (of_pattern root) = root ∷ []
piece_nodes (of_grammar clauses) = bodies_of clauses

-- how often the node stands in nodes, in pieces, and in what is held besides
abbrev pub uses : ℕ → Stock → List ℕ → ℕ
uses i now extra = count i (flat_map inner_nodes now.cells) + count i (flat_map piece_nodes now.pieces) + count i extra

pub record Owns (now : Stock) (extra : List ℕ) : Type 0 where
  pub parts : (k j : ℕ) (c : Cell) → IsCell now.cells k c → Contains (inner_nodes c) j → j < k
  pub once : (i : ℕ) → uses i now extra ≤ 1
  pub below : (i : ℕ) → length now.cells ≤ i → uses i now extra ≡ 0

-- what is held is less, or has come from pieces
pub held_else : (old new : Stock) (xs ys : List ℕ) → new.cells ≡ old.cells →
    ((i : ℕ) → count i (flat_map piece_nodes new.pieces) + count i ys ≤ count i (flat_map piece_nodes old.pieces) + count i xs) →
    Owns old xs → Owns new ys
held_else old new xs ys same less owns = record {
  parts = λ k j c at among. owns.parts k j c (subst (λ cells. IsCell cells k c) same at) among;
  once =
      λ i. let e : count i (flat_map inner_nodes new.cells) ≡ count i (flat_map inner_nodes old.cells) = ap
      (λ cells. count i (flat_map inner_nodes cells)) same in omega (arith, owns.once i, less i);
  below =
      λ i h. let e : count i (flat_map inner_nodes new.cells) ≡ count i (flat_map inner_nodes old.cells) = ap
      (λ cells. count i (flat_map inner_nodes cells)) same in let n : length new.cells ≡ length old.cells = ap
      (λ (cells : List Cell). length cells) same in omega (arith, owns.below i (omega arith), less i);
}

-- a cell is the last one or one before it
pub old_or_last : (cells : List Cell) (c : Cell) (k : ℕ) (d : Cell) → IsCell (cells ++ c ∷ []) k d →
    IsCell cells k d ⊎ ((k ≡ length cells) × (c ≡ d))
old_or_last [] c zero d at = inr (refl, let e : c ≡ d = cc in e)
old_or_last [] c (suc k) d at = let never : ⊥ = cc in absurd never
old_or_last (x ∷ cells) c zero d at = inl at
old_or_last (x ∷ cells) c (suc k) d at = up (old_or_last cells c k d at)
  where
    up : IsCell cells k d ⊎ ((k ≡ length cells) × (c ≡ d)) → IsCell cells k d ⊎ ((suc k ≡ suc (length cells)) × (c ≡ d))
    up (inl h) = inl h
    up (inr h) = inr (ap suc h.0, h.1)

one_longer : (cells : List Cell) (c : Cell) → length (cells ++ c ∷ []) ≡ suc (length cells)
one_longer [] c = refl
one_longer (x ∷ cells) c = ap suc (one_longer cells c)

pub le_or_gt : (a b : ℕ) → (a ≤ b) ⊎ (b < a)
le_or_gt a b = grind arith

-- a further cell takes what is held for its nodes
pub cell_owns : (c : Cell) (now : Stock) (extra : List ℕ) → Owns now (inner_nodes c ++ extra) →
    Owns (record { cells = now.cells ++ c ∷ []; pieces = now.pieces }) (length now.cells ∷ extra)
cell_owns c now extra owns = record {
  parts = λ k j d at among. part k j d among (old_or_last now.cells c k d at);
  once = λ i. once_at i (bit i (length now.cells));
  below = λ i h. below_at i h (bit i (length now.cells));
}
  where
    part : (k j : ℕ) (d : Cell) → Contains (inner_nodes d) j → IsCell now.cells k d ⊎ ((k ≡ length now.cells) × (c ≡ d)) → j < k
    part k j d among (inl at) = owns.parts k j d at among
    part k j d among (inr h) = at_last (le_or_gt (length now.cells) j)
      where
        some : 1 ≤ count j (inner_nodes c)
        some = counted (inner_nodes c) j (subst (λ x. Contains (inner_nodes x) j) (sym h.1) among)

        at_last : (length now.cells ≤ j) ⊎ (j < length now.cells) → j < k
        at_last (inl beyond) = absurd (omega (arith, owns.below j beyond, count-append j (inner_nodes c) extra, some))
        at_last (inr below) = omega (arith, h.0)

    in_cells : (i : ℕ) → count i (flat_map inner_nodes (now.cells ++ c ∷ [])) ≡ count i (flat_map inner_nodes now.cells) + count i
        (inner_nodes c)
    in_cells i =
        ap (count i) (flat_map-append inner_nodes now.cells (c ∷ []))
        ∙ count-append i (flat_map inner_nodes now.cells) (inner_nodes c ++ [])
        ∙ (let more : count i (inner_nodes c ++ []) ≡ count i (inner_nodes c) + 0 = count-append i (inner_nodes c) [] in omega arith)

    once_at : (i : ℕ) → (one_if (eqb i (length now.cells)) ≡ 0) ⊎ ((one_if (eqb i (length now.cells)) ≡ 1) × (i ≡ length now.cells)) →
        uses i (record { cells = now.cells ++ c ∷ []; pieces = now.pieces }) (length now.cells ∷ extra) ≤ 1
    once_at i (inl e) = omega (arith, e, in_cells i, count-append i (inner_nodes c) extra, owns.once i)
    once_at i (inr h) = omega (arith, h.0, in_cells i, count-append i (inner_nodes c) extra, owns.below i (omega (arith, h.1)))

    below_at : (i : ℕ) → length (now.cells ++ c ∷ []) ≤ i →
        (one_if (eqb i (length now.cells)) ≡ 0) ⊎ ((one_if (eqb i (length now.cells)) ≡ 1) × (i ≡ length now.cells)) →
        uses i (record { cells = now.cells ++ c ∷ []; pieces = now.pieces }) (length now.cells ∷ extra) ≡ 0
    below_at i h (inl e) =
        omega (
          arith,
          e,
          in_cells i,
          count-append i (inner_nodes c) extra,
          one_longer now.cells c,
          owns.below i (omega (arith, h, one_longer now.cells c)),
        )
    below_at i h (inr e) = absurd (omega (arith, h, e.1, one_longer now.cells c))
