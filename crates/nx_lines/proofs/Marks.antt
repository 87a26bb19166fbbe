-- A byte order mark in front of a text takes columns of its first line alone.
use Rattle.std.proofs.Common.{◌≡◌, ◌∙◌, ℕ, zero, suc, ◌+◌, ◌-◌, Bool, true, false, cond, List, [], ◌∷◌, max}
use Rattle.std.proofs.Common.{refl, sym, ap, arith, eqb-true}
use Rattle.std.specs.Prelude.{◌==◌, ◌&&◌, nat_lt}
use Rattle.std.proofs.lemmas.Bool.{lt-ltb, and_parts}
use Rattle.nx_position.specs.declared.position.Encoding.{Encoding}
use Rattle.nx_position.specs.declared.position.Encoding.TheVariants.{Utf8, Utf16, Utf32}
use Rattle.nx_position.specs.declared.position.Position.{Position}
use Rattle.nx_position.specs.Positions.{byte_units, units, position_of}
use Rattle.nx_position.proofs.Steps.{shifted, is_first, one_in_front}
use Rattle.nx_lines.specs.Shown.{begins_with_mark, shown_position, unmarked}

-- what stands behind the mark
behind_mark : (text : List ℕ) → begins_with_mark text ≡ true → (rest : List ℕ) × (text ≡ 0xEF ∷ 0xBB ∷ 0xBF ∷ rest)
behind_mark [] is = cc
behind_mark (a ∷ []) is = absurd (not_last (a == 0xEF) is)
  where
    not_last : (b : Bool) → (b && false && false) ≡ true → ⊥
    not_last true is = cc
    not_last false is = cc
behind_mark (a ∷ b ∷ []) is = absurd (not_last (a == 0xEF) (b == 0xBB) is)
  where
    not_last : (x y : Bool) → (x && y && false) ≡ true → ⊥
    not_last true true is = cc
    not_last true false is = cc
    not_last false y is = cc
behind_mark (a ∷ b ∷ c ∷ rest) is =
    let two = and_parts ((a == 0xEF) && (b == 0xBB)) (c == 0xBF) is in
    let one = and_parts (a == 0xEF) (b == 0xBB) two.0 in
    let first = eqb-true a 0xEF one.0 in let second = eqb-true b 0xBB one.1 in let third = eqb-true c 0xBF two.1 in
    (rest, cc)

-- a position behind the mark, counted from it
abbrev marked : Encoding → Position → Position
marked e q =
    cond (is_first q.line) (record { line = 0; column = byte_units e 0xEF + (byte_units e 0xBB + (byte_units e 0xBF + q.column)) }) q

in_text : (e : Encoding) (rest : List ℕ) (at : ℕ) → position_of e (0xEF ∷ 0xBB ∷ 0xBF ∷ rest) (suc (suc (suc at))) ≡ marked e (position_of e rest at)
in_text e rest at =
    one_in_front e 0xEF (suc (suc at)) (0xBB ∷ 0xBF ∷ rest)
    ∙ ap (shifted e 0xEF (0xBB ∷ 0xBF ∷ rest)) (one_in_front e 0xBB (suc at) (0xBF ∷ rest) ∙ ap (shifted e 0xBB (0xBF ∷ rest)) (one_in_front e 0xBF at rest))
    ∙ by (position_of e rest at).line (position_of e rest at).column
  where
    by : (line column : ℕ) → (let q : Position = record { line = line; column = column } in
        shifted e 0xEF (0xBB ∷ 0xBF ∷ rest) (shifted e 0xBB (0xBF ∷ rest) (shifted e 0xBF rest q)) ≡ marked e q)
    by zero column = refl
    by (suc line) column = refl

mark_units : (e : Encoding) → units e (0xEF ∷ 0xBB ∷ 0xBF ∷ []) ≡ byte_units e 0xEF + (byte_units e 0xBB + byte_units e 0xBF)
mark_units Utf8 = refl
mark_units Utf16 = refl
mark_units Utf32 = refl

left_out : (e : Encoding) (q : Position) → q ≡ unmarked e (marked e q)
left_out e q = by q.line q.column
  where
    by : (line column : ℕ) → (let q : Position = record { line = line; column = column } in q ≡ unmarked e (marked e q))
    by zero column =
        let wide = mark_units e in
        let same : column ≡ byte_units e 0xEF + (byte_units e 0xBB + (byte_units e 0xBF + column)) - units e (0xEF ∷ 0xBB ∷ 0xBF ∷ []) = omega (arith, wide) in
        ap (λ (c : ℕ). let p : Position = record { line = 0; column = c } in p) same
    by (suc line) column =
        let some : nat_lt 0 (suc line) ≡ true = lt-ltb 0 (suc line) (omega arith) in
        sym (ap (λ (b : Bool). let p : Position = cond b (record { line = suc line; column = column }) (record { line = 0; column = column - units e (0xEF ∷ 0xBB ∷ 0xBF ∷ []) }) in p) some)

-- so a place is shown where the mark's code units are left out
pub shown : (e : Encoding) (text : List ℕ) (at most : ℕ) (p : Position) → begins_with_mark text ≡ true → most ≡ max at 3 → p ≡ position_of e text most
    → unmarked e p ≡ shown_position e text at
shown e text at most p is far told =
    let behind = behind_mark text is in
    let there : most ≡ suc (suc (suc (at - 3))) = omega (arith, far) in
    let in_rest : p ≡ marked e (position_of e behind.0 (at - 3)) =
    told ∙ ap (position_of e text) there ∙ ap (λ (t : List ℕ). position_of e t (suc (suc (suc (at - 3))))) behind.1 ∙ in_text e behind.0 (at - 3) in
    ap (unmarked e) in_rest ∙ sym (left_out e (position_of e behind.0 (at - 3)))
    ∙ sym (ap (λ (t : List ℕ). shown_position e t at) behind.1)
