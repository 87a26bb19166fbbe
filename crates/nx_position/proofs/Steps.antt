-- Positions go on from byte to byte.
use Rattle.std.proofs.Common.{◌≡◌, ◌∙◌, ℕ, zero, suc, ◌+◌, ◌-◌, ◌<◌, ◌≤◌, Bool, true, false, cond, List, [], ◌∷◌, length}
use Rattle.std.proofs.Common.{take, drop, get_or, refl, sym, ap, arith, length-append}
use Rattle.std.specs.List.{prefix_len}
use Rattle.std.specs.Str.{IsUtf8}
use Rattle.std.proofs.lemmas.List.Sums.{sum_by-cons}
use Rattle.nx_position.specs.declared.position.Encoding.{Encoding}
use Rattle.nx_position.specs.declared.position.Position.{Position}
use Rattle.nx_position.specs.Positions.{ends_line, behind_line, from_line, lines_ended, is_content, content, byte_units, units, position_of}
use Rattle.nx_position.specs.Steps.{position_behind, PositionsGoOn}
use Rattle.nx_position.proofs.Lines.{lines_tail, few_in_line, is_split, none_behind}

abbrev pub is_first : ℕ → Bool
is_first zero = true
is_first (suc line) = false

-- the position of a place with one byte more in front of the text
abbrev pub shifted : Encoding → ℕ → List ℕ → Position → Position
shifted e byte rest q =
    cond (ends_line byte rest) (record { line = suc q.line; column = q.column })
    (cond (is_first q.line) (record { line = 0; column = cond (is_content byte) (byte_units e byte) 0 + q.column }) q)

from_line-le : (line : ℕ) (text : List ℕ) → length (from_line line text) ≤ length text
from_line-le line text = (let front = lines_tail line text in let sum = ap length front.1 ∙ length-append front.0 (from_line line text) in omega (arith, sum))

-- how far a place is in what stands from its line on
abbrev column_at : Encoding → ℕ → List ℕ → List ℕ → ℕ
column_at e at text line = units e (take (at - (length text - length line)) (content line))

column_shifts : (e : Encoding) (byte at : ℕ) (rest line : List ℕ) → length line ≤ length rest
    → column_at e (suc at) (byte ∷ rest) line ≡ column_at e at rest line
column_shifts e byte at rest line le =
    let same : suc at - (length (byte ∷ rest) - length line) ≡ at - (length rest - length line) = omega (arith, le) in
    ap (λ (n : ℕ). units e (take n (content line))) same

-- in the first line
first_line : (e : Encoding) (byte at : ℕ) (rest : List ℕ) → ends_line byte rest ≡ false
    → column_at e (suc at) (byte ∷ rest) (byte ∷ rest) ≡ cond (is_content byte) (byte_units e byte) 0 + column_at e at rest rest
first_line e byte at rest is =
    let whole : suc at - (length (byte ∷ rest) - length (byte ∷ rest)) ≡ suc at = omega arith in
    let part : at - (length rest - length rest) ≡ at = omega arith in
    ap (λ (n : ℕ). units e (take n (content (byte ∷ rest)))) whole ∙ by (is_content byte) refl
    ∙ ap (λ (n : ℕ). cond (is_content byte) (byte_units e byte) 0 + units e (take n (content rest))) (sym part)
  where
    some : (n : ℕ) → take (suc at) (take (1 + n) (byte ∷ rest)) ≡ byte ∷ take at (take n rest)
    some n = (let one : 1 + n ≡ suc n = omega arith in ap (λ (m : ℕ). take (suc at) (take m (byte ∷ rest))) one)

    none : (n : ℕ) → n ≡ 0 → units e (take at (take n rest)) ≡ 0
    none n is_none = ap (λ (m : ℕ). units e (take at (take m rest))) is_none ∙ empty at
      where
        empty : (m : ℕ) → units e (take m []) ≡ 0
        empty zero = refl
        empty (suc m) = refl

    by : (b : Bool) → is_content byte ≡ b
        → units e (take (suc at) (take (cond b (1 + prefix_len is_content rest) 0) (byte ∷ rest)))
        ≡ cond b (byte_units e byte) 0 + units e (take at (content rest))
    by true good = ap (units e) (some (prefix_len is_content rest)) ∙ sum_by-cons (byte_units e) byte (take at (content rest))
    by false bad =
        let split = is_split byte rest is bad in
        let left = none (prefix_len is_content rest) (none_behind rest split.1) in
        omega (arith, left)

pub one_in_front : (e : Encoding) (byte at : ℕ) (rest : List ℕ) → position_of e (byte ∷ rest) (suc at) ≡ shifted e byte rest (position_of e rest at)
one_in_front e byte at rest = by (ends_line byte rest) refl (lines_ended at rest)
  where
    made : {l m c d : ℕ} → l ≡ m → c ≡ d → (let p : Position = record { line = l; column = c } in p) ≡ record { line = m; column = d }
    made x y = cc

    by : (b : Bool) → ends_line byte rest ≡ b → (line : ℕ)
        → (let p : Position = record {
          line = cond b (suc line) line;
          column = column_at e (suc at) (byte ∷ rest) (from_line (cond b (suc line) line) (byte ∷ rest));
        } in p)
        ≡ cond b (record { line = suc line; column = column_at e at rest (from_line line rest) })
        (cond (is_first line) (record { line = 0; column = cond (is_content byte) (byte_units e byte) 0 + column_at e at rest (from_line line rest) })
        (record { line = line; column = column_at e at rest (from_line line rest) }))
    by true is line =
        let same : from_line (suc line) (byte ∷ rest) ≡ from_line line rest = ap (λ (b : Bool). from_line line (cond b rest (behind_line rest))) is in
        made refl (ap (column_at e (suc at) (byte ∷ rest)) same ∙ column_shifts e byte at rest (from_line line rest) (from_line-le line rest))
    by false is zero = made refl (first_line e byte at rest is)
    by false is (suc line) =
        let same : from_line (suc line) (byte ∷ rest) ≡ from_line (suc line) rest = ap (λ (b : Bool). from_line line (cond b rest (behind_line rest))) is in
        made refl (ap (column_at e (suc at) (byte ∷ rest)) same ∙ column_shifts e byte at rest (from_line (suc line) rest) (from_line-le (suc line) rest))

starts : (e : Encoding) (text : List ℕ) → position_of e text 0 ≡ record { line = 0; column = 0 }
starts e text =
    let none : 0 - (length text - length text) ≡ 0 = omega arith in
    let column : column_at e 0 text text ≡ 0 = ap (λ (n : ℕ). units e (take n (content text))) none in
    ap (λ (c : ℕ). let p : Position = record { line = 0; column = c } in p) column

-- a byte put in front of the text and one behind the place can change places
swap : (front ends counts : Bool) (wide more line column : ℕ)
    → (let behind : Position = cond ends (record { line = line + 1; column = 0 }) (cond counts (record { line = line; column = column + more }) (record { line = line; column = column })) in
    cond front (record { line = suc behind.line; column = behind.column }) (cond (is_first behind.line) (record { line = 0; column = wide + behind.column }) behind))
    ≡ (let before : Position = cond front (record { line = suc line; column = column }) (cond (is_first line) (record { line = 0; column = wide + column }) (record { line = line; column = column })) in
    cond ends (record { line = before.line + 1; column = 0 }) (cond counts (record { line = before.line; column = before.column + more }) before))
swap true true counts wide more line column =
    let same : suc (line + 1) ≡ suc line + 1 = omega arith in ap (λ (n : ℕ). let p : Position = record { line = n; column = 0 } in p) same
swap true false true wide more line column = refl
swap true false false wide more line column = refl
swap false true counts wide more zero column = refl
swap false true counts wide more (suc line) column =
    let next : suc line + 1 ≡ suc (suc line) = omega arith in
    ap (λ (n : ℕ). let p : Position = cond (is_first n) (record { line = 0; column = wide + 0 }) (record { line = n; column = 0 }) in p) next
    ∙ ap (λ (n : ℕ). let p : Position = record { line = n; column = 0 } in p) (sym next)
swap false false true wide more zero column =
    let same : wide + (column + more) ≡ wide + column + more = omega arith in ap (λ (n : ℕ). let p : Position = record { line = 0; column = n } in p) same
swap false false true wide more (suc line) column = refl
swap false false false wide more zero column = refl
swap false false false wide more (suc line) column = refl

at_first : (e : Encoding) (byte : ℕ) (rest : List ℕ)
    → shifted e byte rest (record { line = 0; column = 0 }) ≡ position_behind e byte rest (record { line = 0; column = 0 })
at_first e byte rest = by (ends_line byte rest) (is_content byte)
  where
    by : (ends counts : Bool)
        → (let p : Position = cond ends (record { line = 1; column = 0 }) (record { line = 0; column = cond counts (byte_units e byte) 0 + 0 }) in p)
        ≡ cond ends (record { line = 1; column = 0 }) (cond counts (record { line = 0; column = 0 + byte_units e byte }) (record { line = 0; column = 0 }))
    by true counts = refl
    by false true =
        let same : byte_units e byte + 0 ≡ 0 + byte_units e byte = omega arith in ap (λ (n : ℕ). let p : Position = record { line = 0; column = n } in p) same
    by false false = refl

-- one byte more behind the place
pub goes_on : (e : Encoding) (text : List ℕ) (at : ℕ) → at < length text
    → position_of e text (suc at) ≡ position_behind e (get_or text at 0) (drop (suc at) text) (position_of e text at)
goes_on e [] at less = absurd (omega arith)
goes_on e (byte ∷ rest) zero less =
    one_in_front e byte 0 rest ∙ ap (shifted e byte rest) (starts e rest) ∙ at_first e byte rest ∙ ap (position_behind e byte rest) (sym (starts e (byte ∷ rest)))
goes_on e (byte ∷ rest) (suc at) less =
    let x = get_or rest at 0 in let behind = drop (suc at) rest in let q = position_of e rest at in
    one_in_front e byte (suc at) rest
    ∙ ap (shifted e byte rest) (goes_on e rest at (omega arith))
    ∙ swap (ends_line byte rest) (ends_line x behind) (is_content x) (cond (is_content byte) (byte_units e byte) 0) (byte_units e x) q.line q.column
    ∙ ap (position_behind e x behind) (sym (one_in_front e byte at rest))

pub go_on : PositionsGoOn
go_on e text = (
  starts e text,
  λ at less.
      let next : at + 1 ≡ suc at = omega arith in
      ap (position_of e text) next ∙ goes_on e text at less
      ∙ ap (λ (n : ℕ). position_behind e (get_or text at 0) (drop n text) (position_of e text at)) (sym next),
)

lines_ended-le : (at : ℕ) (text : List ℕ) → lines_ended at text ≤ at
lines_ended-le zero text = omega arith
lines_ended-le (suc at) [] = omega arith
lines_ended-le (suc at) (byte ∷ rest) = by (ends_line byte rest) (lines_ended-le at rest)
  where
    by : (b : Bool) → lines_ended at rest ≤ at → cond b (suc (lines_ended at rest)) (lines_ended at rest) ≤ suc at
    by true le = omega arith
    by false le = omega arith

-- a position is no greater than its place, and no column than the text
pub small : (e : Encoding) (text : List ℕ) (at : ℕ) → IsUtf8 text → ((position_of e text at).line ≤ at) × ((position_of e text at).column ≤ length text)
small e text at u = (lines_ended-le at text, few_in_line e text (lines_ended at text) _ _ u)
