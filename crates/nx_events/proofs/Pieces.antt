-- Texts in pieces, a piece at a time.
use Rattle.std.proofs.Common.{◌≡◌, ℕ, zero, suc, ◌+◌, ◌-◌, ◌<◌, Bool, true, false, min, cond, List, [], ◌∷◌, ◌++◌, length, take, drop, refl, ap, sym, ◌∙◌, arith, append_assoc}
use Rattle.std.proofs.lemmas.Grind.{common_steps}
use Rattle.std.proofs.lemmas.List.{take_rest, append-nil}
use Rattle.std.proofs.lemmas.Bool.Decides.{Decides-eqb}
use Rattle.std.specs.Prelude.{◌==◌, ◌&&◌, nat_eq, slice_index, codes}
use Rattle.std.specs.Str.{continuation_len}
use Rattle.std.specs.List.{flat_map, starts_with}
use Rattle.nx_events.specs.References.{reference_len}
use Rattle.nx_events.specs.Strings.{Piece, cut_by, line_piece_len, text_piece_len, piece_len, piece_string, string_of}
use Rattle.nx_events.specs.declared.reading.Reading.{Reading}
use Rattle.nx_events.specs.declared.reading.Reading.TheVariants.{Plain, Text, Value}

-- the first n bytes are passed, as far as there are any
cut_past : (len : List ℕ → ℕ) (n m at : ℕ) (xs : List ℕ) → m ≡ min n (length xs) → cut_by len n at xs ≡ cut_by len 0 (at + m) (drop m xs)
unfolding cut_by
cut_past len n zero at [] e = refl
cut_past len n (suc m) at [] e = absurd (omega arith)
cut_past len zero zero at (b ∷ xs) e = ap (λ (k : ℕ). cut_by len 0 k (b ∷ xs)) (let h : at ≡ at + 0 = omega arith in h)
cut_past len zero (suc m) at (b ∷ xs) e = absurd (omega arith)
cut_past len (suc n) zero at (b ∷ xs) e = absurd (omega arith)
cut_past len (suc n) (suc m) at (b ∷ xs) e =
    let h : at + 1 + m ≡ at + suc m = omega arith in
    cut_past len n m (at + 1) xs (omega arith) ∙ ap (λ (k : ℕ). cut_by len 0 k (drop m xs)) h

abbrev piece_at : ℕ → List ℕ → Piece
piece_at at bytes = record { at = at; bytes = bytes }

-- the piece at the front, and the pieces behind it
pub cut_first : (len : List ℕ → ℕ) (at : ℕ) (xs p : List ℕ) → p ≡ take (len xs) xs → 0 < length p →
    cut_by len 0 at xs ≡ piece_at at p ∷ cut_by len 0 (at + length p) (drop (length p) xs)
unfolding cut_by
cut_first len at [] p e h = absurd (let g : p ≡ [] = e ∙ grind (arith, common_steps) in omega (arith, ap length g))
cut_first len at (b ∷ xs) [] e h = absurd (omega arith)
cut_first len at (b ∷ xs) (q ∷ p) e h =
    let size : suc (length p) ≡ min (len (b ∷ xs)) (suc (length xs)) = ap length e ∙ grind (arith, common_steps) in
    let place : at + 1 + length p ≡ at + suc (length p) = omega arith in
    ap (λ (ys : List ℕ). piece_at at ys ∷ cut_by len (len (b ∷ xs) - 1) (at + 1) xs) (sym e)
    ∙ ap (λ (ys : List Piece). piece_at at (q ∷ p) ∷ ys) (cut_past len (len (b ∷ xs) - 1) (length p) (at + 1) xs (omega arith) ∙ ap (λ (k : ℕ). cut_by len 0 k (drop (length p) xs)) place)

-- what the pieces' bytes give doesn't depend on where they stand
anywhere : {A : Type 0} (g : List ℕ → List A) (len : List ℕ → ℕ) (n at other : ℕ) (xs : List ℕ) →
    flat_map (λ (p : Piece). g p.bytes) (cut_by len n at xs) ≡ flat_map (λ (p : Piece). g p.bytes) (cut_by len n other xs)
unfolding cut_by
anywhere g len n at other [] = refl
anywhere g len (suc n) at other (b ∷ xs) = anywhere g len n (at + 1) (other + 1) xs
anywhere g len zero at other (b ∷ xs) = ap (λ ys. g (take (len (b ∷ xs)) (b ∷ xs)) ++ ys) (anywhere g len (len (b ∷ xs) - 1) (at + 1) (other + 1) xs)

either_positive : (t : Bool) (m n : ℕ) → 0 < m → 0 < n → 0 < cond t m n
either_positive true m n h k = h
either_positive false m n h k = k

-- no piece is empty
line_piece_positive : (xs : List ℕ) → 0 < length xs → 0 < line_piece_len xs
unfolding line_piece_len
line_piece_positive [] h = absurd (omega arith)
line_piece_positive (b ∷ xs) h = either_positive (b == 13 && slice_index xs 0 == 10) 2 (suc (continuation_len b)) (omega arith) (omega arith)

text_piece_positive : (xs : List ℕ) → 0 < length xs → 0 < text_piece_len xs
unfolding text_piece_len
text_piece_positive [] h = absurd (omega arith)
text_piece_positive (b ∷ xs) h =
    either_positive (b == 38) (suc (reference_len xs)) _ (omega arith) (either_positive (starts_with nat_eq (b ∷ xs) (codes "]]>")) 3 (line_piece_len (b ∷ xs)) (omega arith) (line_piece_positive (b ∷ xs) (omega arith)))

pub piece_positive : (reading : Reading) (xs : List ℕ) → 0 < length xs → 0 < piece_len reading xs
piece_positive Plain xs h = line_piece_positive xs h
piece_positive Text xs h = text_piece_positive xs h
piece_positive Value xs h = text_piece_positive xs h

-- the string of the piece at the front, and of what is behind it
pub string_step : (reading : Reading) (xs p : List ℕ) → p ≡ take (piece_len reading xs) xs → 0 < length p →
    string_of reading xs ≡ piece_string reading p ++ string_of reading (drop (length p) xs)
unfolding string_of
string_step reading xs p e h =
    ap (flat_map (λ (q : Piece). piece_string reading q.bytes)) (cut_first (piece_len reading) 0 xs p e h)
    ∙ ap (λ ys. piece_string reading p ++ ys) (anywhere (piece_string reading) (piece_len reading) 0 (0 + length p) 0 (drop (length p) xs))

pub string_nil : (reading : Reading) → string_of reading [] ≡ []
unfolding string_of cut_by
string_nil reading = refl

-- a piece more is read
pub string_more : (reading : Reading) (xs p out new all : List ℕ) → p ≡ take (piece_len reading xs) xs → 0 < length p →
    new ≡ out ++ piece_string reading p → out ++ string_of reading xs ≡ all →
    new ++ string_of reading (take (length xs - length p) (drop (length p) xs)) ≡ all
string_more reading xs p out new all e h f g =
    rw (take_rest xs (length p), f, append_assoc, ← string_step reading xs p e h) g

-- nothing is left
pub string_whole : (reading : Reading) (rest out all : List ℕ) → (length rest == 0) ≡ true → out ++ string_of reading rest ≡ all → out ≡ all
string_whole reading [] out all e g = sym (append-nil out) ∙ (sym (ap (λ ys. out ++ ys) (string_nil reading)) ∙ g)
string_whole reading (b ∷ rest) out all e g = absurd (let h : suc (length rest) ≡ 0 = (Decides-eqb (suc (length rest)) 0).0 e in omega arith)
