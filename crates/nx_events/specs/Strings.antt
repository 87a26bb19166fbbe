-- The strings of character data and of attributes' values (XML 1.0, 2.11, 3.3.3 and 4.4).
use Rattle.std.specs.Prelude.{ℕ, zero, suc, ◌+◌, ◌-◌, ◌&&◌, ◌==◌, nat_eq, if◌then◌else◌, List, [], ◌∷◌, length, take, drop, slice_index}
use Rattle.std.specs.Prelude.{codes}
use Rattle.std.specs.List.{starts_with, flat_map}
use Rattle.std.specs.Str.{byte, continuation_len}
use Rattle.nx_events.specs.declared.reading.Reading.{Reading}
use Rattle.nx_events.specs.declared.reading.Reading.TheVariants.{Plain, Text, Value}
use Rattle.nx_base.specs.Characters.{is_space}
use Rattle.nx_events.specs.References.{reference_len, referenced, spelled}

-- a part of a text that isn't divided: one character, a line's end of two, a reference, or `]]>`; and the place where it begins
pub record Piece : Type 0 where
  pub at : ℕ
  pub bytes : List ℕ

-- a text that begins at the place `at`, cut into pieces as long as `len` says of what is left; the first n bytes belong to a
-- piece before it
unfoldable pub cut_by : (List ℕ → ℕ) → ℕ → ℕ → List ℕ → List Piece
cut_by len n at [] = []
cut_by len (suc n) at (b ∷ bytes) = cut_by len n (at + 1) bytes
cut_by len zero at (b ∷ bytes) =
    (record { at = at; bytes = take (len (b ∷ bytes)) (b ∷ bytes) }) ∷ cut_by len (len (b ∷ bytes) - 1) (at + 1) bytes

-- characters, with CR LF as one (2.11)
unfoldable pub line_piece_len : List ℕ → ℕ
line_piece_len [] = 0
line_piece_len (b ∷ bytes) =
    if b == 13 && slice_index bytes 0 == 10 then 2 else suc (continuation_len b)

-- the same with references, and with `]]>` as one
unfoldable pub text_piece_len : List ℕ → ℕ
text_piece_len [] = 0
text_piece_len (b ∷ bytes) =
    if b == byte "&" then suc (reference_len bytes)
    else (if starts_with nat_eq (b ∷ bytes) (codes "]]>") then 3
    else line_piece_len (b ∷ bytes))

abbrev pub piece_len : Reading → List ℕ → ℕ
piece_len Plain = line_piece_len
piece_len Text = text_piece_len
piece_len Value = text_piece_len

abbrev pub pieces : Reading → ℕ → List ℕ → List Piece
pieces reading at bytes = cut_by (piece_len reading) 0 at bytes

-- what stands for a piece where references aren't read: LF for a line's end, and else itself (2.11)
unfoldable pub line_string_of : List ℕ → List ℕ
line_string_of piece = if slice_index piece 0 == 13 then 10 ∷ [] else piece

-- the same where they are read: their character (4.4)
unfoldable pub text_string_of : List ℕ → List ℕ
text_string_of piece = if slice_index piece 0 == byte "&" then spelled (referenced piece) else line_string_of piece

-- the same in a value, where white space that is no reference is a space (3.3.3)
unfoldable pub value_string_of : List ℕ → List ℕ
value_string_of piece = if is_space (slice_index piece 0) then byte " " ∷ [] else text_string_of piece

abbrev pub piece_string : Reading → List ℕ → List ℕ
piece_string Plain = line_string_of
piece_string Text = text_string_of
piece_string Value = value_string_of

-- the string of a CDATA section's content, of character data, or of a value between its quotes
unfoldable pub string_of : Reading → List ℕ → List ℕ
string_of reading bytes = flat_map (λ piece. piece_string reading piece.bytes) (pieces reading 0 bytes)

-- what stands between `<![CDATA[` and `]]>`
abbrev pub cdata_content : List ℕ → List ℕ
cdata_content bytes = take (length bytes - 12) (drop 9 bytes)
