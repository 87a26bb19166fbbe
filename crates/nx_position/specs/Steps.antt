-- How positions go on from byte to byte.
use Rattle.std.specs.Prelude.{◌≡◌, ℕ, ◌+◌, ◌<◌, List, length, drop, cond, slice_index}
use Rattle.nx_position.specs.declared.position.Encoding.{Encoding}
use Rattle.nx_position.specs.declared.position.Position.{Position}
use Rattle.nx_position.specs.Positions.{ends_line, is_content, byte_units, position_of}

-- the position behind a byte, in front of which this one is: a line's end begins the next line, and a carriage return in front of a line feed
-- has no column
abbrev pub position_behind : Encoding → ℕ → List ℕ → Position → Position
position_behind encoding byte rest position =
    cond (ends_line byte rest) (record { line = position.line + 1; column = 0 })
    (cond (is_content byte) (record { line = position.line; column = position.column + byte_units encoding byte }) position)

-- the start is line 0, column 0, and each further byte takes one step
abbrev pub PositionsGoOn : Type 0
PositionsGoOn = (encoding : Encoding) (text : List ℕ) →
    (position_of encoding text 0 ≡ record { line = 0; column = 0 })
    × ((at : ℕ) → at < length text →
    position_of encoding text (at + 1) ≡ position_behind encoding (slice_index text at) (drop (at + 1) text) (position_of encoding text at))
