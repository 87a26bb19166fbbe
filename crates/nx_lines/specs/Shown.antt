-- Positions as they are shown to people: a byte order mark in front of a text is no character of its first line.
use Rattle.std.specs.Prelude.{ℕ, ◌-◌, Bool, ◌==◌, ◌&&◌, List, [], ◌∷◌, drop, cond, slice_index, nat_lt}
use Rattle.nx_position.specs.declared.position.Encoding.{Encoding}
use Rattle.nx_position.specs.declared.position.Position.{Position}
use Rattle.nx_position.specs.Positions.{position_of, units}

-- U+FEFF in UTF-8 stands first
abbrev pub begins_with_mark : List ℕ → Bool
begins_with_mark text = (slice_index text 0 == 0xEF) && (slice_index text 1 == 0xBB) && (slice_index text 2 == 0xBF)

-- how many bytes it takes
abbrev pub mark_len : List ℕ → ℕ
mark_len text = cond (begins_with_mark text) 3 0

-- the position in what stands behind the mark; a place in front of that or in it is its start
abbrev pub shown_position : Encoding → List ℕ → ℕ → Position
shown_position encoding text at = position_of encoding (drop (mark_len text) text) (at - mark_len text)

-- a position in the text with the mark, without the mark's code units
abbrev pub unmarked : Encoding → Position → Position
unmarked encoding position =
    cond (nat_lt 0 position.line) position
    (record { line = 0; column = position.column - units encoding (0xEF ∷ 0xBB ∷ 0xBF ∷ []) })
