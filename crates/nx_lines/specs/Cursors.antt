-- A cursor that goes over a text.
use Rattle.std.specs.Prelude.{◌≡◌, ◌<◌, ◌≤◌, ◌^◌, ℕ, List, length}
use Rattle.std.specs.Str.{IsUtf8}
use Rattle.nx_position.specs.Positions.{position_of}
use Rattle.nx_lines.specs.declared.cursor.Cursor.{Cursor}

-- it stands at a place of the text, and knows that place's position
pub record IsAtPlace (text : List ℕ) (cursor : Cursor) : Type 0 where
  pub within : cursor.at ≤ length text
  pub position : cursor.position ≡ position_of cursor.encoding text cursor.at

-- a text in memory
pub record IsHeld (text : List ℕ) : Type 0 where
  pub utf8 : IsUtf8 text
  pub fits : length text < 2 ^ 64
