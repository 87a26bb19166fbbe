-- Places of a text, as messages tell them.
use Rattle.std.specs.Prelude.{ℕ, codes, Option, Some, None, option_and_then}
use Rattle.nx_position.specs.declared.change.Range.{Range}
use Rattle.nx_position.specs.declared.position.Position.{Position}
use Rattle.serde_json.specs.Data.{Data}
use Rattle.serde_json.specs.Find.{get}
use Rattle.nx_wire.specs.Values.{number_at}

abbrev pub position_of : Option ℕ → Option ℕ → Option Position
position_of (Some line) (Some column) = Some (record { line = line; column = column })
position_of (Some line) None = None
position_of None column = None

-- a `Position`: `{"line": N, "character": N}`
abbrev pub position_in : Data → Option Position
position_in value = position_of (number_at (codes "line") value) (number_at (codes "character") value)

abbrev pub range_of : Option Position → Option Position → Option Range
range_of (Some start) (Some end) = Some (record { start = start; end = end })
range_of (Some start) None = None
range_of None end = None

-- a `Range`: `{"start": POSITION, "end": POSITION}`
abbrev pub range_in : Data → Option Range
range_in value =
    range_of (option_and_then position_in (get (codes "start") value)) (option_and_then position_in (get (codes "end") value))
