-- Bytes that stand for themselves wherever they are read, and are no fault: most of a text. They are read many at once.
use Rattle.std.specs.Prelude.{ℕ, Bool, not, ◌&&◌, ◌||◌, ◌==◌, nat_le, nat_lt}
use Rattle.nx_events.specs.declared.reading.Reading.{Reading}
use Rattle.nx_events.specs.declared.reading.Reading.TheVariants.{Plain, Text, Value}

-- ASCII from the space on, but neither `&` (38) nor `]` (93)
abbrev pub is_plain : ℕ → Bool
is_plain b = nat_le 32 b && (nat_lt b 128 && (not (b == 38) && not (b == 93)))

-- a line feed (10) does so too, but in a value, where it is a space
abbrev pub is_plain_line : ℕ → Bool
is_plain_line b = is_plain b || b == 10

abbrev pub is_plain_in : Reading → ℕ → Bool
is_plain_in Plain = is_plain_line
is_plain_in Text = is_plain_line
is_plain_in Value = is_plain
