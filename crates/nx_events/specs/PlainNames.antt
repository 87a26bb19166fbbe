-- Names of ASCII letters, digits and the like, as nearly all are. They are judged byte by byte.
use Rattle.std.specs.Prelude.{ℕ, Bool, false, ◌&&◌, ◌||◌, ◌==◌, List, [], ◌∷◌}
use Rattle.std.specs.Char.{is_ascii_alphabetic, is_ascii_digit}
use Rattle.std.specs.List.{list_all}

-- a letter or `_` (95), with which such a name begins
abbrev pub is_plain_start : ℕ → Bool
is_plain_start b = is_ascii_alphabetic b || b == 95

-- such a byte, a digit, `-` (45) or `.` (46)
abbrev pub is_plain_further : ℕ → Bool
is_plain_further b = is_plain_start b || (is_ascii_digit b || (b == 45 || b == 46))

abbrev pub is_plain_name : List ℕ → Bool
is_plain_name [] = false
is_plain_name (b ∷ bytes) = is_plain_start b && list_all is_plain_further bytes
