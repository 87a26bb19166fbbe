-- Characters by their codes.
use Rattle.std.specs.Prelude.{ℕ, Option, Some, None, if◌then◌else◌}
use Rattle.nx_base.specs.Characters.{is_char}

-- the character of a code, where XML allows it
unfoldable pub char_of_code : ℕ → Option ℕ
char_of_code code = if is_char code then Some code else None
