-- What stands under a key of a value.
use Rattle.std.specs.Prelude.{ℕ, ℤ, List, Option, option_and_then}
use Rattle.serde_json.specs.Data.{Data}
use Rattle.serde_json.specs.Find.{get, as_i64, as_number, as_u64, as_str}

-- a number under a key
abbrev pub number_at : List ℕ → Data → Option ℕ
number_at key value = option_and_then as_u64 (option_and_then as_number (get key value))

-- a whole number under a key, which may be below 0
abbrev pub integer_at : List ℕ → Data → Option ℤ
integer_at key value = option_and_then as_i64 (option_and_then as_number (get key value))

-- a text under a key
abbrev pub text_at : List ℕ → Data → Option (List ℕ)
text_at key value = option_and_then as_str (get key value)
