-- Start tags that are a plain name alone, as most are.
use Rattle.std.specs.Prelude.{◌≡◌, ◌-◌, ◌≤◌, ℕ, true, List, length, take, drop, slice_index}
use Rattle.std.specs.Str.{byte}
use Rattle.nx_events.specs.PlainNames.{is_plain_name}

-- between `<` and `>` stands this name, and it is plain
pub record IsPlainTag (bytes name : List ℕ) : Type 0 where
  pub long : 2 ≤ length bytes
  pub first : slice_index bytes 0 ≡ byte "<"
  pub last : slice_index bytes (length bytes - 1) ≡ byte ">"
  pub between : name ≡ take (length bytes - 2) (drop 1 bytes)
  pub plain : is_plain_name name ≡ true
