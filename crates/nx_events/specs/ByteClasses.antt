-- Classes of bytes of which many are looked at together.
use Rattle.std.specs.Prelude.{◌≡◌, ℕ, ◌<◌, ◌≤◌, Bool, true, false, not, ◌||◌, ◌==◌, nat_le, List, length, take, slice_index}
use Rattle.std.specs.Str.{byte}
use Rattle.nx_events.specs.Plain.{is_plain}
use Rattle.nx_events.specs.Tags.{ends_name}

-- a test holds of all bytes from one place to another
abbrev pub AllBetween : (ℕ → Bool) → List ℕ → ℕ → ℕ → Type 0
AllBetween test bytes from to = (k : ℕ) → from ≤ k → k < to → test (slice_index bytes k) ≡ true

-- two texts have the same bytes from one place to another
abbrev pub SameBetween : List ℕ → List ℕ → ℕ → ℕ → Type 0
SameBetween a b from to = (k : ℕ) → from ≤ k → k < to → slice_index a k ≡ slice_index b k

-- a byte that stands for itself wherever it is read, or this one
abbrev pub is_plain_or : ℕ → ℕ → Bool
is_plain_or also b = is_plain b || b == also

-- a byte behind `>` in ASCII, as letters are, or of no ASCII: none such ends a name in a tag
abbrev pub is_high : ℕ → Bool
is_high b = nat_le 63 b

abbrev pub is_low : ℕ → Bool
is_low b = not (is_high b)

-- two texts have the same bytes there, and none of them ends a name in a tag
abbrev pub IsSameName : List ℕ → List ℕ → ℕ → ℕ → Type 0
IsSameName a b from to = (k : ℕ) → from ≤ k → k < to → (slice_index a k ≡ slice_index b k) × (ends_name (slice_index a k) ≡ false)

-- a byte that ends no name in a tag
abbrev pub goes_on_name : ℕ → Bool
goes_on_name b = not (ends_name b)

-- a text begins with these bytes, and `=` stands behind them
pub record IsBeforeSign (text front : List ℕ) : Type 0 where
  pub is : front ≡ take (length front) text
  pub within : length front < length text
  pub sign : slice_index text (length front) ≡ byte "="
