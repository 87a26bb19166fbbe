-- How far whole numbers lie apart, told up to 1000.
use Rattle.std.specs.Prelude.{ℕ, ◌+◌, ◌-◌, min, ℤ, pos, negsuc, List, Option, None, Some}
use Rattle.rng_types.specs.Numbers.{number_of, times}

-- the number of a literal without a point
abbrev pub whole_number : List ℕ → ℤ
whole_number text = times (number_of text) 1

-- 1000 and a number that is cut at 1000 above and below zero
abbrev pub offset_of : ℤ → ℕ
offset_of (pos n) = 1000 + min 1000 n
offset_of (negsuc n) = 1000 - (n + 1)

-- the same of a difference
abbrev pub offset_digits : ℕ → ℕ → ℕ
offset_digits m n = min 2000 ((m + 1000) - n)

-- the number of such a literal, if there is one
abbrev pub end_of : Option (List ℕ) → Option ℤ
end_of None = None
end_of (Some text) = Some (whole_number text)
