-- Numbers by their decimal literals: XML Schema Part 2, sections 3.2.3 and 3.3.13.
use Rattle.std.specs.Prelude.{◌≡◌, ℕ, nat_le, ◌*◌, ◌^◌, ◌+◌, ℤ, pos, neg_ℤ, Bool, false, ◌==◌, ◌&&◌, ◌||◌}
use Rattle.std.specs.Prelude.{if◌then◌else◌, List, [], ◌∷◌, ◌++◌, length, drop}
use Rattle.std.specs.List.{list_all, before_first, after_first, prefix_len}
use Rattle.std.specs.Char.{is_ascii_digit}
use Rattle.std.specs.Ordering.{int_cmp}
use Rattle.std.specs.declared.cmp.Ordering.{Ordering}
use Rattle.std.specs.Str.Parse.{digits_value}
use Rattle.rng_types.specs.Spaces.{is_some_text}

-- the sign is `+` (43) or `-` (45)
abbrev pub is_sign : ℕ → Bool
is_sign c = c == 43 || c == 45

abbrev pub is_negative : List ℕ → Bool
is_negative [] = false
is_negative (c ∷ cs) = c == 45

-- what stands behind the sign, if there is one
abbrev pub unsigned : List ℕ → List ℕ
unsigned [] = []
unsigned (c ∷ cs) = if is_sign c then cs else c ∷ cs

-- the point is `.` (46)
abbrev pub is_point : ℕ → Bool
is_point c = c == 46

-- what stands before the point, and what behind it
abbrev pub whole_part : List ℕ → List ℕ
whole_part text = before_first is_point (unsigned text)

abbrev pub fraction_part : List ℕ → List ℕ
fraction_part text = after_first is_point (unsigned text)

-- one digit or more, and nothing else
abbrev pub is_digits : List ℕ → Bool
is_digits text = is_some_text text && list_all is_ascii_digit text

-- a sign or none, digits with at most one point among or beside them, at least one digit
abbrev pub is_decimal : List ℕ → Bool
is_decimal text = is_digits (whole_part text ++ fraction_part text)

-- a sign or none, and digits
abbrev pub is_integer : List ℕ → Bool
is_integer text = is_digits (unsigned text)

-- a whole number over a power of ten
pub record Number : Type 0 where
  pub negative : Bool
  pub digits : ℕ
  pub places : ℕ

-- the number that a literal stands for: all its digits, over as many tens as stand behind the point
abbrev pub number_of : List ℕ → Number
number_of text = record {
  negative = is_negative text;
  digits = digits_value 10 (whole_part text ++ fraction_part text);
  places = length (fraction_part text);
}

-- its digits times this, with its sign
abbrev pub times : Number → ℕ → ℤ
times x k = if x.negative then neg_ℤ (pos (x.digits * k)) else pos (x.digits * k)

-- how two numbers compare, and when they are the same: a / 10^m and b / 10^n as a * 10^n and b * 10^m
abbrev pub compared : Number → Number → Ordering
compared x y = int_cmp (times x (10 ^ y.places)) (times y (10 ^ x.places))

abbrev pub SameNumber : Number → Number → Type 0
SameNumber x y = times x (10 ^ y.places) ≡ times y (10 ^ x.places)

abbrev pub is_zero : ℕ → Bool
is_zero c = c == 48

-- digits without the zeros (48) at their start, and without those at their end
abbrev pub without_leading_zeros : List ℕ → List ℕ
without_leading_zeros text = drop (prefix_len is_zero text) text

abbrev pub without_trailing_zeros : List ℕ → List ℕ
without_trailing_zeros [] = []
without_trailing_zeros (c ∷ cs) =
    if is_zero c && length (without_trailing_zeros cs) == 0 then [] else c ∷ without_trailing_zeros cs

-- how many digits are left without the zeros at the start of the whole part and those at the end of the fraction
abbrev pub significant : List ℕ → ℕ
significant text = length (without_leading_zeros (whole_part text)) + length (without_trailing_zeros (fraction_part text))

-- no more digits than a number in a schema may have
abbrev pub has_few_digits : List ℕ → Bool
has_few_digits text = nat_le (significant text) 30
