-- Octets are below 256.
use Rattle.std.proofs.Common.{ℕ, ◌<◌, List, [], ◌∷◌, map, arith}
use Rattle.std.specs.List.{AllByRecursion}
use Rattle.std.specs.Char.{is_ascii_hexdigit, digit_value}
use Rattle.rng_more_types.specs.Spaces.{trimmed, unspaced}
use Rattle.rng_more_types.specs.Octets.{octets_of_fours, octets_of_sixes, base64_value, is_base64_digit, digits_of}
use Rattle.rng_more_types.specs.Laws.{OctetsAreSmall}
use Rattle.rng_more_types.specs.declared.more_type.MoreType.TheVariants.{Date, Time, DateTime, GYear, GYearMonth, HexBinary, Base64Binary}
use Rattle.rng_more_types.proofs.Hex.{Below, map_below, kind_below, hex_parts}
use Rattle.rng_more_types.proofs.Sixes.{value_below, base64_parts}

small_fours : (xs : List ℕ) → Below 16 xs → AllByRecursion (λ octet. octet < 256) (octets_of_fours xs)
small_fours [] below = tt
small_fours (a ∷ []) below = tt
small_fours (a ∷ (b ∷ more)) below = (omega (arith, below.0, below.1.0), small_fours more below.1.1)

small_sixes : (xs : List ℕ) → Below 64 xs → AllByRecursion (λ octet. octet < 256) (octets_of_sixes xs)
small_sixes [] below = tt
small_sixes (a ∷ []) below = tt
small_sixes (a ∷ (b ∷ [])) below = (omega (arith, below.0, below.1.0), tt)
small_sixes (a ∷ (b ∷ (c ∷ []))) below = (omega (arith, below.0, below.1.0), (omega (arith, below.1.1.0), tt))
small_sixes (a ∷ (b ∷ (c ∷ (d ∷ more)))) below =
    (omega (arith, below.0, below.1.0), (omega (arith, below.1.1.0), (omega (arith, below.1.1.1.0), small_sixes more below.1.1.1.1)))

pub octets_are_small : OctetsAreSmall
octets_are_small Date text is = tt
octets_are_small Time text is = tt
octets_are_small DateTime text is = tt
octets_are_small GYear text is = tt
octets_are_small GYearMonth text is = tt
octets_are_small HexBinary text is = small_fours (map digit_value (trimmed text)) (map_below digit_value is_ascii_hexdigit 16 kind_below (trimmed text) (hex_parts (trimmed text) is).digits)
octets_are_small Base64Binary text is = small_sixes (map base64_value (digits_of (unspaced text))) (map_below base64_value is_base64_digit 64 value_below (digits_of (unspaced text)) (base64_parts (unspaced text) is).digits)
