-- Octets in hexadecimal digits and in base64: XML Schema Part 2, sections 3.2.15 and 3.2.16; RFC 2045, section 6.8.
use Rattle.std.specs.Prelude.{ℕ, ◌+◌, ◌-◌, ◌*◌, ◌/◌, ◌%◌, nat_le, Bool, true, false, ◌==◌, ◌&&◌, ◌||◌, if◌then◌else◌, List, [], ◌∷◌, map, length, take, drop, codes}
use Rattle.std.specs.List.{list_all, list_any, position_or_len}
use Rattle.std.specs.Char.{digit_value, is_ascii_hexdigit, is_ascii_alphanumeric}

-- an even number of hexadecimal digits of either case
unfoldable pub is_hex : List ℕ → Bool
is_hex text = length text % 2 == 0 && list_all is_ascii_hexdigit text

-- an octet for each two numbers of four bits
abbrev pub octets_of_fours : List ℕ → List ℕ
octets_of_fours [] = []
octets_of_fours (a ∷ []) = []
octets_of_fours (a ∷ (b ∷ more)) = (16 * a + b) ∷ octets_of_fours more

abbrev pub octets_of_hex : List ℕ → List ℕ
octets_of_hex text = octets_of_fours (map digit_value text)

-- the 64 digits of base64: A (65) to Z, a (97) to z, 0 (48) to 9, + (43) and / (47)
abbrev pub is_base64_digit : ℕ → Bool
is_base64_digit c = is_ascii_alphanumeric c || (c == 43 || c == 47)

abbrev pub base64_value : ℕ → ℕ
base64_value c =
    if c == 43 then 62 else (if c == 47 then 63 else (if nat_le c 57 then c + 4 else (if nat_le c 90 then c - 65 else c - 71)))

-- a `=` (61) fills a group of four up
abbrev pub is_filler : ℕ → Bool
is_filler c = c == 61

-- what stands before the first filler, and what from there on
abbrev pub digits_of : List ℕ → List ℕ
digits_of text = take (position_or_len is_filler text) text

abbrev pub fillers_of : List ℕ → List ℕ
fillers_of text = drop (position_or_len is_filler text) text

abbrev pub is_one_of : List ℕ → ℕ → Bool
is_one_of those c = list_any (λ x. c == x) those

-- the last of a list, or else this
abbrev pub last_from : ℕ → List ℕ → ℕ
last_from last [] = last
last_from last (c ∷ cs) = last_from c cs

-- with no filler any digit may be last, with two or one of them a digit whose spare bits are zeros
abbrev pub is_ending : ℕ → ℕ → Bool
is_ending last fillers =
    if fillers == 0 then true
    else (if fillers == 1 then is_one_of (codes "AEIMQUYcgkosw048") last
    else (if fillers == 2 then is_one_of (codes "AQgw") last
    else false))

-- digits, then fillers, in groups of four together
unfoldable pub is_base64 : List ℕ → Bool
is_base64 text =
    length text % 4 == 0 && (list_all is_base64_digit (digits_of text) && (list_all is_filler (fillers_of text) && is_ending (last_from 0 (digits_of text)) (length (fillers_of text))))

-- three octets for each four numbers of six bits. Of the last group two numbers are one octet, and three are two
abbrev pub octets_of_sixes : List ℕ → List ℕ
octets_of_sixes [] = []
octets_of_sixes (a ∷ []) = []
octets_of_sixes (a ∷ (b ∷ [])) = (4 * a + b / 16) ∷ []
octets_of_sixes (a ∷ (b ∷ (c ∷ []))) = (4 * a + b / 16) ∷ (16 * (b % 16) + c / 4) ∷ []
octets_of_sixes (a ∷ (b ∷ (c ∷ (d ∷ more)))) =
    (4 * a + b / 16) ∷ (16 * (b % 16) + c / 4) ∷ (64 * (c % 4) + d) ∷ octets_of_sixes more

abbrev pub octets_of_base64 : List ℕ → List ℕ
octets_of_base64 text = octets_of_sixes (map base64_value (digits_of text))
