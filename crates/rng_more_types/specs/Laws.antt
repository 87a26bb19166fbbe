-- What holds of all these types.
use Rattle.std.specs.Prelude.{◌≡◌, ℕ, zero, suc, ◌+◌, ◌-◌, ◌*◌, ◌/◌, ◌%◌, ◌<◌, ◌≤◌, nat_le, Bool, true, false, not, ◌==◌, ◌&&◌, if◌then◌else◌, List, [], ◌∷◌, ◌++◌, length, IsTrue, ◌↔◌, Option, Some, None, codes}
use Rattle.std.specs.List.{list_all, AllByRecursion}
use Rattle.rng_more_types.specs.Spaces.{is_blank, unspaced}
use Rattle.rng_more_types.specs.Literals.{two_digits}
use Rattle.rng_more_types.specs.MoreTypes.{IsLiteral, HaveSameValue, hex_octets, base64_octets, octets_of, is_literal, is_same}
use Rattle.rng_more_types.specs.declared.more_type.MoreType.{MoreType}
use Rattle.rng_more_types.specs.declared.more_type.MoreType.TheVariants.{Date, Time, DateTime, GYear, GYearMonth, HexBinary, Base64Binary}

-- the answers decide the facts
abbrev pub LiteralIsDecided : Type 0
LiteralIsDecided = (type : MoreType) (text : List ℕ) → IsTrue (is_literal type text) ↔ IsLiteral type text

abbrev pub SameIsDecided : Type 0
SameIsDecided = (type : MoreType) (a b : List ℕ) → IsLiteral type a → IsLiteral type b →
    IsTrue (is_same type a b) ↔ HaveSameValue type a b

-- to have the same value is an equivalence
abbrev pub SameIsReflexive : Type 0
SameIsReflexive = (type : MoreType) (a : List ℕ) → IsLiteral type a → HaveSameValue type a a

abbrev pub SameIsSymmetric : Type 0
SameIsSymmetric = (type : MoreType) (a b : List ℕ) → HaveSameValue type a b → HaveSameValue type b a

abbrev pub SameIsTransitive : Type 0
SameIsTransitive = (type : MoreType) (a b c : List ℕ) → HaveSameValue type a b → HaveSameValue type b c → HaveSameValue type a c

-- the same value has as many octets
abbrev pub SameHaveSameOctets : Type 0
SameHaveSameOctets = (type : MoreType) (a b : List ℕ) → HaveSameValue type a b → octets_of type a ≡ octets_of type b

-- the types of octets
abbrev pub is_octets : MoreType → Bool
is_octets Date = false
is_octets Time = false
is_octets DateTime = false
is_octets GYear = false
is_octets GYearMonth = false
is_octets HexBinary = true
is_octets Base64Binary = true

-- octets are numbers below 256
abbrev pub octets_in : MoreType → List ℕ → List ℕ
octets_in Date text = []
octets_in Time text = []
octets_in DateTime text = []
octets_in GYear text = []
octets_in GYearMonth text = []
octets_in HexBinary text = hex_octets text
octets_in Base64Binary text = base64_octets text

abbrev pub OctetsAreSmall : Type 0
OctetsAreSmall = (type : MoreType) (text : List ℕ) → IsLiteral type text → AllByRecursion (λ octet. octet < 256) (octets_in type text)

-- a blank text is accepted where it stands for no octets, and an accepted text that isn't blank has some
abbrev pub BlankIsEmpty : Type 0
BlankIsEmpty = (type : MoreType) (text : List ℕ) → IsTrue (is_octets type) → IsTrue (is_blank text) →
    IsLiteral type text × (octets_of type text ≡ Some 0)

abbrev pub EmptyIsBlank : Type 0
EmptyIsBlank = (type : MoreType) (text : List ℕ) → IsLiteral type text → octets_of type text ≡ Some 0 → IsTrue (is_blank text)

-- no date or time is blank
abbrev pub MomentIsSomething : Type 0
MomentIsSomething = (type : MoreType) (text : List ℕ) → IsTrue (not (is_octets type)) → IsTrue (is_blank text) → IsLiteral type text → ⊥

-- texts of the same value are both blank or both not
abbrev pub SameAreBlankAlike : Type 0
SameAreBlankAlike = (type : MoreType) (a b : List ℕ) → IsLiteral type a → IsLiteral type b → HaveSameValue type a b → is_blank a ≡ is_blank b

-- a text without its white space is accepted, and has the same value
abbrev pub UnspacedIsSame : Type 0
UnspacedIsSame = (type : MoreType) (text : List ℕ) → IsLiteral type text →
    IsLiteral type (unspaced text) × HaveSameValue type text (unspaced text)

-- White space at the ends of a text matters to no answer
abbrev pub EndsDontMatter : Type 0
EndsDontMatter = (type : MoreType) (left text right : List ℕ) → IsTrue (is_blank left) → IsTrue (is_blank right) →
    (is_literal type (left ++ text ++ right) ≡ is_literal type text) × (octets_of type (left ++ text ++ right) ≡ octets_of type text)

-- ASCII characters that can be seen
abbrev pub is_printed : ℕ → Bool
is_printed c = nat_le 33 c && nat_le c 126

-- Literals of which no two have the same value: of dates the years from 2000 on, of times of day the minutes from midnight on,
-- of octets those of which the first is any number, and all others are 0
abbrev pub year_from : ℕ → List ℕ
year_from i = two_digits (20 + i / 100) ++ two_digits (i % 100)

-- the digit of a number in hexadecimal and in base64, and octets of 0
abbrev pub hex_octet : ℕ → ℕ
hex_octet n = if nat_le n 9 then 48 + n else 55 + n

abbrev pub hex_zeros : ℕ → List ℕ
hex_zeros zero = []
hex_zeros (suc n) = 48 ∷ 48 ∷ hex_zeros n

abbrev pub base64_digit : ℕ → ℕ
base64_digit n =
    if nat_le n 25 then 65 + n else (if nat_le n 51 then 71 + n else (if nat_le n 61 then n - 4 else (if n == 62 then 43 else 47)))

abbrev pub base64_zeros : ℕ → List ℕ
base64_zeros zero = []
base64_zeros (suc zero) = 65 ∷ 65 ∷ 61 ∷ 61 ∷ []
base64_zeros (suc (suc zero)) = 65 ∷ 65 ∷ 65 ∷ 61 ∷ []
base64_zeros (suc (suc (suc n))) = 65 ∷ 65 ∷ 65 ∷ 65 ∷ base64_zeros n

-- what follows the two digits of the first octet, behind which n more stand
abbrev pub base64_more : ℕ → List ℕ
base64_more zero = 61 ∷ 61 ∷ []
base64_more (suc zero) = 65 ∷ 61 ∷ []
base64_more (suc (suc n)) = 65 ∷ 65 ∷ base64_zeros n

-- the candidate with this number; of types of octets one of n + 1 octets
abbrev pub candidate : MoreType → ℕ → ℕ → List ℕ
candidate Date n i = year_from i ++ codes "-01-01"
candidate Time n i = two_digits (i / 60) ++ (58 ∷ two_digits (i % 60)) ++ codes ":00"
candidate DateTime n i = year_from i ++ codes "-01-01T00:00:00"
candidate GYear n i = year_from i
candidate GYearMonth n i = year_from i ++ codes "-01"
candidate HexBinary n i = hex_octet (i / 16) ∷ hex_octet (i % 16) ∷ hex_zeros n
candidate Base64Binary n i = base64_digit (i / 4) ∷ base64_digit (16 * (i % 4)) ∷ base64_more n

-- how many candidates there are
abbrev pub candidates : ℕ
candidates = 130

abbrev pub octets_of_candidate : MoreType → ℕ → Option ℕ
octets_of_candidate Date n = None
octets_of_candidate Time n = None
octets_of_candidate DateTime n = None
octets_of_candidate GYear n = None
octets_of_candidate GYearMonth n = None
octets_of_candidate HexBinary n = Some (suc n)
octets_of_candidate Base64Binary n = Some (suc n)

-- each is a literal of characters that can be seen, with so many octets
pub record IsCandidate (type : MoreType) (n i : ℕ) : Type 0 where
  pub some : 1 ≤ length (candidate type n i)
  pub printed : IsTrue (list_all is_printed (candidate type n i))
  pub accepted : IsLiteral type (candidate type n i)
  pub octets : octets_of type (candidate type n i) ≡ octets_of_candidate type n

abbrev pub CandidatesAreLiterals : Type 0
CandidatesAreLiterals = (type : MoreType) (n i : ℕ) → i < candidates → IsCandidate type n i

-- and no two are the same, as values and so as texts
abbrev pub CandidatesDiffer : Type 0
CandidatesDiffer = (type : MoreType) (n i j : ℕ) → i < candidates → j < candidates →
    HaveSameValue type (candidate type n i) (candidate type n j) → i ≡ j
