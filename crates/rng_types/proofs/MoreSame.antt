-- Dates, times and octets: the laws of their literals and values.
use Rattle.std.specs.Prelude.{◌≡◌, ◌↔◌, ℕ, true, List, Option, Some, None, is_some, IsTrue}
use Rattle.std.proofs.Common.{refl}
use Rattle.std.proofs.lemmas.Bool.{false≢true}
use Rattle.std.specs.Cmp.Lexicographic.{bytes_decides}
use Rattle.rng_more_types.specs.declared.more_type.MoreType.{MoreType}
use Rattle.rng_more_types.specs.declared.more_type.MoreType.TheVariants.{Date, Time, DateTime, GYear, GYearMonth, HexBinary, Base64Binary}
use Rattle.rng_more_types.specs.Literals.{Moment}
use Rattle.rng_more_types.specs.MoreTypes.{IsMoment, AreSameMoment, IsLiteral, HaveSameValue, hex_octets, base64_octets, is_literal, are_same_moment, is_same}
use Rattle.rng_more_types.proofs.Decided.{literal_decided, same_decided as same_of_literals, same_reflexive, same_symmetric, same_transitive}

pub is_one : (more : MoreType) (text : List ℕ) → is_literal more text ≡ true → IsLiteral more text
is_one more text is = (literal_decided more text).0 is

both_some : (m n : Option Moment) → are_same_moment m n ≡ true → (is_some m ≡ true) × (is_some n ≡ true)
both_some None n same = absurd (false≢true same)
both_some (Some x) None same = absurd (false≢true same)
both_some (Some x) (Some y) same = (refl, refl)

-- texts that aren't literals of dates or times have no value, so that it is decided of all texts
moments_decided : (more : MoreType) (a b : List ℕ) → (is_same more a b ≡ true → (is_literal more a ≡ true) × (is_literal more b ≡ true)) → (HaveSameValue more a b → IsLiteral more a × IsLiteral more b) →
    IsTrue (is_same more a b) ↔ HaveSameValue more a b
moments_decided more a b read written = (
  λ same. let parts = read same in (same_of_literals more a b (is_one more a parts.0) (is_one more b parts.1)).0 same,
  λ same. let parts = written same in (same_of_literals more a b parts.0 parts.1).1 same,
)

are_moments : {more : MoreType} {a b : List ℕ} → AreSameMoment more a b → IsMoment more a × IsMoment more b
are_moments same = (record { literal = same.first; written = same.first_written }, record { literal = same.second; written = same.second_written })

pub same_decided : (more : MoreType) (a b : List ℕ) → IsTrue (is_same more a b) ↔ HaveSameValue more a b
same_decided Date a b = moments_decided Date a b (λ same. both_some _ _ same) (λ same. are_moments same)
same_decided Time a b = moments_decided Time a b (λ same. both_some _ _ same) (λ same. are_moments same)
same_decided DateTime a b = moments_decided DateTime a b (λ same. both_some _ _ same) (λ same. are_moments same)
same_decided GYear a b = moments_decided GYear a b (λ same. both_some _ _ same) (λ same. are_moments same)
same_decided GYearMonth a b = moments_decided GYearMonth a b (λ same. both_some _ _ same) (λ same. are_moments same)
same_decided HexBinary a b = bytes_decides (hex_octets a) (hex_octets b)
same_decided Base64Binary a b = bytes_decides (base64_octets a) (base64_octets b)

pub same_itself : (more : MoreType) (a : List ℕ) → is_literal more a ≡ true → is_same more a a ≡ true
same_itself more a is = (same_decided more a a).1 (same_reflexive more a (is_one more a is))

-- a literal has its own value
pub more_itself : (more : MoreType) (a : List ℕ) → is_literal more a ≡ true → HaveSameValue more a a
more_itself more a is = same_reflexive more a (is_one more a is)

-- two texts that have the value of a third have the same one
pub same_joined : (more : MoreType) (a b c : List ℕ) → is_same more a c ≡ true → is_same more b c ≡ true → is_same more a b ≡ true
same_joined more a b c first second =
    let back = same_symmetric more b c ((same_decided more b c).0 second) in
    (same_decided more a b).1 (same_transitive more a c b ((same_decided more a c).0 first) back)
