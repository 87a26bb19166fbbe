-- Which texts are tried for a member, and what is answered.
use Rattle.std.specs.Prelude.{ℕ, zero, suc, ◌+◌, ◌/◌, ◌%◌, nat_le, Bool, true, not, ◌&&◌, ◌||◌, List, [], ◌∷◌, ◌++◌, length}
use Rattle.std.specs.Prelude.{Option, None, Some, IsTrue, if◌then◌else◌, replicate}
use Rattle.std.specs.List.{join_with_byte, list_any}
use Rattle.std.specs.Str.{encode_utf8_all}
use Rattle.nx_base.specs.Characters.{is_of_chars}
use Rattle.rng_types.specs.Answers.{is_accepted, is_left}
use Rattle.rng_types.specs.Members.{is_one_token, IsMember, HasMember}
use Rattle.rng_types.specs.Numbers.{is_sign, is_point, unsigned}
use Rattle.rng_types.specs.TextMembers.{least_length}
use Rattle.rng_types.specs.declared.facet.Facet.{Facet}
use Rattle.rng_types.specs.declared.facet.Facet.TheVariants.{Length, Bound}
use Rattle.rng_types.specs.declared.datatype.Datatype.{Datatype}
use Rattle.rng_types.specs.declared.datatype.Except.{Except}

-- a member of characters that XML allows; none only where there is none
abbrev pub IsMemberAnswer : Datatype → List Except → Bool → Option (List ℕ) → Type 0
IsMemberAnswer type excepts one_token None = HasMember type excepts one_token → ⊥
IsMemberAnswer type excepts one_token (Some text) = IsTrue (is_of_chars text) × IsMember type excepts one_token text

-- whether a text is one
abbrev pub is_member : Datatype → List Except → Bool → List ℕ → Bool
is_member type excepts one_token text = is_of_chars text && (is_accepted type text && (is_left type excepts text && (not one_token || is_one_token text)))

-- that many times the letter
unfoldable pub word_of : ℕ → ℕ → List ℕ
word_of k c = encode_utf8_all (replicate k c)

-- a text with that many spaces before it
unfoldable pub pad : ℕ → List ℕ → List ℕ
pad zero text = text
pad (suc i) text = 32 ∷ pad i text

-- that many times a word, with a space between each two
unfoldable pub many : ℕ → List ℕ → List ℕ
many k word = join_with_byte 32 (replicate k word)

-- a language tag of that many further subtags: a-a-a..
unfoldable pub tail : ℕ → List ℕ
tail zero = []
tail (suc i) = 45 ∷ 97 ∷ tail i

unfoldable pub tag : ℕ → List ℕ
tag i = 97 ∷ tail i

-- how many words are tried: one where one token is asked for, and else the least that the facets allow
abbrev pub words_asked : List Facet → Bool → ℕ
words_asked facets one_token = if one_token then 1 else least_length facets

-- the sign of a number's literal, if it has one
abbrev pub sign_of : List ℕ → List ℕ
sign_of [] = []
sign_of (c ∷ cs) = if is_sign c then c ∷ [] else []

-- a number's literal with that many zeros behind its sign, which is the same number
unfoldable pub zeroed : ℕ → List ℕ → List ℕ
zeroed i literal = sign_of literal ++ (replicate i 48 ++ unsigned literal)

-- and one with a point, likewise
unfoldable pub pointed : List ℕ → List ℕ
pointed literal = if list_any is_point literal then literal else literal ++ 46 ∷ []

-- a number below 1000 in three digits
abbrev pub three_digits : ℕ → List ℕ
three_digits n = (48 + n / 100) ∷ (48 + n / 10 % 10) ∷ (48 + n % 10) ∷ []

-- a literal, behind it that many zeros, and behind them a number below 1000
unfoldable pub extended : List ℕ → ℕ → ℕ → List ℕ
extended literal k n = literal ++ (replicate k 48 ++ three_digits n)

-- the limit of a bound, which has no more bytes than that
abbrev pub is_limit_within : ℕ → Facet → Bool
is_limit_within most (Length relation limit) = true
is_limit_within most (Bound relation limit) = nat_le (length limit) most
