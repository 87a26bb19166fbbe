-- Texts of one token with a given value.
use Rattle.std.specs.Prelude.{ℕ, List, Option, None, Some, if◌then◌else◌, IsTrue}
use Rattle.std.specs.Str.{is_utf8}
use Rattle.nx_base.specs.Characters.{is_of_chars}
use Rattle.rng_more_types.specs.Spaces.{unspaced}
use Rattle.rng_types.specs.Types.{seen_by, Accepts, SameValue}
use Rattle.rng_types.specs.declared.kind.Form.{Form}
use Rattle.rng_types.specs.declared.kind.Form.TheVariants.{Any, One, Several, More}
use Rattle.rng_types.specs.Members.{is_one_token}
use Rattle.rng_types.specs.declared.datatype.Datatype.{Datatype}

-- one token, of the type, that has the same value
pub record IsOneTokenOf (type : Datatype) (value text : List ℕ) : Type 0 where
  pub token : IsTrue (is_one_token text)
  pub accepted : Accepts type text
  pub same : SameValue type text value

-- such a text, of characters that XML allows; none only where there is none, whatever its characters
abbrev pub IsOneTokenAnswer : Datatype → List ℕ → Option (List ℕ) → Type 0
IsOneTokenAnswer type value None = (text : List ℕ) → IsTrue (is_utf8 text) → IsOneTokenOf type value text → ⊥
IsOneTokenAnswer type value (Some text) = IsTrue (is_of_chars text) × IsOneTokenOf type value text

-- octets may be written with white space between them; without it they are the same
abbrev pub tight : Form → List ℕ → List ℕ
tight (Any whitespace) text = text
tight (One word) text = text
tight (Several word) text = text
tight (More more) text = unspaced text

-- a text, where it is one token
abbrev pub token_or_none : List ℕ → Option (List ℕ)
token_or_none text = if is_one_token text then Some text else None

-- the value's text as the type sees it, without what may be left out of it, where that is one token
abbrev pub one_token_of : Datatype → List ℕ → Option (List ℕ)
one_token_of type value = token_or_none (tight type.form (seen_by type value))

-- of a text of the type, of characters that XML allows, that is the answer
abbrev pub OneTokensExist : Type 0
OneTokensExist = (type : Datatype) (value : List ℕ) → Accepts type value → IsTrue (is_of_chars value) →
    IsOneTokenAnswer type value (one_token_of type value)
