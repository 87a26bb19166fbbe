-- The forms of words, and of whole texts.
use Rattle.std.specs.Prelude.{ℕ, Bool, true, false, nat_le, length, ◌==◌, ◌&&◌, ◌||◌, List, [], ◌∷◌, codes}
use Rattle.std.specs.List.{list_all, slice_split}
use Rattle.std.specs.Str.{chars, bytes_eq}
use Rattle.std.specs.Char.{is_ascii_alphabetic, is_ascii_alphanumeric}
use Rattle.nx_base.specs.Characters.{is_name_char, is_name, is_nc_name}
use Rattle.rng_more_types.specs.MoreTypes.{is_literal}
use Rattle.rng_types.specs.Spaces.{words, is_some_text}
use Rattle.rng_types.specs.Numbers.{is_decimal, is_integer}
use Rattle.rng_types.specs.declared.kind.Whitespace.{Whitespace}
use Rattle.rng_types.specs.declared.kind.Whitespace.TheVariants.{Preserve, Collapse}
use Rattle.rng_types.specs.declared.kind.Word.{Word}
use Rattle.rng_types.specs.declared.kind.Word.TheVariants.{Name, NcName, NmToken, Language, Boolean, Decimal, Integer}
use Rattle.rng_types.specs.declared.kind.Form.{Form}
use Rattle.rng_types.specs.declared.kind.Form.TheVariants.{Any, One, Several, More}

-- Nmtoken, over characters
abbrev pub is_nm_token : List ℕ → Bool
is_nm_token cs = is_some_text cs && list_all is_name_char cs

-- one to eight of such characters
abbrev pub is_subtag : (ℕ → Bool) → List ℕ → Bool
is_subtag p part = list_all p part && (is_some_text part && nat_le (length part) 8)

-- a subtag of letters, then subtags of letters and digits
abbrev pub are_subtags : List (List ℕ) → Bool
are_subtags [] = false
are_subtags (part ∷ parts) = is_subtag is_ascii_alphabetic part && list_all (is_subtag is_ascii_alphanumeric) parts

-- [a-zA-Z]{1,8}(-[a-zA-Z0-9]{1,8})*: what stands between each `-` (45)
abbrev pub is_language : List ℕ → Bool
is_language text = are_subtags (slice_split (λ c. c == 45) text)

-- true or 1, false or 0
abbrev pub is_true : List ℕ → Bool
is_true text = bytes_eq text (codes "true") || bytes_eq text (codes "1")

abbrev pub is_false : List ℕ → Bool
is_false text = bytes_eq text (codes "false") || bytes_eq text (codes "0")

-- whether a word has the form
abbrev pub is_word : Word → List ℕ → Bool
is_word Name text = is_name (chars text)
is_word NcName text = is_nc_name (chars text)
is_word NmToken text = is_nm_token (chars text)
is_word Language text = is_language text
is_word Boolean text = is_true text || is_false text
is_word Decimal text = is_decimal text
is_word Integer text = is_integer text

-- one or more words, each of the form
abbrev pub are_words : Word → List (List ℕ) → Bool
are_words word [] = false
are_words word (first ∷ more) = list_all (is_word word) (first ∷ more)

-- a form of words collapses the text. So do those of dates, times and octets: their literals are told of the text as it stands, to
-- which white space at its ends is nothing, and in base64 any, so there is nothing left to treat
abbrev pub whitespace_of : Form → Whitespace
whitespace_of (Any whitespace) = whitespace
whitespace_of (One word) = Collapse
whitespace_of (Several word) = Collapse
whitespace_of (More more) = Preserve

-- whether a whole text has the form. Of dates, times and octets that is to be a literal of theirs (`AcceptsLiterals`)
abbrev pub has_form : Form → List ℕ → Bool
has_form (Any whitespace) text = true
has_form (One word) text = is_word word text
has_form (Several word) text = are_words word (words text)
has_form (More more) text = is_literal more text
