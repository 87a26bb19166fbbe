-- What the text of a schema file says in either syntax, and why it says nothing.
use Rattle.std.specs.Prelude.{ℕ, Bool, true, false, if◌then◌else◌, List, drop, codes}
use Rattle.nx_base.specs.Tokens.{begins_with, order_mark}
use Rattle.nx_base.specs.declared.cause.Cause.{Cause}
use Rattle.nx_base.specs.declared.cause.Cause.TheVariants as cause
use Rattle.rnc_parse.specs.Reads as compact
use Rattle.rnc_parse.specs.Written.{WrittenSurface}
use Rattle.rngx_read.specs.Names.{behind_spaces}
use Rattle.rngx_read.specs.Reads.{Reads, HasBadMarkup, IsTooDeep, HasBadForm, HasUndeclared}

-- a text is in the XML syntax where its first character is `<`, but for a byte order mark at its front and white space
unfoldable pub behind_mark : List ℕ → List ℕ
behind_mark text = if begins_with order_mark text then drop 3 text else text

unfoldable pub is_markup : List ℕ → Bool
is_markup text = begins_with (codes "<") (behind_spaces (behind_mark text))

-- what it says in the XML syntax, and in the compact one
abbrev pub ReadsAs : Bool → List ℕ → WrittenSurface → Type 0
ReadsAs true text surface = Reads text surface
ReadsAs false text surface = compact.Reads text surface

-- what a file says
abbrev pub ReadsFile : List ℕ → WrittenSurface → Type 0
ReadsFile text surface = ReadsAs (is_markup text) text surface

-- the text in the XML syntax is refused for this cause, at some place or for some prefix; other causes don't concern it
abbrev pub RefusesMarkup : List ℕ → Cause → Type 0
RefusesMarkup text cause.BadMarkup = (at : ℕ) × HasBadMarkup text at
RefusesMarkup text cause.TooDeep = (at : ℕ) × IsTooDeep text at
RefusesMarkup text cause.BadForm = HasBadForm text
RefusesMarkup text cause.UndeclaredPrefix = (prefix : List ℕ) × HasUndeclared text prefix
RefusesMarkup text _ = ⊥

abbrev pub RefusesAs : Bool → List ℕ → Cause → Type 0
RefusesAs true text why = RefusesMarkup text why
RefusesAs false text why = compact.Refuses text why

-- a file is refused for this cause
abbrev pub RefusesFile : List ℕ → Cause → Type 0
RefusesFile text why = RefusesAs (is_markup text) text why
