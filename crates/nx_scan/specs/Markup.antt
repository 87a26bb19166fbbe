-- Markup that is put in: what stands in front of it, and that tags are tokens.
use Rattle.std.specs.Prelude.{◌≡◌, ℕ, ◌+◌, ◌<◌, Bool, true, List, ◌∷◌, ◌++◌, length, take, drop, codes}
use Rattle.std.specs.Str.{IsUtf8, chars}
use Rattle.nx_base.specs.Form.{Spells}
use Rattle.nx_base.specs.Tags.{name_form}
use Rattle.nx_base.specs.Text.{IsPlace}
use Rattle.nx_base.specs.Tokens.{begins_with, cut_as, first_token, cut, end_of}
use Rattle.nx_base.specs.declared.token.TokenKind.{TokenKind}
use Rattle.nx_base.specs.declared.token.TokenKind.TheVariants as kinds

-- it is a construct of XML, so that a `<` behind it leaves it: neither what is no construct (Bad), nor one that has no end
abbrev pub IsEnded : TokenKind → Type 0
IsEnded kinds.Bad = ⊥
IsEnded kinds.Unclosed = ⊥
IsEnded _ = Unit {0}

-- such a token stays where markup is put behind it, whatever stood there before: another text that is the same up to the token's end, and has
-- a `<` there, has the same token
abbrev pub TokensStayBeforeMarkup : Type 0
TokensStayBeforeMarkup = (text other : List ℕ) (at : ℕ) → IsUtf8 text → IsUtf8 other → IsPlace text at → at < length text → IsEnded (cut text at).kind →
    take (end_of (cut text at)) other ≡ take (end_of (cut text at)) text → begins_with (codes "<") (drop (end_of (cut text at)) other) ≡ true →
    cut other at ≡ cut text at

-- `<`, a Name (2.3 [5]) and `>` are a start tag, `</`, a Name and `>` an end tag (3.1 [40], [42]), whatever follows them; `>` is 62
abbrev pub NamesMakeTags : Type 0
NamesMakeTags = (at_start : Bool) (name more : List ℕ) → IsUtf8 name → Spells name_form (chars name) → IsUtf8 more →
    (first_token at_start (codes "<" ++ (name ++ 62 ∷ more)) ≡ cut_as kinds.Start (length name + 2))
    × (first_token at_start (codes "</" ++ (name ++ 62 ∷ more)) ≡ cut_as kinds.End (length name + 3))
