-- The token at a border, and the end tag of a start tag.
use Rattle.std.specs.Prelude.{◌≡◌, ◌≢◌, ◌<◌, ℕ, List, [], ◌∷◌, ◌++◌, length, Option, Some, None}
use Rattle.nx_base.specs.Tokens.{cut}
use Rattle.nx_base.specs.declared.token.Token.{Token}
use Rattle.nx_base.specs.declared.token.TokenKind.{TokenKind}
use Rattle.nx_base.specs.declared.token.TokenKind.TheVariants as kinds
use Rattle.nx_events.specs.Tags.{start_name, end_name}
use Rattle.nx_tags.specs.declared.element.Nesting.{Nesting}
use Rattle.nx_tags.specs.declared.element.Nesting.TheVariants.{Inside, Closed, Broken}
use Rattle.nx_tags.specs.Elements.{Nested}
use Rattle.nx_tags.specs.Parts.{IsTokenBorder}

-- a token begins at the place
pub record BeginsAt (text : List ℕ) (at : ℕ) : Type 0 where
  pub border : IsTokenBorder text at
  pub within : at < length text

abbrev pub FoundToken : List ℕ → ℕ → Option Token → Type 0
FoundToken text at None = ¬ BeginsAt text at
FoundToken text at (Some token) = BeginsAt text at × (token ≡ cut text at)

-- the end tag of a start tag among the tokens behind it: what stands between them nests
pub record IsEndTag (start : Token) (behind : List Token) (end : Token) : Type 0 where
  pub inner : List Token
  pub others : List Token
  pub tokens : behind ≡ inner ++ end ∷ others
  pub nested : Nested inner
  pub kind : end.kind ≡ kinds.End
  pub named : start_name start.bytes ≡ end_name end.bytes

-- where it begins, and none exactly where there is none
abbrev pub FoundEnd : Token → List Token → Option ℕ → Type 0
FoundEnd start behind None = (end : Token) → ¬ IsEndTag start behind end
FoundEnd start behind (Some at) = (end : Token) × IsEndTag start behind end × (end.from ≡ at)

-- an end tag is that of the innermost of open start tags, which are listed with the innermost last
abbrev pub ClosesInnermost : Token → List Token → List Token → Type 0
ClosesInnermost end old new = (innermost : Token) × (old ≡ new ++ innermost ∷ []) × (start_name innermost.bytes ≡ end_name end.bytes)

-- what an end tag does to them
abbrev pub Closes : Token → List Token → List Token → Nesting → Type 0
Closes end old new Inside = ClosesInnermost end old new × (0 < length new)
Closes end old new Closed = ClosesInnermost end old new × (new ≡ [])
Closes end old new Broken = (innermost : Token) (outer : List Token) → old ≡ outer ++ innermost ∷ [] → start_name innermost.bytes ≢ end_name end.bytes

-- and what any token does
abbrev pub PassesNested : TokenKind → Token → List Token → List Token → Nesting → Type 0
PassesNested kinds.Start token old new found = (found ≡ Inside) × (new ≡ old ++ token ∷ [])
PassesNested kinds.End token old new found = Closes token old new found
PassesNested _ token old new found = (found ≡ Inside) × (new ≡ old)
