-- The tags of a text, in order.
use Rattle.std.specs.Prelude.{ℕ, List, Option, Some, None}
use Rattle.std.specs.List.{filter_map}
use Rattle.std.specs.Option.{option_map}
use Rattle.nx_base.specs.Tokens.{tokens_from, end_of}
use Rattle.nx_base.specs.declared.token.Token.{Token}
use Rattle.nx_base.specs.declared.token.TokenKind.{TokenKind}
use Rattle.nx_base.specs.declared.token.TokenKind.TheVariants as token
use Rattle.nx_move.specs.declared.tag.Tag.{Tag}
use Rattle.nx_move.specs.declared.tag.TagKind.{TagKind}
use Rattle.nx_move.specs.declared.tag.TagKind.TheVariants as kinds

-- which tokens are tags
abbrev pub tag_kind : TokenKind → Option TagKind
tag_kind token.Bom = None
tag_kind token.Text = None
tag_kind token.Start = Some kinds.Start
tag_kind token.Empty = Some kinds.Empty
tag_kind token.End = Some kinds.End
tag_kind token.Comment = None
tag_kind token.Pi = None
tag_kind token.Cdata = None
tag_kind token.Doctype = None
tag_kind token.Decl = None
tag_kind token.Bad = None
tag_kind token.Unclosed = None

-- the tag that a token is
abbrev pub tag_of : Token → Option Tag
tag_of it = option_map (λ kind. record { kind = kind; from = it.from; to = end_of it }) (tag_kind it.kind)

-- the tags of a text from a border of its tokens on, and all of them
abbrev pub tags_from : List ℕ → ℕ → List Tag
tags_from text at = filter_map tag_of (tokens_from text at)

abbrev pub tags_of : List ℕ → List Tag
tags_of text = tags_from text 0
