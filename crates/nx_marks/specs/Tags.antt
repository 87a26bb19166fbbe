-- How many tags stand among tokens.
use Rattle.std.specs.Prelude.{ℕ, ◌+◌, List, [], ◌∷◌}
use Rattle.nx_base.specs.Rules.{Lexeme}
use Rattle.nx_base.specs.declared.token.TokenKind.{TokenKind}
use Rattle.nx_base.specs.declared.token.TokenKind.TheVariants as kind

abbrev pub tag_of : TokenKind → ℕ
tag_of kind.Start = 1
tag_of kind.Empty = 1
tag_of kind.End = 1
tag_of _ = 0

abbrev pub tags_in : List Lexeme → ℕ
tags_in [] = 0
tags_in (k ∷ ks) = tag_of k.kind + tags_in ks
