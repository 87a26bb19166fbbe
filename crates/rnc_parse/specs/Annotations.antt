-- Annotations, which say nothing of the schema: where they stand, the grammar says. Of what stands in their brackets, that brackets
-- of each kind close is all that is asked, and the prefixes of their names stand for nothing here; Annex C asks more.
use Rattle.std.specs.Prelude.{ℕ, List, ◌∷◌}
use Rattle.rnc_lex.specs.declared.token.Lexeme.{Lexeme}
use Rattle.rnc_lex.specs.declared.token.Lexeme.TheVariants.{Identifier, PrefixedName, Keyword as word, Symbol as mark}
use Rattle.rnc_lex.specs.declared.token.Symbol.{Symbol}
use Rattle.rnc_lex.specs.declared.token.Symbol.TheVariants.{LeftBrace, RightBrace, LeftParenthesis, RightParenthesis, LeftBracket}
use Rattle.rnc_lex.specs.declared.token.Symbol.TheVariants.{RightBracket, Follows}
use Rattle.rnc_lex.specs.declared.token.Keyword.{Keyword}

-- a bracket and the one that closes it
pub data Closes : Symbol → Symbol → Type 0 where
  braces : Closes LeftBrace RightBrace
  parentheses : Closes LeftParenthesis RightParenthesis
  brackets : Closes LeftBracket RightBracket

-- no bracket
abbrev pub IsPlain : Lexeme → Type 0
IsPlain (mark LeftBrace) = ⊥
IsPlain (mark RightBrace) = ⊥
IsPlain (mark LeftParenthesis) = ⊥
IsPlain (mark RightParenthesis) = ⊥
IsPlain (mark LeftBracket) = ⊥
IsPlain (mark RightBracket) = ⊥
IsPlain _ = Unit {0}

-- these tokens are tokens whose brackets close by kind, and this rest
pub data AreBalanced : List Lexeme → List Lexeme → Type 0 where
  none_left : {rest : List Lexeme} → AreBalanced rest rest
  one_plain : {token : Lexeme} {tokens rest : List Lexeme} → IsPlain token → AreBalanced tokens rest → AreBalanced (token ∷ tokens) rest
  in_brackets : {opening closing : Symbol} {tokens behind rest : List Lexeme} →
      Closes opening closing → AreBalanced tokens (mark closing ∷ behind) → AreBalanced behind rest →
      AreBalanced (mark opening ∷ tokens) rest

-- `[` .. `]`
pub data IsGroup : List Lexeme → List Lexeme → Type 0 where
  bracketed : {tokens rest : List Lexeme} → AreBalanced tokens (mark RightBracket ∷ rest) → IsGroup (mark LeftBracket ∷ tokens) rest

-- a group, or none
pub data MayBegin : List Lexeme → List Lexeme → Type 0 where
  without_group : {rest : List Lexeme} → MayBegin rest rest
  with_group : {tokens rest : List Lexeme} → IsGroup tokens rest → MayBegin tokens rest

-- what may name an annotation: an identifier or a prefixed name, and behind `>>` also a keyword
pub data NamesElement : Lexeme → Type 0 where
  by_identifier : {name : List ℕ} → NamesElement (Identifier name)
  by_prefixed_name : {prefix local : List ℕ} → NamesElement (PrefixedName prefix local)

pub data NamesFollower : Lexeme → Type 0 where
  by_element_name : {token : Lexeme} → NamesElement token → NamesFollower token
  by_keyword : {keyword : Keyword} → NamesFollower (word keyword)

-- `>>`, a name and a group, any number of times
pub data Follow : List Lexeme → List Lexeme → Type 0 where
  no_more : {rest : List Lexeme} → Follow rest rest
  one_more : {name : Lexeme} {tokens behind rest : List Lexeme} →
      NamesFollower name → IsGroup tokens behind → Follow behind rest → Follow (mark Follows ∷ name ∷ tokens) rest
