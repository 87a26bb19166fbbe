-- Borders of tokens: what holds of the tokens of every text.
use Rattle.std.specs.Prelude.{◌≡◌, ◌↔◌, ℕ, ◌<◌, ◌≤◌, List, ◌∷◌, ◌++◌, length, take, drop, slice_range}
use Rattle.std.specs.List.{flat_map, AllByRecursion}
use Rattle.std.specs.Str.{IsUtf8}
use Rattle.nx_base.specs.Text.{IsPlace, edited}
use Rattle.nx_base.specs.Tokens.{cut, end_of, IsOfKind, tokens_from, tokens_of, AreTokensOf}
use Rattle.nx_base.specs.declared.token.Token.{Token}
use Rattle.nx_base.specs.declared.token.TokenKind.TheVariants as kinds

-- the token is bytes of the text from its place on, at least one, and ends at a place
pub record IsTokenOf (text : List ℕ) (at : ℕ) (token : Token) : Type 0 where
  pub from : token.from ≡ at
  pub some : 0 < length token.bytes
  pub bytes : token.bytes ≡ slice_range text at (end_of token)
  pub border : IsPlace text (end_of token)

abbrev pub TokensFit : Type 0
TokensFit = (text : List ℕ) (at : ℕ) → IsUtf8 text → IsPlace text at → at < length text → IsTokenOf text at (cut text at)

-- a byte order mark is a token at 0 alone, and a token without its own end reaches the length
abbrev pub TokensAtEnds : Type 0
TokensAtEnds = (text : List ℕ) (at : ℕ) → IsUtf8 text → IsPlace text at → at < length text →
    ((cut text at).kind ≡ kinds.Bom → at ≡ 0) × ((cut text at).kind ≡ kinds.Unclosed → end_of (cut text at) ≡ length text)

-- a token is of its kind: its own bytes alone, which hold no more of the text, begin with the same token
abbrev pub TokensAreOfKind : Type 0
TokensAreOfKind = (text : List ℕ) (at : ℕ) → IsUtf8 text → IsPlace text at → at < length text → IsOfKind (cut text at)

-- a token depends on the text from its place on alone, and on whether this is the text's start
abbrev pub TokensDependOnRest : Type 0
TokensDependOnRest = (text other : List ℕ) (at there : ℕ) → drop at text ≡ drop there other → (at ≡ 0) ↔ (there ≡ 0) →
    ((cut text at).kind ≡ (cut other there).kind) × ((cut text at).bytes ≡ (cut other there).bytes)

-- and on its own bytes and the next character alone: another text that is the same up to a place behind
-- the token's end has the same token
abbrev pub TokensDependOnThemselves : Type 0
TokensDependOnThemselves = (text other : List ℕ) (at known : ℕ) → IsUtf8 text → IsUtf8 other → IsPlace text at → at < length text →
    end_of (cut text at) < known → IsPlace text known → take known other ≡ take known text → cut other at ≡ cut text at

-- so an edit behind a token and the next character leaves it
abbrev pub EditsLeaveTokens : Type 0
EditsLeaveTokens = (text added : List ℕ) (from to at : ℕ) → IsUtf8 text → IsUtf8 added → IsPlace text from → IsPlace text to → from ≤ to →
    IsPlace text at → at < length text → end_of (cut text at) < from → cut (edited text from to added) at ≡ cut text at

-- each byte of a text lies in exactly one token: the tokens lie one behind another through the whole text, each with a byte or more
abbrev pub TokensJoin : Type 0
TokensJoin = (text : List ℕ) → IsUtf8 text →
    (flat_map (λ token. token.bytes) (tokens_of text) ≡ text) × AreTokensOf (length text) (tokens_of text)
    × AllByRecursion (λ token. 0 < length token.bytes) (tokens_of text)

-- cutting goes on at the end of a token
abbrev pub TokensGoOn : Type 0
TokensGoOn = (text : List ℕ) (at : ℕ) → IsUtf8 text → IsPlace text at → at < length text →
    tokens_from text at ≡ cut text at ∷ tokens_from text (end_of (cut text at))

-- cutting from a border gives the rest of the list
abbrev pub TokensFromBorder : Type 0
TokensFromBorder = (text : List ℕ) (front back : List Token) → IsUtf8 text → tokens_of text ≡ front ++ back →
    back ≡ tokens_from text (length (flat_map (λ token. token.bytes) front))
