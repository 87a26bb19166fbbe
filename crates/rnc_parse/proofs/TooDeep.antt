-- How many brackets are open at once.
use Rattle.std.proofs.Common.{◌≡◌, ℕ, ◌+◌, ◌<◌, ◌≤◌, List, [], ◌∷◌, ◌++◌, length, Option, Some, None, MatchOption, refl, sym, ap, ◌∙◌, arith}
use Rattle.rnc_lex.specs.declared.token.Lexeme.{Lexeme}
use Rattle.rnc_lex.specs.declared.token.Lexeme.TheVariants.{Symbol as mark}
use Rattle.rnc_lex.specs.declared.token.Symbol.TheVariants.{LeftBrace, RightBrace, LeftParenthesis, RightParenthesis, LeftBracket, RightBracket}
use Rattle.rnc_lex.specs.declared.token.RncToken.{RncToken}
use Rattle.rnc_parse.specs.Files.{lexemes, open_behind, IsShallow, IsTooDeepAt}

-- a token at a time
open_step : (before : ℕ) (token : Lexeme) (later : List Lexeme) →
    open_behind before (token ∷ later) ≡ open_behind (open_behind before (token ∷ [])) later
open_step before (mark LeftBrace) later = refl
open_step before (mark LeftParenthesis) later = refl
open_step before (mark LeftBracket) later = refl
open_step before (mark RightBrace) later = refl
open_step before (mark RightParenthesis) later = refl
open_step before (mark RightBracket) later = refl
open_step before _ later = refl

pub one_more : (before : ℕ) (token : Lexeme) → open_behind before (token ∷ []) ≤ before + 1
one_more before (mark LeftBrace) = omega arith
one_more before (mark LeftParenthesis) = omega arith
one_more before (mark LeftBracket) = omega arith
one_more before (mark RightBrace) = omega arith
one_more before (mark RightParenthesis) = omega arith
one_more before (mark RightBracket) = omega arith
one_more before _ = omega arith

-- as in `IsShallow` and `IsTooDeepAt`, where so many brackets are open before
abbrev pub ShallowBehind : ℕ → List Lexeme → Type 0
ShallowBehind before tokens = (front rest : List Lexeme) → tokens ≡ front ++ rest → open_behind before front ≤ 200

pub record DeepBehind (before : ℕ) (tokens : List RncToken) (at : ℕ) : Type 0 where
  pub front : List RncToken
  pub token : RncToken
  pub rest : List RncToken
  pub tokens_are : tokens ≡ front ++ token ∷ rest
  pub at_is : at ≡ token.at
  pub shallow : ShallowBehind before (lexemes front)
  pub deep : open_behind before (lexemes (front ++ token ∷ [])) ≡ 201

abbrev pub Deep : ℕ → List RncToken → Option ℕ → Type 0
Deep before tokens None = ShallowBehind before (lexemes tokens)
Deep before tokens (Some at) = DeepBehind before tokens at

shallow_nothing : (before : ℕ) → before ≤ 200 → ShallowBehind before []
shallow_nothing before few [] rest e = few
shallow_nothing before few (x ∷ front) rest e = absurd cc

shallow_more : (before now : ℕ) (token : Lexeme) (tokens : List Lexeme) → before ≤ 200 → now ≡ open_behind before (token ∷ []) →
    ShallowBehind now tokens → ShallowBehind before (token ∷ tokens)
shallow_more before now token tokens few is h [] rest e = few
shallow_more before now token tokens few is h (x ∷ front) rest e =
    let same : x ≡ token = cc in
    let others : tokens ≡ front ++ rest = cc in
    rw (same, open_step before token front, ← is) (h front rest others)

pub deep_end : (before : ℕ) (rest : List RncToken) → rest ≡ [] → before ≤ 200 → Deep before rest None
deep_end before rest e few = rw e (shallow_nothing before few)

pub deep_more : (before now : ℕ) (token : RncToken) (tokens all : List RncToken) (answer : Option ℕ) → all ≡ token ∷ tokens → before ≤ 200 →
    now ≡ open_behind before (token.lexeme ∷ []) → Deep now tokens answer → Deep before all answer
deep_more before now token tokens all None e few is h = rw e (shallow_more before now token.lexeme (lexemes tokens) few is h)
deep_more before now token tokens all (Some at) e few is h = record {
  front = token ∷ h.front;
  token = h.token;
  rest = h.rest;
  tokens_are = e ∙ ap (λ ts. token ∷ ts) h.tokens_are;
  at_is = h.at_is;
  shallow = shallow_more before now token.lexeme (lexemes h.front) few is h.shallow;
  deep = open_step before token.lexeme (lexemes (h.front ++ h.token ∷ [])) ∙ ap (λ n. open_behind n (lexemes (h.front ++ h.token ∷ []))) (sym is) ∙ h.deep;
}

pub deep_here : (before now : ℕ) (token : RncToken) (tokens all : List RncToken) → all ≡ token ∷ tokens → before ≤ 200 →
    now ≡ open_behind before (token.lexeme ∷ []) → 200 < now → Deep before all (Some token.at)
deep_here before now token tokens all e few is many = record {
  front = [];
  token = token;
  rest = tokens;
  tokens_are = e;
  at_is = refl;
  shallow = shallow_nothing before few;
  deep = omega (arith, one_more before token.lexeme, is, few, many);
}

pub deep_is : (tokens : List RncToken) (answer : Option ℕ) → Deep 0 tokens answer →
    MatchOption answer (IsShallow (lexemes tokens)) (λ at. IsTooDeepAt tokens at)
deep_is tokens None h = h
deep_is tokens (Some at) h = record { front = h.front; token = h.token; rest = h.rest; tokens_are = h.tokens_are; at_is = h.at_is; shallow = h.shallow; deep = h.deep }

pub no_token : (tokens : List RncToken) → length tokens ≡ 0 → tokens ≡ []
no_token [] h = refl
no_token (token ∷ tokens) h = absurd (omega (arith, h))
