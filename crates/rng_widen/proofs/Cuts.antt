-- The tokens of a text, one after another.
use Rattle.std.proofs.Common.{◌≡◌, sym, ap, ◌∙◌, subst, ℕ, ◌+◌, ◌-◌, ◌<◌, ◌≤◌, List, [], ◌∷◌, ◌++◌, length, arith, append_assoc, append-nil, IsUtf8}
use Rattle.nx_base.specs.Text.{IsPlace}
use Rattle.nx_base.specs.Tokens.{tokens_of, tokens_from, tokens_within, cut, end_of}
use Rattle.nx_base.specs.declared.token.Token.{Token}
use Rattle.nx_scan.specs.Borders.{TokensGoOn, TokensFit}

module _ (text : List ℕ) (at : ℕ) (token : Token) (fit : TokensFit) (is_text : IsUtf8 text)
    (place : IsPlace text at) (inside : at < length text) (is_cut : token ≡ cut text at) where
  pub from_is : token.from ≡ at
  from_is = ap (λ (t : Token). t.from) is_cut ∙ (fit text at is_text place inside).from

  pub has_bytes : 0 < length token.bytes
  has_bytes = subst (λ (t : Token). 0 < length t.bytes) (sym is_cut) (fit text at is_text place inside).some

  pub ends_at : at + length token.bytes ≡ end_of token
  ends_at = ap (λ n. n + length token.bytes) (sym from_is)

  pub next_place : IsPlace text (at + length token.bytes)
  next_place =
      subst (IsPlace text) (sym ends_at)
      (subst (λ (t : Token). IsPlace text (end_of t)) (sym is_cut) (fit text at is_text place inside).border)

  pub tokens_are : TokensGoOn → tokens_from text at ≡ token ∷ tokens_from text (at + length token.bytes)
  tokens_are go_on =
      go_on text at is_text place inside
      ∙ ap (λ (t : Token). t ∷ tokens_from text (end_of t)) (sym is_cut)
      ∙ ap (λ n. token ∷ tokens_from text n) (sym ends_at)

  pub more_tokens : TokensGoOn → (old new all : List Token) → old ++ tokens_from text at ≡ all → new ≡ old ++ token ∷ [] →
      new ++ tokens_from text (at + length token.bytes) ≡ all
  more_tokens go_on old new all inv pushed =
      ap (λ ts. ts ++ tokens_from text (at + length token.bytes)) pushed
      ∙ append_assoc old (token ∷ []) (tokens_from text (at + length token.bytes))
      ∙ ap (λ ts. old ++ ts) (sym (tokens_are go_on)) ∙ inv

pub no_tokens : (text : List ℕ) (at : ℕ) → length text ≤ at → tokens_from text at ≡ []
unfolding tokens_within
no_tokens text at past = let zero : length text - at ≡ 0 = omega (arith, past) in ap (λ n. tokens_within n text at) zero

pub all_tokens : (text : List ℕ) (at : ℕ) (tokens : List Token) → tokens ++ tokens_from text at ≡ tokens_of text → length text ≤ at →
    tokens ≡ tokens_of text
all_tokens text at tokens inv past = sym (append-nil tokens) ∙ ap (λ ts. tokens ++ ts) (sym (no_tokens text at past)) ∙ inv

pub first_tokens : (text : List ℕ) (tokens : List Token) → tokens ≡ [] → tokens ++ tokens_from text 0 ≡ tokens_of text
first_tokens text tokens none = ap (λ ts. ts ++ tokens_from text 0) none
