-- The tokens of a text, one after another.
use Rattle.std.proofs.Common.{◌≡◌, ◌↔◌, ℕ, zero, suc, ◌+◌, ◌-◌, ◌<◌, ◌≤◌, inl, inr, List, [], ◌∷◌, ◌++◌, length, take, drop, refl, sym, ◌∙◌, ap, subst, arith, length-append}
use Rattle.std.specs.Prelude.{◌==◌}
use Rattle.std.specs.List.{flat_map, AllByRecursion}
use Rattle.std.specs.Str.{IsUtf8}
use Rattle.std.proofs.lemmas.Bool.{cases_lt, cases_Bool, le-leb, lt-leb, ne_eqb, eq-eqb, eqb-true, true≢false}
use Rattle.std.proofs.lemmas.List.{drop-drop, drop_all, take-append-drop}
use Rattle.nx_base.specs.Text.{IsPlace}
use Rattle.nx_base.specs.Tokens.{first_token, cut, end_of, tokens_within, tokens_from, AreTokensFrom}
use Rattle.nx_base.specs.declared.token.Token.{Token}
use Rattle.nx_scan.proofs.Every.{cut-is_token}

-- the end of the text, or a token
tokens-end : (n : ℕ) (text : List ℕ) (at : ℕ) → length text ≤ at → tokens_within n text at ≡ []
unfolding tokens_within
tokens-end zero text at past = refl
tokens-end (suc n) text at past = rw (le-leb (length text) at past) refl

tokens-next : (n : ℕ) (text : List ℕ) (at : ℕ) → at < length text → tokens_within (suc n) text at ≡ cut text at ∷ tokens_within n text (end_of (cut text at))
unfolding tokens_within cut
tokens-next n text at within = rw (lt-leb (length text) at within) refl

-- the token moves on
end-later : (text : List ℕ) (at : ℕ) → IsUtf8 text → IsPlace text at → at < length text → at < end_of (cut text at)
end-later text at utf8 place within =
    let token = cut-is_token text at utf8 place within in
    let some = token.some in
    let from = token.from in
    omega arith

-- how many tokens are allowed is the same, if they are enough
within-same : (m n : ℕ) (text : List ℕ) (at : ℕ) → IsUtf8 text → IsPlace text at → length text - at ≤ m → length text - at ≤ n →
    tokens_within m text at ≡ tokens_within n text at
within-same zero n text at utf8 place h k = tokens-end zero text at (omega arith) ∙ sym (tokens-end n text at (omega arith))
within-same (suc m) zero text at utf8 place h k = tokens-end (suc m) text at (omega arith) ∙ sym (tokens-end zero text at (omega arith))
within-same (suc m) (suc n) text at utf8 place h k =
    elim (cases_lt at (length text)) [
      | inl within ↦
          (let end = end_of (cut text at) in
          let further : at < end = end-later text at utf8 place within in
          tokens-next m text at within
          ∙ ap (λ tokens. cut text at ∷ tokens) (within-same m n text end utf8 (cut-is_token text at utf8 place within).border (omega arith) (omega arith))
          ∙ sym (tokens-next n text at within))
      | inr past ↦ tokens-end (suc m) text at past ∙ sym (tokens-end (suc n) text at past)
    ]

pub tokens-go_on : (text : List ℕ) (at : ℕ) → IsUtf8 text → IsPlace text at → at < length text →
    tokens_from text at ≡ cut text at ∷ tokens_from text (end_of (cut text at))
tokens-go_on text at utf8 place within =
    let end = end_of (cut text at) in
    let further : at < end = end-later text at utf8 place within in
    within-same (length text - at) (suc (length text - at)) text at utf8 place (omega arith) (omega arith)
    ∙ tokens-next (length text - at) text at within
    ∙ ap (λ tokens. cut text at ∷ tokens)
    (within-same (length text - at) (length text - end) text end utf8 (cut-is_token text at utf8 place within).border (omega arith) (omega arith))

-- the bytes of a token, and the text behind it
token-split : (text : List ℕ) (at : ℕ) → IsUtf8 text → IsPlace text at → at < length text →
    (cut text at).bytes ++ drop (end_of (cut text at)) text ≡ drop at text
token-split text at utf8 place within =
    let token = cut-is_token text at utf8 place within in
    let from = token.from in
    let k = length (cut text at).bytes in
    let bytes : (cut text at).bytes ≡ take k (drop at text) =
    token.bytes ∙ ap (λ n. take n (drop at text)) (let e : end_of (cut text at) - at ≡ k = omega arith in e) in
    ap (λ xs. xs ++ drop (end_of (cut text at)) text) bytes
    ∙ ap (λ n. take k (drop at text) ++ drop n text) (let e : end_of (cut text at) ≡ at + k = omega arith in e)
    ∙ ap (λ xs. take k (drop at text) ++ xs) (sym (drop-drop k at text))
    ∙ take-append-drop k (drop at text)

-- the bytes of all tokens are the text
abbrev bytes_of : List Token → List ℕ
bytes_of tokens = flat_map (λ token. token.bytes) tokens

-- tokens that cover the text from a place on
pub record Joined (text : List ℕ) (at : ℕ) (tokens : List Token) : Type 0 where
  pub bytes : flat_map (λ token. token.bytes) tokens ≡ drop at text
  pub lie : AreTokensFrom (length text) at tokens
  pub some : AllByRecursion (λ token. 0 < length token.bytes) tokens

joined-end : (text : List ℕ) (at : ℕ) → at ≡ length text → Joined text at []
unfolding AreTokensFrom
joined-end text at end = record { bytes = sym (drop_all at text (omega arith)); lie = end; some = tt }

joined-next : (text : List ℕ) (at : ℕ) (tokens : List Token) → IsUtf8 text → IsPlace text at → at < length text →
    Joined text (end_of (cut text at)) tokens → Joined text at (cut text at ∷ tokens)
unfolding AreTokensFrom
joined-next text at tokens utf8 place within more =
    let token = cut-is_token text at utf8 place within in
    let from = token.from in
    let end : end_of (cut text at) ≡ at + length (cut text at).bytes = omega arith in
    record {
      bytes = ap (λ xs. (cut text at).bytes ++ xs) more.bytes ∙ token-split text at utf8 place within;
      lie = (from, subst (λ n. AreTokensFrom (length text) n tokens) end more.lie);
      some = (token.some, more.some);
    }

pub joined-from : (n : ℕ) (text : List ℕ) (at : ℕ) → IsUtf8 text → IsPlace text at → length text - at ≤ n → Joined text at (tokens_within n text at)
joined-from zero text at utf8 place h =
    let fits = place.0 in
    subst (λ tokens. Joined text at tokens) (sym (tokens-end zero text at (omega arith))) (joined-end text at (omega arith))
joined-from (suc n) text at utf8 place h =
    elim (cases_lt at (length text)) [
      | inl within ↦
          (let end = end_of (cut text at) in
          let further : at < end = end-later text at utf8 place within in
          let token = cut-is_token text at utf8 place within in
          subst (λ tokens. Joined text at tokens) (sym (tokens-next n text at within))
          (joined-next text at (tokens_within n text end) utf8 place within (joined-from n text end utf8 token.border (omega arith))))
      | inr past ↦
          (let fits = place.0 in
          subst (λ tokens. Joined text at tokens) (sym (tokens-end (suc n) text at past)) (joined-end text at (omega arith)))
    ]

-- the tokens behind a border
pub behind-border : (front back : List Token) (n : ℕ) (text : List ℕ) (at : ℕ) → IsUtf8 text → IsPlace text at → length text - at ≤ n →
    tokens_within n text at ≡ front ++ back → back ≡ tokens_from text (at + length (bytes_of front))
behind-border [] back n text at utf8 place h e =
    sym e ∙ within-same n (length text - at) text at utf8 place h (omega arith)
    ∙ ap (tokens_from text) (let z : at ≡ at + 0 = omega arith in z)
behind-border (token ∷ front) back zero text at utf8 place h e =
    let none : [] ≡ token ∷ (front ++ back) = sym (tokens-end zero text at (omega arith)) ∙ e in cc
behind-border (token ∷ front) back (suc n) text at utf8 place h e =
    elim (cases_lt at (length text)) [
      | inl within ↦
          (let end = end_of (cut text at) in
          let further : at < end = end-later text at utf8 place within in
          let from = (cut-is_token text at utf8 place within).from in
          let both : cut text at ∷ tokens_within n text end ≡ token ∷ (front ++ back) = sym (tokens-next n text at within) ∙ e in
          let first : cut text at ≡ token = cc in
          let others : tokens_within n text end ≡ front ++ back = cc in
          let bytes : (cut text at).bytes ≡ token.bytes = ap (λ (t : Token). t.bytes) first in
          let len : length (cut text at).bytes ≡ length token.bytes = ap length bytes in
          behind-border front back n text end utf8 (cut-is_token text at utf8 place within).border (omega arith) others
          ∙ ap (tokens_from text)
          (let k : end + length (bytes_of front) ≡ at + length (token.bytes ++ bytes_of front) =
          omega (arith, length-append token.bytes (bytes_of front)) in k))
      | inr past ↦
          (let none : [] ≡ token ∷ (front ++ back) = sym (tokens-end (suc n) text at past) ∙ e in absurd (cc))
    ]

pub depends-on_rest : (text other : List ℕ) (at there : ℕ) → drop at text ≡ drop there other → ((at ≡ 0) ↔ (there ≡ 0)) →
    ((cut text at).kind ≡ (cut other there).kind) × ((cut text at).bytes ≡ (cut other there).bytes)
unfolding cut
depends-on_rest text other at there same start =
    let tests : (at == 0) ≡ (there == 0) =
    elim (cases_Bool (at == 0)) [
      | inl e ↦ e ∙ sym (eq-eqb there 0 (start.0 (eqb-true at 0 e)))
      | inr e ↦ e ∙ sym (ne_eqb there 0 (λ z. absurd (true≢false (sym (eq-eqb at 0 (start.1 z)) ∙ e))))
    ] in
    let tokens : first_token (at == 0) (drop at text) ≡ first_token (there == 0) (drop there other) =
    ap (λ t. first_token t (drop at text)) tests ∙ ap (first_token (there == 0)) same in
    (ap (λ t. t.kind) tokens, ap (λ t. take t.len (drop at text)) tokens ∙ ap (take (first_token (there == 0) (drop there other)).len) same)
