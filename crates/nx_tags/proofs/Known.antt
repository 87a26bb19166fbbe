-- What is known at a border, by the tokens in front of it.
use Rattle.std.proofs.Common.{◌≡◌, ℕ, zero, suc, ◌+◌, ◌-◌, ◌<◌, ◌≤◌, List, [], ◌∷◌, ◌++◌, length, map, refl, sym, ◌∙◌, ap, subst, arith}
use Rattle.std.specs.Str.{IsUtf8}
use Rattle.std.proofs.lemmas.Str.{IsCharBoundary-start}
use Rattle.nx_base.specs.Rules.{Lexeme, lexeme_of, token_at}
use Rattle.nx_base.specs.Running.{CutsTo}
use Rattle.nx_base.specs.Text.{IsPlace}
use Rattle.nx_base.specs.Tokens.{cut, end_of, tokens_of}
use Rattle.nx_base.specs.declared.token.Token.{Token}
use Rattle.nx_events.specs.Items.{first_state, state_behind}
use Rattle.nx_events.specs.OpenTags.{state_after}
use Rattle.nx_events.specs.declared.state.EventState.{EventState}
use Rattle.nx_scan.proofs.Every.{cut-is_token}
use Rattle.nx_tags.specs.Parts.{ending_by, state_at, IsTokenBorder, IsKnownAt}
use Rattle.nx_tags.specs.Reading.{IsRead}
use Rattle.nx_tags.proofs.Reading.{start_known, known_read, one_more, read_border, border_state}

-- tokens that lie one behind another, by their bytes
unfoldable pub tokens_along : ℕ → List Lexeme → List Token
tokens_along at [] = []
tokens_along at (lexeme ∷ others) = token_at at lexeme ∷ tokens_along (at + length lexeme.bytes) others

module _ (text : List ℕ) (utf8 : IsUtf8 text) where
  there : (at : ℕ) (lexeme : Lexeme) → IsPlace text at → at < length text → lexeme ≡ lexeme_of (cut text at) → token_at at lexeme ≡ cut text at
  there at lexeme place within is =
      ap (token_at at) is ∙ ap (λ n. record { kind = (cut text at).kind; from = n; bytes = (cut text at).bytes }) (sym (cut-is_token text at utf8 place within).from)

  read_along : (lexemes : List Lexeme) (at to : ℕ) (state : EventState) → IsRead text at state → CutsTo text at lexemes to →
      IsRead text to (state_after state (tokens_along at lexemes))
  unfolding state_after tokens_along
  read_along [] at to state read e = subst (λ n. IsRead text n state) e read
  read_along (lexeme ∷ others) at to state read h =
      let same = there at lexeme h.0 h.1.0 h.1.1.0 in
      let from = (cut-is_token text at utf8 h.0 h.1.0).from in
      let len : length lexeme.bytes ≡ length (cut text at).bytes = ap (λ (x : Lexeme). length x.bytes) h.1.1.0 in
      let end : end_of (cut text at) ≡ at + length lexeme.bytes = omega arith in
      let next : IsRead text (at + length lexeme.bytes) (state_behind state (token_at at lexeme)) =
      subst (λ n. IsRead text n (state_behind state (token_at at lexeme))) end
      (subst (λ t. IsRead text (end_of (cut text at)) (state_behind state t)) (sym same) (one_more text utf8 at state read h.1.0)) in
      read_along others (at + length lexeme.bytes) to (state_behind state (token_at at lexeme)) next h.1.1.1

  -- behind tokens that are cut one after another their state is known
  pub known_behind : (lexemes : List Lexeme) (at : ℕ) → CutsTo text 0 lexemes at → IsKnownAt text at (state_after first_state (tokens_along 0 lexemes))
  known_behind lexemes at cuts =
      let read = read_along lexemes 0 at first_state (known_read text utf8 0 first_state (start_known text utf8)) cuts in
      record {
        border = read_border text utf8 at (state_after first_state (tokens_along 0 lexemes)) read;
        known = border_state text utf8 at (state_after first_state (tokens_along 0 lexemes)) read;
      }
