-- One more step of the loops over the tokens of the compact syntax.
use Rattle.std.proofs.Common.{◌≡◌, ℕ, Bool, true, false, not, List, [], ◌∷◌, ◌++◌, length, Option, Some, None, refl, sym, ap, ◌∙◌, arith, append_assoc}
use Rattle.std.proofs.lemmas.List.{append-nil}
use Rattle.rnc_lex.specs.declared.token.RncToken.{RncToken}
use Rattle.rng_widen.specs.declared.context.Context.{Context}
use Rattle.rng_widen.specs.declared.widening.Widening.{Widening}
use Rattle.rng_widen.specs.CompactPlaces.{behind}
use Rattle.rng_widen.specs.CompactTokens.{is_literal, is_tilde}
use Rattle.rng_widen.specs.CompactWidenings.{behind_literals, widening_at, listed, widenings_from}

pub no_token : (tokens : List RncToken) → length tokens ≡ 0 → tokens ≡ []
no_token [] none = refl
no_token (token ∷ tokens) none = absurd (omega (arith, none))

-- ---- literals

pub literals_go_on : (needed : Bool) (token : RncToken) (tokens rest : List RncToken) → rest ≡ token ∷ tokens → needed ≡ true →
    is_literal token.lexeme ≡ true → behind_literals (not needed) tokens ≡ behind_literals needed rest
unfolding behind_literals
literals_go_on needed token tokens rest e n h = rw (e, n) (rw h refl)

pub literals_lack : (needed : Bool) (token : RncToken) (tokens rest : List RncToken) → rest ≡ token ∷ tokens → needed ≡ true →
    is_literal token.lexeme ≡ false → behind_literals needed rest ≡ None
unfolding behind_literals
literals_lack needed token tokens rest e n h = rw (e, n) (rw h refl)

pub literals_are_joined : (needed : Bool) (token : RncToken) (tokens rest : List RncToken) → rest ≡ token ∷ tokens → needed ≡ false →
    is_tilde token.lexeme ≡ true → behind_literals (not needed) tokens ≡ behind_literals needed rest
unfolding behind_literals
literals_are_joined needed token tokens rest e n h = rw (e, n) (rw h refl)

pub literals_end : (needed : Bool) (token : RncToken) (tokens rest : List RncToken) → rest ≡ token ∷ tokens → needed ≡ false →
    is_tilde token.lexeme ≡ false → behind_literals needed rest ≡ Some rest
unfolding behind_literals
literals_end needed token tokens rest e n h = rw (e, n) (rw h refl)

pub literals_missing : (needed : Bool) (rest : List RncToken) → length rest ≡ 0 → needed ≡ true → behind_literals needed rest ≡ None
unfolding behind_literals
literals_missing needed rest none n = rw (no_token rest none, n) refl

pub literals_over : (needed : Bool) (rest : List RncToken) → length rest ≡ 0 → needed ≡ false → behind_literals needed rest ≡ Some rest
unfolding behind_literals
literals_over needed rest none n = rw (no_token rest none, n) refl

-- ---- all tokens

pub widened_more : (file : List RncToken) (end : ℕ) (context next : Context) (token : RncToken) (after rest : List RncToken) (found : Option Widening)
    (done longer whole : List Widening) → rest ≡ token ∷ after → found ≡ widening_at file end context token after →
    longer ≡ done ++ listed found → next ≡ behind file context token.lexeme → done ++ widenings_from file end context rest ≡ whole →
    longer ++ widenings_from file end next after ≡ whole
unfolding widenings_from
widened_more file end context next token after rest found done longer whole e f l n h =
    rw (l, n, f)
    (append_assoc done (listed (widening_at file end context token after)) (widenings_from file end (behind file context token.lexeme) after)
    ∙ ap (λ (t : List RncToken). done ++ widenings_from file end context t) (sym e) ∙ h)

pub widened_all : (file : List RncToken) (end : ℕ) (context : Context) (rest : List RncToken) (done whole : List Widening) → length rest ≡ 0 →
    done ++ widenings_from file end context rest ≡ whole → done ≡ whole
unfolding widenings_from
widened_all file end context rest done whole none h =
    sym (append-nil done) ∙ ap (λ (t : List RncToken). done ++ widenings_from file end context t) (sym (no_token rest none)) ∙ h
