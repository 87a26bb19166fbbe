-- One more step of the loops over the declarations at the head of a file.
use Rattle.std.proofs.Common.{◌≡◌, ℕ, Bool, true, false, List, ◌∷◌, length, Option, Some, None, refl, sym, ap, ◌∙◌}
use Rattle.rnc_lex.specs.declared.token.RncToken.{RncToken}
use Rattle.rng_widen.specs.declared.head.Head.{Head}
use Rattle.rng_widen.specs.CompactHead.{is_body, behind_head, body_from, binds, or_else, bound_from}
use Rattle.rng_widen.proofs.CompactLoops.{no_token}

-- ---- the body

pub body_here : (head next : Head) (token : RncToken) (tokens rest : List RncToken) → rest ≡ token ∷ tokens →
    next ≡ behind_head head token.lexeme → true ≡ is_body next → body_from head rest ≡ rest
unfolding body_from
body_here head next token tokens rest e n b =
    let test : is_body (behind_head head token.lexeme) ≡ true = sym (b ∙ ap is_body n) in
    rw e (rw test refl)

pub body_later : (head next : Head) (token : RncToken) (tokens rest : List RncToken) → rest ≡ token ∷ tokens →
    next ≡ behind_head head token.lexeme → false ≡ is_body next → body_from next tokens ≡ body_from head rest
unfolding body_from
body_later head next token tokens rest e n b =
    let test : is_body (behind_head head token.lexeme) ≡ false = sym (b ∙ ap is_body n) in
    ap (λ (h : Head). body_from h tokens) n ∙ sym (ap (body_from head) e ∙ rw test refl)

pub body_nowhere : (head : Head) (rest : List RncToken) → length rest ≡ 0 → body_from head rest ≡ rest
unfolding body_from
body_nowhere head rest none = rw (no_token rest none) refl

-- ---- a prefix

pub bound_in_body : (prefix : List ℕ) (head next : Head) (token : RncToken) (tokens rest : List RncToken) → rest ≡ token ∷ tokens →
    next ≡ behind_head head token.lexeme → true ≡ is_body next → bound_from prefix head rest ≡ None
unfolding bound_from
bound_in_body prefix head next token tokens rest e n b =
    let test : is_body (behind_head head token.lexeme) ≡ true = sym (b ∙ ap is_body n) in
    rw e (rw test refl)

-- a token of a declaration
step : (prefix : List ℕ) (head next : Head) (token : RncToken) (tokens rest : List RncToken) (found : Option Bool) → rest ≡ token ∷ tokens →
    next ≡ behind_head head token.lexeme → false ≡ is_body next → binds prefix head rest ≡ found →
    bound_from prefix head rest ≡ or_else found (bound_from prefix next tokens)
unfolding bound_from
step prefix head next token tokens rest found e n b h =
    let test : is_body (behind_head head token.lexeme) ≡ false = sym (b ∙ ap is_body n) in
    let here : binds prefix head (token ∷ tokens) ≡ found = sym (ap (binds prefix head) e) ∙ h in
    let whole : bound_from prefix head (token ∷ tokens)
    ≡ or_else (binds prefix head (token ∷ tokens)) (bound_from prefix (behind_head head token.lexeme) tokens) = rw test refl in
    ap (bound_from prefix head) e
    ∙ whole
    ∙ ap (λ (o : Option Bool). or_else o (bound_from prefix (behind_head head token.lexeme) tokens)) here
    ∙ ap (λ (h : Head). or_else found (bound_from prefix h tokens)) (sym n)

pub bound_here : (prefix : List ℕ) (head next : Head) (token : RncToken) (tokens rest : List RncToken) (found : Bool) → rest ≡ token ∷ tokens →
    next ≡ behind_head head token.lexeme → false ≡ is_body next → binds prefix head rest ≡ Some found → bound_from prefix head rest ≡ Some found
bound_here prefix head next token tokens rest found e n b h = step prefix head next token tokens rest (Some found) e n b h

pub bound_later : (prefix : List ℕ) (head next : Head) (token : RncToken) (tokens rest : List RncToken) → rest ≡ token ∷ tokens →
    next ≡ behind_head head token.lexeme → false ≡ is_body next → binds prefix head rest ≡ None →
    bound_from prefix next tokens ≡ bound_from prefix head rest
bound_later prefix head next token tokens rest e n b h = sym (step prefix head next token tokens rest None e n b h)

pub bound_nowhere : (prefix : List ℕ) (head : Head) (rest : List RncToken) → length rest ≡ 0 → bound_from prefix head rest ≡ None
unfolding bound_from
bound_nowhere prefix head rest none = rw (no_token rest none) refl
