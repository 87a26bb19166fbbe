-- A list of views of which one was closed.
use Rattle.std.proofs.Common.{◌≡◌, ℕ, ◌<◌, zero, suc, List, [], ◌∷◌, length, map, refl, ap, ◌∙◌, arith, set, get_or}
use Rattle.nx_views.specs.States.{ViewState, closed, closed_at}

pub one_closed : {X : Type 0} (state : X → ViewState) (xs : List X) (i : ℕ) (x y : X) → i < length xs → x ≡ get_or xs i x → state y ≡ closed (state x)
    → map state (set xs i y) ≡ closed_at i (map state xs)
one_closed state [] i x y lt read e = refl
one_closed state (x ∷ xs) zero was y lt read e = ap (λ v. v ∷ map state xs) (e ∙ ap (λ z. closed (state z)) read)
one_closed state (x ∷ xs) (suc i) was y lt read e = ap (λ vs. state x ∷ vs) (one_closed state xs i was y (omega arith) read e)
