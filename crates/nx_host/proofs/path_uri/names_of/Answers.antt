use Rattle.std.proofs.Common.{◌≡◌, ◌∷◌, [], List, ℕ, Bor, map, sym, ap, ◌∙◌}
use Rattle.std.specs.List.{slice_split}
use Rattle.nx_host.specs.PathUri.{is_slash, names_along}
use Rattle.nx_host.proofs.PathUris.{along_more, along_last}
use Rattle.nx_host.proofs.path_uri.names_of.Goals as goal

pub loop-names-preserved : goal.loop-names-preserved
loop-names-preserved c =
    let names = map (λ (name : Bor (List ℕ)). name.now) c.loop-names.names.items in
    let piece = c.first_piece.result.0.now in
    let rest = slice_split is_slash c.in-Some.rest.now in
    let parts : slice_split is_slash c.loop-names.left.now ≡ piece ∷ rest = rw c.in-Some.is at c.first_piece.ensures.more in
    let behind = c.in_ok-follow.ensures in
    ap (λ (ns : List (List ℕ)). names_along ns rest) behind ∙ sym (along_more names piece rest)
    ∙ ap (λ (ps : List (List ℕ)). names_along names ps) (sym parts) ∙ c.loop-names.invariant

pub returns-in-None : goal.returns-in-None
returns-in-None c =
    let names = map (λ (name : Bor (List ℕ)). name.now) c.loop-names.names.items in
    let piece = c.first_piece.result.0.now in
    let parts : slice_split is_slash c.loop-names.left.now ≡ piece ∷ [] = rw c.in-None.is at c.first_piece.ensures.alone in
    let behind = c.in_ok-follow.ensures in
    behind ∙ sym (along_last names piece) ∙ ap (λ (ps : List (List ℕ)). names_along names ps) (sym parts) ∙ c.loop-names.invariant
