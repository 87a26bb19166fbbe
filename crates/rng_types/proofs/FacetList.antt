-- The facets of params, one after another.
use Rattle.std.specs.Prelude.{◌≡◌, ℕ, ◌+◌, ◌<◌, List, [], ◌∷◌, ◌++◌, length, take, get_or, Option}
use Rattle.std.proofs.Common.{sym, ap, ◌∙◌, append_assoc}
use Rattle.std.proofs.lemmas.List.{take_more}
use Rattle.std.proofs.lemmas.List.Elements.{filter_map-append}
use Rattle.std.specs.List.{filter_map}

pub filter_map_more : {X Y : Type 0} (f : X → Option Y) (front so_far next : List Y) (xs : List X) (i : ℕ) (x : X) →
    i < length xs → x ≡ get_or xs i x → so_far ≡ front ++ filter_map f (take i xs) → next ≡ so_far ++ filter_map f (x ∷ []) →
    next ≡ front ++ filter_map f (take (i + 1) xs)
filter_map_more {X} {Y} f front so_far next xs i x inside here before added =
    let longer : take (i + 1) xs ≡ take i xs ++ x ∷ [] = take_more xs i x inside ∙ ap (λ (y : X). take i xs ++ y ∷ []) (sym here) in
    let parts : filter_map f (take (i + 1) xs) ≡ filter_map f (take i xs) ++ filter_map f (x ∷ []) = ap (filter_map f) longer ∙ filter_map-append f (take i xs) (x ∷ []) in
    added ∙ ap (λ (ys : List Y). ys ++ filter_map f (x ∷ [])) before ∙ append_assoc front (filter_map f (take i xs)) (filter_map f (x ∷ [])) ∙ ap (λ (ys : List Y). front ++ ys) (sym parts)
