-- Declarations of a tag, an attribute at a time.
use Rattle.std.proofs.Common.{◌≡◌, ℕ, suc, ◌+◌, ◌<◌, ◌≤◌, List, [], ◌∷◌, ◌++◌, length, take, drop, get_or, ap, sym, ◌∙◌, arith, append_assoc, drop-cons}
use Rattle.std.proofs.lemmas.List.{take_more, append-nil, map-append}
use Rattle.std.proofs.lemmas.Grind.{common_steps}
use Rattle.nx_events.specs.declared.item.Item.{Item}
use Rattle.nx_events.specs.declared.item.Item.TheVariants as items
use Rattle.nx_events.specs.declared.tag.Attribute.{Attribute}
use Rattle.nx_events.specs.declared.scope.Binding.{Binding}
use Rattle.nx_events.specs.Faults.{faults_as_items}
use Rattle.nx_events.specs.Declarations.{faults_at, bindings_at, declaration_faults, bindings}

-- the next attribute is taken from what is left to what came before
pub next_left : (xs : List Attribute) (i : ℕ) (it : Attribute) → i < length xs → it ≡ get_or xs i it → drop i xs ≡ it ∷ drop (i + 1) xs
next_left xs i it h e =
    let next : suc i ≡ i + 1 = omega arith in
    drop-cons xs i it h ∙ ap (λ (x : Attribute). x ∷ drop (suc i) xs) (sym e) ∙ ap (λ (k : ℕ). it ∷ drop k xs) next

pub next_before : (xs : List Attribute) (i : ℕ) (it : Attribute) → i < length xs → it ≡ get_or xs i it → take i xs ++ it ∷ [] ≡ take (i + 1) xs
next_before xs i it h e = ap (λ (x : Attribute). take i xs ++ x ∷ []) e ∙ sym (take_more xs i it h)

faults_step : (xs : List Attribute) (i : ℕ) (it : Attribute) → i < length xs → it ≡ get_or xs i it →
    declaration_faults (take i xs) (drop i xs) ≡ faults_at (take i xs) it ++ declaration_faults (take (i + 1) xs) (drop (i + 1) xs)
unfolding declaration_faults
faults_step xs i it h e =
    ap (λ (ys : List Attribute). declaration_faults (take i xs) ys) (next_left xs i it h e)
    ∙ ap (λ (ys : List Attribute). faults_at (take i xs) it ++ declaration_faults ys (drop (i + 1) xs)) (next_before xs i it h e)

bindings_step : (xs : List Attribute) (i : ℕ) (it : Attribute) → i < length xs → it ≡ get_or xs i it →
    bindings (take i xs) (drop i xs) ≡ bindings_at (take i xs) it ++ bindings (take (i + 1) xs) (drop (i + 1) xs)
unfolding bindings
bindings_step xs i it h e =
    ap (λ (ys : List Attribute). bindings (take i xs) ys) (next_left xs i it h e)
    ∙ ap (λ (ys : List Attribute). bindings_at (take i xs) it ++ bindings ys (drop (i + 1) xs)) (next_before xs i it h e)

pub declared_faults_more : (xs before : List Attribute) (i : ℕ) (it : Attribute) (old new all : List Item) → i < length xs → it ≡ get_or xs i it → before ≡ take i xs →
    new ≡ old ++ faults_as_items (faults_at before it) →
    old ++ faults_as_items (declaration_faults (take i xs) (drop i xs)) ≡ all →
    new ++ faults_as_items (declaration_faults (take (i + 1) xs) (drop (i + 1) xs)) ≡ all
declared_faults_more xs before i it old new all h e b n g =
    let split = ap faults_as_items (faults_step xs i it h e) ∙ map-append items.Fault (faults_at (take i xs) it) (declaration_faults (take (i + 1) xs) (drop (i + 1) xs)) in
    rw (n, b, append_assoc) (ap (λ (ys : List Item). old ++ ys) (sym split) ∙ g)

pub declared_pairs_more : (xs before : List Attribute) (i : ℕ) (it : Attribute) (old new all : List Binding) → i < length xs → it ≡ get_or xs i it → before ≡ take i xs →
    new ≡ old ++ bindings_at before it → old ++ bindings (take i xs) (drop i xs) ≡ all → new ++ bindings (take (i + 1) xs) (drop (i + 1) xs) ≡ all
declared_pairs_more xs before i it old new all h e b n g =
    rw (n, b, append_assoc) (ap (λ (ys : List Binding). old ++ ys) (sym (bindings_step xs i it h e)) ∙ g)

pub declared_faults_whole : (xs : List Attribute) (i : ℕ) (new all : List Item) → length xs ≤ i →
    new ++ faults_as_items (declaration_faults (take i xs) (drop i xs)) ≡ all → new ≡ all
unfolding declaration_faults
declared_faults_whole xs i new all h g =
    let none : drop i xs ≡ [] = grind (arith, common_steps) in
    sym (append-nil new) ∙ ap (λ (ys : List Attribute). new ++ faults_as_items (declaration_faults (take i xs) ys)) (sym none) ∙ g

pub declared_pairs_whole : (xs : List Attribute) (i : ℕ) (new all : List Binding) → length xs ≤ i → new ++ bindings (take i xs) (drop i xs) ≡ all → new ≡ all
unfolding bindings
declared_pairs_whole xs i new all h g =
    let none : drop i xs ≡ [] = grind (arith, common_steps) in
    sym (append-nil new) ∙ ap (λ (ys : List Attribute). new ++ bindings (take i xs) ys) (sym none) ∙ g
