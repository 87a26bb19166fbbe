-- One change more of those that values say.
use Rattle.std.proofs.Common.{◌≡◌, ◌∷◌, [], ◌++◌, List, Option, Some, None, option_map, refl, sym, ap, ◌∙◌, append_assoc, subst}
use Rattle.nx_position.specs.declared.change.Change.{Change}
use Rattle.serde_json.specs.Data.{Data, Items, item}
use Rattle.serde_json.specs.View.{items_view, view}
use Rattle.serde_json.specs.declared.value.Value.{Value}
use Rattle.nx_wire.specs.Changes.{change_in, changes_in, changes_of}

joined : (done : List Change) (change : Change) (rest : Option (List Change)) →
    option_map (λ more. (done ++ change ∷ []) ++ more) rest ≡ option_map (λ more. done ++ more) (changes_of (Some change) rest)
joined done change None = refl
joined done change (Some more) = ap (λ xs. Some xs) (append_assoc done (change ∷ []) more)

pub one_more : (done : List Change) (change : Change) (value : Value) (values behind : List Value) (all : Option (List Change)) →
    values ≡ value ∷ behind → Some change ≡ change_in (view value) →
    option_map (λ more. done ++ more) (changes_in (items_view values)) ≡ all →
    option_map (λ more. (done ++ change ∷ []) ++ more) (changes_in (items_view behind)) ≡ all
one_more done change value values behind all whole read rest =
    joined done change (changes_in (items_view behind))
    ∙ ap (λ found. option_map (λ more. done ++ more) (changes_of found (changes_in (items_view behind)))) read
    ∙ ap (λ xs. option_map (λ more. done ++ more) (changes_in (items_view xs))) (sym whole)
    ∙ rest
