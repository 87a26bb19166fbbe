-- What a start tag gives as far as it is written, and the names that its attributes keep.
use Rattle.std.proofs.Common.{◌≡◌, ℕ, ◌+◌, ◌<◌, ◌≤◌, false, inl, inr, cond, Option, None, List, [], ◌++◌, length, drop, get_or, refl, ap, sym, subst, ◌∙◌, arith}
use Rattle.std.proofs.lemmas.Bool.{cases_Bool}
use Rattle.std.proofs.lemmas.Grind.{common_steps}
use Rattle.std.proofs.lemmas.List.{append-nil}
use Rattle.nx_base.specs.declared.token.Token.{Token}
use Rattle.nx_base.specs.declared.name.Name.{Name}
use Rattle.nx_events.specs.declared.tag.Attribute.{Attribute}
use Rattle.nx_events.specs.declared.scope.Binding.{Binding}
use Rattle.nx_events.specs.declared.flaw.Resolved.{Resolved}
use Rattle.nx_events.specs.Names.{is_qname}
use Rattle.nx_events.specs.declared.item.Item.{Item}
use Rattle.nx_events.specs.declared.state.EventState.{EventState}
use Rattle.nx_events.specs.declared.reading.Reading.TheVariants.{Value}
use Rattle.nx_events.specs.CharacterFaults.{character_faults}
use Rattle.nx_events.specs.Declarations.{is_declaration, declaration_faults, bindings}
use Rattle.nx_events.specs.Elements.{new_or_flaw, attribute_resolved, resolved_if_attribute, attribute_declared, kept_name, element_resolved, element_items, attribute_items}
use Rattle.nx_events.specs.Faults.{faults_as_items}
use Rattle.nx_events.specs.Items.{start_items, token_span, is_behind, own_bindings}
use Rattle.nx_events.specs.OpenItems.{StartTagsGoOn, open_items, kept_names, name_resolved, new_name}
use Rattle.nx_events.specs.Tags.{start_name, tag_attributes}
use Rattle.nx_events.proofs.Declarations.{next_left}

pub start_tags_go_on : StartTagsGoOn
unfolding start_items
start_tags_go_on state token = refl

-- a start tag without attributes
pub bare_open : (before after new : List Item) (state : EventState) (token : Token) (own : List Binding) → tag_attributes token.from token.bytes ≡ [] → own ≡ [] →
    after ≡ before ++ faults_as_items (character_faults Value token.from token.bytes) →
    new ≡ after ++ element_items (token_span token) (element_resolved (is_behind state) (state.scope ++ own) (start_name token.bytes)) →
    new ≡ open_items before state token
unfolding declaration_faults bindings attribute_items
bare_open before after new state token own none o a n =
    let faults = faults_as_items (character_faults Value token.from token.bytes) in
    let P : List Attribute → Type 0 = λ attributes.
    new ≡ before ++ faults ++ faults_as_items (declaration_faults [] attributes)
    ++ element_items (token_span token) (element_resolved (is_behind state) (state.scope ++ bindings [] attributes) (start_name token.bytes))
    ++ attribute_items (state.scope ++ bindings [] attributes) [] attributes in
    let element : List Binding → List Item = λ own. element_items (token_span token) (element_resolved (is_behind state) (state.scope ++ own) (start_name token.bytes)) in
    let bare : P [] =
    n ∙ ap (λ xs. xs ++ element own) a ∙ ap (λ own. before ++ faults ++ element own) o
    ∙ ap (λ xs. xs ++ element []) (sym (append-nil (before ++ faults))) ∙ sym (append-nil (before ++ faults ++ [] ++ element [])) in
    subst P (sym none) bare

pub bare_own : (token : Token) (own : List Binding) → tag_attributes token.from token.bytes ≡ [] → own ≡ [] → own ≡ own_bindings token
unfolding bindings
bare_own token own none o = o ∙ sym (ap (bindings []) none)

-- one attribute more, and all of them
pub names_more : (scope : List Binding) (kept all : List Name) (xs : List Attribute) (i : ℕ) (it : Attribute) (r : Option Resolved) → i < length xs → it ≡ get_or xs i it →
    r ≡ resolved_if_attribute scope kept it → kept_names scope kept (drop i xs) ≡ all → kept_names scope (kept ++ kept_name r) (drop (i + 1) xs) ≡ all
unfolding kept_names
names_more scope kept all xs i it r h e f g =
    let P : Option Resolved → Type 0 = λ r. kept_names scope (kept ++ kept_name r) (drop (i + 1) xs) ≡ all in
    subst P (sym f) (sym (ap (kept_names scope kept) (next_left xs i it h e)) ∙ g)

pub names_whole : (scope : List Binding) (kept all : List Name) (xs : List Attribute) (i : ℕ) → length xs ≤ i → kept_names scope kept (drop i xs) ≡ all → kept ≡ all
unfolding kept_names
names_whole scope kept all xs i h g =
    let none : drop i xs ≡ [] = grind (arith, common_steps) in
    sym (ap (kept_names scope kept) none) ∙ g

-- an attribute's name, resolved in two steps
pub resolved_is : (scope : List Binding) (names : List Name) (written : List ℕ) →
    new_or_flaw names (attribute_declared scope written) written ≡ attribute_resolved scope names written
unfolding attribute_declared attribute_resolved new_or_flaw
resolved_is scope names written =
    elim (cases_Bool (is_qname written)) [ inl f ↦ rw f refl | inr f ↦ rw f refl ]

pub new_name_is : (scope : List Binding) (names : List Name) (written : List ℕ) → is_declaration written ≡ false →
    name_resolved (attribute_resolved scope names written) ≡ new_name scope names written
unfolding new_name
new_name_is scope names written h = sym (ap (λ t. cond t None (name_resolved (attribute_resolved scope names written))) h)
