-- The name of an attribute that is being written is none of those before it.
use Rattle.std.proofs.Common.{◌≡◌, ℕ, List, [], ◌∷◌, ◌++◌, Bool, true, false, Option, Some, None, refl, sym, ap, subst, ◌∙◌, ◌⊎◌, inl, inr}
use Rattle.std.specs.Prelude.{if◌then◌else◌}
use Rattle.std.proofs.lemmas.Bool.{false≢true}
use Rattle.std.proofs.lemmas.List.{append-nil}
use Rattle.nx_base.specs.declared.fault.Fault.{Fault}
use Rattle.nx_base.specs.declared.fault.Span.{Span}
use Rattle.nx_base.specs.declared.name.Name.{Name}
use Rattle.nx_events.specs.CharacterFaults.{character_faults}
use Rattle.nx_events.specs.Declarations.{is_declaration, declaration_faults}
use Rattle.nx_events.specs.Elements.{has_name, element_items, element_resolved, attribute_items, attribute_item, attribute_resolved, resolved_if_attribute, kept_name}
use Rattle.nx_events.specs.Faults.{faults_as_items}
use Rattle.nx_events.specs.Items.{own_bindings, is_behind, token_span}
use Rattle.nx_events.specs.OpenItems.{kept_names, name_resolved, new_name}
use Rattle.nx_events.specs.Prefixes.{as_token, items_so_far, name_behind}
use Rattle.nx_events.specs.Tags.{start_name, tag_attributes}
use Rattle.nx_events.specs.declared.flaw.Resolved.{Resolved}
use Rattle.nx_events.specs.declared.flaw.Resolved.TheVariants.{Named, Flawed}
use Rattle.nx_events.specs.declared.item.Event.{Event}
use Rattle.nx_events.specs.declared.item.Item.{Item}
use Rattle.nx_events.specs.declared.item.Item.TheVariants as items
use Rattle.nx_events.specs.declared.reading.Reading.TheVariants.{Value}
use Rattle.nx_events.specs.declared.scope.Binding.{Binding}
use Rattle.nx_events.specs.declared.state.EventState.{EventState}
use Rattle.nx_events.specs.declared.tag.Attribute.{Attribute}
use Rattle.rng_kept.specs.Events.{IsAmong, first, later}
use Rattle.nx_recover.specs.Offered.{attribute_in, attributes_among}
use Rattle.nx_recovery.proofs.Tags.{resolved_named, has_more, has_last}

-- ---- names among items

front_or_back : (n : Name) (xs ys : List Name) → IsAmong n (xs ++ ys) → IsAmong n xs ⊎ IsAmong n ys
front_or_back n [] ys i = inr i
front_or_back n (x ∷ xs) ys (first e) = inl (first e)
front_or_back n (x ∷ xs) ys (later i) = elim (front_or_back n xs ys i) [ inl j ↦ inl (later j) | inr j ↦ inr j ]

among_front : (n : Name) (xs ys : List Name) → IsAmong n xs → IsAmong n (xs ++ ys)
among_front n [] ys i = elim i [ ]
among_front n (x ∷ xs) ys (first e) = first e
among_front n (x ∷ xs) ys (later i) = later (among_front n xs ys i)

among_back : (n : Name) (xs ys : List Name) → IsAmong n ys → IsAmong n (xs ++ ys)
among_back n [] ys i = i
among_back n (x ∷ xs) ys i = later (among_back n xs ys i)

among_both : (n : Name) (xs ys : List Item) → IsAmong n (attributes_among (xs ++ ys)) → IsAmong n (attributes_among xs) ⊎ IsAmong n (attributes_among ys)
among_both n [] ys i = inr i
among_both n (items.Event e s ∷ xs) ys i = elim (front_or_back n (attribute_in e) (attributes_among (xs ++ ys)) i) [
  | inl j ↦ inl (among_front n (attribute_in e) (attributes_among xs) j)
  | inr j ↦ elim (among_both n xs ys j) [ inl k ↦ inl (among_back n (attribute_in e) (attributes_among xs) k) | inr k ↦ inr k ]
]
among_both n (items.Fault x ∷ xs) ys i = among_both n xs ys i

none_of_faults : (n : Name) (faults : List Fault) → IsAmong n (attributes_among (faults_as_items faults)) → ⊥
none_of_faults n [] i = elim i [ ]
none_of_faults n (x ∷ faults) i = none_of_faults n faults i

none_of_element : (n : Name) (span : Span) (r : Resolved) → IsAmong n (attributes_among (element_items span r)) → ⊥
none_of_element n span (Named m) i = elim i [ ]
none_of_element n span (Flawed flaw) i = elim i [ ]

-- ---- names that are kept

on_nil : (k : List Name) (n : Name) → has_name k n ≡ true → has_name (k ++ []) n ≡ true
on_nil k n h = subst (λ (l : List Name). has_name l n ≡ true) (sym (append-nil k)) h

on_one : (k : List Name) (n : Name) (r : Option Resolved) → has_name k n ≡ true → has_name (k ++ kept_name r) n ≡ true
on_one k n None h = on_nil k n h
on_one k n (Some (Named m)) h = has_more k m n h
on_one k n (Some (Flawed flaw)) h = on_nil k n h

stays_kept : (scope : List Binding) (k : List Name) (all : List Attribute) (n : Name) → has_name k n ≡ true → has_name (kept_names scope k all) n ≡ true
unfolding kept_names
stays_kept scope k [] n h = h
stays_kept scope k (it ∷ others) n h = stays_kept scope (k ++ kept_name (resolved_if_attribute scope k it)) others n (on_one k n (resolved_if_attribute scope k it) h)

own_kept : (k : List Name) (it : Attribute) (n : Name) (r : Option Resolved) → IsAmong n (attributes_among (attribute_item it r)) → has_name (k ++ kept_name r) n ≡ true
own_kept k it n None i = elim i [ ]
own_kept k it n (Some (Flawed flaw)) i = elim i [ ]
own_kept k it n (Some (Named m)) (first e) = subst (λ (x : Name). has_name (k ++ m ∷ []) x ≡ true) e (has_last k m)
own_kept k it n (Some (Named m)) (later i) = elim i [ ]

all_kept : (scope : List Binding) (k : List Name) (all : List Attribute) (n : Name) → IsAmong n (attributes_among (attribute_items scope k all)) → has_name (kept_names scope k all) n ≡ true
unfolding kept_names attribute_items
all_kept scope k [] n i = elim i [ ]
all_kept scope k (it ∷ others) n i =
    let r = resolved_if_attribute scope k it in
    elim (among_both n (attribute_item it r) (attribute_items scope (k ++ kept_name r) others) i) [
      | inl j ↦ stays_kept scope (k ++ kept_name r) others n (own_kept k it n r j)
      | inr j ↦ all_kept scope (k ++ kept_name r) others n j
    ]

-- ---- a new name

same_some : (r : Resolved) (n : Name) → name_resolved r ≡ Some n → r ≡ Named n
same_some (Named m) n e = let same : m ≡ n = cc in ap Named same
same_some (Flawed flaw) n e = cc

not_kept : (scope : List Binding) (k : List Name) (written : List ℕ) (n : Name) → new_name scope k written ≡ Some n → has_name k n ≡ false
unfolding new_name
not_kept scope k written n e = by (is_declaration written) e
  where
    by : (b : Bool) → (if b then None else name_resolved (attribute_resolved scope k written)) ≡ Some n → has_name k n ≡ false
    by true f = cc
    by false f = resolved_named scope k written n (same_some (attribute_resolved scope k written) n f)

pub name_is_new : (state : EventState) (tag written : List ℕ) (n : Name) → name_behind state tag written ≡ Some n → IsAmong n (attributes_among (items_so_far state tag)) → ⊥
name_is_new state tag written n e i =
    let token = as_token tag in
    let attributes = tag_attributes token.from token.bytes in
    let scope = state.scope ++ own_bindings token in
    let characters = faults_as_items (character_faults Value token.from token.bytes) in
    let declarations = faults_as_items (declaration_faults [] attributes) in
    let element = element_items (token_span token) (element_resolved (is_behind state) scope (start_name token.bytes)) in
    let own = attribute_items scope [] attributes in
    elim (among_both n ((characters ++ declarations) ++ element) own i) [
      | inr j ↦ false≢true (sym (not_kept scope (kept_names scope [] attributes) written n e) ∙ all_kept scope [] attributes n j)
      | inl j ↦ elim (among_both n (characters ++ declarations) element j) [
        | inr k ↦ none_of_element n (token_span token) (element_resolved (is_behind state) scope (start_name token.bytes)) k
        | inl k ↦ elim (among_both n characters declarations k) [ inl l ↦ none_of_faults n (character_faults Value token.from token.bytes) l | inr l ↦ none_of_faults n (declaration_faults [] attributes) l ]
      ]
    ]
