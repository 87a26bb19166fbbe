-- Attributes of a tag, one at a time.
use Rattle.std.proofs.Common.{◌≡◌, ℕ, ◌+◌, ◌<◌, ◌≤◌, Option, List, [], ◌++◌, length, drop, get_or, ap, sym, subst, ◌∙◌, arith, append_assoc}
use Rattle.std.proofs.lemmas.List.{append-nil}
use Rattle.std.proofs.lemmas.Grind.{common_steps}
use Rattle.nx_base.specs.declared.name.Name.{Name}
use Rattle.nx_events.specs.declared.item.Item.{Item}
use Rattle.nx_events.specs.declared.tag.Attribute.{Attribute}
use Rattle.nx_events.specs.declared.scope.Binding.{Binding}
use Rattle.nx_events.specs.declared.flaw.Resolved.{Resolved}
use Rattle.nx_events.specs.Elements.{resolved_if_attribute, attribute_item, kept_name, attribute_items}
use Rattle.nx_events.proofs.Declarations.{next_left}

items_step : (scope : List Binding) (kept : List Name) (xs : List Attribute) (i : ℕ) (it : Attribute) (r : Option Resolved) → i < length xs → it ≡ get_or xs i it → r ≡ resolved_if_attribute scope kept it →
    attribute_items scope kept (drop i xs) ≡ attribute_item it r ++ attribute_items scope (kept ++ kept_name r) (drop (i + 1) xs)
unfolding attribute_items
items_step scope kept xs i it r h e f =
    let P : Option Resolved → Type 0 = λ r. attribute_items scope kept (drop i xs) ≡ attribute_item it r ++ attribute_items scope (kept ++ kept_name r) (drop (i + 1) xs) in
    subst P (sym f) (ap (attribute_items scope kept) (next_left xs i it h e))

pub items_more : (scope : List Binding) (kept seen after : List Name) (xs : List Attribute) (i : ℕ) (it : Attribute) (r : Option Resolved) (old new all : List Item) → i < length xs → it ≡ get_or xs i it →
    seen ≡ kept → r ≡ resolved_if_attribute scope seen it → new ≡ old ++ attribute_item it r → after ≡ kept ++ kept_name r →
    old ++ attribute_items scope kept (drop i xs) ≡ all → new ++ attribute_items scope after (drop (i + 1) xs) ≡ all
items_more scope kept seen after xs i it r old new all h e s f n k g =
    let resolved = f ∙ ap (λ (ks : List Name). resolved_if_attribute scope ks it) s in
    rw (n, k, append_assoc) (ap (λ (ys : List Item). old ++ ys) (sym (items_step scope kept xs i it r h e resolved)) ∙ g)

pub items_whole : (scope : List Binding) (kept : List Name) (xs : List Attribute) (i : ℕ) (new all : List Item) → length xs ≤ i → new ++ attribute_items scope kept (drop i xs) ≡ all → new ≡ all
unfolding attribute_items
items_whole scope kept xs i new all h g =
    let none : drop i xs ≡ [] = grind (arith, common_steps) in
    sym (append-nil new) ∙ ap (λ (ys : List Attribute). new ++ attribute_items scope kept ys) (sym none) ∙ g
