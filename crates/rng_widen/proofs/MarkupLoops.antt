-- One more step of the loops over events.
use Rattle.std.proofs.Common.{◌≡◌, ℕ, suc, ◌+◌, ◌<◌, ◌≤◌, List, [], ◌∷◌, ◌++◌, length, drop, get_or, reverse, refl, sym, ap, ◌∙◌, arith, drop-cons}
use Rattle.std.proofs.lemmas.List.{reverse-append}
use Rattle.std.proofs.lemmas.Grind.{common_steps}
use Rattle.nx_base.specs.declared.token.Token.{Token}
use Rattle.nx_events.specs.declared.item.Item.{Item}
use Rattle.nx_events.specs.declared.state.EventState.{EventState}
use Rattle.nx_events.specs.Items.{state_behind, items_of_token, items_from, items_at_end}
use Rattle.rng_widen.specs.declared.open_element.OpenElement.{OpenElement}
use Rattle.rng_widen.specs.MarkupWidenings.{Walked, behind_item, behind_items}

behind_both : (one other : List Item) (walked : Walked) → behind_items (one ++ other) walked ≡ behind_items other (behind_items one walked)
unfolding behind_items
behind_both [] other walked = refl
behind_both (item ∷ one) other walked = behind_both one other (behind_item item walked)

-- one item more
pub item_gone : (item : Item) (rest all : List Item) (walked : Walked) → all ≡ item ∷ rest →
    behind_items all walked ≡ behind_items rest (behind_item item walked)
unfolding behind_items
item_gone item rest all walked are = rw are refl

pub none_gone : (all : List Item) (walked : Walked) → length all ≡ 0 → behind_items all walked ≡ walked
unfolding behind_items
none_gone [] walked none = refl
none_gone (item ∷ all) walked none = absurd (omega (arith, none))

next_token : (ts : List Token) (i : ℕ) (t : Token) → i < length ts → t ≡ get_or ts i t → drop i ts ≡ t ∷ drop (i + 1) ts
next_token ts i t h e =
    let next : suc i ≡ i + 1 = omega arith in
    drop-cons ts i t h ∙ ap (λ (x : Token). x ∷ drop (suc i) ts) (sym e) ∙ ap (λ (k : ℕ). t ∷ drop k ts) next

-- one token more
pub token_gone : (len : ℕ) (state after : EventState) (ts : List Token) (i : ℕ) (t : Token) (more : List Item) (before now whole : Walked) →
    i < length ts → t ≡ get_or ts i t → more ≡ items_of_token state t → after ≡ state_behind state t → now ≡ behind_items more before →
    behind_items (items_from state (drop i ts) len) before ≡ whole → behind_items (items_from after (drop (i + 1) ts) len) now ≡ whole
unfolding items_from
token_gone len state after ts i t more before now whole h e m a n g =
    let step = ap (λ (us : List Token). items_from state us len) (next_token ts i t h e) in
    rw (n, m, a) (sym (behind_both (items_of_token state t) (items_from (state_behind state t) (drop (i + 1) ts) len) before)
    ∙ ap (λ (all : List Item). behind_items all before) (sym step) ∙ g)

pub end_gone : (len : ℕ) (state : EventState) (ts : List Token) (i : ℕ) (more : List Item) (before now whole : Walked) → length ts ≤ i →
    more ≡ items_at_end state len → now ≡ behind_items more before → behind_items (items_from state (drop i ts) len) before ≡ whole → now ≡ whole
unfolding items_from
end_gone len state ts i more before now whole h m n g =
    let none : drop i ts ≡ [] = grind (arith, common_steps) in
    n ∙ ap (λ (all : List Item). behind_items all before) (m ∙ ap (λ (us : List Token). items_from state us len) (sym none)) ∙ g

-- ---- the elements around the innermost stand the other way round

pub reversed_more : (outer : List OpenElement) (element : OpenElement) → reverse (outer ++ element ∷ []) ≡ element ∷ reverse outer
reversed_more outer element = reverse-append outer (element ∷ [])
