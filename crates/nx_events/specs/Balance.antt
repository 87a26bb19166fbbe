-- How events nest: each Leave closes an element that an Enter before it began.
use Rattle.std.specs.Prelude.{◌≡◌, ℕ, ◌+◌, ◌≤◌, Bool, true, false, List, ◌++◌, length}
use Rattle.std.specs.List.{count_by}
use Rattle.nx_base.specs.declared.token.Token.{Token}
use Rattle.nx_events.specs.Items.{items_of_token, state_behind, items_of}
use Rattle.nx_events.specs.declared.state.EventState.{EventState}
use Rattle.nx_events.specs.declared.item.Event.TheVariants.{Enter, EnterLost, Leave}
use Rattle.nx_events.specs.declared.item.Item.{Item}
use Rattle.nx_events.specs.declared.item.Item.TheVariants as items

-- with this item an element begins, with a name or without
abbrev pub is_enter : Item → Bool
is_enter (items.Event (Enter name) span) = true
is_enter (items.Event EnterLost span) = true
is_enter _ = false

-- with this item the innermost open element ends
abbrev pub is_leave : Item → Bool
is_leave (items.Event Leave span) = true
is_leave _ = false

-- how many elements begin among these items, and how many end
abbrev pub entered : List Item → ℕ
entered all = count_by is_enter all

abbrev pub left : List Item → ℕ
left all = count_by is_leave all

-- the number of open elements behind a token is that before it, and what its items enter, without what they leave
abbrev pub DepthIsDifference : Type 0
DepthIsDifference = (state : EventState) (token : Token) →
    length state.elements + entered (items_of_token state token) ≡ length (state_behind state token).elements + left
    (items_of_token state token)

-- the items of any tokens, with those of their end, leave as many elements as they enter, and no front of them leaves more
abbrev pub EntersAndLeavesBalance : Type 0
EntersAndLeavesBalance = (all : List Token) (len : ℕ) →
    (entered (items_of all len) ≡ left (items_of all len)) ×
    ((front behind : List Item) → items_of all len ≡ front ++ behind → left front ≤ entered front)
