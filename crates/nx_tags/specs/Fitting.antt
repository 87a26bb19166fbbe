-- Tags nest exactly where the end tags fit: in the words of the faults that an end tag gives.
use Rattle.std.specs.Prelude.{◌≡◌, ◌<◌, ◌≤◌, List, [], ◌∷◌, length}
use Rattle.std.specs.List.{AllByRecursion}
use Rattle.nx_base.specs.declared.fault.Kind.{Kind}
use Rattle.nx_base.specs.declared.fault.Kind.TheVariants as faults
use Rattle.nx_base.specs.declared.token.Token.{Token}
use Rattle.nx_base.specs.declared.token.TokenKind.TheVariants as kinds
use Rattle.nx_events.specs.Items.{items_of_token, state_behind}
use Rattle.nx_events.specs.OpenTags.{state_after}
use Rattle.nx_events.specs.Tags.{start_name, end_name}
use Rattle.nx_events.specs.declared.item.Item.{Item}
use Rattle.nx_events.specs.declared.item.Item.TheVariants as items
use Rattle.nx_events.specs.declared.state.EventState.{EventState}
use Rattle.nx_tags.specs.Elements.{Nested}

-- an end tag leaves elements open that are inside of the one that it closes, or it names no open element
abbrev pub IsOfEnd : Kind → Type 0
IsOfEnd faults.MissingEnd = Unit {0}
IsOfEnd faults.ExtraEnd = Unit {0}
IsOfEnd _ = ⊥

abbrev pub IsNotOfEnd : Item → Type 0
IsNotOfEnd (items.Event event span) = Unit {0}
IsNotOfEnd (items.Fault fault) = ¬ IsOfEnd fault.kind

-- a token gives no such fault
abbrev pub Fits : EventState → Token → Type 0
Fits state token = AllByRecursion IsNotOfEnd (items_of_token state token)

-- this holds of each token, with what is known in front of it
abbrev pub AllAlong : (EventState → Token → Type 0) → EventState → List Token → Type 0
AllAlong Holds state [] = Unit {0}
AllAlong Holds state (token ∷ others) = Holds state token × AllAlong Holds (state_behind state token) others

-- what a start tag opens, where this is known in front of it, is closed by a token behind others: behind each of these more elements are open
-- than in front of the start tag, behind that token not; and each of them fits
pub record IsClosedBy (state : EventState) (start : Token) (inner : List Token) (end : Token) : Type 0 where
  pub inside : AllAlong (λ there token. (length state.elements < length (state_behind there token).elements) × Fits there token)
      (state_behind state start) inner
  pub closed : length (state_behind (state_after (state_behind state start) inner) end).elements ≤ length state.elements
  pub fits : Fits (state_after (state_behind state start) inner) end

-- a token is the end tag of a start tag's own, with what nests between them
abbrev pub IsItsEnd : Token → List Token → Token → Type 0
IsItsEnd start inner end = Nested inner × (end.kind ≡ kinds.End) × (start_name start.bytes ≡ end_name end.bytes)

-- law: that is one and the same, wherever the start tag stands
abbrev pub EndsFitWhereTagsNest : Type 0
EndsFitWhereTagsNest = (state : EventState) (start end : Token) (inner : List Token) → start.kind ≡ kinds.Start →
    (IsItsEnd start inner end → IsClosedBy state start inner end) × (IsClosedBy state start inner end → IsItsEnd start inner end)
