-- Where the spans of items lie.
use Rattle.std.specs.Prelude.{ℕ, ◌+◌, ◌-◌, ◌≤◌, List, length}
use Rattle.std.specs.List.{AllByRecursion}
use Rattle.nx_base.specs.declared.fault.Span.{Span}
use Rattle.nx_base.specs.declared.token.Token.{Token}
use Rattle.nx_events.specs.Runs.{run_back}
use Rattle.nx_events.specs.Items.{items_of_token, state_behind, items_at_end}
use Rattle.nx_events.specs.declared.state.EventState.{EventState}
use Rattle.nx_events.specs.declared.item.Item.{Item}
use Rattle.nx_events.specs.declared.item.Item.TheVariants as items

-- the span lies between two places
pub record IsSpanWithin (from to : ℕ) (span : Span) : Type 0 where
  pub ordered : span.from ≤ span.to
  pub begins : from ≤ span.from
  pub ends : span.to ≤ to

abbrev pub item_span : Item → Span
item_span (items.Event event span) = span
item_span (items.Fault fault) = fault.span

abbrev pub AreWithin : ℕ → ℕ → List Item → Type 0
AreWithin from to all = AllByRecursion (λ item. IsSpanWithin from to (item_span item)) all

-- the items of a token lie between the begin of the run that was pending and the token's end
abbrev pub ItemsLieInTokens : Type 0
ItemsLieInTokens = (state : EventState) (token : Token) → run_back state.run ≤ token.from →
    AreWithin (token.from - run_back state.run) (token.from + length token.bytes) (items_of_token state token)

-- those of the end of a text lie between that place and the end
abbrev pub ItemsLieInText : Type 0
ItemsLieInText = (state : EventState) (len : ℕ) → run_back state.run ≤ len →
    AreWithin (len - run_back state.run) len (items_at_end state len)

-- a pending run reaches back farther by the token's length at most
abbrev pub RunsGrowByTokens : Type 0
RunsGrowByTokens = (state : EventState) (token : Token) → run_back (state_behind state token).run ≤ run_back state.run + length token.bytes
