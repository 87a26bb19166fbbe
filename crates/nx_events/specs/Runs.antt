-- Runs of text: the strings of neighbouring character data, joined.
use Rattle.std.specs.Prelude.{ℕ, ◌+◌, ◌-◌, ◌==◌, if◌then◌else◌, List, [], ◌∷◌, ◌++◌, length, Option, Some, None}
use Rattle.nx_events.specs.declared.state.Run.{Run}
use Rattle.nx_events.specs.declared.item.Item.{Item}
use Rattle.nx_events.specs.declared.item.Item.TheVariants as items
use Rattle.nx_events.specs.declared.item.Event.TheVariants.{Chars}

-- the run behind one more token of n bytes that isn't part of it
abbrev pub run_passed : ℕ → Option Run → Option Run
run_passed n None = None
run_passed n (Some run) = Some (record { string = run.string; len = run.len; gap = run.gap + n })

-- the run behind one more token of n bytes that has this string
abbrev pub run_joined : List ℕ → ℕ → Option Run → Option Run
run_joined string n None = Some (record { string = string; len = n; gap = 0 })
run_joined string n (Some run) = Some (record { string = run.string ++ string; len = run.gap + run.len + n; gap = 0 })

-- how far before the place behind the last token the run began, and 0 where none is pending
abbrev pub run_back : Option Run → ℕ
run_back None = 0
run_back (Some run) = run.gap + run.len

-- what a run gives that ends, where the last token ended at the place `at`
unfoldable pub run_items : ℕ → Option Run → List Item
run_items at None = []
run_items at (Some run) =
    if length run.string == 0 then []
    else items.Event (Chars run.string) (record { from = at - (run.gap + run.len); to = at - run.gap }) ∷ []
