use Rattle.std.proofs.Common.{◌≡◌, ℕ, ◌++◌, drop}
use Rattle.nx_events.specs.Items.{items_of, items_from}
use Rattle.nx_events.proofs.Folding.{Ready}
use Rattle.nx_events.proofs.fold.items_of_tokens.Given as goal

abbrev pub invariant-loop-token : goal.invariant-loop-token
invariant-loop-token l =
    ((at : ℕ) × Ready l.len at l.state (drop l.token-index l.tokens))
    × (l.items ++ items_from l.state (drop l.token-index l.tokens) l.len ≡ items_of l.tokens l.len)
