-- the items of the tokens that are left do the rest
use Rattle.std.proofs.Common.{◌≡◌, ℕ, drop}
use Rattle.nx_events.specs.Items.{items_of, items_from}
use Rattle.nx_events.proofs.Folding.{Ready}
use Rattle.rng_widen.specs.MarkupViews.{walked_of}
use Rattle.rng_widen.specs.MarkupWidenings.{behind_items}
use Rattle.rng_widen.proofs.markup.go_over.Given as goal

abbrev pub invariant-loop-token : goal.invariant-loop-token
invariant-loop-token l = record {
  ready : (at : ℕ) × Ready l.len at l.state (drop l.token-index l.tokens);
  left :
      behind_items (items_from l.state (drop l.token-index l.tokens) l.len) (walked_of l.walk)
      ≡ behind_items (items_of l.tokens l.len) (walked_of l.initial.walk);
}
