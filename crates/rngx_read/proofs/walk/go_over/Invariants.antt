-- the items of the tokens that are left do the rest
use Rattle.std.proofs.Common.{◌≡◌, ℕ, drop}
use Rattle.nx_events.specs.Items.{items_of, items_from}
use Rattle.nx_events.proofs.Folding.{Ready}
use Rattle.rngx_read.specs.Walking.{walked_of, behind_all, IsSteady}
use Rattle.rngx_read.proofs.walk.go_over.Given as goal

abbrev pub invariant-loop-token : goal.invariant-loop-token
invariant-loop-token l = record {
  ready : (at : ℕ) × Ready l.len at l.state (drop l.token-index l.tokens);
  left :
      behind_all (items_from l.state (drop l.token-index l.tokens) l.len) (walked_of l.walk)
      ≡ behind_all (items_of l.tokens l.len) (walked_of l.initial.walk);
  steady : IsSteady (walked_of l.walk);
}
