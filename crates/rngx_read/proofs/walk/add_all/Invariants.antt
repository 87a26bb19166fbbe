-- the items that are left do the rest
use Rattle.std.proofs.Common.{◌≡◌, length}
use Rattle.rngx_read.specs.Walking.{walked_of, behind_all, IsSteady}
use Rattle.rngx_read.proofs.walk.add_all.Given as goal

abbrev pub invariant-items : goal.invariant-items
invariant-items l = record {
  left : behind_all l.rest (walked_of l.walk) ≡ behind_all l.items (walked_of l.initial.walk);
  steady : IsSteady (walked_of l.walk);
}

abbrev pub decreases-items : goal.decreases-items
decreases-items l = length l.rest
