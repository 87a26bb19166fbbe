-- the items that are left do the rest
use Rattle.std.proofs.Common.{◌≡◌, length}
use Rattle.rng_widen.specs.MarkupViews.{walked_of}
use Rattle.rng_widen.specs.MarkupWidenings.{behind_items}
use Rattle.rng_widen.proofs.markup.add_all.Given as goal

abbrev pub invariant-items : goal.invariant-items
invariant-items l = behind_items l.rest (walked_of l.walk) ≡ behind_items l.items (walked_of l.initial.walk)

abbrev pub decreases-items : goal.decreases-items
decreases-items l = length l.rest
