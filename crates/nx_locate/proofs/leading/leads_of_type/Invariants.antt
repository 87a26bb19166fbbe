use Rattle.std.proofs.Common.{◌≡◌, length}
use Rattle.nx_locate.specs.Leading.{leads_of_type}
use Rattle.nx_locate.proofs.leading.leads_of_type.Given as goal

abbrev pub invariant-loop-placed : goal.invariant-loop-placed
invariant-loop-placed l = leads_of_type l.id l.rules ≡ leads_of_type l.id l.rest

abbrev pub decreases-loop-placed : goal.decreases-loop-placed
decreases-loop-placed l = length l.rest
