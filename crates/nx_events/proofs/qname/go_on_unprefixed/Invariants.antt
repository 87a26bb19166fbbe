use Rattle.std.proofs.Common.{◌≡◌, length}
use Rattle.std.specs.List.{list_all}
use Rattle.std.specs.Str.{chars}
use Rattle.nx_events.specs.Names.{goes_on_unprefixed}
use Rattle.nx_events.proofs.qname.go_on_unprefixed.Given as goal

abbrev pub invariant-loop-rest : goal.invariant-loop-rest
invariant-loop-rest l = list_all goes_on_unprefixed (chars l.rest) ≡ list_all goes_on_unprefixed (chars l.name)

abbrev pub decreases-loop-rest : goal.decreases-loop-rest
decreases-loop-rest l = length l.rest
