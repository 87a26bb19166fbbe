use Rattle.std.proofs.Common.{◌≡◌, ◌+◌, ◌<◌, ◌^◌, ◌++◌, length}
use Rattle.nx_events.specs.Tags.{attributes_from}
use Rattle.nx_events.proofs.tag.attributes_from.Given as goal

abbrev pub invariant-loop-rest : goal.invariant-loop-rest
invariant-loop-rest l = (l.at + length l.rest < 2 ^ 64) × (l.out.items ++ attributes_from 0 l.at l.rest ≡ attributes_from 0 l.initial.at l.bytes)

abbrev pub decreases-loop-rest : goal.decreases-loop-rest
decreases-loop-rest l = length l.rest
