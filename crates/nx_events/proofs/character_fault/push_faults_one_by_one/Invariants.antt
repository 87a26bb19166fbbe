use Rattle.std.proofs.Common.{◌≡◌, ◌+◌, ◌<◌, ◌++◌, ◌^◌, length}
use Rattle.nx_events.specs.Faults.{faults_as_items}
use Rattle.nx_events.specs.CharacterFaults.{faults_behind, character_faults}
use Rattle.nx_events.proofs.character_fault.push_faults_one_by_one.Given as goal

abbrev pub invariant-loop-rest : goal.invariant-loop-rest
invariant-loop-rest l =
    (l.at + length l.rest < 2 ^ 64)
    × (l.items ++ faults_as_items (faults_behind l.told l.reading l.at l.rest) ≡ l.initial.items ++ faults_as_items (character_faults l.reading l.initial.at l.bytes))

abbrev pub decreases-loop-rest : goal.decreases-loop-rest
decreases-loop-rest l = length l.rest
