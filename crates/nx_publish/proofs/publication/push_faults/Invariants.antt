-- The cursor stands in the text, and the diagnostics so far and those of the faults that are left are all of them.
use Rattle.std.proofs.Common.{◌≡◌, ◌++◌, length, map}
use Rattle.nx_lines.specs.Cursors.{IsAtPlace}
use Rattle.nx_publish.specs.Published.{fault_data}
use Rattle.serde_json.specs.View.{view}
use Rattle.nx_publish.proofs.publication.push_faults.Given as goal

abbrev pub invariant-loop-fault : goal.invariant-loop-fault
invariant-loop-fault l =
    (map view l.list.items ++ map (fault_data l.fn.encoding l.text) l.rest ≡ map view l.initial.list.items ++ map (fault_data l.fn.encoding l.text) l.faults)
    × IsAtPlace l.text l.cursor × (l.cursor.encoding ≡ l.fn.encoding)

abbrev pub decreases-loop-fault : goal.decreases-loop-fault
decreases-loop-fault l = length l.rest
