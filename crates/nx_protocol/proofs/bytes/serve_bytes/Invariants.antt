-- So many bytes are served, and what they are answered with is added.
use Rattle.std.proofs.Common.{◌-◌, length}
use Rattle.nx_protocol.proofs.Going.{Going}
use Rattle.nx_protocol.specs.Serving.{state}
use Rattle.nx_protocol.proofs.bytes.serve_bytes.Given as goal

abbrev pub invariant-loop-alloc : goal.invariant-loop-alloc
invariant-loop-alloc g l =
    Going (state l.initial.talk (g.D.Documents.held l.initial.documents)) l.bytes l.initial.out.items l.used
    (state l.talk (g.D.Documents.held l.documents)) l.out.items

abbrev pub decreases-loop-alloc : goal.decreases-loop-alloc
decreases-loop-alloc g l = length l.bytes - l.used
