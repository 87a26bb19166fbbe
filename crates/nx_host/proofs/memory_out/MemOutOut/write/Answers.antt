use Rattle.std.proofs.Common.{◌/◌, length, drop, sym, rules}
use Rattle.std.proofs.lemmas.List.{take-append-drop}
use Rattle.nx_host.specs.MemOut.{half_of}
use Rattle.nx_host.proofs.memory_out.MemOutOut.write.Goals as goal

-- the half that was written, and the half that was not
pub returns-then-fails_next-clause-written : goal.returns-then-fails_next-clause-written
returns-then-fails_next-clause-written c =
    let bytes = c.args.bytes.now in
    let half = length bytes / 2 in
    (half_of bytes, drop half bytes, sym (take-append-drop half bytes), search rules)
