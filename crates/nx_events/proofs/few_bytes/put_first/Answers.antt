use Rattle.std.proofs.Common.{◌≡◌, ◌+◌, length, take, arith, length-take-le}
use Rattle.std.proofs.lemmas.Simd.{take_more_put_chunk}
use Rattle.nx_events.proofs.few_bytes.put_first.Goals as goal

pub returns-clause-copied : goal.returns-clause-copied
returns-clause-copied g c =
    let first = take g.row.N c.args.bytes.now in
    let long : length first ≡ g.row.N = length-take-le g.row.N c.args.bytes.now c.requires.enough in
    take_more_put_chunk c.args.at c.args.memory.now first (c.args.at + g.row.N) (omega (arith, long)) c.requires.room
