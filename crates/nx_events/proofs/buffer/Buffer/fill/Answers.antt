use Rattle.std.proofs.Common.{◌≡◌, length, rules}
use Rattle.nx_events.proofs.Buffers.{over_front}
use Rattle.nx_events.proofs.buffer.Buffer.fill.Goals as goal

pub returns-then-len : goal.returns-then-len
returns-then-len c =
    let b = c.self.inside in
    let now : c.as_mut_slice.result.now ≡ b.memory.items = search rules in
    rw (← now) (over_front c.as_mut_slice.result.now c.args.bytes.now c.copy_to_front.new.memory (length c.args.bytes.now) b.memory.len
    (search rules) (search rules) (search rules))
