use Rattle.nx_events.proofs.Buffers.{three_at_most}
use Rattle.nx_events.proofs.few_bytes.put_three_at_most.Goals as goal

pub returns-clause-copied : goal.returns-clause-copied
returns-clause-copied c = three_at_most c.args.bytes.now c.args.memory.now c.requires.some c.requires.few c.requires.room
