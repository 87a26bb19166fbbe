use Rattle.std.proofs.Common.{arith, inl}
use Rattle.nx_wire.proofs.Framing.{head_never, no_head}
use Rattle.nx_wire.proofs.frame.partial_frame.Goals as goal

pub returns-then-bytes-gt-MOST_HEAD : goal.returns-then-bytes-gt-MOST_HEAD
returns-then-bytes-gt-MOST_HEAD c = head_never c.args.bytes.now c.requires.none (omega (arith, c.if-bytes-gt-MOST_HEAD.true))

pub returns-else-bytes-gt-MOST_HEAD : goal.returns-else-bytes-gt-MOST_HEAD
returns-else-bytes-gt-MOST_HEAD c = (no_head c.args.bytes.now c.requires.none, inl (c.requires.none, c.requires.unfinished, omega (arith, c.if-bytes-gt-MOST_HEAD.false)))
