use Rattle.std.proofs.Common.{arith}
use Rattle.nx_wire.proofs.Framing.{no_length, too_long}
use Rattle.nx_wire.proofs.frame.frame_behind.Goals as goal

pub returns-then-at-gt-MOST_HEAD : goal.returns-then-at-gt-MOST_HEAD
returns-then-at-gt-MOST_HEAD c = too_long c.args.bytes.now c.args.at _ c.requires.head (omega (arith, c.if-at-gt-MOST_HEAD.true))

pub returns-in-None : goal.returns-in-None
returns-in-None c = no_length c.args.bytes.now c.args.at _ c.requires.head c.in-None.ensures.none
