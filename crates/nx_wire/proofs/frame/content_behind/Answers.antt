use Rattle.std.proofs.Common.{arith, inr}
use Rattle.nx_wire.proofs.Framing.{not_yet, too_great, whole}
use Rattle.nx_wire.proofs.frame.content_behind.Goals as goal

pub returns-then-len-gt-MOST_BODY : goal.returns-then-len-gt-MOST_BODY
returns-then-len-gt-MOST_BODY c = too_great c.args.bytes.now c.args.at c.args.len c.requires.head (omega (arith, c.if-len-gt-MOST_BODY.true))

pub returns-then-len-bytes : goal.returns-then-len-bytes
returns-then-len-bytes c = (
  not_yet c.args.bytes.now c.args.at c.args.len c.requires.head c.requires.at (omega (arith, c.if-len-bytes.true)),
  inr (c.args.at, c.args.len, c.requires.head, omega (arith, c.if-len-gt-MOST_BODY.false), omega (arith, c.requires.at, c.if-len-bytes.true)),
)

pub returns : goal.returns
returns c =
    whole c.args.bytes.now c.args.at c.args.len c.requires.head c.requires.at (omega (arith, c.if-len-gt-MOST_BODY.false))
    (omega (arith, c.if-len-bytes.false))
