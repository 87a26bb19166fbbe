use Rattle.std.proofs.Common.{arith}
use Rattle.nx_locate.proofs.Making.{fill_more, fill_whole}
use Rattle.nx_locate.proofs.uri_pattern.fill_all.Goals as goal

pub loop-byte-preserved : goal.loop-byte-preserved
loop-byte-preserved c =
    fill_more c.args.pattern.now c.loop-byte.byte-index c.loop-byte.left.now _ c.loop-byte.out.items c.fill.new.out.items _
    (omega arith) c.in_ok-left.ensures.filled c.in_ok-left.ensures.behind c.loop-byte.invariant

pub returns : goal.returns
returns c = fill_whole c.args.pattern.now c.loop-byte.byte-index c.loop-byte.left.now c.loop-byte.out.items _ (omega arith) c.loop-byte.invariant
