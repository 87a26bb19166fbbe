use Rattle.std.proofs.Common.{arith}
use Rattle.nx_text.proofs.NextByte.{near_found, near_passed}
use Rattle.nx_text.proofs.search.up_to_byte.Goals as goal

pub returns-then-near-lt-LANES-clause-first : goal.returns-then-near-lt-LANES-clause-first
returns-then-near-lt-LANES-clause-first c =
    near_found c.args.byte c.loop-passed.passed c.lanes_up_to-near.result c.args.bytes.now (omega arith) c.lanes_up_to-near.ensures
    c.loop-passed.invariant.1 c.if-near-lt-LANES.true

pub loop-passed-preserved : goal.loop-passed-preserved
loop-passed-preserved c = (
  omega arith,
  near_passed c.args.byte c.loop-passed.passed c.lanes_up_to-near.result c.args.bytes.now (omega arith) c.lanes_up_to-near.ensures
      c.loop-passed.invariant.1 c.if-near-lt-LANES.false,
)
