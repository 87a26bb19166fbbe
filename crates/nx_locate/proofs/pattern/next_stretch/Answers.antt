use Rattle.std.proofs.Common.{arith}
use Rattle.nx_locate.proofs.Stretches.{found_here, found_at_end, none_at_end, stopped, further}
use Rattle.nx_locate.proofs.pattern.next_stretch.Goals as goal

pub returns-in-Some-front_len-clause-value : goal.returns-in-Some-front_len-clause-value
returns-in-Some-front_len-clause-value c =
    found_here c.args.pattern.now c.args.text.now c.loop-byte.left.now c.loop-byte.run c.loop-byte.invariant.value
    c.in-Some.byte.now c.in-Some-front_len.front c.in-Some.behind.now c.in-Some.ensures.cases.0 c.in-Some-front_len.ensures.value

pub returns-then-byte-eq47-clause-value : goal.returns-then-byte-eq47-clause-value
returns-then-byte-eq47-clause-value c =
    stopped c.args.pattern.now c.args.text.now c.loop-byte.left.now c.loop-byte.run c.loop-byte.invariant.value
    c.in-Some.byte.now c.in-Some.behind.now c.in-Some.ensures.cases.0 c.in_default-front_len.ensures.value c.if-byte-eq47.true

pub loop-byte-preserved : goal.loop-byte-preserved
loop-byte-preserved c = record {
  value =
      further c.args.pattern.now c.args.text.now c.loop-byte.left.now c.loop-byte.run c.loop-byte.invariant.value
      c.in-Some.byte.now c.in-Some.behind.now c.in-Some.ensures.cases.0 c.in_default-front_len.ensures.value c.if-byte-eq47.false;
  text = omega (arith, c.loop-byte.invariant.text, c.in-Some.ensures.cases.1);
}

pub returns-in-Some-front_len-2-clause-value : goal.returns-in-Some-front_len-2-clause-value
returns-in-Some-front_len-2-clause-value c =
    found_at_end c.args.pattern.now c.args.text.now c.loop-byte.left.now c.loop-byte.run c.loop-byte.invariant.value
    c.in-Some-front_len-2.front c.in_default.ensures.cases c.in-Some-front_len-2.ensures.value

pub returns-in-None-clause-value : goal.returns-in-None-clause-value
returns-in-None-clause-value c =
    none_at_end c.args.pattern.now c.args.text.now c.loop-byte.left.now c.loop-byte.run c.loop-byte.invariant.value
    c.in_default.ensures.cases c.in-None.ensures.value
