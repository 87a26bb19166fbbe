use Rattle.std.proofs.Common.{arith, Some, true}
use Rattle.nx_locate.proofs.Stretches.{at_a_star, at_no_text, at_other, at_same, at_whole, at_part}
use Rattle.nx_locate.proofs.pattern.front_len.Goals as goal

pub returns-then-byte-eq42-clause-value : goal.returns-then-byte-eq42-clause-value
returns-then-byte-eq42-clause-value c =
    at_a_star c.args.pattern.now c.args.text.now c.loop-byte.rest.now c.loop-byte.left.now c.loop-byte.len c.loop-byte.invariant.value
    c.in-Some.byte.now c.in-Some.more.now c.in-Some.ensures.cases.0 c.if-byte-eq42.true

pub returns-in_default-split_first-clause-value : goal.returns-in_default-split_first-clause-value
returns-in_default-split_first-clause-value c =
    at_no_text c.args.pattern.now c.args.text.now c.loop-byte.rest.now c.loop-byte.left.now c.loop-byte.len c.loop-byte.invariant.value
    c.in-Some.byte.now c.in-Some.more.now c.in-Some.ensures.cases.0 c.if-byte-eq42.false c.in_default-split_first.ensures.cases

pub returns-then-byte-other-clause-value : goal.returns-then-byte-other-clause-value
returns-then-byte-other-clause-value c =
    at_other c.args.pattern.now c.args.text.now c.loop-byte.rest.now c.loop-byte.left.now c.loop-byte.len c.loop-byte.invariant.value
    c.in-Some.byte.now c.in-Some-split_first.other.now c.in-Some.more.now c.in-Some-split_first.behind.now c.in-Some.ensures.cases.0
    c.in-Some-split_first.ensures.cases.0 c.if-byte-eq42.false c.if-byte-other.true

pub loop-byte-preserved : goal.loop-byte-preserved
loop-byte-preserved c = record {
  value =
      at_same c.args.pattern.now c.args.text.now c.loop-byte.rest.now c.loop-byte.left.now c.loop-byte.len c.loop-byte.invariant.value
      c.in-Some.byte.now c.in-Some-split_first.other.now c.in-Some.more.now c.in-Some-split_first.behind.now c.in-Some.ensures.cases.0
      c.in-Some-split_first.ensures.cases.0 c.if-byte-eq42.false c.if-byte-other.false;
  pattern = omega (arith, c.loop-byte.invariant.pattern, c.in-Some.ensures.cases.1);
  text = omega (arith, c.loop-byte.invariant.text, c.in-Some-split_first.ensures.cases.1);
}

pub returns-then-is_empty-clause-value : goal.returns-then-is_empty-clause-value
returns-then-is_empty-clause-value c =
    at_whole c.args.pattern.now c.args.text.now c.loop-byte.rest.now c.loop-byte.left.now c.loop-byte.len c.loop-byte.invariant.value
    c.in_default.ensures.cases (grind (arith, c.if-is_empty.ensures))

pub returns-else-is_empty-clause-value : goal.returns-else-is_empty-clause-value
returns-else-is_empty-clause-value c =
    at_part c.args.pattern.now c.args.text.now c.loop-byte.rest.now c.loop-byte.left.now c.loop-byte.len c.loop-byte.invariant.value
    c.in_default.ensures.cases (grind (arith, c.if-is_empty.ensures))
