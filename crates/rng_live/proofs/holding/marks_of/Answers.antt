use Rattle.std.proofs.Common.{◌≡◌, ℕ, List, None, ◌<◌, ◌≤◌, length, ap, subst, refl, ◌∙◌, arith}
use Rattle.rng_restrict.proofs.Reached.{few}
use Rattle.rng_live.specs.Marking.{AreSettled, judged}
use Rattle.rng_live.proofs.Settling.{settled_more, next_woken, settled_held}
use Rattle.rng_live.proofs.holding.marks_of.Goals as goal

pub loop-number-preserved : goal.loop-number-preserved
loop-number-preserved c = record {
  settled = settled_more _ _ c.loop-number.number c.loop-number.held.found.items c.judge.new.self.found.items
      (c.in_ok-judge.ensures.found ∙ ap (λ (n : ℕ). judged c.args.conditions.now n c.loop-number.number c.loop-number.held.found.items) c.loop-number.invariant.whole) c.loop-number.invariant.settled;
  whole = c.in_ok-judge.ensures.steady ∙ c.loop-number.invariant.whole;
}

pub loop-next-init : goal.loop-next-init
loop-next-init c =
    let end : c.loop-number.number ≡ length c.args.conditions.now = omega arith in
    record {
      settled = subst (λ (n : ℕ). AreSettled c.args.conditions.now c.in_ok-waiting.waiting.waiters.items None 0 0 n c.loop-number.held.found.items) end c.loop-number.invariant.settled;
      whole = c.loop-number.invariant.whole;
    }

pub loop-next-smaller : goal.loop-next-smaller
loop-next-smaller c =
    let inside : c.loop-next.next < length c.loop-next.held.found.items = omega (arith, c.len.ensures, c.loop-next.held.found.ok.0, c.loop-next-test.true) in
    let most = few c.loop-next.held.found.items c.loop-next.held.marks.items c.loop-next.held.marked in
    omega (arith, inside, most, c.loop-next.invariant.whole)

pub loop-next-preserved : goal.loop-next-preserved
loop-next-preserved c =
    let inside : c.loop-next.next < length c.loop-next.held.found.items = omega (arith, c.len.ensures, c.loop-next.held.found.ok.0, c.loop-next-test.true) in
    record {
      settled = next_woken c.in_ok-waiting.ensures inside c.index-number.ensures c.in_ok-wake.ensures.woken c.loop-next.invariant.settled;
      whole = c.in_ok-wake.ensures.steady ∙ c.loop-next.invariant.whole;
    }

pub returns : goal.returns
returns c =
    let end : length c.loop-next.held.found.items ≤ c.loop-next.next = omega (arith, c.len.ensures, c.loop-next.held.found.ok.0, c.loop-next-test.false) in
    settled_held c.loop-next.invariant.settled end refl c.loop-next.held.marks.items c.loop-next.held.marked
