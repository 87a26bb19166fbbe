use Rattle.std.proofs.Common.{◌∙◌}
use Rattle.rng_live.proofs.Settling.{waking_more, waking_ends, waking_whole}
use Rattle.rng_live.proofs.holding.Held.wake.Goals as goal

pub returns-in_default-waiter-clause-woken : goal.returns-in_default-waiter-clause-woken
returns-in_default-waiter-clause-woken c = waking_ends c.in-Some.is c.in_default-waiter.ensures c.loop-list.invariant.waking

pub loop-list-preserved : goal.loop-list-preserved
loop-list-preserved c = record {
  waking = waking_more c.in-Some-waiter.waiter.now c.in-Some.is c.in-Some-waiter.ensures c.loop-list.invariant.whole c.in_ok-judge.ensures.found c.loop-list.invariant.waking;
  steady = c.in_ok-judge.ensures.steady ∙ c.loop-list.invariant.steady;
  whole = c.in_ok-judge.ensures.steady ∙ c.loop-list.invariant.whole;
}

pub returns-clause-woken : goal.returns-clause-woken
returns-clause-woken c = waking_whole c.in_default.is c.loop-list.invariant.waking
