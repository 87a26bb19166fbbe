use Rattle.std.proofs.Common.{◌≡◌, ◌∙◌, ℕ, List, sym, ap, arith, map}
use Rattle.std.proofs.lemmas.Bool.{false≢true}
use Rattle.std.proofs.lemmas.List.{length-map}
use Rattle.rng_core.specs.Patterns.{Definition}
use Rattle.rng_core.specs.Meaning.{definition_of}
use Rattle.rng_cost.proofs.Exact.{are_least}
use Rattle.rng_cost.proofs.Passing.{right_first, round_right, round_settled, round_smaller, flag}
use Rattle.rng_cost.proofs.rounds.least_costs.Goals as goal

pub loop-falling-init : goal.loop-falling-init
loop-falling-init c = record {
  right = right_first c.in_ok-costs.costs.items c.len.result c.in_ok-costs.ensures (c.len.ensures ∙ sym (length-map c.args.defs.now definition_of));
  settled = λ is. absurd (false≢true (sym is));
}

pub loop-falling-preserved : goal.loop-falling-preserved
loop-falling-preserved c =
    let g : List Definition = map definition_of c.args.defs.now in
    let old : List ℕ = c.loop-falling.costs.items in
    let new : List ℕ = c.settle_all-falling.new.costs.items in
    record {
      right = round_right g 0 old new c.settle_all-falling.result c.loop-falling.invariant.right c.settle_all-falling.ensures;
      settled = round_settled g old new c.settle_all-falling.result c.settle_all-falling.ensures;
    }

pub loop-falling-smaller : goal.loop-falling-smaller
loop-falling-smaller c =
    let g : List Definition = map definition_of c.args.defs.now in
    let old : List ℕ = c.loop-falling.costs.items in
    let new : List ℕ = c.settle_all-falling.new.costs.items in
    let smaller = round_smaller g 0 old new c.settle_all-falling.result c.settle_all-falling.ensures in
    let on : flag c.loop-falling.falling ≡ 1 = ap flag c.loop-falling-test.true in
    omega (arith, smaller, on)

pub returns : goal.returns
returns c = are_least c.loop-falling.invariant.right (c.loop-falling.invariant.settled c.loop-falling-test.false)
