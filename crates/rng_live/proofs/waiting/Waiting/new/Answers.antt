use Rattle.std.proofs.Common.{◌≡◌, ℕ, ◌<◌, length, subst, arith}
use Rattle.std.proofs.lemmas.Option.{slice_get-get_or}
use Rattle.rng_live.specs.Marking.{AreListed}
use Rattle.rng_live.proofs.Listing.{listed_none, listed_more}
use Rattle.rng_live.proofs.waiting.Waiting.new.Goals as goal

pub loop-number-init : goal.loop-number-init
loop-number-init c = listed_none c.args.conditions.now _ _ c.new.ensures.items c.in_ok-lists.ensures

pub loop-number-preserved : goal.loop-number-preserved
loop-number-preserved c =
    let inside : c.loop-number.number < length c.args.conditions.now = omega arith in
    listed_more c.args.conditions.now c.loop-number.number _ (slice_get-get_or c.args.conditions.now c.loop-number.number _ inside) c.loop-number.invariant c.in_ok-add_all.ensures

pub returns : goal.returns
returns c =
    let end : c.loop-number.number ≡ length c.args.conditions.now = omega arith in
    subst (λ (n : ℕ). AreListed c.args.conditions.now n c.loop-number.waiting.waiters.items c.loop-number.waiting.lists.items) end c.loop-number.invariant
