use Rattle.std.proofs.Common.{ℕ, List, Some, subst, arith}
use Rattle.nx_events.specs.Places.{PutsAt}
use Rattle.rngx_read.proofs.Indexing.{none_indexed, one_indexed}
use Rattle.rngx_read.proofs.declarations.places_of.Goals as goal

pub loop-place-init : goal.loop-place-init
loop-place-init c = none_indexed c.new-places.result c.new-places.ensures.empty

pub loop-place-preserved : goal.loop-place-preserved
loop-place-preserved c =
    one_indexed c.args.pairs.now c.loop-place.place c.index-pairs-place.result c.loop-place.places c.put.new.places
    (omega arith) c.index-pairs-place.is
    c.loop-place.invariant
    (subst (λ (prefix : List ℕ). PutsAt prefix (Some c.loop-place.place) c.loop-place.places c.put.new.places) c.as_slice.ensures c.in_ok-put.ensures)
