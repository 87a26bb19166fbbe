use Rattle.std.proofs.Common.{List, subst, sym}
use Rattle.rng_simplify.specs.Shown.{AreSized}
use Rattle.rng_simplify.specs.declared.shape.Entry.{Entry}
use Rattle.rng_simplify.proofs.Showing.{one_more_seen}
use Rattle.rng_simplify.proofs.shape.Shapes.add.Goals as goal

pub invariant_of-self-2 : goal.invariant_of-self-2
invariant_of-self-2 c = let P : List Entry → Type 0 = AreSized in subst P (sym c.in_ok-push.ensures.items) (one_more_seen _ _ _ c.self.view_is c.self.invariant c.requires c.size_of-size.ensures)
