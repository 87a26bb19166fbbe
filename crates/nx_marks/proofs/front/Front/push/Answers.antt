use Rattle.std.proofs.Common.{refl}
use Rattle.nx_marks.proofs.Topping.{pushed}
use Rattle.nx_marks.proofs.front.Front.push.Goals as goal

pub invariant_of-self : goal.invariant_of-self
invariant_of-self g c = pushed c.args.self.now c.settle.new.below c.args.mark c.get.result.now c.self.inside.reach _ c.self.invariant c.self.view_is c.settle.ensures.below c.requires.count c.get.ensures refl
