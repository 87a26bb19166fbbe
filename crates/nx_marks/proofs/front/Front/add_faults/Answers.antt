use Rattle.std.proofs.Common.{refl, ap, arith}
use Rattle.std.specs.Option.{option_to_list}
use Rattle.nx_marks.specs.Chain.{reach}
use Rattle.nx_marks.proofs.Backs.{reach-append}
use Rattle.nx_marks.proofs.Faults.{fit-below, fit-top, listed-top}
use Rattle.nx_marks.proofs.Topping.{top-far}
use Rattle.nx_marks.proofs.front.Front.add_faults.Goals as goal

pub add_faults-requires-clause-fit : goal.add_faults-requires-clause-fit
add_faults-requires-clause-fit g c = fit-below c.count.result c.self.inside.below c.args.self.now c.self.inside.top c.self.view_is c.count.ensures c.requires

pub add_faults-requires-clause-fits : goal.add_faults-requires-clause-fits
add_faults-requires-clause-fits g c =
    let a = ap reach c.self.view_is in
    let b = reach-append c.self.inside.below (option_to_list c.self.inside.top) in
    omega (arith, c.reach-reach.ensures, c.reach-reach.type_inv)

pub overflow_sub-reach : goal.overflow_sub-reach
overflow_sub-reach g c =
    let a = ap reach c.self.view_is in
    let b = c.self.invariant.reaches in
    let n = top-far c.self.inside.reach c.self.inside.below c.self.inside.top c.in-Some.top c.get-mark.result.now c.self.invariant c.in-Some.is c.get-mark.ensures in
    omega (arith, c.reach-reach.ensures)

pub add_faults-requires-in-Some : goal.add_faults-requires-in-Some
add_faults-requires-in-Some g c =
    fit-top c.reach-reach.result _ c.self.inside.below c.args.self.now c.self.inside.top c.in-Some.top c.get-mark.result.now c.self.view_is c.in-Some.is c.get-mark.ensures c.reach-reach.ensures c.reach-reach.type_inv refl c.requires

pub returns-in_ok-add_faults-2 : goal.returns-in_ok-add_faults-2
returns-in_ok-add_faults-2 g c =
    listed-top c.reach-reach.result _ c.count.result c.self.inside.below c.args.self.now c.self.inside.top c.in-Some.top c.get-mark.result.now c.args.faults.now c.add_faults.new.faults _ c.self.view_is c.in-Some.is c.get-mark.ensures c.reach-reach.ensures refl c.count.ensures c.in_ok-add_faults.ensures c.in_ok-add_faults-2.ensures
