use Rattle.std.proofs.Common.{◌≡◌, ◌⊎◌, inl, inr, ◌<◌, refl, arith}
use Rattle.std.specs.Prelude.{None}
use Rattle.nx_marks.specs.Chain.{reach}
use Rattle.nx_marks.proofs.Topping.{found_below, found_top, top-far}
use Rattle.nx_marks.proofs.front.Front.find.Goals.{in-Some+else-place-at, in_default}
use Rattle.nx_marks.proofs.front.Front.find.Goals as goal

pub overflow_sub-place : goal.overflow_sub-place
overflow_sub-place g c =
    let n = top-far c.self.inside.reach c.self.inside.below c.self.inside.top c.in-Some.top c.get.result.now c.self.invariant c.in-Some.is c.get.ensures in
    omega arith

pub returns-then-place-at : goal.returns-then-place-at
returns-then-place-at g c =
    found_top c.args.at c.self.inside.reach _ c.self.inside.below c.args.self.now c.self.inside.top c.in-Some.top c.get.result.now c.get-then-place-at.result.now c.self.view_is c.self.invariant c.in-Some.is c.get.ensures c.get-then-place-at.ensures refl c.if-place-at.true

pub returns : goal.returns
returns g c =
    let apart : (c.self.inside.top ≡ None) ⊎ (c.args.at < reach c.self.inside.below) = elim c.match-self.branch [
      | in-Some+else-place-at w ↦ inr (let n = top-far c.self.inside.reach c.self.inside.below c.self.inside.top w.in-Some.top w.get.result.now c.self.invariant w.in-Some.is w.get.ensures in omega (arith, w.if-place-at.false))
      | in_default w ↦ inl w.in_default.is
    ] in
    found_below c.args.at c.count_up_to.result c.count.result c.min-index.result _ c.self.inside.below c.args.self.now c.self.inside.top c.get-2.result.1.now c.self.view_is apart c.count_up_to.ensures c.count.ensures c.min-index.ensures c.get-2.ensures
