use Rattle.std.proofs.Common.{[], ◌∷◌, refl, sym, ◌∙◌, arith}
use Rattle.nx_marks.proofs.Topping.{settled-far}
use Rattle.nx_marks.proofs.front.settle.Goals as goal

pub push-requires-clause-reach : goal.push-requires-clause-reach
push-requires-clause-reach g c =
    let far = settled-far c.args.below.now (c.in-Some.last ∷ []) c.args.top.now c.in-Some.last c.requires.reach (sym c.take.ensures.value ∙ c.in-Some.is) refl in
    omega arith
