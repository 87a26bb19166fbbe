use Rattle.std.proofs.Common.{[], ◌++◌, ◌∷◌, refl, sym, ap, ◌∙◌, arith, append_assoc}
use Rattle.nx_marks.specs.Chain.{reach}
use Rattle.nx_marks.specs.declared.mark.Mark.{Mark}
use Rattle.nx_marks.proofs.Backs.{reach-append}
use Rattle.nx_marks.proofs.Holding.{further, held_elsewhere}
use Rattle.nx_marks.proofs.Walking.{moved_on, moved-all}
use Rattle.nx_marks.proofs.line.Line.move_on.Goals as goal

pub extend-requires-clause-reach : goal.extend-requires-clause-reach
extend-requires-clause-reach g c =
    let a = ap reach c.split_off-behind.ensures.all in
    let b = reach-append c.split_off-behind.new.self c.split_off-behind.result in
    let d = further c.split_off-behind.new.self c.pop_last-node.new.self c.pop_last-node.result c.pop_last-node.ensures in
    let i = ap (λ (x : Mark _). x.len) c.swap.ensures.single in
    let j = ap reach c.replace-passed.ensures.value in
    omega (arith, c.self.invariant.fits)

pub invariant_of-self : goal.invariant_of-self
invariant_of-self g c =
    let front = c.self.inside.front in
    let node = c.swap.new.self in
    let passed = c.pop_last-node.new.self in
    let all = c.extend.ensures ∙ ap (λ l. front ++ node ∷ l) c.replace-passed.ensures.value ∙ sym (append_assoc front (node ∷ []) passed) in
    let moved = moved_on front (front ++ node ∷ []) c.extend.new.self c.self.inside.aside c.split_off-behind.new.self c.split_off-behind.result passed c.self.inside.here c.swap.new.mark c.pop_last-node.result node c.self.inside.marked c.args.count
    c.split_off-behind.ensures.all c.split_off-behind.ensures.count c.pop_last-node.ensures c.swap.ensures.single c.swap.ensures.mark refl all in
    held_elsewhere front c.extend.new.self c.self.inside.aside c.replace-passed.new.dest c.self.inside.here c.swap.new.mark c.self.invariant (ap (λ l. c.extend.new.self ++ c.swap.new.mark ∷ l) c.replace-passed.ensures.after ∙ moved-all c.args.count _ _ moved)
