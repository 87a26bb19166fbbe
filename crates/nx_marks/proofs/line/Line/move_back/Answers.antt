use Rattle.std.proofs.Common.{◌≡◌, ◌+◌, [], ◌∷◌, ◌++◌, length, refl, ap, sym, ◌∙◌, arith, append_assoc}
use Rattle.nx_marks.specs.Chain.{Kept, reach}
use Rattle.nx_marks.specs.declared.mark.Mark.{Mark}
use Rattle.nx_marks.proofs.Backs.{reach-append}
use Rattle.nx_marks.proofs.Holding.{held_elsewhere}
use Rattle.nx_marks.proofs.Walking.{moved_back, moved-all}
use Rattle.nx_marks.proofs.line.Line.move_back.Goals as goal

pub extend-requires-clause-reach : goal.extend-requires-clause-reach
extend-requires-clause-reach g c =
    let a = ap reach c.split_off-passed.ensures.all in
    let b = reach-append c.split_off-passed.new.self c.split_off-passed.result in
    let d = ap reach c.pop_first-node.ensures in
    let i = ap (λ (x : Mark _). x.len) c.swap.ensures.single in
    let j = ap reach c.replace-behind.ensures.after in
    let k = ap reach c.replace-behind.ensures.value in
    omega (arith, c.self.invariant.fits)

pub invariant_of-self : goal.invariant_of-self
invariant_of-self g c =
    let node = c.swap.new.self in
    let passed = c.pop_first-node.new.self in
    let aside = c.self.inside.aside in
    let kept : length c.split_off-passed.new.self + c.args.count ≡ length c.self.inside.front = (let n = ap (λ (k : Kept _). length k.front) c.self.view_is in omega (arith, c.split_off-passed.ensures.count, c.count.ensures, c.requires)) in
    let all = c.extend.ensures ∙ ap (λ l. l ++ node ∷ c.replace-behind.result) c.replace-behind.ensures.after ∙ ap (λ l. passed ++ node ∷ l) c.replace-behind.ensures.value ∙ sym (append_assoc passed (node ∷ []) aside) in
    let moved = moved_back c.self.inside.front c.split_off-passed.new.self aside c.extend.new.self (node ∷ []) (passed ++ node ∷ []) c.split_off-passed.result passed c.self.inside.here c.swap.new.mark c.pop_first-node.result node c.self.inside.marked c.args.count
    c.split_off-passed.ensures.all kept c.pop_first-node.ensures c.swap.ensures.single c.swap.ensures.mark refl refl all in
    held_elsewhere c.self.inside.front c.split_off-passed.new.self aside c.extend.new.self c.self.inside.here c.swap.new.mark c.self.invariant (sym (moved-all c.args.count _ _ moved))
