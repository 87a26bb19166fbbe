use Rattle.std.proofs.Common.{ℕ, length, ap, subst, arith}
use Rattle.nx_marks.specs.Chain.{Kept}
use Rattle.nx_marks.specs.Walking.{ComesBack}
use Rattle.nx_marks.proofs.Cutting.{edited_behind, frontier_behind, fits_same}
use Rattle.nx_marks.proofs.line.Line.edit_behind.Goals as goal

pub returns-clause-frontier : goal.returns-clause-frontier
returns-clause-frontier g c = frontier_behind c.args.edit.now.from c.args.self.now c.go_on.new.self c.cut_off.new.self c.come_back.new.self c.requires c.go_on.ensures c.cut_off.ensures.front (let P : ℕ → Type 0 = λ n. ComesBack n c.cut_off.new.self c.come_back.new.self in let front = ap (λ (k : Kept _). length k.front) c.self.view_is in subst P (grind (arith, front, c.count-len.ensures)) c.come_back.ensures)

pub returns-clause-edited : goal.returns-clause-edited
returns-clause-edited g c = λ ordered fits whole ends.
    let k = c.args.self.now in
    let edit = c.args.edit.now in
    let cut = c.cut_off.ensures.cut ordered (fits_same edit.from edit.to edit.added k c.go_on.new.self c.go_on.ensures.all fits) in
    edited_behind edit.from edit.to edit.added k c.go_on.new.self c.cut_off.new.self c.come_back.new.self ordered c.requires whole ends c.go_on.ensures cut c.cut_off.ensures.marked (let P : ℕ → Type 0 = λ n. ComesBack n c.cut_off.new.self c.come_back.new.self in let front = ap (λ (k : Kept _). length k.front) c.self.view_is in subst P (grind (arith, front, c.count-len.ensures)) c.come_back.ensures)
