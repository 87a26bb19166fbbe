use Rattle.std.proofs.Common.{◌≡◌, ◌≤◌, false, ap, subst, ◌∙◌, arith}
use Rattle.nx_marks.specs.Chain.{AreWhole, Kept, frontier_of}
use Rattle.nx_marks.specs.Editing.{edit_noted}
use Rattle.nx_marks.specs.Frontier.{FrontierAfterEdit}
use Rattle.nx_marks.specs.Walking.{Fits}
use Rattle.nx_marks.proofs.kept.Kept.edit.Goals as goal

pub edit_behind-requires : goal.edit_behind-requires
edit_behind-requires g c = let n = ap (λ (k : Kept _). frontier_of k) c.arrive.ensures in omega (arith, c.frontier.ensures, c.if-frontier-edit.true)

pub returns-then-frontier-edit-clause-frontier : goal.returns-then-frontier-edit-clause-frontier
returns-then-frontier-edit-clause-frontier g c =
    let P : Kept _ → Type 0 = λ k. FrontierAfterEdit c.args.edit.now.from (frontier_of k) (frontier_of c.edit_behind.new.self) in
    subst P (c.arrive.ensures ∙ c.self.view_is) c.edit_behind.ensures.frontier

pub returns-then-frontier-edit-clause-edited : goal.returns-then-frontier-edit-clause-edited
returns-then-frontier-edit-clause-edited g c =
    let edit = c.args.edit.now in
    let P : Kept _ → Type 0 = λ k. edit.from ≤ edit.to → Fits edit.from edit.to edit.added k → AreWhole k.front → k.here.whole ≡ false → c.edit_behind.new.self ≡ edit_noted edit.from edit.to edit.added k in
    subst P (c.arrive.ensures ∙ c.self.view_is) c.edit_behind.ensures.edited

pub edit_at-requires : goal.edit_at-requires
edit_at-requires g c = omega (arith, c.frontier.ensures, c.if-frontier-edit.false)

pub returns-else-frontier-edit-clause-frontier : goal.returns-else-frontier-edit-clause-frontier
returns-else-frontier-edit-clause-frontier g c =
    let P : Kept _ → Type 0 = λ k. FrontierAfterEdit c.args.edit.now.from (frontier_of k) (frontier_of c.edit_at.new.self) in
    subst P c.self.view_is c.edit_at.ensures.frontier

pub returns-else-frontier-edit-clause-edited : goal.returns-else-frontier-edit-clause-edited
returns-else-frontier-edit-clause-edited g c =
    let edit = c.args.edit.now in
    let P : Kept _ → Type 0 = λ k. edit.from ≤ edit.to → Fits edit.from edit.to edit.added k → AreWhole k.front → k.here.whole ≡ false → c.edit_at.new.self ≡ edit_noted edit.from edit.to edit.added k in
    subst P c.self.view_is c.edit_at.ensures.edited
