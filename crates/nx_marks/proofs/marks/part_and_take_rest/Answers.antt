use Rattle.std.proofs.Common.{◌-◌, ◌≤◌, OnOk, ap, subst, sym, ◌∙◌}
use Rattle.nx_marks.specs.Chain.{Kept, frontier_of}
use Rattle.nx_marks.specs.Frontier.{MovesOver}
use Rattle.nx_marks.specs.Keeping.{KeepsMarks}
use Rattle.nx_marks.specs.Right.{IsRight}
use Rattle.nx_marks.proofs.marks.part_and_take_rest.Goals as goal

pub take_rest-requires-clause-right : goal.take_rest-requires-clause-right
take_rest-requires-clause-right g c =
    let e = c.arrive.ensures ∙ c.kept.view_is in
    let P : Kept _ → Type 0 = λ k. IsRight (g.A.Machine.is_state c.args.machine.now) (g.A.Machine.means c.args.machine.now) (g.A.Machine.rules c.args.machine.now) c.args.text.now k in
    subst P (sym e) c.requires.right

pub take_rest-requires-clause-none_aside : goal.take_rest-requires-clause-none_aside
take_rest-requires-clause-none_aside g c = ap (λ (k : Kept _). k.aside) (c.arrive.ensures ∙ c.kept.view_is) ∙ c.requires.none_aside

pub returns-clause-frontier : goal.returns-clause-frontier
returns-clause-frontier g c =
    let P : Kept _ → Type 0 = λ k. frontier_of k ≤ frontier_of c.take_rest.new.line in subst P (c.arrive.ensures ∙ c.kept.view_is) c.take_rest.ensures.frontier

pub returns-clause-on : goal.returns-clause-on
returns-clause-on g c =
    let P : Kept _ → Type 0 = λ k. OnOk c.take_rest.result (MovesOver c.args.text.now (frontier_of k) (c.take_rest.new.taken - c.args.taken.now) (frontier_of c.take_rest.new.line)) in
    subst P (c.arrive.ensures ∙ c.kept.view_is) c.take_rest.ensures.on

pub returns-clause-keeps : goal.returns-clause-keeps
returns-clause-keeps g c =
    let P : Kept _ → Type 0 = λ k. KeepsMarks (g.A.Machine.means c.args.machine.now) (g.A.Machine.rules c.args.machine.now) c.args.text.now k c.take_rest.new.line in
    subst P (c.arrive.ensures ∙ c.kept.view_is) c.take_rest.ensures.keeps
