use Rattle.std.proofs.Common.{ap, subst, sym, ◌∙◌}
use Rattle.nx_marks.specs.Bound.{WillReach}
use Rattle.nx_marks.specs.Chain.{Kept, frontier_of}
use Rattle.nx_marks.specs.Right.{IsRight}
use Rattle.nx_marks.proofs.Stepping.{own_states, begun_at}
use Rattle.nx_marks.proofs.Taking.{begun_right}
use Rattle.nx_marks.proofs.Bounding.{begun_near}
use Rattle.nx_marks.specs.Keeping.{KeepsMarks}
use Rattle.nx_marks.proofs.Keeping.{keeps_all, keeps_begun}
use Rattle.nx_marks.proofs.line.save_here.Goals as goal

pub copy-requires : goal.copy-requires
copy-requires g c =
    let m = g.A.Machine in
    let a = c.args.machine.now in
    let P : Kept _ → Type 0 = λ k. m.is_state a k.here.state in
    subst P (sym c.line.view_is) (own_states (m.is_state a) (m.means a) (m.rules a) c.args.text.now c.args.line.now c.requires.right).here

pub returns-clause-right : goal.returns-clause-right
returns-clause-right g c =
    let m = g.A.Machine in
    let a = c.args.machine.now in
    let marked = c.requires.marked in
    let P : Kept _ → Type 0 = λ k. IsRight (m.is_state a) (m.means a) (m.rules a) c.args.text.now k in
    let meaning = c.in_ok-state.ensures.meaning ∙ ap (λ (k : Kept _). m.means a k.here.state) c.line.view_is in
    subst P (sym c.in_ok-begin.ensures.ok) (begun_right (m.is_state a) (m.means a) (m.rules a) c.args.text.now c.args.line.now c.in_ok-state.state c.in_ok-state.ensures.state meaning marked c.requires.right)

pub returns-clause-frontier : goal.returns-clause-frontier
returns-clause-frontier g c = ap (λ (k : Kept _). frontier_of k) c.in_ok-begin.ensures.ok ∙ begun_at c.args.line.now c.in_ok-state.state

pub returns-clause-near : goal.returns-clause-near
returns-clause-near g c = λ n end w.
    let m = g.A.Machine in
    let a = c.args.machine.now in
    let P : Kept _ → Type 0 = λ k. WillReach (m.means a) (m.rules a) c.args.text.now n end k in
    subst P (sym c.in_ok-begin.ensures.ok) (begun_near (m.is_state a) (m.means a) (m.rules a) c.args.text.now c.args.line.now c.in_ok-state.state n end w)

pub returns-clause-keeps : goal.returns-clause-keeps
returns-clause-keeps g c =
    let m = g.A.Machine in
    let a = c.args.machine.now in
    let marked = c.requires.marked in
    let P : Kept _ → Type 0 = λ k. KeepsMarks (m.means a) (m.rules a) c.args.text.now c.args.line.now k in
    subst P (sym c.in_ok-begin.ensures.ok) (keeps_begun (m.means a) (m.rules a) c.args.text.now c.args.line.now c.in_ok-state.state marked)

pub returns-in_err-state-clause-keeps : goal.returns-in_err-state-clause-keeps
returns-in_err-state-clause-keeps g c = keeps_all (g.A.Machine.means c.args.machine.now) (g.A.Machine.rules c.args.machine.now) c.args.text.now c.args.line.now

pub returns-in_err-begin-clause-keeps : goal.returns-in_err-begin-clause-keeps
returns-in_err-begin-clause-keeps g c =
    let m = g.A.Machine in
    let a = c.args.machine.now in
    let P : Kept _ → Type 0 = λ k. KeepsMarks (m.means a) (m.rules a) c.args.text.now c.args.line.now k in
    subst P (sym c.in_err-begin.ensures.err) (keeps_all (m.means a) (m.rules a) c.args.text.now c.args.line.now)
