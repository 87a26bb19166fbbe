use Rattle.std.proofs.Common.{ℕ, subst, sym}
use Rattle.nx_base.specs.Text.{edited}
use Rattle.nx_marks.specs.Chain.{Kept}
use Rattle.nx_marks.specs.Editing.{edit_kept}
use Rattle.nx_marks.specs.Right.{IsRight}
use Rattle.nx_marks.specs.Walking.{Fits}
use Rattle.nx_marks.proofs.Moving.{fits_text}
use Rattle.nx_marks.proofs.Rules.{edit_right}
use Rattle.nx_marks.proofs.Noting.{edited_from_noted, frontier_from_noted}
use Rattle.nx_marks.proofs.marks.Marks.edit.Goals as goal

pub returns-clause-right : goal.returns-clause-right
returns-clause-right g c = λ a t added utf8 added_utf8 f u o long small new h.
    let m = g.A.Machine in
    let k = c.args.self.now.kept in
    let from = c.args.edit.now.from in
    let to = c.args.edit.now.to in
    let F : ℕ → Type 0 = λ n. Fits from to n k in
    let E : ℕ → Type 0 = λ n. IsRight (m.is_state a) (m.means a) (m.rules a) (edited t from to added) (edit_kept from to n k) in
    let P : Kept _ → Type 0 = λ i. IsRight (m.is_state a) (m.means a) (m.rules a) (edited t from to added) i in
    let fits = subst F (sym long) (fits_text (m.is_state a) (m.means a) (m.rules a) t added from to k utf8 added_utf8 f u o h small new) in
    let done = edited_from_noted from to c.args.edit.now.added k c.note.new.self c.edit.new.self c.note.ensures (c.edit.ensures.edited o) fits h.holds.whole h.holds.ends in
    subst P (sym done) (subst E (sym long) (edit_right (m.is_state a) (m.means a) (m.rules a) (g.met.A.Machine.rule_laws a) t added from to utf8 added_utf8 f u o k h))

pub returns-clause-told : goal.returns-clause-told
returns-clause-told g c = λ a t added utf8 added_utf8 f u o long small new h.
    let m = g.A.Machine in
    let k = c.args.self.now.kept in
    let from = c.args.edit.now.from in
    let to = c.args.edit.now.to in
    let F : ℕ → Type 0 = λ n. Fits from to n k in
    let fits = subst F (sym long) (fits_text (m.is_state a) (m.means a) (m.rules a) t added from to k utf8 added_utf8 f u o h small new) in
    edited_from_noted from to c.args.edit.now.added k c.note.new.self c.edit.new.self c.note.ensures (c.edit.ensures.edited o) fits h.holds.whole h.holds.ends

pub returns-clause-frontier : goal.returns-clause-frontier
returns-clause-frontier g c = frontier_from_noted c.args.edit.now.from c.args.self.now.kept c.note.new.self c.edit.new.self c.note.ensures c.edit.ensures.frontier

pub returns-clause-fits : goal.returns-clause-fits
returns-clause-fits g c = λ ordered fits whole ends.
    let edit = c.args.edit.now in
    edited_from_noted edit.from edit.to edit.added c.args.self.now.kept c.note.new.self c.edit.new.self c.note.ensures (c.edit.ensures.edited ordered) fits whole ends
