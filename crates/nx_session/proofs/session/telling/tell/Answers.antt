use Rattle.std.proofs.Common.{◌≡◌, List, length, ap, refl, sym, subst, ◌∙◌, arith}
use Rattle.nx_base.specs.declared.change.Change.{Change}
use Rattle.nx_session.proofs.Telling.{Between, begun, one_told, told_whole}
use Rattle.nx_session.proofs.session.telling.tell.Goals as goal

pub loop-change-init : goal.loop-change-init
loop-change-init g c =
    let m = g.A.Machine in
    let all = c.args.changes.now in
    let old = c.args.marks.now.kept in (
      (λ a text utf8 are fit right.
          let B : List Change → Type 0 = λ xs. Between (m.is_state a) (m.means a) (m.rules a) text all xs old old in
          subst B (sym c.as_slice-left.ensures) (begun (m.is_state a) (m.means a) (m.rules a) text all old utf8 are fit right)),
      refl,
    )

pub loop-change-preserved : goal.loop-change-preserved
loop-change-preserved g c =
    let m = g.A.Machine in
    let now = c.loop-change.marks.kept in
    let next = c.edit.new.self.kept in
    let old = c.args.marks.now.kept in
    let all = c.args.changes.now in (
      (λ a text utf8 are fit right.
          let B : List Change → Type 0 = λ xs. Between (m.is_state a) (m.means a) (m.rules a) text all xs old now in
          one_told (m.is_state a) (m.means a) (m.rules a) text all c.in-Some.change.now c.in-Some.others.now old now next
          c.edit_of.result c.edit_of.ensures
          (λ t added u v from to ordered len fits fits_then is_right.
          (c.edit.ensures.right a t added u v from to ordered len fits fits_then is_right, c.edit.ensures.told a t added u v from to ordered len fits fits_then is_right))
          c.edit.ensures.frontier (subst B c.in-Some.ensures.cases.0 (c.loop-change.invariant.0 a text utf8 are fit right))),
      c.edit.ensures.taken ∙ c.loop-change.invariant.1,
    )

pub loop-change-smaller : goal.loop-change-smaller
loop-change-smaller g c = let len = ap length c.in-Some.ensures.cases.0 in omega arith

pub returns-clause-told : goal.returns-clause-told
returns-clause-told g c = λ a text utf8 are fit right.
    let m = g.A.Machine in
    told_whole (m.is_state a) (m.means a) (m.rules a) text c.args.changes.now c.loop-change.left.now c.args.marks.now.kept c.loop-change.marks.kept
    c.in_default.ensures.cases (c.loop-change.invariant.0 a text utf8 are fit right)
