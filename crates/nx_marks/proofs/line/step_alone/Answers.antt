use Rattle.std.proofs.Common.{◌≡◌, ◌+◌, List, length, refl, true, ap, subst, sym, ◌∙◌, arith}
use Rattle.nx_marks.specs.Chain.{Kept, frontier_of, reach}
use Rattle.nx_marks.specs.Right.{IsRight, tags_behind}
use Rattle.nx_marks.specs.Keeping.{KeepsMarks}
use Rattle.nx_marks.specs.declared.mark.Mark.{Mark}
use Rattle.nx_marks.proofs.Alone.{alone, held_alone, went}
use Rattle.nx_marks.proofs.Holding.{further}
use Rattle.nx_marks.proofs.Keeping.{keeps_same, standing-same}
use Rattle.nx_marks.proofs.Topping.{tags-last}
use Rattle.nx_marks.proofs.Stepping.{ready, refused_right}
use Rattle.nx_marks.proofs.line.step_alone.Goals as goal

pub lengthen_last-requires-clause-state : goal.lengthen_last-requires-clause-state
lengthen_last-requires-clause-state g c =
    let m = g.A.Machine in
    let a = c.args.machine.now in
    let s = alone (m.is_state a) (m.means a) (m.rules a) c.args.text.now _ c.args.line.now c.args.token.now c.line.view_is (g.met.A.Machine.rule_laws a) c.len-len.ensures.utf8 c.requires.right c.requires.rest c.requires.token c.requires.unmarked c.requires.none_aside in
    s.stands.ready.own

pub lengthen_last-requires-clause-place : goal.lengthen_last-requires-clause-place
lengthen_last-requires-clause-place g c = λ before x e.
    let m = g.A.Machine in
    let a = c.args.machine.now in
    let s = alone (m.is_state a) (m.means a) (m.rules a) c.args.text.now _ c.args.line.now c.args.token.now c.line.view_is (g.met.A.Machine.rule_laws a) c.len-len.ensures.utf8 c.requires.right c.requires.rest c.requires.token c.requires.unmarked c.requires.none_aside in
    (ready (m.is_state a) (m.means a) (m.rules a) c.args.text.now _ before x c.args.token.now (g.met.A.Machine.rule_laws a) c.len-len.ensures.utf8 s.right e s.stands.rest s.stands.is).back

pub lengthen_last-requires-clause-room : goal.lengthen_last-requires-clause-room
lengthen_last-requires-clause-room g c =
    let m = g.A.Machine in
    let a = c.args.machine.now in
    let s = alone (m.is_state a) (m.means a) (m.rules a) c.args.text.now _ c.args.line.now c.args.token.now c.line.view_is (g.met.A.Machine.rule_laws a) c.len-len.ensures.utf8 c.requires.right c.requires.rest c.requires.token c.requires.unmarked c.requires.none_aside in
    let f = s.stands.ready.fits in
    omega (arith, c.len-len.ensures.bytes)

pub lengthen_last-requires-clause-tags : goal.lengthen_last-requires-clause-tags
lengthen_last-requires-clause-tags g c =
    let m = g.A.Machine in
    let a = c.args.machine.now in
    let s = alone (m.is_state a) (m.means a) (m.rules a) c.args.text.now _ c.args.line.now c.args.token.now c.line.view_is (g.met.A.Machine.rule_laws a) c.len-len.ensures.utf8 c.requires.right c.requires.rest c.requires.token c.requires.unmarked c.requires.none_aside in
    let is : tags_behind c.line.inside.front ≡ s.stands.last.tags = ap tags_behind s.stands.front_is ∙ tags-last s.stands.before s.stands.last in
    let n = s.stands.ready.at in
    let f = s.stands.ready.fits in
    let t = s.stands.ready.tags in
    let o = s.stands.ready.some in
    omega (arith, c.len-len.ensures.bytes)

pub lengthen_last-requires-clause-text : goal.lengthen_last-requires-clause-text
lengthen_last-requires-clause-text g c =
    let m = g.A.Machine in
    let a = c.args.machine.now in
    let s = alone (m.is_state a) (m.means a) (m.rules a) c.args.text.now _ c.args.line.now c.args.token.now c.line.view_is (g.met.A.Machine.rule_laws a) c.len-len.ensures.utf8 c.requires.right c.requires.rest c.requires.token c.requires.unmarked c.requires.none_aside in
    s.stands.ready.utf8

pub lengthen_last-requires-clause-kind : goal.lengthen_last-requires-clause-kind
lengthen_last-requires-clause-kind g c =
    let m = g.A.Machine in
    let a = c.args.machine.now in
    let s = alone (m.is_state a) (m.means a) (m.rules a) c.args.text.now _ c.args.line.now c.args.token.now c.line.view_is (g.met.A.Machine.rule_laws a) c.len-len.ensures.utf8 c.requires.right c.requires.rest c.requires.token c.requires.unmarked c.requires.none_aside in
    s.stands.ready.kind

pub invariant_of-line-then-is_due : goal.invariant_of-line-then-is_due
invariant_of-line-then-is_due g c =
    let m = g.A.Machine in
    let a = c.args.machine.now in
    let s = alone (m.is_state a) (m.means a) (m.rules a) c.args.text.now _ c.args.line.now c.args.token.now c.line.view_is (g.met.A.Machine.rule_laws a) c.len-len.ensures.utf8 c.requires.right c.requires.rest c.requires.token c.requires.unmarked c.requires.none_aside in
    let f = s.stands.ready.fits in
    held_alone c.line.inside.front s.stands.before c.lengthen_last.new.front c.line.inside.aside c.line.inside.here s.stands.last _ _ (length c.args.token.now.bytes)
    c.line.invariant s.stands.front_is s.none (omega (arith, c.len-len.ensures.bytes)) refl refl (c.in_ok-tags.ensures.longer s.stands.before s.stands.last s.stands.front_is)

pub returns-then-is_due-clause-right : goal.returns-then-is_due-clause-right
returns-then-is_due-clause-right g c =
    let m = g.A.Machine in
    let a = c.args.machine.now in
    let s = alone (m.is_state a) (m.means a) (m.rules a) c.args.text.now _ c.args.line.now c.args.token.now c.line.view_is (g.met.A.Machine.rule_laws a) c.len-len.ensures.utf8 c.requires.right c.requires.rest c.requires.token c.requires.unmarked c.requires.none_aside in
    let K : Kept _ = record { front = c.line.inside.front; here = c.line.inside.here; marked = c.line.inside.marked; aside = c.line.inside.aside } in
    let b = c.lengthen_last.new.machine in
    let w = went m.later m.is_state m.means m.rules g.met.A.Machine.laws g.met.A.Machine.rule_laws a b c.args.text.now K s.stands.before s.stands.last c.args.token.now c.lengthen_last.new.state c.lengthen_last.new.front c.in_ok-tags.tags true
    c.lengthen_last.ensures.later c.len-len.ensures.utf8 s s.stands.front_is s.stands.ready.own c.lengthen_last.ensures.state c.in_ok-tags.ensures.after (c.in_ok-tags.ensures.longer s.stands.before s.stands.last s.stands.front_is) c.in_ok-tags.ensures.tags (sym c.if-is_due.true ∙ c.is_due.ensures) in
    w.right

pub returns-then-is_due-clause-on : goal.returns-then-is_due-clause-on
returns-then-is_due-clause-on g c =
    let m = g.A.Machine in
    let a = c.args.machine.now in
    let s = alone (m.is_state a) (m.means a) (m.rules a) c.args.text.now _ c.args.line.now c.args.token.now c.line.view_is (g.met.A.Machine.rule_laws a) c.len-len.ensures.utf8 c.requires.right c.requires.rest c.requires.token c.requires.unmarked c.requires.none_aside in
    let at : reach c.line.inside.front ≡ frontier_of c.args.line.now = ap (λ (k : Kept _). frontier_of k) c.line.view_is in
    let n = s.stands.ready.at in
    let e : reach c.lengthen_last.new.front ≡ reach s.stands.before + (s.stands.last.len + length c.args.token.now.bytes) = further c.lengthen_last.new.front s.stands.before _ (c.in_ok-tags.ensures.longer s.stands.before s.stands.last s.stands.front_is) in
    omega (arith, at, n, e)

pub returns-then-is_due-clause-keeps : goal.returns-then-is_due-clause-keeps
returns-then-is_due-clause-keeps g c =
    let m = g.A.Machine in
    let a = c.args.machine.now in
    let s = alone (m.is_state a) (m.means a) (m.rules a) c.args.text.now _ c.args.line.now c.args.token.now c.line.view_is (g.met.A.Machine.rule_laws a) c.len-len.ensures.utf8 c.requires.right c.requires.rest c.requires.token c.requires.unmarked c.requires.none_aside in
    let K : Kept _ = record { front = c.line.inside.front; here = c.line.inside.here; marked = c.line.inside.marked; aside = c.line.inside.aside } in
    let b = c.lengthen_last.new.machine in
    let w = went m.later m.is_state m.means m.rules g.met.A.Machine.laws g.met.A.Machine.rule_laws a b c.args.text.now K s.stands.before s.stands.last c.args.token.now c.lengthen_last.new.state c.lengthen_last.new.front c.in_ok-tags.tags true
    c.lengthen_last.ensures.later c.len-len.ensures.utf8 s s.stands.front_is s.stands.ready.own c.lengthen_last.ensures.state c.in_ok-tags.ensures.after (c.in_ok-tags.ensures.longer s.stands.before s.stands.last s.stands.front_is) c.in_ok-tags.ensures.tags (sym c.if-is_due.true ∙ c.is_due.ensures) in
    let O : Kept _ → Type 0 = λ k. KeepsMarks (m.means a) (m.rules a) c.args.text.now k (record { front = c.lengthen_last.new.front; here = record { state = c.lengthen_last.new.state; len = 0; tags = K.here.tags; faults = K.here.faults; whole = K.here.whole; saved = K.here.saved }; marked = true; aside = K.aside }) in
    subst O c.line.view_is w.keeps

pub invariant_of-line-else-is_due : goal.invariant_of-line-else-is_due
invariant_of-line-else-is_due g c =
    let m = g.A.Machine in
    let a = c.args.machine.now in
    let s = alone (m.is_state a) (m.means a) (m.rules a) c.args.text.now _ c.args.line.now c.args.token.now c.line.view_is (g.met.A.Machine.rule_laws a) c.len-len.ensures.utf8 c.requires.right c.requires.rest c.requires.token c.requires.unmarked c.requires.none_aside in
    let f = s.stands.ready.fits in
    held_alone c.line.inside.front s.stands.before c.lengthen_last.new.front c.line.inside.aside c.line.inside.here s.stands.last _ _ (length c.args.token.now.bytes)
    c.line.invariant s.stands.front_is s.none (omega (arith, c.len-len.ensures.bytes)) refl refl (c.in_ok-tags.ensures.longer s.stands.before s.stands.last s.stands.front_is)

pub returns-else-is_due-clause-right : goal.returns-else-is_due-clause-right
returns-else-is_due-clause-right g c =
    let m = g.A.Machine in
    let a = c.args.machine.now in
    let s = alone (m.is_state a) (m.means a) (m.rules a) c.args.text.now _ c.args.line.now c.args.token.now c.line.view_is (g.met.A.Machine.rule_laws a) c.len-len.ensures.utf8 c.requires.right c.requires.rest c.requires.token c.requires.unmarked c.requires.none_aside in
    let K : Kept _ = record { front = c.line.inside.front; here = c.line.inside.here; marked = c.line.inside.marked; aside = c.line.inside.aside } in
    let b = c.lengthen_last.new.machine in
    let w = went m.later m.is_state m.means m.rules g.met.A.Machine.laws g.met.A.Machine.rule_laws a b c.args.text.now K s.stands.before s.stands.last c.args.token.now c.lengthen_last.new.state c.lengthen_last.new.front c.in_ok-tags.tags c.line.inside.marked
    c.lengthen_last.ensures.later c.len-len.ensures.utf8 s s.stands.front_is s.stands.ready.own c.lengthen_last.ensures.state c.in_ok-tags.ensures.after (c.in_ok-tags.ensures.longer s.stands.before s.stands.last s.stands.front_is) c.in_ok-tags.ensures.tags (s.stands.unmarked ∙ sym c.if-is_due.false ∙ c.is_due.ensures) in
    w.right

pub returns-else-is_due-clause-on : goal.returns-else-is_due-clause-on
returns-else-is_due-clause-on g c =
    let m = g.A.Machine in
    let a = c.args.machine.now in
    let s = alone (m.is_state a) (m.means a) (m.rules a) c.args.text.now _ c.args.line.now c.args.token.now c.line.view_is (g.met.A.Machine.rule_laws a) c.len-len.ensures.utf8 c.requires.right c.requires.rest c.requires.token c.requires.unmarked c.requires.none_aside in
    let at : reach c.line.inside.front ≡ frontier_of c.args.line.now = ap (λ (k : Kept _). frontier_of k) c.line.view_is in
    let n = s.stands.ready.at in
    let e : reach c.lengthen_last.new.front ≡ reach s.stands.before + (s.stands.last.len + length c.args.token.now.bytes) = further c.lengthen_last.new.front s.stands.before _ (c.in_ok-tags.ensures.longer s.stands.before s.stands.last s.stands.front_is) in
    omega (arith, at, n, e)

pub returns-else-is_due-clause-keeps : goal.returns-else-is_due-clause-keeps
returns-else-is_due-clause-keeps g c =
    let m = g.A.Machine in
    let a = c.args.machine.now in
    let s = alone (m.is_state a) (m.means a) (m.rules a) c.args.text.now _ c.args.line.now c.args.token.now c.line.view_is (g.met.A.Machine.rule_laws a) c.len-len.ensures.utf8 c.requires.right c.requires.rest c.requires.token c.requires.unmarked c.requires.none_aside in
    let K : Kept _ = record { front = c.line.inside.front; here = c.line.inside.here; marked = c.line.inside.marked; aside = c.line.inside.aside } in
    let b = c.lengthen_last.new.machine in
    let w = went m.later m.is_state m.means m.rules g.met.A.Machine.laws g.met.A.Machine.rule_laws a b c.args.text.now K s.stands.before s.stands.last c.args.token.now c.lengthen_last.new.state c.lengthen_last.new.front c.in_ok-tags.tags c.line.inside.marked
    c.lengthen_last.ensures.later c.len-len.ensures.utf8 s s.stands.front_is s.stands.ready.own c.lengthen_last.ensures.state c.in_ok-tags.ensures.after (c.in_ok-tags.ensures.longer s.stands.before s.stands.last s.stands.front_is) c.in_ok-tags.ensures.tags (s.stands.unmarked ∙ sym c.if-is_due.false ∙ c.is_due.ensures) in
    let O : Kept _ → Type 0 = λ k. KeepsMarks (m.means a) (m.rules a) c.args.text.now k (record { front = c.lengthen_last.new.front; here = record { state = c.lengthen_last.new.state; len = 0; tags = K.here.tags; faults = K.here.faults; whole = K.here.whole; saved = K.here.saved }; marked = c.line.inside.marked; aside = K.aside }) in
    subst O c.line.view_is w.keeps

pub returns-in_err-tags-clause-right : goal.returns-in_err-tags-clause-right
returns-in_err-tags-clause-right g c =
    let m = g.A.Machine in
    let a = c.args.machine.now in
    let s = alone (m.is_state a) (m.means a) (m.rules a) c.args.text.now _ c.args.line.now c.args.token.now c.line.view_is (g.met.A.Machine.rule_laws a) c.len-len.ensures.utf8 c.requires.right c.requires.rest c.requires.token c.requires.unmarked c.requires.none_aside in
    let K : Kept _ = record { front = c.line.inside.front; here = c.line.inside.here; marked = c.line.inside.marked; aside = c.line.inside.aside } in
    let b = c.lengthen_last.new.machine in
    let P : List (Mark _) → Type 0 = λ l. IsRight (m.is_state b) (m.means b) (m.rules b) c.args.text.now (record { front = l; here = record { state = c.lengthen_last.new.state; len = K.here.len; tags = K.here.tags; faults = K.here.faults; whole = K.here.whole; saved = K.here.saved }; marked = K.marked; aside = K.aside }) in
    subst P (sym c.in_err-tags.ensures.same) (refused_right m.later m.is_state m.means m.rules g.met.A.Machine.laws g.met.A.Machine.rule_laws a b c.args.text.now K c.lengthen_last.new.state c.lengthen_last.ensures.later s.right c.lengthen_last.ensures.state c.in_err-tags.ensures.unchanged)

pub returns-in_err-tags-clause-keeps : goal.returns-in_err-tags-clause-keeps
returns-in_err-tags-clause-keeps g c =
    let m = g.A.Machine in
    let a = c.args.machine.now in
    let K : Kept _ = record { front = c.line.inside.front; here = c.line.inside.here; marked = c.line.inside.marked; aside = c.line.inside.aside } in
    let J : Kept _ = record { front = K.front; here = record { state = c.lengthen_last.new.state; len = K.here.len; tags = K.here.tags; faults = K.here.faults; whole = K.here.whole; saved = K.here.saved }; marked = K.marked; aside = K.aside } in
    let P : List (Mark _) → Type 0 = λ l. KeepsMarks (m.means a) (m.rules a) c.args.text.now K (record { front = l; here = J.here; marked = K.marked; aside = K.aside }) in
    let O : Kept _ → Type 0 = λ k. KeepsMarks (m.means a) (m.rules a) c.args.text.now k (record { front = c.lengthen_last.new.front; here = J.here; marked = K.marked; aside = K.aside }) in
    subst O c.line.view_is (subst P (sym c.in_err-tags.ensures.same) (keeps_same (m.means a) (m.rules a) c.args.text.now K J (standing-same K J refl refl) refl refl))
