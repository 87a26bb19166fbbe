use Rattle.std.proofs.Common.{◌≡◌, ◌+◌, ◌-◌, ◌<◌, List, length, refl, ap, subst, sym, ◌∙◌, arith}
use Rattle.nx_base.specs.Rules.{Rules, lexeme_of}
use Rattle.nx_marks.specs.Bound.{WillReach}
use Rattle.nx_marks.specs.Chain.{Kept, frontier_of, reach}
use Rattle.nx_marks.specs.Right.{IsRight, tags_behind}
use Rattle.nx_marks.specs.Keeping.{KeepsMarks}
use Rattle.nx_marks.specs.Taking.{took}
use Rattle.nx_marks.specs.declared.mark.Mark.{Mark}
use Rattle.nx_marks.proofs.Holding.{refilled, further}
use Rattle.nx_marks.proofs.Keeping.{keeps_took, keeps_same, standing-same}
use Rattle.nx_marks.proofs.Topping.{tags-last}
use Rattle.nx_marks.proofs.Stepping.{ready, standing, lengthened_is, stepped_right, stepped_near, refused_right}
use Rattle.nx_marks.proofs.line.step.Goals as goal

pub lengthen_last-requires-clause-state : goal.lengthen_last-requires-clause-state
lengthen_last-requires-clause-state g c =
    let m = g.A.Machine in
    let a = c.args.machine.now in
    let s = standing (m.is_state a) (m.means a) (m.rules a) c.args.text.now _ c.args.line.now c.args.token.now c.line.view_is (g.met.A.Machine.rule_laws a) c.len-len.ensures.utf8 c.requires.right c.requires.rest c.requires.token c.requires.far c.requires.unmarked in
    s.ready.own

pub lengthen_last-requires-clause-place : goal.lengthen_last-requires-clause-place
lengthen_last-requires-clause-place g c = λ before x e.
    let m = g.A.Machine in
    let a = c.args.machine.now in
    let s = standing (m.is_state a) (m.means a) (m.rules a) c.args.text.now _ c.args.line.now c.args.token.now c.line.view_is (g.met.A.Machine.rule_laws a) c.len-len.ensures.utf8 c.requires.right c.requires.rest c.requires.token c.requires.far c.requires.unmarked in
    (ready (m.is_state a) (m.means a) (m.rules a) c.args.text.now _ before x c.args.token.now (g.met.A.Machine.rule_laws a) c.len-len.ensures.utf8 s.right e s.rest s.is).back

pub lengthen_last-requires-clause-tags : goal.lengthen_last-requires-clause-tags
lengthen_last-requires-clause-tags g c =
    let m = g.A.Machine in
    let a = c.args.machine.now in
    let s = standing (m.is_state a) (m.means a) (m.rules a) c.args.text.now _ c.args.line.now c.args.token.now c.line.view_is (g.met.A.Machine.rule_laws a) c.len-len.ensures.utf8 c.requires.right c.requires.rest c.requires.token c.requires.far c.requires.unmarked in
    let is : tags_behind c.line.inside.front ≡ s.last.tags = ap tags_behind s.front_is ∙ tags-last s.before s.last in
    let n = s.ready.at in
    let f = s.ready.fits in
    let t = s.ready.tags in
    let o = s.ready.some in
    omega (arith, c.len-len.ensures.bytes)

pub lengthen_last-requires-clause-text : goal.lengthen_last-requires-clause-text
lengthen_last-requires-clause-text g c =
    let m = g.A.Machine in
    let a = c.args.machine.now in
    let s = standing (m.is_state a) (m.means a) (m.rules a) c.args.text.now _ c.args.line.now c.args.token.now c.line.view_is (g.met.A.Machine.rule_laws a) c.len-len.ensures.utf8 c.requires.right c.requires.rest c.requires.token c.requires.far c.requires.unmarked in
    s.ready.utf8

pub lengthen_last-requires-clause-kind : goal.lengthen_last-requires-clause-kind
lengthen_last-requires-clause-kind g c =
    let m = g.A.Machine in
    let a = c.args.machine.now in
    let s = standing (m.is_state a) (m.means a) (m.rules a) c.args.text.now _ c.args.line.now c.args.token.now c.line.view_is (g.met.A.Machine.rule_laws a) c.len-len.ensures.utf8 c.requires.right c.requires.rest c.requires.token c.requires.far c.requires.unmarked in
    s.ready.kind

pub invariant_of-line-2 : goal.invariant_of-line-2
invariant_of-line-2 g c =
    let m = g.A.Machine in
    let a = c.args.machine.now in
    let s = standing (m.is_state a) (m.means a) (m.rules a) c.args.text.now _ c.args.line.now c.args.token.now c.line.view_is (g.met.A.Machine.rule_laws a) c.len-len.ensures.utf8 c.requires.right c.requires.rest c.requires.token c.requires.far c.requires.unmarked in
    let len : c.len.result ≡ length c.args.token.now.bytes = c.len.ensures ∙ ap length c.lengthen_last.ensures.bytes in
    let far = s.far in
    refilled c.line.inside.front s.before c.lengthen_last.new.front c.line.inside.aside c.line.inside.here s.last _ _ c.len.result
    c.line.invariant s.front_is (omega (arith, far, len)) (ap (λ n. s.last.len + n) (sym len)) refl (c.in_ok-tags.ensures.longer s.before s.last s.front_is)

pub returns-clause-right : goal.returns-clause-right
returns-clause-right g c =
    let m = g.A.Machine in
    let a = c.args.machine.now in
    let s = standing (m.is_state a) (m.means a) (m.rules a) c.args.text.now _ c.args.line.now c.args.token.now c.line.view_is (g.met.A.Machine.rule_laws a) c.len-len.ensures.utf8 c.requires.right c.requires.rest c.requires.token c.requires.far c.requires.unmarked in
    let K : Kept _ = record { front = c.line.inside.front; here = c.line.inside.here; marked = c.line.inside.marked; aside = c.line.inside.aside } in
    let b = c.lengthen_last.new.machine in
    let len : c.len.result ≡ length c.args.token.now.bytes = c.len.ensures ∙ ap length c.lengthen_last.ensures.bytes in
    let longer = c.in_ok-tags.ensures.longer s.before s.last s.front_is in
    let took_it = lengthened_is m.later m.is_state m.means m.rules g.met.A.Machine.laws g.met.A.Machine.rule_laws a b K s.before s.last (lexeme_of c.args.token.now) c.lengthen_last.new.state c.lengthen_last.new.front (K.here.len - c.len.result) c.in_ok-tags.tags c.is_due-line-inside.result
    c.lengthen_last.ensures.later s.ready.own longer (ap (λ n. K.here.len - n) len) c.in_ok-tags.ensures.tags c.is_due-line-inside.ensures in
    let P : Kept _ → Type 0 = λ k. IsRight (m.is_state b) (m.means b) (m.rules b) c.args.text.now k in
    subst P (sym took_it) (stepped_right m.later m.is_state m.means m.rules g.met.A.Machine.laws g.met.A.Machine.rule_laws a b c.args.text.now K s.before s.last c.args.token.now c.lengthen_last.new.state c.lengthen_last.ensures.later c.len-len.ensures.utf8 s.right s.rest s.is
    s.front_is s.unmarked s.far c.lengthen_last.ensures.state c.in_ok-tags.ensures.after)

pub returns-clause-on : goal.returns-clause-on
returns-clause-on g c =
    let m = g.A.Machine in
    let a = c.args.machine.now in
    let s = standing (m.is_state a) (m.means a) (m.rules a) c.args.text.now _ c.args.line.now c.args.token.now c.line.view_is (g.met.A.Machine.rule_laws a) c.len-len.ensures.utf8 c.requires.right c.requires.rest c.requires.token c.requires.far c.requires.unmarked in
    let at : reach c.line.inside.front ≡ frontier_of c.args.line.now = ap (λ (k : Kept _). frontier_of k) c.line.view_is in
    let n = s.ready.at in
    let e : reach c.lengthen_last.new.front ≡ reach s.before + (s.last.len + length c.args.token.now.bytes) = further c.lengthen_last.new.front s.before _ (c.in_ok-tags.ensures.longer s.before s.last s.front_is) in
    omega (arith, at, n, e)

pub returns-clause-near : goal.returns-clause-near
returns-clause-near g c = λ n end w some.
    let m = g.A.Machine in
    let a = c.args.machine.now in
    let s = standing (m.is_state a) (m.means a) (m.rules a) c.args.text.now _ c.args.line.now c.args.token.now c.line.view_is (g.met.A.Machine.rule_laws a) c.len-len.ensures.utf8 c.requires.right c.requires.rest c.requires.token c.requires.far c.requires.unmarked in
    let K : Kept _ = record { front = c.line.inside.front; here = c.line.inside.here; marked = c.line.inside.marked; aside = c.line.inside.aside } in
    let b = c.lengthen_last.new.machine in
    let len : c.len.result ≡ length c.args.token.now.bytes = c.len.ensures ∙ ap length c.lengthen_last.ensures.bytes in
    let longer = c.in_ok-tags.ensures.longer s.before s.last s.front_is in
    let took_it = lengthened_is m.later m.is_state m.means m.rules g.met.A.Machine.laws g.met.A.Machine.rule_laws a b K s.before s.last (lexeme_of c.args.token.now) c.lengthen_last.new.state c.lengthen_last.new.front (K.here.len - c.len.result) c.in_ok-tags.tags c.is_due-line-inside.result
    c.lengthen_last.ensures.later s.ready.own longer (ap (λ n. K.here.len - n) len) c.in_ok-tags.ensures.tags c.is_due-line-inside.ensures in
    let P : Kept _ → Type 0 = λ k. (0 < n) × WillReach (m.means b) (m.rules b) c.args.text.now (n - 1) end k in
    let W : Kept _ → Type 0 = λ k. WillReach (m.means a) (m.rules a) c.args.text.now n end k in
    let gap : 0 < K.here.len = (let e = ap (λ (k : Kept _). k.here.len) c.line.view_is in omega (arith, e, some)) in
    subst P (sym took_it) (stepped_near m.later m.is_state m.means m.rules g.met.A.Machine.laws g.met.A.Machine.rule_laws a b c.args.text.now K s.before s.last c.args.token.now c.lengthen_last.new.state n end c.lengthen_last.ensures.later s.right s.is
    s.front_is c.lengthen_last.ensures.state c.in_ok-tags.ensures.after gap (subst W (sym c.line.view_is) w))

pub returns-clause-keeps : goal.returns-clause-keeps
returns-clause-keeps g c =
    let m = g.A.Machine in
    let a = c.args.machine.now in
    let s = standing (m.is_state a) (m.means a) (m.rules a) c.args.text.now _ c.args.line.now c.args.token.now c.line.view_is (g.met.A.Machine.rule_laws a) c.len-len.ensures.utf8 c.requires.right c.requires.rest c.requires.token c.requires.far c.requires.unmarked in
    let K : Kept _ = record { front = c.line.inside.front; here = c.line.inside.here; marked = c.line.inside.marked; aside = c.line.inside.aside } in
    let b = c.lengthen_last.new.machine in
    let len : c.len.result ≡ length c.args.token.now.bytes = c.len.ensures ∙ ap length c.lengthen_last.ensures.bytes in
    let longer = c.in_ok-tags.ensures.longer s.before s.last s.front_is in
    let took_it = lengthened_is m.later m.is_state m.means m.rules g.met.A.Machine.laws g.met.A.Machine.rule_laws a b K s.before s.last (lexeme_of c.args.token.now) c.lengthen_last.new.state c.lengthen_last.new.front (K.here.len - c.len.result) c.in_ok-tags.tags c.is_due-line-inside.result
    c.lengthen_last.ensures.later s.ready.own longer (ap (λ n. K.here.len - n) len) c.in_ok-tags.ensures.tags c.is_due-line-inside.ensures in
    let P : Kept _ → Type 0 = λ k. KeepsMarks (m.means a) (m.rules a) c.args.text.now K k in
    let Q : Rules _ → Type 0 = λ r. KeepsMarks (m.means a) r c.args.text.now K (took (m.means b) (m.rules b) K s.before s.last (lexeme_of c.args.token.now) c.lengthen_last.new.state) in
    let O : Kept _ → Type 0 = λ k. KeepsMarks (m.means a) (m.rules a) c.args.text.now k (record { front = c.lengthen_last.new.front; here = record { state = c.lengthen_last.new.state; len = K.here.len - c.len.result; tags = K.here.tags; faults = K.here.faults; whole = K.here.whole; saved = K.here.saved }; marked = c.is_due-line-inside.result; aside = K.aside }) in
    let done = (stepped_right m.later m.is_state m.means m.rules g.met.A.Machine.laws g.met.A.Machine.rule_laws a b c.args.text.now K s.before s.last c.args.token.now c.lengthen_last.new.state c.lengthen_last.ensures.later c.len-len.ensures.utf8 s.right s.rest s.is
    s.front_is s.unmarked s.far c.lengthen_last.ensures.state c.in_ok-tags.ensures.after) in
    let kept = keeps_took (m.is_state b) (m.means b) (m.rules b) c.args.text.now (g.met.A.Machine.rule_laws b) (m.means a) K s.before s.last (lexeme_of c.args.token.now) c.lengthen_last.new.state s.front_is s.unmarked s.far done in
    subst O c.line.view_is (subst P (sym took_it) (subst Q (g.met.A.Machine.laws.rule a b c.lengthen_last.ensures.later) kept))

pub returns-in_err-tags-clause-right : goal.returns-in_err-tags-clause-right
returns-in_err-tags-clause-right g c =
    let m = g.A.Machine in
    let a = c.args.machine.now in
    let s = standing (m.is_state a) (m.means a) (m.rules a) c.args.text.now _ c.args.line.now c.args.token.now c.line.view_is (g.met.A.Machine.rule_laws a) c.len-len.ensures.utf8 c.requires.right c.requires.rest c.requires.token c.requires.far c.requires.unmarked in
    let K : Kept _ = record { front = c.line.inside.front; here = c.line.inside.here; marked = c.line.inside.marked; aside = c.line.inside.aside } in
    let b = c.lengthen_last.new.machine in
    let P : List (Mark _) → Type 0 = λ l. IsRight (m.is_state b) (m.means b) (m.rules b) c.args.text.now (record { front = l; here = record { state = c.lengthen_last.new.state; len = K.here.len; tags = K.here.tags; faults = K.here.faults; whole = K.here.whole; saved = K.here.saved }; marked = K.marked; aside = K.aside }) in
    subst P (sym c.in_err-tags.ensures.same) (refused_right m.later m.is_state m.means m.rules g.met.A.Machine.laws g.met.A.Machine.rule_laws a b c.args.text.now K c.lengthen_last.new.state c.lengthen_last.ensures.later s.right c.lengthen_last.ensures.state c.in_err-tags.ensures.unchanged)

pub returns-in_err-tags-clause-keeps : goal.returns-in_err-tags-clause-keeps
returns-in_err-tags-clause-keeps g c =
    let m = g.A.Machine in
    let a = c.args.machine.now in
    let K : Kept _ = record { front = c.line.inside.front; here = c.line.inside.here; marked = c.line.inside.marked; aside = c.line.inside.aside } in
    let J : Kept _ = record { front = K.front; here = record { state = c.lengthen_last.new.state; len = K.here.len; tags = K.here.tags; faults = K.here.faults; whole = K.here.whole; saved = K.here.saved }; marked = K.marked; aside = K.aside } in
    let P : List (Mark _) → Type 0 = λ l. KeepsMarks (m.means a) (m.rules a) c.args.text.now K (record { front = l; here = J.here; marked = K.marked; aside = K.aside }) in
    let O : Kept _ → Type 0 = λ k. KeepsMarks (m.means a) (m.rules a) c.args.text.now k (record { front = c.lengthen_last.new.front; here = J.here; marked = K.marked; aside = K.aside }) in
    subst O c.line.view_is (subst P (sym c.in_err-tags.ensures.same) (keeps_same (m.means a) (m.rules a) c.args.text.now K J (standing-same K J refl refl) refl refl))
