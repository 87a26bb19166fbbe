use Rattle.std.proofs.Common.{◌≡◌, ℕ, Bool, List, true, false, ◌<◌, ◌≤◌, length, sym, ap, ◌∙◌, arith}
use Rattle.rng_restrict.proofs.Reached.{mark_read}
use Rattle.rng_live.specs.Conditions.{is_marked, holds_where}
use Rattle.rng_live.proofs.Settling.{judged_nothing, judged_outside, judged_before, judged_not, judged_now, holds_by_marks}
use Rattle.rng_live.proofs.holding.Held.judge.Goals as goal

pub returns-in_default-clause-found : goal.returns-in_default-clause-found
returns-in_default-clause-found c = judged_nothing _ _ c.args.number _ (sym c.in_default.ensures)

pub returns-then-number-len-clause-found : goal.returns-then-number-len-clause-found
returns-then-number-len-clause-found c = judged_outside _ _ c.args.number _ (omega (arith, c.len.ensures, c.args.self.now.marks.ok.0, c.if-number-len.true))

pub returns-then-index-clause-found : goal.returns-then-index-clause-found
returns-then-index-clause-found c =
    let inside : c.args.number < length c.args.self.now.marks.items = omega (arith, c.len.ensures, c.args.self.now.marks.ok.0, c.if-number-len.false) in
    judged_before _ _ c.args.number _ (mark_read c.args.number c.args.self.now.found.items c.args.self.now.marks.items c.index.result.now true inside c.args.self.now.marked c.index.ensures c.if-index.true)

pub returns-then-not-holds-clause-found : goal.returns-then-not-holds-clause-found
returns-then-not-holds-clause-found c =
    let by_marks : holds_where (is_marked c.args.self.now.marks.items) c.in-Some.condition.now ≡ false =
    sym (ap (λ (m : List Bool). holds_where (is_marked m) c.in-Some.condition.now) c.as_slice.ensures.value) ∙ sym c.holds.ensures ∙ c.if-not-holds.true in
    judged_not _ _ c.args.number _ (sym c.in-Some.ensures) (holds_by_marks c.in-Some.condition.now c.args.self.now.marked by_marks)

pub returns-clause-found : goal.returns-clause-found
returns-clause-found c =
    let inside : c.args.number < length c.args.self.now.marks.items = omega (arith, c.len.ensures, c.args.self.now.marks.ok.0, c.if-number-len.false) in
    let by_marks : holds_where (is_marked c.args.self.now.marks.items) c.in-Some.condition.now ≡ true =
    sym (ap (λ (m : List Bool). holds_where (is_marked m) c.in-Some.condition.now) c.as_slice.ensures.value) ∙ sym c.holds.ensures ∙ c.if-not-holds.false in
    c.in_ok-push.ensures.items
    ∙ judged_now _ _ c.args.number _ (sym c.in-Some.ensures) (holds_by_marks c.in-Some.condition.now c.args.self.now.marked by_marks) inside
    (mark_read c.args.number c.args.self.now.found.items c.args.self.now.marks.items c.index.result.now false inside c.args.self.now.marked c.index.ensures c.if-index.false)
