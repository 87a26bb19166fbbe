use Rattle.std.proofs.Common.{◌≡◌, ◌⊎◌, ℕ, ◌-◌, ◌<◌, [], OnOk, OnErr, ap, subst, sym, ◌∙◌, arith}
use Rattle.nx_marks.specs.Bound.{WillReach}
use Rattle.nx_marks.specs.Chain.{Kept, frontier_of}
use Rattle.nx_marks.specs.Frontier.{MovesOver}
use Rattle.nx_marks.specs.Keeping.{KeepsMarks}
use Rattle.nx_marks.specs.Right.{IsRight}
use Rattle.nx_marks.proofs.marks.take.Goals as goal

pub cut_and_take-requires-clause-right : goal.cut_and_take-requires-clause-right
cut_and_take-requires-clause-right g c =
    let e = c.arrive.ensures ∙ c.kept.view_is in
    let P : Kept _ → Type 0 = λ k. IsRight (g.A.Machine.is_state c.args.machine.now) (g.A.Machine.means c.args.machine.now) (g.A.Machine.rules c.args.machine.now) c.args.text.now k in
    subst P (sym e) c.requires.right

pub cut_and_take-requires-clause-rest : goal.cut_and_take-requires-clause-rest
cut_and_take-requires-clause-rest g c =
    let e = c.arrive.ensures ∙ c.kept.view_is in
    let n = ap (λ (k : Kept _). frontier_of k) e in omega (arith, c.requires.rest)

pub cut_and_take-requires-clause-settled : goal.cut_and_take-requires-clause-settled
cut_and_take-requires-clause-settled g c =
    let e = c.arrive.ensures ∙ c.kept.view_is in
    let P : Kept _ → Type 0 = λ k. (0 < k.here.len) ⊎ (k.aside ≡ []) in subst P (sym e) c.requires.settled

pub returns-clause-on : goal.returns-clause-on
returns-clause-on g c =
    let e = c.arrive.ensures ∙ c.kept.view_is in
    let P : Kept _ → Type 0 = λ k. OnOk c.cut_and_take.result (MovesOver c.args.text.now (frontier_of k) 1 (frontier_of c.cut_and_take.new.line)) in subst P e c.cut_and_take.ensures.on

pub returns-clause-near : goal.returns-clause-near
returns-clause-near g c =
    let e = c.arrive.ensures ∙ c.kept.view_is in
    let b = c.cut_and_take.new.machine in
    let P : Kept _ → Type 0 = λ k. OnOk c.cut_and_take.result ((n end : ℕ) → WillReach (g.A.Machine.means c.args.machine.now) (g.A.Machine.rules c.args.machine.now) c.args.text.now n end k → 0 < k.here.len
    → (0 < n) × WillReach (g.A.Machine.means b) (g.A.Machine.rules b) c.args.text.now (n - 1) end c.cut_and_take.new.line) in
    subst P e c.cut_and_take.ensures.near

pub returns-clause-off : goal.returns-clause-off
returns-clause-off g c =
    let e = c.arrive.ensures ∙ c.kept.view_is in
    let P : Kept _ → Type 0 = λ k. OnErr c.cut_and_take.result (frontier_of c.cut_and_take.new.line ≡ frontier_of k) in subst P e c.cut_and_take.ensures.off

pub returns-clause-keeps : goal.returns-clause-keeps
returns-clause-keeps g c =
    let e = c.arrive.ensures ∙ c.kept.view_is in
    let P : Kept _ → Type 0 = λ k. KeepsMarks (g.A.Machine.means c.args.machine.now) (g.A.Machine.rules c.args.machine.now) c.args.text.now k c.cut_and_take.new.line in subst P e c.cut_and_take.ensures.keeps
