use Rattle.std.proofs.Common.{◌≡◌, ℕ, ◌+◌, ◌-◌, ◌<◌, length, ap, subst, sym, ◌∙◌, arith}
use Rattle.std.specs.Prelude.{OnOk, OnErr}
use Rattle.nx_base.specs.Tokens.{cut}
use Rattle.nx_marks.specs.Bound.{WillReach}
use Rattle.nx_marks.specs.Chain.{Kept, frontier_of}
use Rattle.nx_marks.proofs.Moving.{passed, on_ok, token_fits}
use Rattle.nx_marks.proofs.Keeping.{keeps_on, keeps_passing, still_settled}
use Rattle.nx_marks.proofs.marks.take_here.Goals as goal

pub let_go-requires : goal.let_go-requires
let_go-requires g c =
    let m = g.A.Machine in
    let a = c.args.machine.now in
    let k = c.begin_here.new.line in
    let is : c.args.token.now ≡ cut c.args.text.now (frontier_of k) = c.requires.token ∙ ap (cut c.args.text.now) (sym c.begin_here.ensures.frontier) in
    let f = token_fits (m.is_state a) (m.means a) (m.rules a) (g.met.A.Machine.rule_laws a) c.args.text.now c.len-len.ensures.utf8 k c.args.token.now c.begin_here.ensures.right is (omega (arith, c.requires.rest, c.begin_here.ensures.frontier)) in
    omega (arith, c.len-len.ensures.bytes, c.len-count.ensures)

pub step-requires-clause-right : goal.step-requires-clause-right
step-requires-clause-right g c =
    let m = g.A.Machine in
    let a = c.args.machine.now in
    let k = c.begin_here.new.line in
    let is : c.args.token.now ≡ cut c.args.text.now (frontier_of k) = c.requires.token ∙ ap (cut c.args.text.now) (sym c.begin_here.ensures.frontier) in
    let p = passed (m.is_state a) (m.means a) (m.rules a) (g.met.A.Machine.rule_laws a) c.args.text.now c.len-len.ensures.utf8 k c.let_go.new.self c.len-count.result c.args.token.now c.begin_here.ensures.right is
    (omega (arith, c.requires.rest, c.begin_here.ensures.frontier)) c.len-count.ensures c.let_go.ensures in
    p.right

pub step-requires-clause-unmarked : goal.step-requires-clause-unmarked
step-requires-clause-unmarked g c =
    let m = g.A.Machine in
    let a = c.args.machine.now in
    let k = c.begin_here.new.line in
    let is : c.args.token.now ≡ cut c.args.text.now (frontier_of k) = c.requires.token ∙ ap (cut c.args.text.now) (sym c.begin_here.ensures.frontier) in
    let p = passed (m.is_state a) (m.means a) (m.rules a) (g.met.A.Machine.rule_laws a) c.args.text.now c.len-len.ensures.utf8 k c.let_go.new.self c.len-count.result c.args.token.now c.begin_here.ensures.right is
    (omega (arith, c.requires.rest, c.begin_here.ensures.frontier)) c.len-count.ensures c.let_go.ensures in
    p.marked ∙ c.in_ok-begin_here.ensures.unmarked

pub step-requires-clause-rest : goal.step-requires-clause-rest
step-requires-clause-rest g c =
    let m = g.A.Machine in
    let a = c.args.machine.now in
    let k = c.begin_here.new.line in
    let is : c.args.token.now ≡ cut c.args.text.now (frontier_of k) = c.requires.token ∙ ap (cut c.args.text.now) (sym c.begin_here.ensures.frontier) in
    let p = passed (m.is_state a) (m.means a) (m.rules a) (g.met.A.Machine.rule_laws a) c.args.text.now c.len-len.ensures.utf8 k c.let_go.new.self c.len-count.result c.args.token.now c.begin_here.ensures.right is
    (omega (arith, c.requires.rest, c.begin_here.ensures.frontier)) c.len-count.ensures c.let_go.ensures in
    (let e = p.at in omega (arith, c.requires.rest, c.begin_here.ensures.frontier))

pub step-requires-clause-token : goal.step-requires-clause-token
step-requires-clause-token g c =
    let m = g.A.Machine in
    let a = c.args.machine.now in
    let k = c.begin_here.new.line in
    let is : c.args.token.now ≡ cut c.args.text.now (frontier_of k) = c.requires.token ∙ ap (cut c.args.text.now) (sym c.begin_here.ensures.frontier) in
    let p = passed (m.is_state a) (m.means a) (m.rules a) (g.met.A.Machine.rule_laws a) c.args.text.now c.len-len.ensures.utf8 k c.let_go.new.self c.len-count.result c.args.token.now c.begin_here.ensures.right is
    (omega (arith, c.requires.rest, c.begin_here.ensures.frontier)) c.len-count.ensures c.let_go.ensures in
    is ∙ ap (cut c.args.text.now) (sym p.at)

pub step-requires-clause-far : goal.step-requires-clause-far
step-requires-clause-far g c =
    let m = g.A.Machine in
    let a = c.args.machine.now in
    let k = c.begin_here.new.line in
    let is : c.args.token.now ≡ cut c.args.text.now (frontier_of k) = c.requires.token ∙ ap (cut c.args.text.now) (sym c.begin_here.ensures.frontier) in
    let p = passed (m.is_state a) (m.means a) (m.rules a) (g.met.A.Machine.rule_laws a) c.args.text.now c.len-len.ensures.utf8 k c.let_go.new.self c.len-count.result c.args.token.now c.begin_here.ensures.right is
    (omega (arith, c.requires.rest, c.begin_here.ensures.frontier)) c.len-count.ensures c.let_go.ensures in
    p.far

pub returns-clause-on : goal.returns-clause-on
returns-clause-on g c =
    let m = g.A.Machine in
    let a = c.args.machine.now in
    let k = c.begin_here.new.line in
    let is : c.args.token.now ≡ cut c.args.text.now (frontier_of k) = c.requires.token ∙ ap (cut c.args.text.now) (sym c.begin_here.ensures.frontier) in
    let p = passed (m.is_state a) (m.means a) (m.rules a) (g.met.A.Machine.rule_laws a) c.args.text.now c.len-len.ensures.utf8 k c.let_go.new.self c.len-count.result c.args.token.now c.begin_here.ensures.right is
    (omega (arith, c.requires.rest, c.begin_here.ensures.frontier)) c.len-count.ensures c.let_go.ensures in
    let P : ℕ → Type 0 = λ n. OnOk c.step.result (frontier_of c.step.new.line ≡ n + length c.args.token.now.bytes) in
    subst P (p.at ∙ c.begin_here.ensures.frontier) c.step.ensures.on

pub returns-clause-near : goal.returns-clause-near
returns-clause-near g c =
    let m = g.A.Machine in
    let a = c.args.machine.now in
    let b = c.step.new.machine in
    let k = c.begin_here.new.line in
    let is : c.args.token.now ≡ cut c.args.text.now (frontier_of k) = c.requires.token ∙ ap (cut c.args.text.now) (sym c.begin_here.ensures.frontier) in
    let p = passed (m.is_state a) (m.means a) (m.rules a) (g.met.A.Machine.rule_laws a) c.args.text.now c.len-len.ensures.utf8 k c.let_go.new.self c.len-count.result c.args.token.now c.begin_here.ensures.right is
    (omega (arith, c.requires.rest, c.begin_here.ensures.frontier)) c.len-count.ensures c.let_go.ensures in
    let N : Kept _ → Type 0 = λ i. (n end : ℕ) → WillReach (m.means a) (m.rules a) c.args.text.now n end i → 0 < i.here.len → (0 < n) × WillReach (m.means b) (m.rules b) c.args.text.now (n - 1) end c.step.new.line in
    on_ok (N c.let_go.new.self) (N c.args.line.now) c.step.result (λ near n end w some.
    (let W : Kept _ → Type 0 = λ i. WillReach (m.means a) (m.rules a) c.args.text.now n end i in
    let first = c.begin_here.ensures.near n end w in
    let gap : 0 < k.here.len = omega (arith, some, c.begin_here.ensures.gap) in
    let same = p.waits n end first gap in
    let far : 0 < c.let_go.new.self.here.len = (let e = ap (λ (i : Kept _). i.here.len) same in omega arith) in
    near n end (subst W (sym same) first) far)) c.step.ensures.near

pub returns-clause-off : goal.returns-clause-off
returns-clause-off g c =
    let m = g.A.Machine in
    let a = c.args.machine.now in
    let k = c.begin_here.new.line in
    let is : c.args.token.now ≡ cut c.args.text.now (frontier_of k) = c.requires.token ∙ ap (cut c.args.text.now) (sym c.begin_here.ensures.frontier) in
    let p = passed (m.is_state a) (m.means a) (m.rules a) (g.met.A.Machine.rule_laws a) c.args.text.now c.len-len.ensures.utf8 k c.let_go.new.self c.len-count.result c.args.token.now c.begin_here.ensures.right is
    (omega (arith, c.requires.rest, c.begin_here.ensures.frontier)) c.len-count.ensures c.let_go.ensures in
    let P : ℕ → Type 0 = λ n. OnErr c.step.result (frontier_of c.step.new.line ≡ n) in
    subst P (p.at ∙ c.begin_here.ensures.frontier) c.step.ensures.off

pub returns-clause-keeps : goal.returns-clause-keeps
returns-clause-keeps g c =
    let m = g.A.Machine in
    let a = c.args.machine.now in
    let k = c.begin_here.new.line in
    let is : c.args.token.now ≡ cut c.args.text.now (frontier_of k) = c.requires.token ∙ ap (cut c.args.text.now) (sym c.begin_here.ensures.frontier) in
    let first = c.begin_here.ensures.keeps in
    let settled = still_settled c.args.line.now k first.gone first.aside c.begin_here.ensures.gap c.requires.settled in
    let second = keeps_passing (m.is_state a) (m.means a) (m.rules a) c.args.text.now (g.met.A.Machine.rule_laws a) k c.let_go.new.self c.len-count.result c.args.token.now c.len-len.ensures.utf8 c.begin_here.ensures.right is c.len-count.ensures settled c.let_go.ensures in
    let both = keeps_on (m.means a) (m.rules a) c.args.text.now c.args.line.now k c.let_go.new.self first second in
    keeps_on (m.means a) (m.rules a) c.args.text.now c.args.line.now c.let_go.new.self c.step.new.line both c.step.ensures.keeps
