use Rattle.std.proofs.Common.{◌≡◌, ℕ, ◌+◌, arith, sym, subst}
use Rattle.nx_complete.proofs.Walk.{next, ready, passed}
use Rattle.nx_complete.specs.Walking.{IsBehind}
use Rattle.nx_complete.proofs.walking.pass.Goals as goal

pub step-requires-clause-place : goal.step-requires-clause-place
step-requires-clause-place g c =
    let m = g.A.Machine in
    let a = c.args.machine.now in
    let n = next c.args.text.now c.args.here c.args.token.now c.len-len.ensures.utf8 c.requires.behind.place c.requires.rest c.requires.token in
    rw n.from (ready (m.is_state a) (m.means a) (m.rules a) (m.is_state a) (m.means a) (m.rules a) (g.met.A.Machine.rule_laws a) c.args.text.now c.args.here c.args.state.now c.requires.behind)

pub step-requires-clause-room : goal.step-requires-clause-room
step-requires-clause-room g c =
    let n = next c.args.text.now c.args.here c.args.token.now c.len-len.ensures.utf8 c.requires.behind.place c.requires.rest c.requires.token in
    omega (arith, n.from, n.fits, c.len-len.ensures.bytes)

pub step-requires-clause-text : goal.step-requires-clause-text
step-requires-clause-text g c = (next c.args.text.now c.args.here c.args.token.now c.len-len.ensures.utf8 c.requires.behind.place c.requires.rest c.requires.token).utf8

pub step-requires-clause-kind : goal.step-requires-clause-kind
step-requires-clause-kind g c = (next c.args.text.now c.args.here c.args.token.now c.len-len.ensures.utf8 c.requires.behind.place c.requires.rest c.requires.token).kind

pub overflow_add-result : goal.overflow_add-result
overflow_add-result g c =
    let n = next c.args.text.now c.args.here c.args.token.now c.len-len.ensures.utf8 c.requires.behind.place c.requires.rest c.requires.token in
    omega (arith, n.fits, c.len-len.ensures.bytes, c.len.ensures)

pub returns-clause-behind : goal.returns-clause-behind
returns-clause-behind g c =
    let m = g.A.Machine in
    let a = c.args.machine.now in
    let b = c.step.new.self in
    rw c.len.ensures
    (passed (m.is_state a) (m.means a) (m.rules a) (m.is_state b) (m.means b) (m.rules b) c.args.text.now c.args.here c.args.state.now c.step.new.state c.args.token.now c.len-len.ensures.utf8
    c.requires.behind c.requires.rest c.requires.token (g.met.A.Machine.laws.rule _ _ c.step.ensures.later) c.step.ensures.state c.in_ok-step.ensures.after)

pub returns-clause-on : goal.returns-clause-on
returns-clause-on g c =
    let n = next c.args.text.now c.args.here c.args.token.now c.len-len.ensures.utf8 c.requires.behind.place c.requires.rest c.requires.token in
    omega (arith, n.some, c.len.ensures)
