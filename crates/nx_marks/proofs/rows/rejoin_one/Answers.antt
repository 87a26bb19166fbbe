use Rattle.nx_marks.specs.Joined.{seen}
use Rattle.nx_marks.proofs.Rejoining.{rejoins_by_joining, rejoins_by_passing}
use Rattle.nx_marks.proofs.Stepping.{own_states}
use Rattle.nx_marks.proofs.rows.rejoin_one.Goals as goal

pub next_is_same-requires : goal.next_is_same-requires
next_is_same-requires g c =
    let m = g.A.Machine in
    let a = c.args.machine.now in
    own_states (m.is_state a) (m.means a) (m.rules a) c.requires.right.text c.args.line.now c.requires.right.right

pub returns-then-next_is_same : goal.returns-then-next_is_same
returns-then-next_is_same g c =
    let m = g.A.Machine in
    let a = c.args.machine.now in
    rejoins_by_joining (m.is_state a) (m.means a) (m.rules a) (g.met.A.Machine.rule_laws a) c.args.line.now (seen c.join.result c.join.new.line) c.join.ensures c.requires.here (c.next_is_same.ensures.0 c.if-next_is_same.true)

pub returns : goal.returns
returns g c =
    let m = g.A.Machine in
    let a = c.args.machine.now in
    rejoins_by_passing (m.is_state a) (m.means a) (m.rules a) (g.met.A.Machine.rule_laws a) c.args.line.now c.pass_next.new.self c.pass_next.ensures c.requires.here
    (λ f. let t = c.next_is_same.ensures.1 f in let u = rw c.if-next_is_same.false at t in cc)
