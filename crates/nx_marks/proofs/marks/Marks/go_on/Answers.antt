use Rattle.nx_marks.specs.Chain.{frontier_of}
use Rattle.nx_marks.proofs.Moving.{moves_on, over_between, over_reaches, near_on}
use Rattle.nx_marks.proofs.Keeping.{keeps_later}
use Rattle.nx_marks.proofs.marks.Marks.go_on.Goals as goal

pub returns-clause-on : goal.returns-clause-on
returns-clause-on g c =
    let m = g.A.Machine in
    let b = c.take.new.machine in
    let t = c.args.text.now in
    let k = c.args.self.now.kept in
    let i = c.take.new.kept in
    let utf8 = c.len-len.ensures.utf8 in
    let zero = over_between (m.is_state b) (m.means b) (m.rules b) (g.met.A.Machine.rule_laws b) t utf8 i c.rejoin.new.kept c.take.ensures.right (c.rejoin.ensures.right t utf8 c.take.ensures.right) c.rejoin.ensures.further in
    moves_on t (frontier_of k) 1 (frontier_of i) 0 (frontier_of c.rejoin.new.kept) c.in_ok-take.ensures.on zero

pub returns-clause-near : goal.returns-clause-near
returns-clause-near g c = λ n end w.
    let m = g.A.Machine in
    let a = c.args.machine.now in
    let b = c.take.new.machine in
    near_on (m.is_state b) (m.means b) (m.rules b) (g.met.A.Machine.rule_laws b) c.args.text.now c.len-len.ensures.utf8 (m.means a) (m.rules a) c.args.self.now.kept c.take.new.kept c.rejoin.new.kept n end (over_reaches c.args.text.now _ _ _ (returns-clause-on g c)) c.in_ok-take.ensures.near
    c.rejoin.ensures w

pub returns-clause-keeps : goal.returns-clause-keeps
returns-clause-keeps g c =
    let m = g.A.Machine in
    keeps_later m.later m.is_state m.means m.rules g.met.A.Machine.laws c.args.machine.now c.take.new.machine c.args.text.now c.args.self.now.kept c.take.new.kept c.rejoin.new.kept c.take.ensures.later c.requires.right c.take.ensures.keeps
    (c.rejoin.ensures.keeps c.args.text.now c.len-len.ensures.utf8 c.take.ensures.right)
