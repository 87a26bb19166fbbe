use Rattle.std.proofs.Common.{◌≤◌, length, arith}
use Rattle.nx_marks.specs.Chain.{frontier_of}
use Rattle.nx_marks.proofs.Counting.{counted}
use Rattle.nx_marks.proofs.Moving.{over_all, within}
use Rattle.nx_marks.proofs.marks.Marks.catch_up.Goals as goal

pub returns-clause-all : goal.returns-clause-all
returns-clause-all g c =
    let m = g.A.Machine in
    let b = c.slice.new.machine in
    let few : length c.args.text.now ≤ 0xFFFF_FFFF_FFFF_FFFF = omega (arith, c.len-len.ensures.bytes) in
    over_all c.args.text.now (frontier_of c.args.self.now.kept) c.slice.new.self.taken (frontier_of c.slice.new.self.kept) _ c.len-len.ensures.utf8 c.in_ok-slice.ensures.on
    (within (m.is_state b) (m.means b) (m.rules b) (g.met.A.Machine.rule_laws b) c.args.text.now c.len-len.ensures.utf8 c.slice.new.self.kept c.slice.ensures.right) few c.in_ok-slice.ensures.enough

pub returns-clause-bound : goal.returns-clause-bound
returns-clause-bound g c = λ count w.
    let m = g.A.Machine in
    let a = c.args.machine.now in
    let most = c.in_ok-slice.ensures.few count w in
    let all = counted (m.is_state a) (m.means a) (m.rules a) (g.met.A.Machine.rule_laws a) c.args.text.now count c.args.self.now.kept c.len-len.ensures.utf8 c.requires.right w in
    omega arith
