use Rattle.std.proofs.Common.{◌-◌, ◌++◌, ap, sym, subst, ◌∙◌, arith}
use Rattle.nx_base.specs.Shifting.{placed}
use Rattle.nx_marks.specs.Chain.{faults_in}
use Rattle.nx_marks.proofs.Faults.{faults_fit}
use Rattle.nx_marks.proofs.Reading.{all_faults}
use Rattle.nx_marks.proofs.Stepping.{own_states, back_within}
use Rattle.nx_marks.proofs.marks.Marks.faults.Goals as goal

pub faults-requires : goal.faults-requires
faults-requires g c =
    let m = g.A.Machine in
    let a = c.args.machine.now in
    faults_fit (m.is_state a) (m.means a) (m.rules a) c.requires.right.text (g.met.A.Machine.rule_laws a) c.args.self.now.kept c.requires.right.right

pub at_end-requires-clause-state : goal.at_end-requires-clause-state
at_end-requires-clause-state g c =
    let m = g.A.Machine in
    let a = c.args.machine.now in
    let P : _ → Type 0 = λ s. m.is_state a s in
    subst P (sym c.state.ensures) (own_states (m.is_state a) (m.means a) (m.rules a) c.requires.right.text c.args.self.now.kept c.requires.right.right).here

pub at_end-requires-clause-place : goal.at_end-requires-clause-place
at_end-requires-clause-place g c =
    let m = g.A.Machine in
    let a = c.args.machine.now in
    let b = back_within (m.is_state a) (m.means a) (m.rules a) (g.met.A.Machine.rule_laws a) c.requires.right.text c.requires.right.utf8 c.args.self.now.kept c.requires.right.right in
    let same = ap (λ s. (m.rules a).back (m.means a s)) c.state.ensures in
    omega (arith, c.requires.all)

pub returns-clause-faults : goal.returns-clause-faults
returns-clause-faults g c = λ text utf8 long right.
    let m = g.A.Machine in
    let a = c.args.machine.now in
    let r = m.rules a in
    let k = c.args.self.now.kept in
    c.in_ok-at_end.ensures.faults
    ∙ ap (λ fs. fs ++ placed (c.args.len - r.back (m.means a c.state.result.now)) (r.ends (m.means a c.state.result.now))) c.in_ok-faults.ensures
    ∙ ap (λ s. faults_in 0 k.front ++ placed (c.args.len - r.back (m.means a s)) (r.ends (m.means a s))) c.state.ensures
    ∙ ap (λ n. faults_in 0 k.front ++ placed (n - r.back (m.means a k.here.state)) (r.ends (m.means a k.here.state))) (sym long)
    ∙ all_faults (m.is_state a) (m.means a) r text (g.met.A.Machine.rule_laws a) utf8 k right (c.requires.all ∙ sym long)
