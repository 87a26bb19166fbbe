use Rattle.std.proofs.Common.{◌≡◌, inr, ℕ, ◌+◌, ◌-◌, [], refl, subst, arith}
use Rattle.nx_marks.specs.Chain.{frontier_of}
use Rattle.nx_marks.specs.Frontier.{MovesOver}
use Rattle.nx_marks.proofs.Finishing.{still_none}
use Rattle.nx_marks.proofs.Keeping.{keeps_all, keeps_later}
use Rattle.nx_marks.proofs.Moving.{moves_on, over_grows, over_reaches, smaller, within}
use Rattle.nx_marks.proofs.marks.take_rest.Goals as goal

pub loop-alloc-init : goal.loop-alloc-init
loop-alloc-init g c = record {
  later = g.met.A.Machine.laws.same _;
  right = c.requires.right;
  over = record { tokens = []; cuts = refl; counted = omega arith };
  more = omega arith;
  most = c.requires.most;
  counted = omega arith;
  none = c.requires.none_aside;
  keeps = keeps_all (g.A.Machine.means c.args.machine.now) (g.A.Machine.rules c.args.machine.now) c.args.text.now c.args.line.now;
}

pub cut_and_take_alone-requires-clause-none_aside : goal.cut_and_take_alone-requires-clause-none_aside
cut_and_take_alone-requires-clause-none_aside g c = c.loop-alloc.invariant.none

pub loop-alloc-smaller : goal.loop-alloc-smaller
loop-alloc-smaller g c =
    let m = g.A.Machine in
    let b = c.cut_and_take_alone.new.machine in
    smaller _ (frontier_of c.loop-alloc.line) (frontier_of c.cut_and_take_alone.new.line) (over_grows c.args.text.now _ _ c.len-len.ensures.utf8 c.in_ok-cut_and_take_alone.ensures.on)
    (within (m.is_state b) (m.means b) (m.rules b) (g.met.A.Machine.rule_laws b) c.args.text.now c.len-len.ensures.utf8 c.cut_and_take_alone.new.line c.cut_and_take_alone.ensures.right)

pub loop-alloc-preserved : goal.loop-alloc-preserved
loop-alloc-preserved g c =
    let m = g.A.Machine in
    let b = c.loop-alloc.machine in
    let P : ℕ → Type 0 = λ n. MovesOver c.args.text.now (frontier_of c.args.line.now) n (frontier_of c.cut_and_take_alone.new.line) in
    let more = c.loop-alloc.invariant.more in
    let one : c.loop-alloc.taken - c.args.taken.now + 1 ≡ c.loop-alloc.taken + 1 - c.args.taken.now = omega arith in
    record {
      later = g.met.A.Machine.laws.chain _ _ _ c.loop-alloc.invariant.later c.cut_and_take_alone.ensures.later;
      right = c.cut_and_take_alone.ensures.right;
      over = subst P one (moves_on c.args.text.now _ (c.loop-alloc.taken - c.args.taken.now) (frontier_of c.loop-alloc.line) 1 _ c.loop-alloc.invariant.over c.in_ok-cut_and_take_alone.ensures.on);
      more = omega arith;
      most = omega arith;
      counted = omega (arith, c.loop-alloc.invariant.counted, c.cut_and_take_alone.ensures.step);
      none = still_none (m.means b) (m.rules b) c.args.text.now c.loop-alloc.line c.cut_and_take_alone.new.line c.loop-alloc.invariant.none c.cut_and_take_alone.ensures.keeps;
      keeps = keeps_later m.later m.is_state m.means m.rules g.met.A.Machine.laws c.args.machine.now c.loop-alloc.machine c.args.text.now c.args.line.now c.loop-alloc.line c.cut_and_take_alone.new.line c.loop-alloc.invariant.later c.requires.right c.loop-alloc.invariant.keeps c.cut_and_take_alone.ensures.keeps;
    }

pub returns-in_err-cut_and_take_alone-clause-frontier : goal.returns-in_err-cut_and_take_alone-clause-frontier
returns-in_err-cut_and_take_alone-clause-frontier g c =
    let far = over_reaches c.args.text.now _ _ _ c.loop-alloc.invariant.over in
    let same = c.in_err-cut_and_take_alone.ensures.off in
    omega arith

pub returns-in_err-cut_and_take_alone-clause-none_aside : goal.returns-in_err-cut_and_take_alone-clause-none_aside
returns-in_err-cut_and_take_alone-clause-none_aside g c =
    let m = g.A.Machine in
    let b = c.loop-alloc.machine in
    still_none (m.means b) (m.rules b) c.args.text.now c.loop-alloc.line c.cut_and_take_alone.new.line c.loop-alloc.invariant.none c.cut_and_take_alone.ensures.keeps

pub returns-in_err-cut_and_take_alone-clause-keeps : goal.returns-in_err-cut_and_take_alone-clause-keeps
returns-in_err-cut_and_take_alone-clause-keeps g c =
    let m = g.A.Machine in
    keeps_later m.later m.is_state m.means m.rules g.met.A.Machine.laws c.args.machine.now c.loop-alloc.machine c.args.text.now c.args.line.now c.loop-alloc.line c.cut_and_take_alone.new.line c.loop-alloc.invariant.later c.requires.right c.loop-alloc.invariant.keeps c.cut_and_take_alone.ensures.keeps

pub returns-else-taken-n-clause-frontier : goal.returns-else-taken-n-clause-frontier
returns-else-taken-n-clause-frontier g c = over_reaches c.args.text.now _ _ _ c.loop-alloc.invariant.over

pub returns-after-loop-alloc-clause-frontier : goal.returns-after-loop-alloc-clause-frontier
returns-after-loop-alloc-clause-frontier g c = over_reaches c.args.text.now _ _ _ c.loop-alloc.invariant.over

pub returns-after-loop-alloc-clause-enough : goal.returns-after-loop-alloc-clause-enough
returns-after-loop-alloc-clause-enough g c =
    let m = g.A.Machine in
    let b = c.loop-alloc.machine in
    let far = within (m.is_state b) (m.means b) (m.rules b) (g.met.A.Machine.rule_laws b) c.args.text.now c.len-len.ensures.utf8 c.loop-alloc.line c.loop-alloc.invariant.right in
    inr (omega (arith, c.len-len.ensures.bytes, c.frontier.ensures, c.loop-alloc-test.false))
