use Rattle.std.proofs.Common.{◌≡◌, ℕ, ◌+◌, ◌-◌, ◌≤◌, inr, length, subst, sym, arith}
use Rattle.nx_marks.specs.Bound.{ReachesIn, WillReach}
use Rattle.nx_marks.specs.Chain.{frontier_of}
use Rattle.nx_marks.specs.Frontier.{MovesOver}
use Rattle.nx_marks.proofs.Finishing.{none_near, over_finished}
use Rattle.nx_marks.proofs.Keeping.{keeps_later}
use Rattle.nx_marks.proofs.Moving.{moves_on, over_between, over_grows, over_reaches, smaller, within, rejoined, reached, border_of, end_border, from_border, over_joined, none_behind, none_aside, on_ok}
use Rattle.nx_marks.proofs.marks.Marks.take_up_to.Goals as goal

pub loop-self-init : goal.loop-self-init
loop-self-init g c =
    let m = g.A.Machine in
    let a = c.args.machine.now in
    let t = c.args.text.now in
    let utf8 = c.len-len.ensures.utf8 in
    let k = c.args.self.now.kept in
    let j = c.rejoin.new.kept in
    let right = c.rejoin.ensures.right t utf8 c.requires.right in
    let near : (count end : ℕ) → WillReach (m.means a) (m.rules a) t count end k → ReachesIn (m.means a) (m.rules a) t (count - 0) end j = λ count end w.
    (let none : count ≡ count - 0 = omega arith in
    let P : ℕ → Type 0 = λ n. ReachesIn (m.means a) (m.rules a) t n end j in
    subst P none (rejoined (m.is_state a) (m.means a) (m.rules a) (g.met.A.Machine.rule_laws a) t utf8 k j count end c.rejoin.ensures w)) in
    record {
      later = g.met.A.Machine.laws.same _;
      right = right;
      over = over_between (m.is_state a) (m.means a) (m.rules a) (g.met.A.Machine.rule_laws a) t utf8 k j c.requires.right right c.rejoin.ensures.further;
      most = omega arith;
      counted = omega arith;
      near = near;
      joined = λ count end w le.
          (let zero : 0 ≡ 0 - count = omega arith in
          let P : ℕ → Type 0 = λ n. MovesOver t end n (frontier_of j) in
          subst P zero (from_border t end (frontier_of j) utf8 (end_border (m.is_state a) (m.means a) (m.rules a) (g.met.A.Machine.rule_laws a) t utf8 k count end c.requires.right w)
          (border_of (m.is_state a) (m.means a) (m.rules a) (g.met.A.Machine.rule_laws a) t utf8 j right) (reached (m.means a) (m.rules a) t count 0 end j le (near count end w))));
      settled = c.rejoin.ensures.settled;
      keeps = c.rejoin.ensures.keeps t utf8 c.requires.right;
    }

pub loop-self-smaller : goal.loop-self-smaller
loop-self-smaller g c =
    let m = g.A.Machine in
    let b = c.go_on.new.machine in
    smaller _ (frontier_of c.loop-self.self.kept) (frontier_of c.go_on.new.self.kept) (over_grows c.args.text.now _ _ c.len-len.ensures.utf8 c.in_ok-go_on.ensures.on)
    (within (m.is_state b) (m.means b) (m.rules b) (g.met.A.Machine.rule_laws b) c.args.text.now c.len-len.ensures.utf8 c.go_on.new.self.kept c.go_on.ensures.right)

pub loop-self-preserved : goal.loop-self-preserved
loop-self-preserved g c =
    let m = g.A.Machine in
    let b = c.go_on.new.machine in
    let a = c.args.machine.now in
    let utf8 = c.len-len.ensures.utf8 in
    let P : ℕ → Type 0 = λ n. MovesOver c.args.text.now (frontier_of c.args.self.now.kept) n (frontier_of c.go_on.new.self.kept) in
    let near : (count end : ℕ) → WillReach (m.means a) (m.rules a) c.args.text.now count end c.args.self.now.kept → ReachesIn (m.means b) (m.rules b) c.args.text.now (count - c.go_on.new.self.taken) end c.go_on.new.self.kept = λ count end w.
    (let on = c.in_ok-go_on.ensures.near (count - c.loop-self.self.taken) end (c.loop-self.invariant.near count end w) in
    let same : count - c.loop-self.self.taken - 1 ≡ count - c.go_on.new.self.taken = omega (arith, c.go_on.ensures.taken) in
    let Q : ℕ → Type 0 = λ n. ReachesIn (m.means b) (m.rules b) c.args.text.now n end c.go_on.new.self.kept in
    subst Q same on.1) in
    record {
      later = g.met.A.Machine.laws.chain _ _ _ c.loop-self.invariant.later c.go_on.ensures.later;
      right = c.go_on.ensures.right;
      over = subst P (sym c.go_on.ensures.taken) (moves_on c.args.text.now _ c.loop-self.self.taken (frontier_of c.loop-self.self.kept) 1 _ c.loop-self.invariant.over c.in_ok-go_on.ensures.on);
      most = omega arith;
      counted = omega arith;
      near = near;
      joined = λ count end w.
          over_joined c.args.text.now end count c.loop-self.self.taken c.go_on.new.self.taken (frontier_of c.loop-self.self.kept) (frontier_of c.go_on.new.self.kept) utf8
          (end_border (m.is_state a) (m.means a) (m.rules a) (g.met.A.Machine.rule_laws a) c.args.text.now utf8 c.args.self.now.kept count end c.requires.right w)
          (border_of (m.is_state b) (m.means b) (m.rules b) (g.met.A.Machine.rule_laws b) c.args.text.now utf8 c.go_on.new.self.kept c.go_on.ensures.right)
          (c.loop-self.invariant.joined count end w) c.in_ok-go_on.ensures.on c.go_on.ensures.taken
          (λ le. reached (m.means b) (m.rules b) c.args.text.now count c.go_on.new.self.taken end c.go_on.new.self.kept le (near count end w));
      settled = c.in_ok-go_on.ensures.settled;
      keeps = keeps_later m.later m.is_state m.means m.rules g.met.A.Machine.laws c.args.machine.now c.loop-self.machine c.args.text.now c.args.self.now.kept c.loop-self.self.kept c.go_on.new.self.kept c.loop-self.invariant.later c.requires.right c.loop-self.invariant.keeps c.go_on.ensures.keeps;
    }

pub returns-in_err-go_on-clause-frontier : goal.returns-in_err-go_on-clause-frontier
returns-in_err-go_on-clause-frontier g c =
    let far = over_reaches c.args.text.now _ _ _ c.loop-self.invariant.over in
    let same = c.in_err-go_on.ensures.off in
    omega arith

pub returns-else-self-n-clause-frontier : goal.returns-else-self-n-clause-frontier
returns-else-self-n-clause-frontier g c = over_reaches c.args.text.now _ _ _ c.loop-self.invariant.over

pub returns-after-loop-self-clause-frontier : goal.returns-after-loop-self-clause-frontier
returns-after-loop-self-clause-frontier g c = over_reaches c.args.text.now _ _ _ c.loop-self.invariant.over

pub returns-after-loop-self-clause-enough : goal.returns-after-loop-self-clause-enough
returns-after-loop-self-clause-enough g c =
    let m = g.A.Machine in
    let b = c.loop-self.machine in
    let far = within (m.is_state b) (m.means b) (m.rules b) (g.met.A.Machine.rule_laws b) c.args.text.now c.len-len.ensures.utf8 c.loop-self.self.kept c.loop-self.invariant.right in
    inr (omega (arith, c.len-len.ensures.bytes, c.frontier.ensures, c.loop-self-test.false))

pub returns-in_err-go_on-clause-keeps : goal.returns-in_err-go_on-clause-keeps
returns-in_err-go_on-clause-keeps g c =
    let m = g.A.Machine in
    keeps_later m.later m.is_state m.means m.rules g.met.A.Machine.laws c.args.machine.now c.loop-self.machine c.args.text.now c.args.self.now.kept c.loop-self.self.kept c.go_on.new.self.kept c.loop-self.invariant.later c.requires.right c.loop-self.invariant.keeps c.go_on.ensures.keeps

pub returns-else-self-n-clause-joined : goal.returns-else-self-n-clause-joined
returns-else-self-n-clause-joined g c = c.loop-self.invariant.joined

pub returns-after-loop-self-clause-joined : goal.returns-after-loop-self-clause-joined
returns-after-loop-self-clause-joined g c = c.loop-self.invariant.joined

pub returns-else-self-n-clause-few : goal.returns-else-self-n-clause-few
returns-else-self-n-clause-few g c = λ count w.
    let m = g.A.Machine in
    let b = c.loop-self.machine in
    none_behind c.args.text.now count c.loop-self.self.taken (frontier_of c.loop-self.self.kept) c.len-len.ensures.utf8
    (within (m.is_state b) (m.means b) (m.rules b) (g.met.A.Machine.rule_laws b) c.args.text.now c.len-len.ensures.utf8 c.loop-self.self.kept c.loop-self.invariant.right) (c.loop-self.invariant.joined count (length c.args.text.now) w)

pub returns-after-loop-self-clause-few : goal.returns-after-loop-self-clause-few
returns-after-loop-self-clause-few g c = λ count w.
    let m = g.A.Machine in
    let b = c.loop-self.machine in
    none_behind c.args.text.now count c.loop-self.self.taken (frontier_of c.loop-self.self.kept) c.len-len.ensures.utf8
    (within (m.is_state b) (m.means b) (m.rules b) (g.met.A.Machine.rule_laws b) c.args.text.now c.len-len.ensures.utf8 c.loop-self.self.kept c.loop-self.invariant.right) (c.loop-self.invariant.joined count (length c.args.text.now) w)

pub returns-in_err-go_on-clause-none_aside : goal.returns-in_err-go_on-clause-none_aside
returns-in_err-go_on-clause-none_aside g c = λ all. absurd (let same = c.in_err-go_on.ensures.off in omega (arith, c.len-len.ensures.bytes, c.frontier.ensures, c.loop-self-test.true))

pub returns-else-self-n-clause-none_aside : goal.returns-else-self-n-clause-none_aside
returns-else-self-n-clause-none_aside g c = λ all.
    let m = g.A.Machine in
    let b = c.loop-self.machine in
    none_aside (m.is_state b) (m.means b) (m.rules b) c.args.text.now c.loop-self.self.kept c.loop-self.invariant.right all c.loop-self.invariant.settled

pub returns-after-loop-self-clause-none_aside : goal.returns-after-loop-self-clause-none_aside
returns-after-loop-self-clause-none_aside g c = λ all.
    let m = g.A.Machine in
    let b = c.loop-self.machine in
    none_aside (m.is_state b) (m.means b) (m.rules b) c.args.text.now c.loop-self.self.kept c.loop-self.invariant.right all c.loop-self.invariant.settled

pub finish-requires-clause-none_aside : goal.finish-requires-clause-none_aside
finish-requires-clause-none_aside g c = c.none_aside.ensures c.if-none_aside.true

pub returns-then-none_aside-clause-later : goal.returns-then-none_aside-clause-later
returns-then-none_aside-clause-later g c = g.met.A.Machine.laws.chain _ _ _ c.loop-self.invariant.later c.finish.ensures.later

pub returns-then-none_aside-clause-steps : goal.returns-then-none_aside-clause-steps
returns-then-none_aside-clause-steps g c = let before = c.loop-self.invariant.counted in let more = c.finish.ensures.steps in omega arith

pub returns-then-none_aside-clause-frontier : goal.returns-then-none_aside-clause-frontier
returns-then-none_aside-clause-frontier g c =
    let far = over_reaches c.args.text.now _ _ _ c.loop-self.invariant.over in
    let on = c.finish.ensures.frontier in
    omega arith

pub returns-then-none_aside-clause-on : goal.returns-then-none_aside-clause-on
returns-then-none_aside-clause-on g c =
    let t = c.args.text.now in
    let more = c.finish.ensures.more in
    let all : c.loop-self.self.taken + (c.finish.new.self.taken - c.loop-self.self.taken) ≡ c.finish.new.self.taken = omega arith in
    let P : ℕ → Type 0 = λ n. MovesOver t (frontier_of c.args.self.now.kept) n (frontier_of c.finish.new.self.kept) in
    on_ok _ _ c.finish.result (λ on. subst P all (moves_on t _ c.loop-self.self.taken (frontier_of c.loop-self.self.kept) (c.finish.new.self.taken - c.loop-self.self.taken) _ c.loop-self.invariant.over on)) c.finish.ensures.on

pub returns-then-none_aside-clause-joined : goal.returns-then-none_aside-clause-joined
returns-then-none_aside-clause-joined g c =
    let m = g.A.Machine in
    let a = c.args.machine.now in
    let b = c.loop-self.machine in
    let t = c.args.text.now in
    let utf8 = c.len-len.ensures.utf8 in
    let k = c.args.self.now.kept in
    let j = c.loop-self.self.kept in
    let none = c.none_aside.ensures c.if-none_aside.true in
    on_ok _ _ c.finish.result (λ on count end w le. over_finished t end count c.loop-self.self.taken c.finish.new.self.taken (frontier_of j) (frontier_of c.finish.new.self.kept) utf8
    (end_border (m.is_state a) (m.means a) (m.rules a) (g.met.A.Machine.rule_laws a) t utf8 k count end c.requires.right w)
    (border_of (m.is_state b) (m.means b) (m.rules b) (g.met.A.Machine.rule_laws b) t utf8 j c.loop-self.invariant.right)
    (c.loop-self.invariant.joined count end w) (none_near (m.means b) (m.rules b) t (count - c.loop-self.self.taken) end j none (c.loop-self.invariant.near count end w))
    c.finish.ensures.more on le) c.finish.ensures.on

pub returns-then-none_aside-clause-few : goal.returns-then-none_aside-clause-few
returns-then-none_aside-clause-few g c =
    let m = g.A.Machine in
    let b = c.finish.new.machine in
    let P = (count end : ℕ) → WillReach (g.A.Machine.means c.args.machine.now) (g.A.Machine.rules c.args.machine.now) c.args.text.now count end c.args.self.now.kept → count ≤ c.finish.new.self.taken → MovesOver c.args.text.now end (c.finish.new.self.taken - count) (frontier_of c.finish.new.self.kept) in
    on_ok P _ c.finish.result (λ joined count w. none_behind c.args.text.now count c.finish.new.self.taken (frontier_of c.finish.new.self.kept) c.len-len.ensures.utf8
    (within (m.is_state b) (m.means b) (m.rules b) (g.met.A.Machine.rule_laws b) c.args.text.now c.len-len.ensures.utf8 c.finish.new.self.kept c.finish.ensures.right) (joined count (length c.args.text.now) w)) (returns-then-none_aside-clause-joined g c)

pub returns-then-none_aside-clause-none_aside : goal.returns-then-none_aside-clause-none_aside
returns-then-none_aside-clause-none_aside g c = λ all. c.finish.ensures.none_aside

pub returns-then-none_aside-clause-settled : goal.returns-then-none_aside-clause-settled
returns-then-none_aside-clause-settled g c = on_ok _ _ c.finish.result (λ on. inr c.finish.ensures.none_aside) c.finish.ensures.on

pub returns-then-none_aside-clause-keeps : goal.returns-then-none_aside-clause-keeps
returns-then-none_aside-clause-keeps g c =
    let m = g.A.Machine in
    keeps_later m.later m.is_state m.means m.rules g.met.A.Machine.laws c.args.machine.now c.loop-self.machine c.args.text.now c.args.self.now.kept c.loop-self.self.kept c.finish.new.self.kept c.loop-self.invariant.later c.requires.right c.loop-self.invariant.keeps c.finish.ensures.keeps
