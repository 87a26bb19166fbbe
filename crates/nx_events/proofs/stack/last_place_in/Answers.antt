use Rattle.std.proofs.Common.{◌≡◌, List, ℕ, take, map, true, false, sym, ap, ◌∙◌, arith}
use Rattle.std.specs.Str.{bytes_eq}
use Rattle.nx_events.specs.Places.{last_place}
use Rattle.nx_events.proofs.Stacks.{last_of_front, last_of_none, same_is}
use Rattle.nx_events.proofs.stack.last_place_in.Goals as goal

pub returns-then-same_each-clause-value : goal.returns-then-same_each-clause-value
returns-then-same_each-clause-value g c =
    let same = sym (ap (λ (p : List ℕ). bytes_eq p c.args.name.now) c.name.ensures) ∙ same_is c.name.result.now c.args.name.now c.same_each.result c.same_each.ensures ∙ c.if-same_each.true in
    sym (last_of_front g.T.Named.name_of c.args.name.now c.args.items.now c.loop-n.n c.index-items-n.result true (omega arith) (omega arith) c.index-items-n.is same) ∙ c.loop-n.invariant.1

pub loop-n-preserved : goal.loop-n-preserved
loop-n-preserved g c =
    let same = sym (ap (λ (p : List ℕ). bytes_eq p c.args.name.now) c.name.ensures) ∙ same_is c.name.result.now c.args.name.now c.same_each.result c.same_each.ensures ∙ c.if-same_each.false in
    (omega (arith, c.loop-n.invariant.0), sym (last_of_front g.T.Named.name_of c.args.name.now c.args.items.now c.loop-n.n c.index-items-n.result false (omega arith) (omega arith) c.index-items-n.is same) ∙ c.loop-n.invariant.1)

pub returns-clause-value : goal.returns-clause-value
returns-clause-value g c =
    let none : c.loop-n.n ≡ 0 = omega arith in
    sym (last_of_none c.args.name.now) ∙ ap (λ (m : ℕ). last_place c.args.name.now (map g.T.Named.name_of (take m c.args.items.now))) (sym none) ∙ c.loop-n.invariant.1
