use Rattle.std.proofs.Common.{◌≡◌, ◌++◌, List, sym, subst, map, arith}
use Rattle.deriv_nodes.specs.declared.openings.Open.{Open}
use Rattle.deriv_nodes.specs.Numbers.{at}
use Rattle.deriv_nodes.specs.Opened.{openings_at, AreNodes, placed}
use Rattle.deriv_nodes.proofs.Opening.{later_chain, nodes_stay, nodes_more, placed_more}
use Rattle.deriv_nodes.proofs.nodes.Nodes.all_placed.Goals as goal

pub loop-one-preserved : goal.loop-one-preserved
loop-one-preserved c =
    let old = c.loop-one.self in
    let new = c.placed_rest.new.self in
    let made = c.loop-one.made.items in
    let one = c.in-Some.one.now in
    let rest = c.in-Some.rest.now in
    let later = c.in_ok-rest_placed.ensures.later in
    let is = c.in_ok-rest_placed.ensures.made in
    let split = c.in-Some.ensures.cases.0 in
    let all = map (placed c.args.place (at c.args.self.now c.args.side)) (openings_at c.args.self.now c.args.opened.now) in
    let P : List Open → Type 0 = λ os. AreNodes old os in
    let nodes = subst P split c.loop-one.invariant.behind in
    let Q : List Open → Type 0 = λ os. openings_at old made ++ map (placed c.args.place (at old c.args.side)) (openings_at old os) ≡ all in
    let same = subst Q split c.loop-one.invariant.same in
    let o : Open = record { number = one.number; rest = c.in_ok-rest_placed.rest_placed } in
    let items = c.in_ok-push.ensures.items in
    let R : List Open → Type 0 = λ os. AreNodes new os in
    let S : List Open → Type 0 = λ os. openings_at new os ++ map (placed c.args.place (at new c.args.side)) (openings_at new rest) ≡ all in
    record {
      later = later_chain c.args.self.now old new c.loop-one.invariant.later later;
      before = subst R (sym items) (nodes_more new made o (nodes_stay old new made later c.loop-one.invariant.before) is.node);
      behind = nodes_stay old new rest later nodes.1;
      here = omega (arith, c.loop-one.invariant.here, later.grows);
      same = subst S (sym items) (placed_more old new c.args.place c.args.side made one rest c.in_ok-rest_placed.rest_placed all later
          c.loop-one.invariant.before nodes.1 c.loop-one.invariant.here is same);
    }
