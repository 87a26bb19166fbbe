use Rattle.std.proofs.Common.{◌≡◌, List, subst}
use Rattle.rng_kept.specs.Openings.{joined}
use Rattle.deriv_nodes.specs.declared.openings.Open.{Open}
use Rattle.deriv_nodes.specs.Opened.{openings_at, AreNodes}
use Rattle.deriv_nodes.proofs.Opening.{later_chain, nodes_stay, joined_more}
use Rattle.deriv_nodes.proofs.nodes.Nodes.joined.Goals as goal

pub loop-one-preserved : goal.loop-one-preserved
loop-one-preserved c =
    let old = c.loop-one.self in
    let new = c.added.new.self in
    let rest = c.in-Some.rest.now in
    let later = c.in_ok-opened.ensures.later in
    let is = c.in_ok-opened.ensures.made in
    let split = c.in-Some.ensures.cases.0 in
    let all = joined (openings_at c.args.self.now c.args.opened.items) (openings_at c.args.self.now c.args.more.now) in
    let P : List Open → Type 0 = λ os. AreNodes old os in
    let nodes = subst P split c.loop-one.invariant.behind in
    let Q : List Open → Type 0 = λ os. joined (openings_at old c.loop-one.opened.items) (openings_at old os) ≡ all in
    let same = subst Q split c.loop-one.invariant.same in
    record {
      later = later_chain c.args.self.now old new c.loop-one.invariant.later later;
      opened = is.rests;
      behind = nodes_stay old new rest later nodes.1;
      same = joined_more old new c.loop-one.opened.items c.in-Some.one.now rest c.in_ok-opened.opened.items all later nodes.1 is same;
    }
