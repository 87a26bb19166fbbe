use Rattle.std.proofs.Common.{map, arith, inl, inr, ap, sym, subst, ◌∙◌}
use Rattle.std.proofs.lemmas.Bool.{cases_eq}
use Rattle.std.proofs.lemmas.List.{length-map}
use Rattle.rng_simplify.specs.Cells.{cell_of}
use Rattle.rng_simplify.specs.NodePlaces.{IsStanding}
use Rattle.rng_simplify.specs.NodeWalks.{walk_state_of, mark_at}
use Rattle.rng_simplify.proofs.Posts.{stands_within}
use Rattle.rng_simplify.proofs.order.Walk.nodes.Goals as goal

pub loop-i-preserved : goal.loop-i-preserved
loop-i-preserved c =
    let h = c.in_ok-node.ensures in
    record {
      is_walk = h.is_walk;
      at_rest = h.at_rest;
      met = λ k lt standing. elim (cases_eq k c.loop-i.i) [
        | inl is ↦ λ new. h.met (subst (λ m. IsStanding (map cell_of c.args.whole.now.nodes.items) c.args.whole.now.root m) is standing) (ap (mark_at (walk_state_of c.node.new.self)) (sym is) ∙ new)
        | inr other ↦ h.keeps k (c.loop-i.invariant.met k (omega (arith, lt, other)) standing)
      ];
    }

pub returns : goal.returns
returns c = (
  c.loop-i.invariant.is_walk,
  c.loop-i.invariant.at_rest,
  λ i standing.
      let within = stands_within c.requires.formed standing.1 in
      c.loop-i.invariant.met i (omega (arith, within, length-map c.args.whole.now.nodes.items cell_of, c.loop-i-test.false, c.len-i-end.ensures, c.args.whole.now.nodes.ok.0)) standing,
)
