use Rattle.std.proofs.Common.{ℕ, map, subst, sym}
use Rattle.rng_simplify.specs.Cells.{cell_of}
use Rattle.rng_simplify.specs.NodeWalks.{IsMet, walk_state_of}
use Rattle.rng_simplify.proofs.WalkTurns.{standing_met, nowhere_passed, gone_passed}
use Rattle.rng_simplify.proofs.order.Walk.node.Goals as goal

pub go-requires : goal.go-requires
go-requires c =
    let P : ℕ → Type 0 = λ j. IsMet (map cell_of c.args.whole.now.nodes.items) c.args.whole.now.root c.args.found.now j in
    record {
      formed = c.requires.formed;
      resolved = c.requires.resolved;
      met = subst P (sym c.i.view_is) (standing_met c.args.whole.now.nodes.items c.args.whole.now.root c.args.found.now c.args.i c.index.result.now c.requires.resolved c.requires.within (rw c.i.view_is at c.index.ensures) c.in_default.not-Nowhere);
      here = c.requires.here;
      at_rest = c.requires.at_rest;
    }

pub returns-in-Nowhere : goal.returns-in-Nowhere
returns-in-Nowhere c = nowhere_passed c.args.whole.now.nodes.items c.args.whole.now.root c.args.found.now c.args.i c.index.result.now (walk_state_of c.args.self.now) c.requires.resolved c.requires.within (rw c.i.view_is at c.index.ensures) c.in-Nowhere.is c.requires.here c.requires.at_rest

pub returns-in_default : goal.returns-in_default
returns-in_default c = gone_passed (map cell_of c.args.whole.now.nodes.items) c.args.whole.now.root c.args.found.now c.args.i (walk_state_of c.args.self.now) (walk_state_of c.go.new.self) c.go.result (rw c.i.view_is at c.go.ensures)
