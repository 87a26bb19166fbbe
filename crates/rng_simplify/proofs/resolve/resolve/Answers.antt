use Rattle.std.proofs.Common.{arith}
use Rattle.rng_simplify.proofs.Taking.{begins, nodes_resolved}
use Rattle.rng_simplify.proofs.resolve.resolve.Goals as goal

pub walk-requires-clause-begun : goal.walk-requires-clause-begun
walk-requires-clause-begun c = begins c.args.whole.now.nodes.items c.args.whole.now.root _ _ c.requires (omega arith) c.in_ok-resolver.ensures

pub returns : goal.returns
returns c =
    nodes_resolved c.args.whole.now.nodes.items c.as_slice.result.now c.args.whole.now.root c.walk.new.self.tables.items c.walk.new.self.links.items c.walk.new.self.scopes c.as_slice-2.result.now c.numbered.new.links c.walk.new.self.combined c.in_ok-elements.elements c.as_slice.ensures.value c.as_slice-2.ensures.value c.requires c.in_ok-walk.ensures c.in_ok-elements.ensures
