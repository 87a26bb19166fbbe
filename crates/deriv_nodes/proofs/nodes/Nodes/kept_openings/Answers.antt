use Rattle.std.proofs.Common.{List, subst}
use Rattle.rng_core.specs.Patterns.{Pattern}
use Rattle.deriv_nodes.specs.Kept.{AreKept}
use Rattle.deriv_nodes.proofs.nodes.Nodes.kept_openings.Goals as goal

pub returns : goal.returns
returns c =
    let P : List Pattern → Type 0 = λ ps. AreKept ps c.self.inside.kept.entries.items in
    c.of.ensures c.args.self.now (subst P c.self.view_is c.self.invariant.kept)
