use Rattle.std.proofs.Common.{List, subst, sym}
use Rattle.std.specs.Borrow.{Bor}
use Rattle.rng_core.specs.declared.grammar.Pat.{Pat}
use Rattle.rng_cost.specs.Leaves.{patterns_of}
use Rattle.rng_fill.specs.Contents.{definitions_in, costs_in, AreLeavesOf}
use Rattle.rng_fill.proofs.Held.{held}
use Rattle.rng_fill.proofs.contents.Contents.leaves_at.Goals as goal

pub returns : goal.returns
returns c =
    let g = definitions_in c.args.self.now in
    let costs = costs_in c.args.self.now in
    subst (λ (ls : List (Bor Pat)). AreLeavesOf g costs c.args.number (patterns_of ls)) (sym c.as_slice.ensures)
    (held g costs c.args.self.now.leaves c.args.number c.in-Some.leaves.now c.requires.read.each c.in-Some.ensures)
