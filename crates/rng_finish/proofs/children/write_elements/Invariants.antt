-- so far the elements of the first leaves were added
use Rattle.std.proofs.Common.{take}
use Rattle.rng_cost.specs.Leaves.{patterns_of}
use Rattle.rng_fill.specs.Contents.{definitions_in, costs_in}
use Rattle.rng_fill.specs.Heads.{AreHeads}
use Rattle.rng_finish.specs.Fit.{AddsElements}
use Rattle.rng_finish.proofs.children.write_elements.Given as goal

abbrev pub invariant-loop-leaf : goal.invariant-loop-leaf
invariant-loop-leaf l = record {
  added : AddsElements (definitions_in l.contents) (patterns_of (take l.leaf-index l.leaves)) l.initial.moves l.moves;
  heads : AreHeads (definitions_in l.contents) (costs_in l.contents) l.heads;
}
