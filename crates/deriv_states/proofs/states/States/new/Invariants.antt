-- the contents so far with those that are left are all
use Rattle.std.proofs.Common.{◌≡◌, ◌++◌, length, map}
use Rattle.rng_core.specs.Meaning.{definition_of}
use Rattle.rng_core.specs.Patterns.{Definition}
use Rattle.deriv_pattern.specs.Leaves.{ContentsAreInOrder}
use Rattle.deriv_states.proofs.states.States.new.Given as goal

abbrev pub invariant-loop-def : goal.invariant-loop-def
invariant-loop-def l = record {
  same : l.states.contents ++ map (λ (d : Definition). d.content) (map definition_of l.left) ≡ map (λ (d : Definition). d.content) (map definition_of l.defs);
  order : ContentsAreInOrder (map definition_of l.left);
}

abbrev pub decreases-loop-def : goal.decreases-loop-def
decreases-loop-def l = length l.left
