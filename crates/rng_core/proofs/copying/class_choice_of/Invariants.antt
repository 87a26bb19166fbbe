-- the choice of what is built and what is left stays the same
use Rattle.std.proofs.Common.{◌≡◌, map, vec_len}
use Rattle.rng_core.specs.Meaning.{class_of}
use Rattle.rng_core.specs.Spine.{choices}
use Rattle.rng_core.proofs.copying.class_choice_of.Given as goal

abbrev pub invariant-loop-other : goal.invariant-loop-other
invariant-loop-other l = choices (class_of l.built) (map class_of l.others.items) ≡ choices (class_of l.initial.built) (map class_of l.initial.others.items)

abbrev pub decreases-loop-other : goal.decreases-loop-other
decreases-loop-other l = vec_len l.others
