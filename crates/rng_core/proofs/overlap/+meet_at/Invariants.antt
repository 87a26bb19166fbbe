-- what is left of the class decides, and it is no deeper
use Rattle.std.proofs.Common.{◌≡◌, ◌≤◌}
use Rattle.rng_core.specs.declared.name_class.NameClass.{size-NameClass}
use Rattle.rng_core.specs.Meaning.{class_of}
use Rattle.rng_core.specs.Unmentioned.{meets_as}
use Rattle.rng_core.proofs.overlap.+meet_at.Given as goal

abbrev pub invariant-loop-left : goal.invariant-loop-left
invariant-loop-left l = (meets_as l.bearer (class_of l.left) (class_of l.a) (class_of l.b) ≡ meets_as l.bearer (class_of l.mentioned) (class_of l.a) (class_of l.b)) × (size-NameClass l.left ≤ size-NameClass l.mentioned)
