-- what is left of the class decides, and it is no deeper
use Rattle.std.proofs.Common.{◌≡◌, ◌≤◌}
use Rattle.rng_core.specs.declared.name_class.NameClass.{size-NameClass}
use Rattle.rng_core.specs.Meaning.{class_of}
use Rattle.rng_core.specs.Unmentioned.{meets_part, borne}
use Rattle.rng_core.proofs.overlap.+wildcard_overlaps.Given as goal

abbrev pub invariant-loop-left : goal.invariant-loop-left
invariant-loop-left l = (meets_part (borne l.bearer (class_of l.wildcard)) (class_of l.left) ≡ meets_part (borne l.bearer (class_of l.wildcard)) (class_of l.other)) × (size-NameClass l.left ≤ size-NameClass l.other)
