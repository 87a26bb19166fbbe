use Rattle.std.proofs.Common.{◌≡◌, map, take}
use Rattle.rng_core.specs.Meaning.{class_of, definition_of}
use Rattle.rng_restrict.specs.Finding.{classes_at}
use Rattle.rng_restrict.proofs.numbers.classes_of_numbers.Given as goal

abbrev pub invariant-loop-number : goal.invariant-loop-number
invariant-loop-number l = map (λ c. class_of c.now) l.found.items ≡ classes_at (map definition_of l.defs) (take l.number-index l.numbers)
