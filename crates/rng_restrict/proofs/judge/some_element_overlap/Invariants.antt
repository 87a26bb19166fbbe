use Rattle.std.proofs.Common.{◌≡◌, false, map, take}
use Rattle.rng_core.specs.Meaning.{definition_of}
use Rattle.rng_restrict.specs.Finding.{has_part, some_passes, is_element_overlap}
use Rattle.rng_restrict.proofs.judge.some_element_overlap.Given as goal

abbrev pub invariant-loop-number : goal.invariant-loop-number
invariant-loop-number l = some_passes (has_part (is_element_overlap (map definition_of l.defs))) (map definition_of l.defs) (take l.number-index l.numbers) ≡ false
