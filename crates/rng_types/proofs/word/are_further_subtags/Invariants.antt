use Rattle.std.proofs.Common.{◌≡◌, ◌==◌, length}
use Rattle.std.specs.Char.{is_ascii_alphanumeric}
use Rattle.std.specs.List.{list_all, slice_split}
use Rattle.rng_types.specs.Words.{is_subtag}
use Rattle.rng_types.proofs.word.are_further_subtags.Given as goal

abbrev pub invariant-loop-part : goal.invariant-loop-part
invariant-loop-part l = list_all (is_subtag is_ascii_alphanumeric) (slice_split (λ c. c == 45) l.left) ≡ list_all (is_subtag is_ascii_alphanumeric) (slice_split (λ c. c == 45) l.text)

abbrev pub decreases-loop-part : goal.decreases-loop-part
decreases-loop-part l = length l.left
