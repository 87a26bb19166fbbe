use Rattle.std.proofs.Common.{◌≡◌, ◌+◌, ◌-◌, ◌^◌, ◌≤◌, min, length}
use Rattle.std.specs.Str.{IsUtf8}
use Rattle.rng_types.specs.Spaces.{words}
use Rattle.rng_types.proofs.length.word_count.Given as goal

abbrev pub invariant-loop-word : goal.invariant-loop-word
invariant-loop-word l = record {
  is_text : IsUtf8 l.left;
  bounded : l.count ≤ 2 ^ 64 - 1;
  counted : min (l.count + length (words l.left)) (2 ^ 64 - 1) ≡ min (length (words l.text)) (2 ^ 64 - 1);
}

abbrev pub decreases-loop-word : goal.decreases-loop-word
decreases-loop-word l = length (words l.left)
