-- the words that are left match what is left of the body where all match all of it
use Rattle.std.proofs.Common.{◌≡◌, length}
use Rattle.std.specs.Str.{IsUtf8}
use Rattle.rng_types.specs.Spaces.{words}
use Rattle.rng_core.specs.Meaning.{pattern_of}
use Rattle.rng_kept.specs.Strings.{after_words}
use Rattle.deriv_pattern.specs.Leaves.{IsInOrder}
use Rattle.deriv_pattern.proofs.strings.words_match.Given as goal

abbrev pub invariant-loop-word : goal.invariant-loop-word
invariant-loop-word l = record {
  is_text : IsUtf8 l.rest;
  in_order : IsInOrder (pattern_of l.left.value);
  same : after_words (words l.rest) (pattern_of l.left.value) ≡ after_words (words l.text) (pattern_of l.body);
}

abbrev pub decreases-loop-word : goal.decreases-loop-word
decreases-loop-word l = length (words l.rest)
