-- the words that are left match what is left of the body where all match all of it
use Rattle.std.proofs.Common.{◌≡◌, ◌<◌, length}
use Rattle.std.specs.Str.{IsUtf8}
use Rattle.rng_types.specs.Spaces.{words}
use Rattle.rng_kept.specs.Strings.{after_words}
use Rattle.deriv_nodes.specs.Numbers.{at, Later}
use Rattle.deriv_nodes.proofs.nodes.Nodes.words_match.Given as goal

abbrev pub invariant-loop-word : goal.invariant-loop-word
invariant-loop-word l = record {
  is_text : IsUtf8 l.rest;
  later : Later l.initial.self l.self;
  node : l.left < length l.self;
  same : after_words (words l.rest) (at l.self l.left) ≡ after_words (words l.text) (at l.initial.self l.body);
}

abbrev pub decreases-loop-word : goal.decreases-loop-word
decreases-loop-word l = length (words l.rest)
