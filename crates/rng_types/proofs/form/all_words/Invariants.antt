use Rattle.std.proofs.Common.{◌≡◌, length}
use Rattle.std.specs.List.{list_all}
use Rattle.std.specs.Str.{IsUtf8}
use Rattle.rng_types.specs.Spaces.{words}
use Rattle.rng_types.specs.Words.{is_word}
use Rattle.rng_types.proofs.form.all_words.Given as goal

abbrev pub invariant-loop-word : goal.invariant-loop-word
invariant-loop-word l = record { is_text : IsUtf8 l.left; same : list_all (is_word l.form) (words l.left) ≡ list_all (is_word l.form) (words l.text) }

abbrev pub decreases-loop-word : goal.decreases-loop-word
decreases-loop-word l = length (words l.left)
