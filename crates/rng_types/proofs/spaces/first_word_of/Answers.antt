use Rattle.std.proofs.Common.{refl, sym, ◌∙◌}
use Rattle.rng_types.proofs.SplitWords.{no_words, words-found_in}
use Rattle.rng_types.proofs.spaces.first_word_of.Goals as goal

pub returns-then-from-bytes-clause-none : goal.returns-then-from-bytes-clause-none
returns-then-from-bytes-clause-none c = no_words c.args.bytes.now (sym c.leading_space-from.ensures.count ∙ c.if-from-bytes.true)

pub returns-clause-some : goal.returns-clause-some
returns-clause-some c =
    words-found_in c.args.bytes.now _ c.leading_space-from.result c.word_length-length.result refl c.leading_space-from.ensures.count c.if-from-bytes.false c.word_length-length.ensures.count
