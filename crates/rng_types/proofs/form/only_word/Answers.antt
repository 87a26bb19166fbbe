use Rattle.rng_types.proofs.Collapsed.{no_word_fits, two_words_fit_none}
use Rattle.rng_types.proofs.form.only_word.Goals as goal

pub returns-in_default-clause-none : goal.returns-in_default-clause-none
returns-in_default-clause-none c = λ form. no_word_fits c.args.text.now form c.in_default.ensures.none

pub returns-in-Some-first_word-clause-none : goal.returns-in-Some-first_word-clause-none
returns-in-Some-first_word-clause-none c = λ form.
    two_words_fit_none c.args.text.now c.in-Some.rest.now c.in-Some.word.now _ _ form c.utf8.text c.in-Some.ensures.some c.in-Some-first_word.ensures.some
