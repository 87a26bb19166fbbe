use Rattle.nx_words.proofs.Grammar.{words_are_read}
use Rattle.nx_words.proofs.law.words_are_read.Goals as goal

pub returns : goal.returns
returns c = words_are_read
