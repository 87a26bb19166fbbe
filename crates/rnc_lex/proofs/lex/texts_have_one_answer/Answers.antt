use Rattle.rnc_lex.proofs.Lexed.{texts_have_one_answer}
use Rattle.rnc_lex.proofs.lex.texts_have_one_answer.Goals as goal

pub returns : goal.returns
returns c = texts_have_one_answer
