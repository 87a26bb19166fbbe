use Rattle.rnc_parse.proofs.Answered.{text_answered}
use Rattle.rnc_parse.proofs.SaidTexts.{answered_text}
use Rattle.rnc_parse.proofs.read.read.Goals as goal

pub returns-in-Ok-clause-answers : goal.returns-in-Ok-clause-answers
returns-in-Ok-clause-answers c =
    text_answered c.args.text.now c.in-Ok.tokens c.read_tokens.result c.in-Ok.ensures.lexes (rw c.as_slice.ensures at c.read_tokens.ensures)

pub returns-in-Ok-clause-texts : goal.returns-in-Ok-clause-texts
returns-in-Ok-clause-texts c =
    answered_text c.in-Ok.tokens _ c.read_tokens.result c.in-Ok.ensures.utf8 (rw c.as_slice.ensures at c.read_tokens.ensures)
