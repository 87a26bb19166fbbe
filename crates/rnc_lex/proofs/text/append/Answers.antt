use Rattle.rnc_lex.proofs.Steps.{appended, utf8_more}
use Rattle.rnc_lex.proofs.text.append.Goals as goal

pub loop-letter-preserved : goal.loop-letter-preserved
loop-letter-preserved c = appended _ _ _ _ _ _ c.in_ok-push.ensures.bytes c.loop-letter.invariant (utf8_more _ _ _ c.loop-letter-test.true)
