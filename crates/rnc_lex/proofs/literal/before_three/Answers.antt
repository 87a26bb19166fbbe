use Rattle.rnc_lex.proofs.Steps.{three_found, three_go_on, three_not_found}
use Rattle.rnc_lex.proofs.literal.before_three.Goals as goal

pub returns-then-begins_three-clause-found : goal.returns-then-begins_three-clause-found
returns-then-begins_three-clause-found c = three_found _ _ c.loop-i.i _ _ c.loop-i.invariant c.begins_three.ensures.begins c.if-begins_three.true

pub loop-i-preserved : goal.loop-i-preserved
loop-i-preserved c = three_go_on _ _ c.loop-i.i _ _ c.loop-i-test.true c.loop-i.invariant c.begins_three.ensures.begins c.if-begins_three.false

pub returns-clause-found : goal.returns-clause-found
returns-clause-found c = three_not_found _ _ c.loop-i.i _ c.loop-i-test.false c.loop-i.invariant
