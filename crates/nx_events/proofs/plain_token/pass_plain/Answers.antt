use Rattle.nx_events.proofs.PlainTokens.{end_faultless, start_faultless}
use Rattle.nx_events.proofs.plain_token.pass_plain.Goals as goal

pub returns-in_ok-begin_element-in-Start-clause-faults : goal.returns-in_ok-begin_element-in-Start-clause-faults
returns-in_ok-begin_element-in-Start-clause-faults c = λ _.
    start_faultless c.args.state.now c.args.token.now c.in-Some.written.now (c.in-Some.ensures c.in-Start.is)

pub returns-else-not-is_plain_end-clause-faults : goal.returns-else-not-is_plain_end-clause-faults
returns-else-not-is_plain_end-clause-faults c = λ _. end_faultless c.args.state.now c.args.token.now (c.is_plain_end.ensures c.in-End.is c.if-not-is_plain_end.false)
