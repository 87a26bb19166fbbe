use Rattle.nx_events.specs.PlainAttributes.{listed}
use Rattle.nx_events.proofs.PlainAttributes.{opening_faultless}
use Rattle.nx_events.proofs.plain_token.pass_plain_opening.Goals as goal

pub returns-clause-faults : goal.returns-clause-faults
returns-clause-faults c = λ _.
    opening_faultless c.args.state.now c.args.token.now c.in-Some.tag.written.now (listed c.in-Some.tag.attributes) (c.in-Some.ensures c.requires)
