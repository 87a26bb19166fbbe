use Rattle.std.proofs.Common.{[], sym, ◌∙◌}
use Rattle.nx_events.specs.PlainAttributes.{listed}
use Rattle.rngx_read.specs.Walking.{walked_of}
use Rattle.rngx_read.proofs.PlainWalking.{tag_gone, as_opening}
use Rattle.rngx_read.proofs.plain.pass_start.Goals as goal

pub returns-in-Some-clause-walk : goal.returns-in-Some-clause-walk
returns-in-Some-clause-walk c t =
    let state = c.args.state.now in
    let token = c.args.token.now in
    let written = c.in-Some.written.now in
    c.in_ok-open.ensures.walk
    ∙ sym (tag_gone state token written [] (walked_of c.args.walk.now) c.requires.steady
    (as_opening state token written (c.in-Some.ensures c.requires.kind)))

pub returns-clause-walk : goal.returns-clause-walk
returns-clause-walk c t =
    let tag = c.in-Some-plain_opening.tag in
    c.in_ok-open-2.ensures.walk
    ∙ sym (tag_gone c.args.state.now c.args.token.now tag.written.now (listed tag.attributes) (walked_of c.args.walk.now) c.requires.steady
    (c.in-Some-plain_opening.ensures c.requires.kind))
