use Rattle.std.proofs.Common.{ap, sym, ◌∙◌}
use Rattle.rngx_read.specs.PlainWalking.{run_ended, ended}
use Rattle.rngx_read.specs.Walking.{walked_of}
use Rattle.rngx_read.proofs.PlainWalking.{end_gone}
use Rattle.rngx_read.proofs.plain.pass_end.Goals as goal

pub returns-clause-walk : goal.returns-clause-walk
returns-clause-walk c t =
    let walked = walked_of c.args.walk.now in
    c.in_ok-end.ensures
    ∙ ap ended (c.in_ok-end_run.ensures ∙ ap (λ run. run_ended run walked) c.ended_run.ensures)
    ∙ sym (end_gone c.args.state.now c.args.token.now walked c.requires.steady
    (c.is_plain_end.ensures c.requires.kind c.if-not-is_plain_end.false))
