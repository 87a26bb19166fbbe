use Rattle.nx_recover.proofs.Stepping.{on_ok, with_nothing}
use Rattle.nx_recover.proofs.step.pass_with.Goals as goal

pub returns-then-is_empty-clause-faults : goal.returns-then-is_empty-clause-faults
returns-then-is_empty-clause-faults c = on_ok c.pass_token.result (with_nothing c.args.faults.now c.args.more.now c.if-is_empty.ensures)
