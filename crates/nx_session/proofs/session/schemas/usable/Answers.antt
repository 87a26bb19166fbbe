use Rattle.nx_session.proofs.session.schemas.usable.Goals as goal

pub returns-in-Err : goal.returns-in-Err
returns-in-Err c = c.restricted.ensures.why c.args.grammar c.in-Err.ensures
