use Rattle.nx_events.proofs.KeptNames.{kept_more}
use Rattle.nx_events.proofs.element.keep_new.Goals as goal

pub returns-else-branch-clause-kept : goal.returns-else-branch-clause-kept
returns-else-branch-clause-kept c names h =
    kept_more c.args.kept.now.names.keys c.insert.new.self.names.keys names c.in-Named.name c.as_slice.result.now c.as_slice-in-Named.result.now c.as_slice.ensures c.as_slice-in-Named.ensures
    c.in_ok-insert-in-Named.ensures.names h
