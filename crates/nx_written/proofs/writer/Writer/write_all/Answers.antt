use Rattle.nx_written.proofs.Writing.{more_written, all_are_written}
use Rattle.nx_written.proofs.writer.Writer.write_all.Goals as goal

pub events-preserved : goal.events-preserved
events-preserved c = more_written c.in-Some.ensures.cases.0 c.events.invariant c.in_ok-write.ensures

pub returns : goal.returns
returns c = all_are_written c.events.rest.now c.in_default.ensures.cases c.events.invariant
