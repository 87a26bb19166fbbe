-- the events that are left can be written, and with them all are
use Rattle.std.proofs.Common.{length}
use Rattle.nx_base.specs.Trees.{AreWritable}
use Rattle.rng_fill.specs.Moves.{events_of}
use Rattle.nx_written.specs.Writing.{Held, held, WritesAll}
use Rattle.nx_written.proofs.writer.Writer.write_all.Given as goal

abbrev pub invariant-events : goal.invariant-events
invariant-events l =
    AreWritable (events_of l.rest) × ((new : Held) → WritesAll (events_of l.rest) (held l.self) new → WritesAll (events_of l.events) (held l.fn.self) new)

abbrev pub decreases-events : goal.decreases-events
decreases-events l = length l.rest
