-- where those that are left can be written, all can
use Rattle.std.proofs.Common.{length}
use Rattle.nx_base.specs.Trees.{AreWritable}
use Rattle.rng_fill.specs.Moves.{events_of}
use Rattle.nx_written_cases.proofs.texts.are_writable.Given as goal

abbrev pub invariant-events : goal.invariant-events
invariant-events l = AreWritable (events_of l.rest) → AreWritable (events_of l.events)

abbrev pub decreases-events : goal.decreases-events
decreases-events l = length l.rest
