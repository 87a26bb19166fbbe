-- the definitions so far are gathered
use Rattle.std.proofs.Common.{take, length}
use Rattle.rng_simplify.specs.Findings.{IsGathered, KeepsFirst}
use Rattle.rng_simplify.proofs.resolve.gathered.Given as goal

abbrev pub invariant-loop-clause : goal.invariant-loop-clause
invariant-loop-clause l = record {
  so_far : IsGathered (length l.initial.combined.items) (take l.clause-index l.clauses) l.names l.combined.items;
  kept : KeepsFirst (length l.initial.combined.items) l.initial.combined.items l.combined.items;
}
