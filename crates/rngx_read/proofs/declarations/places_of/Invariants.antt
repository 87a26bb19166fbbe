-- the pairs so far
use Rattle.std.proofs.Common.{take}
use Rattle.rngx_read.specs.Indexing.{IsIndex}
use Rattle.rngx_read.proofs.declarations.places_of.Given as goal

abbrev pub invariant-loop-place : goal.invariant-loop-place
invariant-loop-place l = IsIndex (take l.place l.pairs) l.places
