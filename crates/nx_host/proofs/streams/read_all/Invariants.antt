use Rattle.std.specs.Io.KnownBytes.{Consumes}
use Rattle.nx_host.proofs.streams.read_all.Given as goal

-- what was read so far is what the reader gave
abbrev pub invariant-loop : goal.invariant-loop
invariant-loop g l = Consumes (g.R.Read.remaining l.initial.reader) (g.R.Read.remaining l.reader) l.read.items
