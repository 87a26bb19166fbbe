use Rattle.std.proofs.Common.{◌≡◌, length}
use Rattle.nx_locate.specs.Answering.{question}
use Rattle.nx_locate.proofs.Giving.{GaveNothing}
use Rattle.nx_locate.proofs.leading.all_give.Given as goal

abbrev pub invariant-loop-placed : goal.invariant-loop-placed
invariant-loop-placed g l = record {
  gave : GaveNothing (g.F.Files.told l.fn.files) (question l.document l.element l.rules) l.rest;
  map : g.F.Files.told l.files ≡ g.F.Files.told l.fn.files;
  faults : g.F.Files.faults l.files ≡ g.F.Files.faults l.fn.files;
}

abbrev pub decreases-loop-placed : goal.decreases-loop-placed
decreases-loop-placed g l = length l.rest
