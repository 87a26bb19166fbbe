use Rattle.std.proofs.Common.{◌≡◌, take}
use Rattle.rng_simplify.specs.NodeForms.{AreAllJoined}
use Rattle.rng_simplify.proofs.form.Forms.behind.Given as goal

abbrev pub invariant-loop-other : goal.invariant-loop-other
invariant-loop-other l = record {
  so_far : AreAllJoined l.initial.self.shapes l.self.shapes l.self.of.items l.sign l.initial.joined (take l.other-index l.others) l.joined;
  of_stays : l.self.of ≡ l.initial.self.of;
}
