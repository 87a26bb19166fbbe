use Rattle.std.proofs.Common.{◌≡◌, ◌≤◌, ℕ, List}
use Rattle.nx_locate.specs.Answering.{AreTextPlaced}
use Rattle.nx_locate.specs.Walking.{UnderWay, AreTextOpen, opens_of}
use Rattle.nx_locate.proofs.load.Loader.follow.Given as goal

abbrev pub invariant-loop-turn : goal.invariant-loop-turn
invariant-loop-turn g l = record {
  chain : AreTextOpen (opens_of l.self.chain.items);
  rules : AreTextPlaced l.self.rules.items;
  map : g.F.Files.told l.files ≡ g.F.Files.told l.fn.files;
  under_way : (start : List ℕ) → UnderWay (g.F.Files.told l.fn.files) start (opens_of l.fn.self.chain.items) l.fn.self.rules.items →
      UnderWay (g.F.Files.told l.fn.files) start (opens_of l.self.chain.items) l.self.rules.items
      × (g.F.Files.faults l.files ≡ g.F.Files.faults l.fn.files);
  steps : l.fn.steps ≤ l.steps;
}
