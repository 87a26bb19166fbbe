-- the files go on from those that loading began with
use Rattle.std.proofs.Common.{◌≡◌, ◌≤◌, ℕ, List, reverse}
use Rattle.rng_simplify.specs.FileChains.{IsUnderWay, AreTextLinks, AreOpened}
use Rattle.rng_simplify.proofs.load.Loader.follow.Given as goal

abbrev pub invariant-loop-turn : goal.invariant-loop-turn
invariant-loop-turn g l = record {
  texts : AreTextLinks (reverse l.self.chain.items);
  known : AreOpened l.self.opened (reverse l.self.chain.items);
  map : g.F.Files.told l.files ≡ g.F.Files.told l.fn.files;
  faults : g.F.Files.faults l.files ≡ g.F.Files.faults l.fn.files;
  steps : l.fn.steps ≤ l.steps;
  under_way : (uri : List ℕ) → IsUnderWay (g.F.Files.told l.fn.files) uri (reverse l.fn.self.chain.items) l.fn.self.loaded.items →
      IsUnderWay (g.F.Files.told l.fn.files) uri (reverse l.self.chain.items) l.self.loaded.items;
}
