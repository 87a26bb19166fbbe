use Rattle.std.proofs.Common.{◌≡◌, ◌+◌, length, option_map}
use Rattle.nx_locate.specs.Running.{next_stretch}
use Rattle.nx_locate.proofs.Stretches.{later_by}
use Rattle.nx_locate.proofs.pattern.next_stretch.Given as goal

abbrev pub invariant-loop-byte : goal.invariant-loop-byte
invariant-loop-byte l = record {
  value : next_stretch l.pattern l.text ≡ option_map (later_by l.run) (next_stretch l.pattern l.left);
  text : l.run + length l.left ≡ length l.text;
}

abbrev pub decreases-loop-byte : goal.decreases-loop-byte
decreases-loop-byte l = length l.left
