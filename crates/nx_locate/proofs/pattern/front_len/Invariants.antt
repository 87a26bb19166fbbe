use Rattle.std.proofs.Common.{◌≡◌, ◌+◌, length, option_map}
use Rattle.nx_locate.specs.Running.{front_len}
use Rattle.nx_locate.proofs.pattern.front_len.Given as goal

abbrev pub invariant-loop-byte : goal.invariant-loop-byte
invariant-loop-byte l = record {
  value : front_len l.pattern l.text ≡ option_map (λ k. l.len + k) (front_len l.rest l.left);
  pattern : l.len + length l.rest ≡ length l.pattern;
  text : l.len + length l.left ≡ length l.text;
}

abbrev pub decreases-loop-byte : goal.decreases-loop-byte
decreases-loop-byte l = length l.rest
