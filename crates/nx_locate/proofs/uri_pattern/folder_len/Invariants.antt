use Rattle.std.proofs.Common.{◌≡◌, ℕ, ◌≤◌, ◌<◌, true, eqb, not, get_or, length}
use Rattle.nx_locate.proofs.uri_pattern.folder_len.Given as goal

abbrev pub invariant-loop-len : goal.invariant-loop-len
invariant-loop-len l = record {
  within : l.len ≤ length l.uri;
  others : (k : ℕ) → l.len ≤ k → k < length l.uri → not (eqb (get_or l.uri k 0) 47) ≡ true;
}

abbrev pub decreases-loop-len : goal.decreases-loop-len
decreases-loop-len l = l.len
