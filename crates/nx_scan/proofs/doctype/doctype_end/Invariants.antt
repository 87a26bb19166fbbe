use Rattle.std.proofs.Common.{◌≡◌, ◌+◌, ◌-◌, ◌≤◌, false, length, drop}
use Rattle.std.specs.Option.{option_map}
use Rattle.nx_base.specs.Tokens.{doctype_bytes}
use Rattle.nx_scan.proofs.doctype.doctype_end.Given as goal

abbrev pub invariant-loop-byte : goal.invariant-loop-byte
invariant-loop-byte l = record {
  within : l.at ≤ length l.text;
  behind : l.from ≤ l.at;
  left : option_map (λ n. l.from + n) (doctype_bytes false 0 (drop l.from l.text)) ≡ option_map (λ n. l.at + n) (doctype_bytes l.subset 0 (drop l.at l.text));
}

abbrev pub decreases-loop-byte : goal.decreases-loop-byte
decreases-loop-byte l = length l.initial.text - l.at
