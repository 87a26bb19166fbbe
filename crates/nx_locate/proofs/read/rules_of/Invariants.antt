use Rattle.std.proofs.Common.{◌≡◌, ◌≤◌, ◌+◌, ◌++◌, length}
use Rattle.nx_locate.specs.RulesRead.{rules_from}
use Rattle.nx_locate.proofs.read.rules_of.Given as goal

abbrev pub invariant-loop-item : goal.invariant-loop-item
invariant-loop-item l = record {
  rules : l.rules.items ++ rules_from l.depth l.rest ≡ rules_from 0 l.items;
  depth : l.depth + length l.rest ≤ length l.items;
}

abbrev pub decreases-loop-item : goal.decreases-loop-item
decreases-loop-item l = length l.rest
