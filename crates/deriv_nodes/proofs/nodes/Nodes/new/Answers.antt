use Rattle.std.proofs.Common.{rules}
use Rattle.deriv_nodes.specs.Reading.{patterns_of}
use Rattle.deriv_nodes.proofs.nodes.Nodes.new.Goals as goal

pub invariant_of-result : goal.invariant_of-result
invariant_of-result c = record {
  table = search rules;
  kept = c.new-3.ensures (patterns_of c.new.result.keys c.new-2.result.keys);
}
