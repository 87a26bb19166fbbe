use Rattle.std.proofs.Common.{◌≡◌, ◌≤◌}
use Rattle.rng_core.specs.declared.grammar.Pat.{size-Pat}
use Rattle.rng_core.specs.Meaning.{pattern_of}
use Rattle.rng_live.specs.Gathered.{with_attributes}
use Rattle.rng_live.proofs.gathering.+add_attributes.Given as goal

abbrev pub invariant-loop-content : goal.invariant-loop-content
invariant-loop-content l = record {
  found : with_attributes l.asked (pattern_of l.content) l.found.items ≡ with_attributes l.initial.asked (pattern_of l.initial.content) l.initial.found.items;
  no_deeper : size-Pat l.content ≤ size-Pat l.initial.content;
}
