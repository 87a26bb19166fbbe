-- those so far, and those of what is still to come, are those of all
use Rattle.std.proofs.Common.{◌≡◌, ◌++◌, length, map}
use Rattle.std.specs.Prelude.{filter}
use Rattle.rng_core.specs.Meaning.{definition_of}
use Rattle.deriv_nodes.specs.Wanted.{is_named}
use Rattle.deriv_nodes.proofs.openings.named.Given as goal

abbrev pub invariant-loop-one : goal.invariant-loop-one
invariant-loop-one l =
    l.made.items ++ filter (λ one. is_named (map definition_of l.defs) l.name one.number) l.left
    ≡ filter (λ one. is_named (map definition_of l.defs) l.name one.number) l.opened

abbrev pub decreases-loop-one : goal.decreases-loop-one
decreases-loop-one l = length l.left
