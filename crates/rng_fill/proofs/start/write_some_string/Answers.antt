use Rattle.rng_core.specs.Meaning.{pattern_of}
use Rattle.rng_cost.specs.Leaves.{patterns_of}
use Rattle.rng_fill.proofs.Held.{string_fills}
use Rattle.rng_fill.proofs.start.write_some_string.Goals as goal

pub write_string-requires-clause-sound : goal.write_string-requires-clause-sound
write_string-requires-clause-sound c =
    (string_fills (patterns_of c.args.leaves.now) (pattern_of c.in-Some.leaf.now) c.requires c.in-Some.ensures).0

pub write_string-requires-clause-some : goal.write_string-requires-clause-some
write_string-requires-clause-some c =
    (string_fills (patterns_of c.args.leaves.now) (pattern_of c.in-Some.leaf.now) c.requires c.in-Some.ensures).1
