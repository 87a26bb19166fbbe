use Rattle.rng_core.specs.Meaning.{pattern_of}
use Rattle.rng_fill.proofs.Adding.{adds_leaf, adds_no_leaf}
use Rattle.rng_fill.proofs.attributes.write_if_attribute.Goals as goal

pub returns-in_ok-write_attribute-in-Some : goal.returns-in_ok-write_attribute-in-Some
returns-in_ok-write_attribute-in-Some c = adds_leaf c.in-Some.ensures c.in_ok-write_attribute-in-Some.ensures

pub returns-in-None : goal.returns-in-None
returns-in-None c = adds_no_leaf (pattern_of c.args.leaf.now) c.args.moves.now c.in-None.ensures
