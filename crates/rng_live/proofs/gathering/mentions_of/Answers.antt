use Rattle.rng_core.specs.Meaning.{definition_of}
use Rattle.rng_live.specs.Gathered.{with_definition}
use Rattle.rng_live.proofs.InOrder.{sorted_whole}
use Rattle.rng_live.proofs.gathering.mentions_of.Goals as goal

pub returns : goal.returns
returns c =
    sorted_whole (λ found def. with_definition c.args.asked (definition_of def) found) c.args.defs.now c.loop-def.def-index c.loop-def.found.items c.sort_names.new.names.items c.from_vec.result
    c.loop-def.invariant c.loop-def-test.false c.sort_names.ensures c.from_vec.ensures
