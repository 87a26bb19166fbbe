use Rattle.rng_live.specs.Schemas.{schema_language}
use Rattle.deriv_pool.proofs.Remembering.{answers_on}
use Rattle.deriv_pool.proofs.Kept.{names_on}
use Rattle.deriv_pool.proofs.pool.PoolMatcher.begin.Goals as goal

pub invariant_of-self-clause-right : goal.invariant_of-self-clause-right
invariant_of-self-clause-right c =
    let m = c.start.new.self in
    answers_on (schema_language m.schema).definitions m.states c.begun.new.states m.memory c.begun.ensures.later m.right

pub invariant_of-self-clause-names : goal.invariant_of-self-clause-names
invariant_of-self-clause-names c =
    let m = c.start.new.self in
    names_on (schema_language m.schema).definitions m.states c.begun.new.states m.kept.entries.items c.begun.ensures.later m.names
