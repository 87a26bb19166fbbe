use Rattle.rng_live.specs.Schemas.{schema_language}
use Rattle.deriv_pool.proofs.Remembering.{answers_on}
use Rattle.deriv_pool.proofs.Kept.{names_on}
use Rattle.deriv_pool.proofs.pool.PoolMatcher.tag_end_missing.Goals as goal

pub invariant_of-self-clause-right : goal.invariant_of-self-clause-right
invariant_of-self-clause-right c =
    let m = c.args.self.now in
    answers_on (schema_language m.schema).definitions m.states c.given.new.states m.memory c.given.ensures.later m.right

pub invariant_of-self-clause-names : goal.invariant_of-self-clause-names
invariant_of-self-clause-names c =
    let m = c.args.self.now in
    names_on (schema_language m.schema).definitions m.states c.given.new.states m.kept.entries.items c.given.ensures.later m.names
