use Rattle.std.proofs.Common.{sym, subst}
use Rattle.std.proofs.Math.Logic.{∥∥₁_elim}
use Rattle.rng_core.specs.declared.grammar.Grammar.{Grammar}
use Rattle.rng_core.specs.Meaning.{pattern_of}
use Rattle.deriv_pattern.specs.Leaves.{IsInOrder}
use Rattle.deriv_pattern.proofs.Props.{in_order_alike}
use Rattle.rng_live.specs.Schemas.{schema_language}
use Rattle.deriv_pool.proofs.Remembering.{answers_on}
use Rattle.deriv_pool.proofs.Kept.{names_on}
use Rattle.deriv_pool.proofs.pool.Pool.start.Goals as goal

pub imported-requires : goal.imported-requires
imported-requires c =
    subst (λ (g : Grammar). IsInOrder (pattern_of g.start)) (sym c.grammar.ensures)
    (∥∥₁_elim c.args.self.now.sound (in_order_alike (pattern_of c.args.self.now.schema.grammar.start)) (λ s. c.sound_are_in_order.ensures _ _ s.start_is))

pub invariant_of-self-clause-right : goal.invariant_of-self-clause-right
invariant_of-self-clause-right c =
    let m = c.args.self.now in
    answers_on (schema_language m.schema).definitions m.states c.imported.new.self m.memory c.imported.ensures.later m.right

pub invariant_of-self-clause-names : goal.invariant_of-self-clause-names
invariant_of-self-clause-names c =
    let m = c.args.self.now in
    names_on (schema_language m.schema).definitions m.states c.imported.new.self m.kept.entries.items c.imported.ensures.later m.names
