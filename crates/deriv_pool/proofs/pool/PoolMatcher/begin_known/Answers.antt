use Rattle.rng_live.specs.Schemas.{schema_language}
use Rattle.std.proofs.Common.{◌≡◌, ◌<◌, ◌^◌, List, length, map, sym, ap, subst, ◌∙◌}
use Rattle.std.proofs.lemmas.List.{length-map}
use Rattle.std.proofs.Math.Logic.{∥∥₁_elim}
use Rattle.std.specs.Coded.{le_prop}
use Rattle.rng_core.specs.declared.grammar.Def.{Def}
use Rattle.rng_core.specs.declared.grammar.Grammar.{Grammar}
use Rattle.rng_core.specs.Meaning.{definition_of}
use Rattle.deriv_pool.proofs.Remembering.{answers_on}
use Rattle.deriv_pool.proofs.Kept.{names_on}
use Rattle.deriv_pool.proofs.pool.PoolMatcher.begin_known.Goals as goal

pub begun_known-requires : goal.begun_known-requires
begun_known-requires c =
    let is : c.as_slice.result.now ≡ c.args.self.now.schema.grammar.defs = c.as_slice.ensures ∙ ap (λ (g : Grammar). g.defs) c.grammar.ensures in
    subst (λ (ds : List Def). length ds < 2 ^ 32) (sym is)
    (subst (λ n. n < 2 ^ 32) (length-map c.args.self.now.schema.grammar.defs definition_of) (∥∥₁_elim c.args.self.now.sound le_prop (λ s. s.few)))

pub invariant_of-self-clause-right : goal.invariant_of-self-clause-right
invariant_of-self-clause-right c =
    let m = c.args.self.now in
    answers_on (schema_language m.schema).definitions m.states c.begun_known.new.states m.memory c.begun_known.ensures.later m.right

pub invariant_of-self-clause-names : goal.invariant_of-self-clause-names
invariant_of-self-clause-names c =
    let m = c.args.self.now in
    names_on (schema_language m.schema).definitions m.states c.begun_known.new.states m.kept.entries.items c.begun_known.ensures.later m.names
