use Rattle.std.proofs.Common.{◌≡◌, List, map, sym, ap, subst, ◌∙◌}
use Rattle.rng_core.specs.declared.grammar.Def.{Def}
use Rattle.rng_core.specs.declared.grammar.Grammar.{Grammar}
use Rattle.rng_core.specs.Meaning.{definition_of}
use Rattle.deriv_pool.specs.Remembering.{AreAnswers}
use Rattle.rng_live.specs.Schemas.{schema_language}
use Rattle.deriv_pool.proofs.Kept.{names_on}
use Rattle.deriv_pool.proofs.pool.PoolMatcher.leave.Goals as goal

pub recalled_leave-requires-clause-right : goal.recalled_leave-requires-clause-right
recalled_leave-requires-clause-right c =
    let is : c.as_slice-defs.result.now ≡ c.args.self.now.schema.grammar.defs = c.as_slice-defs.ensures ∙ ap (λ (g : Grammar). g.defs) c.grammar.ensures in
    subst (λ (ds : List Def). ∥ AreAnswers (map definition_of ds) c.args.self.now.states c.args.self.now.memory ∥₁) (sym is) c.args.self.now.right

pub left-requires-clause-right : goal.left-requires-clause-right
left-requires-clause-right c =
    let is : c.as_slice-defs.result.now ≡ c.args.self.now.schema.grammar.defs = c.as_slice-defs.ensures ∙ ap (λ (g : Grammar). g.defs) c.grammar.ensures in
    subst (λ (ds : List Def). ∥ AreAnswers (map definition_of ds) c.args.self.now.states c.args.self.now.memory ∥₁) (sym is) c.args.self.now.right

pub invariant_of-self-in-None-clause-right : goal.invariant_of-self-in-None-clause-right
invariant_of-self-in-None-clause-right c =
    let is : c.as_slice-defs.result.now ≡ c.args.self.now.schema.grammar.defs = c.as_slice-defs.ensures ∙ ap (λ (g : Grammar). g.defs) c.grammar.ensures in
    subst (λ (ds : List Def). ∥ AreAnswers (map definition_of ds) c.left.new.states c.left.new.memory ∥₁) is c.left.ensures.right

pub invariant_of-self-in-None-clause-names : goal.invariant_of-self-in-None-clause-names
invariant_of-self-in-None-clause-names c =
    let m = c.args.self.now in
    names_on (schema_language m.schema).definitions m.states c.left.new.states m.kept.entries.items c.left.ensures.later m.names
