use Rattle.std.proofs.Common.{◌≡◌, List, map, sym, ap, subst, ◌∙◌}
use Rattle.rng_core.specs.declared.grammar.Def.{Def}
use Rattle.rng_core.specs.declared.grammar.Grammar.{Grammar}
use Rattle.rng_core.specs.Meaning.{definition_of}
use Rattle.deriv_pool.specs.Remembering.{AreAnswers}
use Rattle.rng_live.specs.Schemas.{schema_language}
use Rattle.deriv_pool.proofs.Kept.{names_on}
use Rattle.deriv_pool.proofs.pool.PoolMatcher.tag_end.Goals as goal

pub recalled_tag_end-requires-clause-right : goal.recalled_tag_end-requires-clause-right
recalled_tag_end-requires-clause-right c =
    let is : c.as_slice-defs.result.now ≡ c.args.self.now.schema.grammar.defs = c.as_slice-defs.ensures ∙ ap (λ (g : Grammar). g.defs) c.grammar.ensures in
    subst (λ (ds : List Def). ∥ AreAnswers (map definition_of ds) c.args.self.now.states c.args.self.now.memory ∥₁) (sym is) c.args.self.now.right

pub tag_ended-requires-clause-right : goal.tag_ended-requires-clause-right
tag_ended-requires-clause-right c =
    let is : c.as_slice-defs.result.now ≡ c.args.self.now.schema.grammar.defs = c.as_slice-defs.ensures ∙ ap (λ (g : Grammar). g.defs) c.grammar.ensures in
    subst (λ (ds : List Def). ∥ AreAnswers (map definition_of ds) c.args.self.now.states c.args.self.now.memory ∥₁) (sym is) c.args.self.now.right

pub invariant_of-self-in-None-clause-right : goal.invariant_of-self-in-None-clause-right
invariant_of-self-in-None-clause-right c =
    let is : c.as_slice-defs.result.now ≡ c.args.self.now.schema.grammar.defs = c.as_slice-defs.ensures ∙ ap (λ (g : Grammar). g.defs) c.grammar.ensures in
    subst (λ (ds : List Def). ∥ AreAnswers (map definition_of ds) c.tag_ended.new.states c.tag_ended.new.memory ∥₁) is c.tag_ended.ensures.right

pub invariant_of-self-in-None-clause-names : goal.invariant_of-self-in-None-clause-names
invariant_of-self-in-None-clause-names c =
    let m = c.args.self.now in
    names_on (schema_language m.schema).definitions m.states c.tag_ended.new.states m.kept.entries.items c.tag_ended.ensures.later m.names
