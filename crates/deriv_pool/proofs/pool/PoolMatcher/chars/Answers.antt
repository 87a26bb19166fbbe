use Rattle.std.proofs.Common.{◌≡◌, List, map, sym, ap, subst, ◌∙◌}
use Rattle.rng_core.specs.declared.grammar.Def.{Def}
use Rattle.rng_core.specs.declared.grammar.Grammar.{Grammar}
use Rattle.rng_core.specs.Meaning.{definition_of}
use Rattle.deriv_pool.specs.Remembering.{AreAnswers}
use Rattle.rng_live.specs.Schemas.{schema_language}
use Rattle.deriv_pool.proofs.Kept.{names_on}
use Rattle.deriv_pool.proofs.pool.PoolMatcher.chars.Goals as goal

pub recalled_chars-requires-clause-right : goal.recalled_chars-requires-clause-right
recalled_chars-requires-clause-right c =
    let is : c.as_slice-defs.result.now ≡ c.args.self.now.schema.grammar.defs = c.as_slice-defs.ensures ∙ ap (λ (g : Grammar). g.defs) c.grammar.ensures in
    subst (λ (ds : List Def). ∥ AreAnswers (map definition_of ds) c.args.self.now.states c.args.self.now.memory ∥₁) (sym is) c.args.self.now.right

pub read_chars-requires-clause-right : goal.read_chars-requires-clause-right
read_chars-requires-clause-right c =
    let is : c.as_slice-defs.result.now ≡ c.args.self.now.schema.grammar.defs = c.as_slice-defs.ensures ∙ ap (λ (g : Grammar). g.defs) c.grammar.ensures in
    subst (λ (ds : List Def). ∥ AreAnswers (map definition_of ds) c.args.self.now.states c.args.self.now.memory ∥₁) (sym is) c.args.self.now.right

pub invariant_of-self-in-None-clause-right : goal.invariant_of-self-in-None-clause-right
invariant_of-self-in-None-clause-right c =
    let is : c.as_slice-defs.result.now ≡ c.args.self.now.schema.grammar.defs = c.as_slice-defs.ensures ∙ ap (λ (g : Grammar). g.defs) c.grammar.ensures in
    subst (λ (ds : List Def). ∥ AreAnswers (map definition_of ds) c.read_chars.new.states c.read_chars.new.memory ∥₁) is c.read_chars.ensures.right

pub invariant_of-self-in-None-clause-names : goal.invariant_of-self-in-None-clause-names
invariant_of-self-in-None-clause-names c =
    let m = c.args.self.now in
    names_on (schema_language m.schema).definitions m.states c.read_chars.new.states m.kept.entries.items c.read_chars.ensures.later m.names
