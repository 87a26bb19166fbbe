use Rattle.std.proofs.Common.{◌≡◌, List, map, sym, ap, subst, ◌∙◌}
use Rattle.rng_core.specs.declared.grammar.Def.{Def}
use Rattle.rng_core.specs.declared.grammar.Grammar.{Grammar}
use Rattle.rng_core.specs.Meaning.{definition_of}
use Rattle.rng_live.specs.Schemas.{schema_language}
use Rattle.deriv_states.specs.Places.{AreContents}
use Rattle.deriv_pool.proofs.Fits.{contents_of}
use Rattle.deriv_pool.specs.Remembering.{AreAnswers}
use Rattle.deriv_pool.proofs.Kept.{names_on}
use Rattle.deriv_pool.proofs.pool.PoolMatcher.enter.Goals as goal

pub recalled_enter-requires-clause-right : goal.recalled_enter-requires-clause-right
recalled_enter-requires-clause-right c =
    let is : c.as_slice-defs.result.now ≡ c.args.self.now.schema.grammar.defs = c.as_slice-defs.ensures ∙ ap (λ (g : Grammar). g.defs) c.grammar.ensures in
    subst (λ (ds : List Def). ∥ AreAnswers (map definition_of ds) c.args.self.now.states c.args.self.now.memory ∥₁) (sym is) c.args.self.now.right

pub entered-requires-clause-contents : goal.entered-requires-clause-contents
entered-requires-clause-contents c =
    let is : c.as_slice-defs.result.now ≡ c.args.self.now.schema.grammar.defs = c.as_slice-defs.ensures ∙ ap (λ (g : Grammar). g.defs) c.grammar.ensures in
    subst (λ (ds : List Def). AreContents c.args.self.now.states (map definition_of ds)) (sym is)
    (contents_of c.args.self.now.states (schema_language c.args.self.now.schema).definitions c.args.self.now.fits)

pub entered-requires-clause-right : goal.entered-requires-clause-right
entered-requires-clause-right c =
    let is : c.as_slice-defs.result.now ≡ c.args.self.now.schema.grammar.defs = c.as_slice-defs.ensures ∙ ap (λ (g : Grammar). g.defs) c.grammar.ensures in
    subst (λ (ds : List Def). ∥ AreAnswers (map definition_of ds) c.args.self.now.states c.args.self.now.memory ∥₁) (sym is) c.args.self.now.right

pub invariant_of-self-in-None-clause-right : goal.invariant_of-self-in-None-clause-right
invariant_of-self-in-None-clause-right c =
    let is : c.as_slice-defs.result.now ≡ c.args.self.now.schema.grammar.defs = c.as_slice-defs.ensures ∙ ap (λ (g : Grammar). g.defs) c.grammar.ensures in
    subst (λ (ds : List Def). ∥ AreAnswers (map definition_of ds) c.entered.new.states c.entered.new.memory ∥₁) is c.entered.ensures.right

pub invariant_of-self-in-None-clause-names : goal.invariant_of-self-in-None-clause-names
invariant_of-self-in-None-clause-names c =
    let m = c.args.self.now in
    names_on (schema_language m.schema).definitions m.states c.entered.new.states m.kept.entries.items c.entered.ensures.later m.names
