use Rattle.std.proofs.Common.{◌≡◌, List, map, sym, ap, subst, ◌∙◌}
use Rattle.rng_core.specs.declared.grammar.Def.{Def}
use Rattle.rng_core.specs.declared.grammar.Grammar.{Grammar}
use Rattle.rng_core.specs.Meaning.{definition_of}
use Rattle.rng_live.specs.Schemas.{schema_language}
use Rattle.deriv_states.specs.Places.{AreContents}
use Rattle.deriv_pool.proofs.Fits.{contents_of}
use Rattle.deriv_pool.proofs.Remembering.{answers_on}
use Rattle.deriv_pool.proofs.Kept.{names_on}
use Rattle.deriv_pool.proofs.pool.PoolMatcher.enter_skip.Goals as goal

pub answer-requires-clause-contents : goal.answer-requires-clause-contents
answer-requires-clause-contents c =
    let is : c.as_slice.result.now ≡ c.args.self.now.schema.grammar.defs = c.as_slice.ensures ∙ ap (λ (g : Grammar). g.defs) c.grammar.ensures in
    subst (λ (ds : List Def). AreContents c.args.self.now.states (map definition_of ds)) (sym is)
    (contents_of c.args.self.now.states (schema_language c.args.self.now.schema).definitions c.args.self.now.fits)

pub invariant_of-self-clause-right : goal.invariant_of-self-clause-right
invariant_of-self-clause-right c =
    let m = c.args.self.now in
    answers_on (schema_language m.schema).definitions m.states c.answer.new.states m.memory c.answer.ensures.later m.right

pub invariant_of-self-clause-names : goal.invariant_of-self-clause-names
invariant_of-self-clause-names c =
    let m = c.args.self.now in
    names_on (schema_language m.schema).definitions m.states c.answer.new.states m.kept.entries.items c.answer.ensures.later m.names
