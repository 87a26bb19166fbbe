use Rattle.std.proofs.Common.{◌≡◌, List, map, sym, ap, subst, ◌∙◌}
use Rattle.rng_core.specs.declared.grammar.Def.{Def}
use Rattle.rng_core.specs.declared.grammar.Grammar.{Grammar}
use Rattle.rng_core.specs.Meaning.{definition_of}
use Rattle.deriv_pattern.proofs.Props.{sound_contents}
use Rattle.rng_live.specs.Schemas.{schema_language}
use Rattle.deriv_pattern.specs.Leaves.{ContentsAreInOrder}
use Rattle.deriv_states.specs.Places.{AreContents}
use Rattle.deriv_pool.proofs.Remembering.{none_noted}
use Rattle.deriv_pool.proofs.pool.Pool.new.Goals as goal

pub new-requires : goal.new-requires
new-requires c =
    let is : c.as_slice.result.now ≡ c.args.schema.grammar.defs = c.as_slice.ensures ∙ ap (λ (g : Grammar). g.defs) c.grammar.ensures in
    subst (λ (ds : List Def). ContentsAreInOrder (map definition_of ds)) (sym is)
    (sound_contents c.sound_are_in_order.ensures _ _ c.requires.sound.definitions_are)

pub invariant_of-result-clause-fits : goal.invariant_of-result-clause-fits
invariant_of-result-clause-fits c =
    let is : c.as_slice.result.now ≡ c.args.schema.grammar.defs = c.as_slice.ensures ∙ ap (λ (g : Grammar). g.defs) c.grammar.ensures in
    ∣ subst (λ (ds : List Def). AreContents c.in_ok-states.states (map definition_of ds)) is c.in_ok-states.ensures ∣₁

pub invariant_of-result-clause-right : goal.invariant_of-result-clause-right
invariant_of-result-clause-right c =
    ∣ none_noted (schema_language c.args.schema).definitions c.in_ok-states.states c.new-memory.result c.new-memory.ensures.answers ∣₁

pub invariant_of-result-clause-names : goal.invariant_of-result-clause-names
invariant_of-result-clause-names c = ∣ c.new-2.ensures (schema_language c.args.schema).definitions c.in_ok-states.states.patterns ∣₁
