use Rattle.std.proofs.Common.{subst, sym}
use Rattle.std.specs.List.{All}
use Rattle.std.proofs.lemmas.List.{take_all}
use Rattle.std.proofs.lemmas.List.Elements.{All-more}
use Rattle.rng_core.specs.declared.grammar.Def.{Def}
use Rattle.rng_core.specs.Soundness.{IsSoundDefinition}
use Rattle.rng_core.specs.Meaning.{definition_of}
use Rattle.std.specs.Prelude.{List}
use Rattle.rng_cases.proofs.sound.are_sound.Goals as goal

pub loop-def-preserved : goal.loop-def-preserved
loop-def-preserved c =
    let P : Def → Type 0 = λ def. IsSoundDefinition c.args.count (definition_of def) in
    All-more P c.args.defs.now c.loop-def.def-index c.def-item.result c.loop-def-test.true c.loop-def.invariant
    (subst P c.def-item.is (c.is_sound_definition.ensures c.if-not-is_sound_definition.false))

pub returns : goal.returns
returns c = λ h.
    subst (λ (ds : List Def). All (λ def. IsSoundDefinition c.args.count (definition_of def)) ds) (take_all c.loop-def.def-index c.args.defs.now c.loop-def-test.false) c.loop-def.invariant
