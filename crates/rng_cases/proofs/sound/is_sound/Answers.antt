use Rattle.std.proofs.Common.{subst, sym}
use Rattle.std.specs.List.{All}
use Rattle.std.specs.Prelude.{List}
use Rattle.rng_core.specs.declared.grammar.Def.{Def}
use Rattle.rng_core.specs.Soundness.{IsSoundDefinition}
use Rattle.rng_core.specs.Meaning.{pattern_of, definition_of}
use Rattle.rng_cases.proofs.Orderly.{sound_grammar}
use Rattle.rng_cases.proofs.sound.is_sound.Goals as goal

pub returns : goal.returns
returns c = λ h.
    sound_grammar (pattern_of c.args.grammar.now.start) c.args.grammar.now.defs c.len-count.result c.len-count.ensures c.if-count-ge100000.false
    (c.is_sound_pattern.ensures c.if-not-is_sound_pattern.false)
    (subst (λ (ds : List Def). All (λ def. IsSoundDefinition c.len-count.result (definition_of def)) ds) c.as_slice.ensures (c.are_sound.ensures h))
