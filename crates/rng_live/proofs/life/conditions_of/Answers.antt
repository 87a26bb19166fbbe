use Rattle.std.proofs.Common.{◌≡◌, ℕ, List, ◌<◌, ◌≤◌, length, map, sym, ap, subst, ◌∙◌, arith}
use Rattle.std.proofs.lemmas.List.{length-map}
use Rattle.rng_core.specs.declared.grammar.Def.{Def}
use Rattle.rng_core.specs.Meaning.{definition_of}
use Rattle.rng_live.specs.Living.{HaveSoundLeaves}
use Rattle.rng_live.specs.Spelling.{AreSpelled}
use Rattle.rng_live.proofs.Spelled.{def_at, leaves_at, spelled_more, spelled_all}
use Rattle.rng_live.proofs.life.conditions_of.Goals as goal

pub add_definition-requires-clause-sound : goal.add_definition-requires-clause-sound
add_definition-requires-clause-sound c =
    let leaves = subst (λ (ds : List Def). HaveSoundLeaves (map definition_of ds)) (sym c.as_slice-defs.ensures) c.requires in
    leaves_at c.as_slice-defs.result.now c.loop-number.number c.index-defs-number.result leaves (omega arith) c.index-defs-number.is

pub loop-number-preserved : goal.loop-number-preserved
loop-number-preserved c =
    spelled_more (def_at c.as_slice-defs.result.now c.loop-number.number c.index-defs-number.result (omega arith) c.index-defs-number.is) c.loop-number.invariant c.in_ok-add_definition.ensures

pub returns : goal.returns
returns c =
    let enough : length (map definition_of c.as_slice-defs.result.now) ≤ c.loop-number.number = omega (arith, length-map c.as_slice-defs.result.now definition_of) in
    subst (λ (ds : List Def). AreSpelled (map definition_of ds) c.loop-number.conditions.items.items) c.as_slice-defs.ensures (spelled_all c.loop-number.number enough c.loop-number.invariant)
