use Rattle.std.proofs.Common.{List, map, subst}
use Rattle.rng_core.specs.declared.grammar.Def.{Def}
use Rattle.rng_core.specs.Meaning.{definition_of}
use Rattle.rng_live.specs.Listed.{AreLiterals}
use Rattle.rng_live.proofs.Findings.{literals_are}
use Rattle.rng_live.proofs.schema.Schema.values.Goals as goal

pub returns : goal.returns
returns c = subst (λ (ds : List Def). AreLiterals (map definition_of ds) c.in_ok-texts.texts) c.as_slice-defs.ensures (literals_are _ _ c.in_ok-texts.ensures)
