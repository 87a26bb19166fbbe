use Rattle.std.proofs.Common.{List, map, subst}
use Rattle.rng_core.specs.declared.grammar.Def.{Def}
use Rattle.rng_core.specs.Meaning.{definition_of}
use Rattle.rng_live.specs.Listed.{AreMentioned}
use Rattle.rng_live.proofs.Findings.{names_are}
use Rattle.rng_live.proofs.schema.Schema.mentioned.Goals as goal

pub returns : goal.returns
returns c = subst (λ (ds : List Def). AreMentioned (map definition_of ds) c.in_ok-names.names) c.as_slice-defs.ensures (names_are _ _ c.in_ok-names.ensures)
