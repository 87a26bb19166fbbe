use Rattle.std.proofs.Common.{List, map, subst}
use Rattle.rng_core.specs.declared.grammar.Def.{Def}
use Rattle.rng_core.specs.Meaning.{definition_of}
use Rattle.rng_live.specs.Listed.{AreNamespaces}
use Rattle.rng_live.proofs.Findings.{namespaces_are}
use Rattle.rng_live.proofs.schema.Schema.namespaces.Goals as goal

pub returns : goal.returns
returns c = subst (λ (ds : List Def). AreNamespaces (map definition_of ds) c.in_ok-names.names) c.as_slice-defs.ensures (namespaces_are _ _ c.in_ok-names.ensures)
