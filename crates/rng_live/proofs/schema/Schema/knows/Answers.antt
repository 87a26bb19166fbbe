use Rattle.std.proofs.Common.{◌≡◌, List, ap, ◌∙◌}
use Rattle.std.specs.List.{list_any}
use Rattle.rng_core.specs.declared.grammar.Def.{Def}
use Rattle.rng_core.specs.Names.{has_name}
use Rattle.rng_core.specs.Meaning.{pattern_of, definition_of}
use Rattle.rng_live.proofs.Knowing.{known_by_any}
use Rattle.rng_live.proofs.schema.Schema.knows.Goals as goal

pub returns : goal.returns
returns c =
    known_by_any c.args.name.now (pattern_of c.args.self.now.grammar.start) c.args.self.now.grammar.defs c.some_allows.result
    (c.some_allows.ensures ∙ ap (λ (ds : List Def). list_any (λ d. has_name (definition_of d).class c.args.name.now) ds) c.as_slice.ensures)
