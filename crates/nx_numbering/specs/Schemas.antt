-- Laws of schema files: the grammars that they define, and what is left of these, are one but for numbers.
use Rattle.std.specs.Prelude.{ℕ, List}
use Rattle.nx_host.specs.Files.{FileMap}
use Rattle.rng_core.specs.Patterns.{Pattern, Definition, Language}
use Rattle.rng_live.specs.Pruned.{IsPruned}
use Rattle.rng_simplify.specs.Simplified.{Simplifies}
use Rattle.nx_numbering.specs.Numbers.{AreOneButForNumbers}

abbrev pub language : Pattern → List Definition → Language
language start definitions = record { start = start; definitions = definitions }

-- the grammars that files define
abbrev pub FilesDefineOneLanguage : Type 0
FilesDefineOneLanguage = (files : FileMap) (uri : List ℕ) (start other : Pattern) (definitions others : List Definition) →
    Simplifies files uri start definitions → Simplifies files uri other others →
    AreOneButForNumbers (language start definitions) (language other others)

-- what is left of such grammars, when they are pruned
abbrev pub PruningLeavesOneLanguage : Type 0
PruningLeavesOneLanguage = (g h left other : Language) → AreOneButForNumbers g h → IsPruned g left → IsPruned h other →
    AreOneButForNumbers left other
