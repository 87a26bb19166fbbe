-- Schemas, without the memory that they stand in, and what pruning answers.
use Rattle.std.specs.Prelude.{Result, Ok, Err}
use Rattle.rng_core.specs.Patterns.{Language}
use Rattle.rng_core.specs.Meaning.{language_of}
use Rattle.rng_core.specs.declared.grammar.Grammar.{Grammar}
use Rattle.rng_live.specs.declared.schema.Schema.{Schema}
use Rattle.rng_live.specs.declared.fault.LiveFault.{LiveFault}
use Rattle.rng_live.specs.declared.fault.LiveFault.TheVariants.{NothingValid, NoMemory}
use Rattle.rng_live.specs.Dead.{IsDead}
use Rattle.rng_live.specs.Pruned.{IsPruned}

abbrev pub schema_language : Schema → Language
schema_language schema = language_of schema.grammar

-- a pruned grammar may be answered for a grammar whose start lives, `NothingValid` where the start is dead, want of memory always
abbrev pub PrunesGrammar : Grammar → Result Schema LiveFault → Type 0
PrunesGrammar grammar (Ok schema) = IsPruned (language_of grammar) (schema_language schema)
PrunesGrammar grammar (Err NothingValid) = IsDead (language_of grammar).definitions (language_of grammar).start
PrunesGrammar grammar (Err NoMemory) = Unit {0}
