-- The answer that a grammar is given: the first restriction that it breaks.
use Rattle.std.specs.Prelude.{List, Result, Ok, Err}
use Rattle.rng_core.specs.Patterns.{Pattern, Definition}
use Rattle.rng_core.specs.Meaning.{pattern_of, definitions_of}
use Rattle.rng_core.specs.declared.grammar.Grammar.{Grammar}
use Rattle.rng_restrict.specs.declared.fault.RestrictFault.{RestrictFault}
use Rattle.rng_restrict.specs.declared.fault.RestrictFault.TheVariants.{Path, Mixture, AttributeOverlap, WildcardOnce}
use Rattle.rng_restrict.specs.declared.fault.RestrictFault.TheVariants.{InterleaveOverlap, TextTwice, NoMemory}
use Rattle.rng_restrict.specs.Paths.{BreaksPath}
use Rattle.rng_restrict.specs.Contents.{BreaksMixture}
use Rattle.rng_restrict.specs.Attributes.{BreaksAttributeOverlap, BreaksWildcardOnce}
use Rattle.rng_restrict.specs.Interleaves.{BreaksInterleaveOverlap, BreaksTextTwice}

-- a grammar with such a start and definitions may be answered so: Ok where it breaks no restriction, a refusal where
-- it breaks that one and none before it, want of memory always
abbrev pub Answers : Pattern → List Definition → Result Unit RestrictFault → Type 0
Answers start defs (Ok none) =
    (BreaksPath start defs → ⊥) × (BreaksMixture start defs → ⊥) × (BreaksAttributeOverlap start defs → ⊥)
    × (BreaksWildcardOnce start defs → ⊥) × (BreaksInterleaveOverlap start defs → ⊥) × (BreaksTextTwice start defs → ⊥)
Answers start defs (Err Path) = BreaksPath start defs
Answers start defs (Err Mixture) = (BreaksPath start defs → ⊥) × BreaksMixture start defs
Answers start defs (Err AttributeOverlap) =
    (BreaksPath start defs → ⊥) × (BreaksMixture start defs → ⊥) × BreaksAttributeOverlap start defs
Answers start defs (Err WildcardOnce) =
    (BreaksPath start defs → ⊥) × (BreaksMixture start defs → ⊥) × (BreaksAttributeOverlap start defs → ⊥)
    × BreaksWildcardOnce start defs
Answers start defs (Err InterleaveOverlap) =
    (BreaksPath start defs → ⊥) × (BreaksMixture start defs → ⊥) × (BreaksAttributeOverlap start defs → ⊥)
    × (BreaksWildcardOnce start defs → ⊥) × BreaksInterleaveOverlap start defs
Answers start defs (Err TextTwice) =
    (BreaksPath start defs → ⊥) × (BreaksMixture start defs → ⊥) × (BreaksAttributeOverlap start defs → ⊥)
    × (BreaksWildcardOnce start defs → ⊥) × (BreaksInterleaveOverlap start defs → ⊥) × BreaksTextTwice start defs
Answers start defs (Err NoMemory) = Unit {0}

abbrev pub ChecksGrammar : Grammar → Result Unit RestrictFault → Type 0
ChecksGrammar grammar result = Answers (pattern_of grammar.start) (definitions_of grammar) result
