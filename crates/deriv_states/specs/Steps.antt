-- What a step of a matcher asks of the places that are kept.
use Rattle.std.specs.Prelude.{map}
use Rattle.rng_core.specs.Meaning.{definition_of}
use Rattle.deriv_pattern.specs.declared.step.Step.{Step}
use Rattle.deriv_pattern.specs.declared.step.Step.TheVariants as step
use Rattle.deriv_states.specs.Places.{Places, AreContents}

-- what an element's name leads to is what is kept
abbrev pub HasContents : Places → Step → Type 0
HasContents places (step.Enter defs name) = AreContents places (map definition_of defs.now)
HasContents places (step.EnterSkip defs name) = AreContents places (map definition_of defs.now)
HasContents places (step.Attribute name value) = Unit {0}
HasContents places (step.AttributeAny name) = Unit {0}
HasContents places step.TagEnd = Unit {0}
HasContents places step.TagEndMissing = Unit {0}
HasContents places (step.Chars text) = Unit {0}
HasContents places step.CharsAny = Unit {0}
HasContents places step.Leave = Unit {0}
HasContents places step.LeaveSkip = Unit {0}
