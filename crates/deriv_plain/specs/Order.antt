-- States whose patterns are in order, so that it can be told of each leaf which strings it takes.
use Rattle.std.specs.Prelude.{List, map}
use Rattle.std.specs.List.{AllByRecursion}
use Rattle.rng_core.specs.Meaning.{definition_of}
use Rattle.rng_kept.specs.Residuals.{Outer, document, inside, one_of, Way, among, in_tag, Residual}
use Rattle.deriv_pattern.specs.Leaves.{IsInOrder, ContentsAreInOrder}
use Rattle.deriv_plain.specs.declared.ways.OneWay.{OneWay}
use Rattle.deriv_plain.specs.Ways.{residual_of}
use Rattle.deriv_pattern.specs.declared.step.Step.{Step}
use Rattle.deriv_pattern.specs.declared.step.Step.TheVariants as step

abbrev pub OuterIsInOrder : Outer → Type 0
OuterIsInOrder (document p) = IsInOrder p
OuterIsInOrder (inside b l v o) = IsInOrder b × IsInOrder l × OuterIsInOrder o
OuterIsInOrder (one_of o u) = OuterIsInOrder o × OuterIsInOrder u

abbrev pub WayIsInOrder : Way → Type 0
WayIsInOrder (among o) = OuterIsInOrder o
WayIsInOrder (in_tag p o) = IsInOrder p × OuterIsInOrder o

abbrev pub AreInOrder : Residual → Type 0
AreInOrder x = AllByRecursion WayIsInOrder x

-- what a state of the matcher is
abbrev pub IsState : List OneWay → Type 0
IsState ways = AreInOrder (residual_of ways)

-- what an element's name leads to is in order
abbrev pub StepIsInOrder : Step → Type 0
StepIsInOrder (step.Enter defs name) = ContentsAreInOrder (map definition_of defs.now)
StepIsInOrder (step.EnterSkip defs name) = ContentsAreInOrder (map definition_of defs.now)
StepIsInOrder (step.Attribute name value) = Unit {0}
StepIsInOrder (step.AttributeAny name) = Unit {0}
StepIsInOrder step.TagEnd = Unit {0}
StepIsInOrder step.TagEndMissing = Unit {0}
StepIsInOrder (step.Chars text) = Unit {0}
StepIsInOrder step.CharsAny = Unit {0}
StepIsInOrder step.Leave = Unit {0}
StepIsInOrder step.LeaveSkip = Unit {0}
