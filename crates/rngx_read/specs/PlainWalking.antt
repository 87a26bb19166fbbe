-- A token gone over of which one look tells what it gives. The program's own functions; no public contract rests on them.
use Rattle.std.specs.Prelude.{ℕ, ◌+◌, ◌-◌, Bool, true, false, List, [], ◌∷◌, Option, Some, None, nat_lt}
use Rattle.nx_base.specs.declared.name.Name.{Name}
use Rattle.nx_events.specs.PlainAttributes.{attribute_name, listed}
use Rattle.nx_events.specs.declared.plain_opening.PlainAttribute.{PlainAttribute}
use Rattle.nx_events.specs.declared.plain_opening.PlainAttributes.{PlainAttributes}
use Rattle.rngx_read.specs.Building.{entered_by, attribute_by, string_by, left_by}
use Rattle.rngx_read.specs.Walking.{Walked}

-- behind an element that is too deep nothing is counted or put together
abbrev pub unless_deep : Option ℕ → Walked → Walked → Walked
unless_deep None before now = now
unless_deep (Some at) before now = before

-- an element begins, by whether it is too deep
abbrev pub begun_by : Bool → Name → ℕ → Walked → Walked
begun_by true name at walked = record walked { too_deep = Some at }
begun_by false name at walked = record walked { depth = walked.depth + 1; built = entered_by walked.built.passed name walked.built }

abbrev pub begun : Name → ℕ → Walked → Walked
begun name at walked = unless_deep walked.too_deep walked (begun_by (nat_lt 200 (walked.depth + 1)) name at walked)

-- the innermost element has this attribute
abbrev pub attributed : PlainAttribute → Walked → Walked
attributed it walked =
    unless_deep walked.too_deep walked
    (record walked { built = attribute_by walked.built.passed (attribute_name it) it.value.now walked.built })

abbrev pub all_attributed : List PlainAttribute → Walked → Walked
all_attributed [] walked = walked
all_attributed (it ∷ more) walked = all_attributed more (attributed it walked)

-- those of a tag that has some
abbrev pub listed_if : Option PlainAttributes → List PlainAttribute
listed_if None = []
listed_if (Some attributes) = listed attributes

-- a run of this string ends, or none does
abbrev pub run_ended : Option (List ℕ) → Walked → Walked
run_ended None walked = walked
run_ended (Some text) walked =
    unless_deep walked.too_deep walked (record walked { built = string_by walked.built.passed text walked.built })

-- a run ends, if there is one, an element of this name begins at the place, and its tag has these attributes
abbrev pub tag_begun : Option (List ℕ) → Name → ℕ → List PlainAttribute → Walked → Walked
tag_begun run name at its walked = all_attributed its (begun name at (run_ended run walked))

-- the innermost element ends
abbrev pub ended : Walked → Walked
ended walked =
    unless_deep walked.too_deep walked
    (record walked { depth = walked.depth - 1; built = left_by walked.built.passed walked.built })
