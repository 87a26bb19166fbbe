-- Recovery's table over residuals: what an event does to the levels, and what is wrong.
use Rattle.std.specs.Prelude.{ℕ, List, [], ◌∷◌, Option, Some, None}
use Rattle.nx_base.specs.declared.name.Name.{Name}
use Rattle.nx_base.specs.declared.fault.Kind.TheVariants as kinds
use Rattle.rng_core.specs.Patterns.{Language}
use Rattle.rng_kept.specs.Residuals.{Residual}
use Rattle.rng_kept.specs.Merging.{answered}
use Rattle.rng_kept.specs.Entering.{enter, enter_skip}
use Rattle.rng_kept.specs.Tags.{attribute_of, attribute_any, tag_end, tag_end_missing}
use Rattle.rng_kept.specs.Content.{chars, chars_any, leave, leave_skip}
use Rattle.rng_live.specs.Calls.{begin_known}
use Rattle.nx_events.specs.declared.flaw.Flaw.{Flaw}
use Rattle.nx_events.specs.declared.item.Event.{Event}
use Rattle.nx_events.specs.declared.item.Event.TheVariants.{Enter, EnterLost, Att, TagEnd, Chars, Leave}
use Rattle.nx_base.specs.PrintedNames.{name_text}
use Rattle.nx_recover.specs.Details.{names_text, needs_text}
use Rattle.nx_recover.specs.Outcomes.{flaw}
use Rattle.nx_recover.specs.Needed.{needed_names}
use Rattle.nx_recover.specs.Required.{required_names}
use Rattle.nx_recover.specs.declared.levels.Open.{Open}
use Rattle.nx_recover.specs.declared.levels.Open.TheVariants.{In, Begins, Lost}
use Rattle.nx_recover.specs.declared.levels.Turn.{Turn}
use Rattle.nx_recover.specs.declared.levels.Begun.{Begun}
use Rattle.nx_recover.specs.declared.levels.Ended.{Ended}

-- what is left here, nothing in a lost element, and the open elements, the innermost first
pub record Form : Type 0 where
  pub here : Option Residual
  pub elements : List (Open Residual)

abbrev pub turn : Option Residual → Option Flaw → Turn Residual
turn next w = record { next = next; flaw = w }

abbrev pub begun : Option Residual → Open Residual → Option Flaw → Begun Residual
begun here element w = record { here = here; element = element; flaw = w }

abbrev pub ended_as : Option Residual → Option Flaw → Ended Residual
ended_as here w = record { here = here; flaw = w }

-- ---- an element begins

-- behind the start of an element of any definition that has the name; none where none has it
abbrev pub entered_first : Language → Name → Option Residual → Option Residual
entered_first g n (Some x) = answered (enter g.definitions n x)
entered_first g n None = None

unfoldable pub entered_known : Language → Name → Option Residual
entered_known g n = entered_first g n (begin_known g n)

-- in a frame: admitted, not yet, by what is needed, not allowed, unknown
abbrev pub entered_by : Residual → Name → List Name → Option Residual → Option Residual → Option Residual → Begun Residual
entered_by x n needed (Some y) skipped known = begun (Some y) (In n) None
entered_by x n needed None (Some y) known = begun (Some y) (In n) (flaw kinds.NotYet (needs_text n needed))
entered_by x n needed None None (Some y) = begun (Some y) (Begins n (Some x)) (flaw kinds.NotAllowed (name_text n))
entered_by x n needed None None None = begun None (Lost (Some x)) (flaw kinds.Unknown (name_text n))

-- in a lost element: known, lost
abbrev pub found_by : Name → Option Residual → Begun Residual
found_by n (Some y) = begun (Some y) (Begins n None) None
found_by n None = begun None (Lost None) None

unfoldable pub entered : Language → Name → Option Residual → Begun Residual
entered g n (Some x) =
    entered_by x n (needed_names g (Some n) x) (answered (enter g.definitions n x)) (answered (enter_skip g.definitions n x)) (entered_known g n)
entered g n None = found_by n (entered_known g n)

-- ---- an event inside of an element

-- admitted, or made up for
abbrev pub or_made_up : Option Residual → Residual → Option Flaw → Turn Residual
or_made_up (Some y) made w = turn (Some y) None
or_made_up None made w = turn (Some made) w

-- admitted, or something else would be, or it is left out
abbrev pub or_left_out : Option Residual → Option Residual → Option Flaw → Option Flaw → Turn Residual
or_left_out (Some y) other w u = turn (Some y) None
or_left_out None (Some y) w u = turn (Some y) w
or_left_out None None w u = turn None u

-- admitted, bad value, unknown attribute
unfoldable pub attributed : Name → List ℕ → Residual → Turn Residual
attributed n v x =
    or_left_out (answered (attribute_of n v x)) (answered (attribute_any n x))
    (flaw kinds.BadValue (name_text n)) (flaw kinds.UnknownAttribute (name_text n))

-- admitted, lacks attributes
unfoldable pub tag_ended : Residual → Turn Residual
tag_ended x =
    or_made_up (answered (tag_end x)) (tag_end_missing x) (flaw kinds.MissingAttributes (names_text (required_names x)))

-- admitted, bad text, text not allowed
unfoldable pub charred : List ℕ → Residual → Turn Residual
charred t x = or_left_out (answered (chars t x)) (answered (chars_any x)) (flaw kinds.BadValue []) (flaw kinds.TextNotAllowed [])

-- complete, incomplete
unfoldable pub left : Language → Name → Residual → Turn Residual
left g n x = or_made_up (answered (leave x)) (leave_skip x) (flaw kinds.Incomplete (needs_text n (needed_names g None x)))

-- in a lost element nothing happens
abbrev pub in_frame : (Residual → Turn Residual) → Option Residual → Turn Residual
in_frame row (Some x) = row x
in_frame row None = turn None None

abbrev pub passes : Event → Residual → Turn Residual
passes (Att n v) x = attributed n v x
passes TagEnd x = tag_ended x
passes (Chars t) x = charred t x
passes (Enter n) x = turn None None
passes EnterLost x = turn None None
passes Leave x = turn None None

abbrev pub passed : Option Residual → Event → Turn Residual
passed here event = in_frame (passes event) here

-- what goes on behind a turn
abbrev pub goes_on_as : Option Residual → Option Residual → Option Residual
goes_on_as here (Some y) = Some y
goes_on_as here None = here

-- ---- an element ends

-- a frame goes on behind its elements, and otherwise the one around
abbrev pub ended : Language → Option Residual → Open Residual → Ended Residual
ended g here (In n) = ended_as (in_frame (left g n) here).next (in_frame (left g n) here).flaw
ended g here (Begins n around) = ended_as around (in_frame (left g n) here).flaw
ended g here (Lost around) = ended_as around None

-- ---- the levels behind an event

pub record Done : Type 0 where
  pub form : Form
  pub flaw : Option Flaw

abbrev pub done : Option Residual → List (Open Residual) → Option Flaw → Done
done here os w = record { form = record { here = here; elements = os }; flaw = w }

abbrev pub opens : List (Open Residual) → Begun Residual → Done
opens os b = done b.here (b.element ∷ os) b.flaw

abbrev pub goes_on_by : Option Residual → List (Open Residual) → Turn Residual → Done
goes_on_by here os t = done (goes_on_as here t.next) os t.flaw

abbrev pub closes : List (Open Residual) → Ended Residual → Done
closes os e = done e.here os e.flaw

abbrev pub leaves : Language → Option Residual → List (Open Residual) → Done
leaves g here [] = done here [] None
leaves g here (o ∷ os) = closes os (ended g here o)

abbrev pub passed_on : Form → Event → Done
passed_on l event = goes_on_by l.here l.elements (passed l.here event)

abbrev pub done_in : Language → Form → Event → Done
done_in g l (Enter n) = opens l.elements (entered g n l.here)
done_in g l EnterLost = opens l.elements (begun None (Lost l.here) None)
done_in g l (Att n v) = passed_on l (Att n v)
done_in g l TagEnd = passed_on l TagEnd
done_in g l (Chars t) = passed_on l (Chars t)
done_in g l Leave = leaves g l.here l.elements

unfoldable pub done_by : Language → Form → Event → Done
done_by g l event = done_in g l event
