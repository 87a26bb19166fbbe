-- The events of finished trees among those of texts, which can also enter an element without a name.
use Rattle.std.specs.Prelude.{◌≡◌, List, map}
use Rattle.nx_base.specs.Trees as trees
use Rattle.nx_events.specs.declared.item.Event.{Event}
use Rattle.nx_events.specs.declared.item.Event.TheVariants.{Enter, Att, TagEnd, Chars, Leave}

abbrev pub as_event : trees.Event → Event
as_event (trees.Enter name) = Enter name
as_event (trees.Att name value) = Att name value
as_event trees.TagEnd = TagEnd
as_event (trees.Chars text) = Chars text
as_event trees.Leave = Leave

-- they stay apart there
abbrev pub TreeEventsStayApart : Type 0
TreeEventsStayApart = (one other : List trees.Event) → map as_event one ≡ map as_event other → one ≡ other
