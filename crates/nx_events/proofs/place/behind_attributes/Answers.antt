use Rattle.std.proofs.Common.{sym}
use Rattle.nx_events.proofs.TagPlaces.{after_attribute_shorter}
use Rattle.nx_events.proofs.Prefixes.{left_more, left_none}
use Rattle.nx_events.proofs.place.behind_attributes.Goals as goal

pub loop-left-preserved : goal.loop-left-preserved
loop-left-preserved c left h = left_more c.loop-left.rest.now c.in-Some.left.now left (sym c.in-Some.ensures) (c.loop-left.invariant left h)

pub loop-left-smaller : goal.loop-left-smaller
loop-left-smaller c = after_attribute_shorter c.loop-left.rest.now c.in-Some.left.now (sym c.in-Some.ensures)

pub returns : goal.returns
returns c left h = sym (left_none c.loop-left.rest.now left (sym c.in_default.ensures) (c.loop-left.invariant left h))
