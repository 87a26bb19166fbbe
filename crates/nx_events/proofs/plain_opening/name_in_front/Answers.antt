use Rattle.nx_events.proofs.PlainAttributes.{ends_at_sign}
use Rattle.nx_events.proofs.plain_opening.name_in_front.Goals as goal

pub returns-in-Some : goal.returns-in-Some
returns-in-Some c = ends_at_sign _ _ c.in-Some.ensures
