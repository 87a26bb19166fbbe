use Rattle.nx_session.proofs.TagSteps.{tags_touch_few}
use Rattle.nx_session.proofs.law.tags_touch_few_faults.Goals as goal

pub returns : goal.returns
returns c = tags_touch_few c.tokens_join.ensures c.same_events_have_item_faults.ensures c.recovery_is_one.ensures c.renaming_gives.ensures c.renaming_keeps_events.ensures
