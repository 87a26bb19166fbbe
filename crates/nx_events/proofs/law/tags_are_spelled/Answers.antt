use Rattle.nx_events.proofs.TagKinds.{tags_are_spelled}
use Rattle.nx_events.proofs.law.tags_are_spelled.Goals as goal

pub returns : goal.returns
returns c token utf8 kind = tags_are_spelled token utf8 kind
