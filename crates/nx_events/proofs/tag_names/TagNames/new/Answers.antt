use Rattle.nx_events.proofs.SeenNames.{no_names}
use Rattle.nx_events.proofs.tag_names.TagNames.new.Goals as goal

pub returns : goal.returns
returns c first second = no_names c.new.result.keys first second c.new.ensures.empty
