use Rattle.std.proofs.Common.{None}
use Rattle.std.proofs.lemmas.Map.Text.{hash_map_updates_text}
use Rattle.nx_protocol.proofs.by_uri.take.Goals as goal

pub returns-clause-left : goal.returns-clause-left
returns-clause-left g c = hash_map_updates_text c.args.uri.now c.args.kept.now c.swap_remove.new.self None c.swap_remove.ensures.updates
