use Rattle.rng_names.proofs.Left.{live_contents_are_apart}
use Rattle.rng_names.proofs.law.live_contents_are_apart.Goals as goal

pub returns : goal.returns
returns c g sound live = live_contents_are_apart g sound live
