use Rattle.rng_types.proofs.Made.{named_are_well_made}
use Rattle.rng_types.proofs.Exist.{members_exist, texts_give_members}
use Rattle.rng_types.proofs.laws.members_exist.Goals as goal

pub returns : goal.returns
returns c = record { members = members_exist; texts = texts_give_members; named = named_are_well_made }
