use Rattle.rng_live.proofs.Listing.{noted_at_both, noted_at_either}
use Rattle.rng_live.proofs.waiting.Waiting.add_all.Goals as goal

pub returns-in_ok-add-in-Both-2 : goal.returns-in_ok-add-in-Both-2
returns-in_ok-add-in-Both-2 c = rw c.in-Both.is (noted_at_both _ _ _ c.in_ok-add-in-Both.ensures c.in_ok-add-in-Both-2.ensures)

pub returns-in_ok-add-in-Either-2 : goal.returns-in_ok-add-in-Either-2
returns-in_ok-add-in-Either-2 c = rw c.in-Either.is (noted_at_either _ _ _ c.in_ok-add-in-Either.ensures c.in_ok-add-in-Either-2.ensures)
