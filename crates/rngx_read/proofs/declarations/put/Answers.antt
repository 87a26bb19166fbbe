use Rattle.std.proofs.Common.{ℕ, List, Some, subst}
use Rattle.nx_events.specs.Places.{PutsAt}
use Rattle.nx_events.proofs.Places.{puts}
use Rattle.rngx_read.proofs.declarations.put.Goals as goal

pub returns : goal.returns
returns c =
    subst (λ (prefix : List ℕ). PutsAt prefix (Some c.args.place) c.args.places.now c.insert.new.self) c.in_ok-key.ensures.items
    (puts c.args.places.now c.insert.new.self c.in_ok-key.key.items (Some c.args.place) c.in_ok-insert.ensures.updates)
