use Rattle.std.proofs.Common.{sym, subst}
use Rattle.rng_core.specs.Patterns.{Pattern}
use Rattle.deriv_pattern.specs.Leaves.{IsInOrder}
use Rattle.deriv_plain.proofs.Knowing.{known_in_order}
use Rattle.deriv_plain.proofs.plain.Plain.begun_known.Goals as goal

pub begun_if_allowed-requires : goal.begun_if_allowed-requires
begun_if_allowed-requires c =
    subst (λ (p : Pattern). IsInOrder p) (sym c.in_ok-start.ensures) (known_in_order c.left_is_in_order.ensures _ _ _)
