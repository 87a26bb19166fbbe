use Rattle.std.proofs.Common.{sym, subst}
use Rattle.nx_tags.specs.Parts.{IsKnownAt}
use Rattle.nx_tags.proofs.Reading.{start_known}
use Rattle.nx_tags.proofs.tags.changes.Goals as goal

pub changes_from-requires-clause-known : goal.changes_from-requires-clause-known
changes_from-requires-clause-known g c =
    subst (λ state. IsKnownAt c.args.text.now 0 state) (sym c.in_ok-nothing.ensures) (start_known c.args.text.now c.len-len.ensures.utf8)
