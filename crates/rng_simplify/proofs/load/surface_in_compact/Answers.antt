use Rattle.std.proofs.Common.{subst, sym, false, Err}
use Rattle.rng_simplify.specs.LoadedFiles.{SaysAs}
use Rattle.rng_simplify.proofs.Unread.{unread_refuses}
use Rattle.rng_simplify.proofs.load.surface_in_compact.Goals as goal

pub returns-in-Err : goal.returns-in-Err
returns-in-Err c =
    subst (λ fault. SaysAs false c.args.text.now (Err fault)) (sym c.unread.ensures)
    (unread_refuses c.args.text.now c.in-Err.fault c.in-Err.ensures.answers)
