use Rattle.std.proofs.Common.{subst, sym, true, Err}
use Rattle.rng_simplify.specs.LoadedFiles.{SaysAs}
use Rattle.rng_simplify.proofs.Unread.{unread_markup_refuses}
use Rattle.rng_simplify.proofs.load.surface_in_markup.Goals as goal

pub returns-in-Err-clause-said : goal.returns-in-Err-clause-said
returns-in-Err-clause-said g c =
    subst (λ fault. SaysAs true c.args.text.now (Err fault)) (sym c.unread_markup.ensures)
    (unread_markup_refuses c.args.text.now c.in-Err.fault c.in-Err.ensures.answers)
