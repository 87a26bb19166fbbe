use Rattle.std.proofs.Common.{List, sym, subst}
use Rattle.deriv_pool.specs.declared.kept_names.NeededThere.{NeededThere}
use Rattle.deriv_pool.specs.Kept.{AreKept}
use Rattle.deriv_pool.proofs.Kept.{kept_more}
use Rattle.deriv_pool.proofs.kept_names.KeptNames.put.Goals as goal

pub returns : goal.returns
returns c = λ g nodes are is.
    let first : NeededThere = record { node = c.args.p; skip = c.args.skip; names = c.args.names } in
    let P : List NeededThere → Type 0 = λ es. AreKept g nodes es in
    subst P (sym c.in_ok-push.ensures.items) (kept_more g nodes c.args.self.now.entries.items first are is)
