-- Names among which are all that is required, with a way more in front.
use Rattle.std.specs.Prelude.{◌≡◌, List, ◌∷◌, Result, Ok, Err, IfOk}
use Rattle.std.proofs.Common.{sym, subst}
use Rattle.nx_base.specs.declared.name.Name.{Name}
use Rattle.rng_kept.specs.Residuals.{Residual, Outer, among}
use Rattle.rng_live.specs.Possible.{ArePossible}

-- a way that is in no start tag requires nothing
pub possible_more : {E : Type 0} (found : Result (List Name) E) (x more : Residual) (o : Outer) → x ≡ among o ∷ more →
    IfOk found (ArePossible more) → IfOk found (ArePossible x)
possible_more (Ok names) x more o is all = subst (λ y. ArePossible y names) (sym is) (record { whole = all.whole; tag = all.tag })
possible_more (Err e) x more o is all = all
