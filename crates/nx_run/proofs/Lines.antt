-- A line that ends a run, where the output refuses it.
use Rattle.std.proofs.Common.{ℕ, List, [], Option, Err, refl, sym, subst, inl, inr}
use Rattle.nx_host.specs.declared.out.OutFault.{OutFault}
use Rattle.nx_host.specs.declared.out.OutFault.TheVariants.{Failed, NoMemory}
use Rattle.nx_host.specs.Out.{Appends, Writes, CountsOutFault}
use Rattle.nx_run.specs.declared.status.Status.{Status}
use Rattle.nx_run.specs.Codes.{stop_status}
use Rattle.nx_run.specs.Output.{OutState}
use Rattle.nx_run.specs.Run.{SaysLine}
use Rattle.nx_run.proofs.Playing.{appends-nil}

pub line-refused : (line : List ℕ) (meant : Status) (fault : OutFault) (before after : OutState) →
    Writes {A = Unit {0}} (Err fault) before.bytes line after.bytes → CountsOutFault {A = Unit {0}} (Err fault) before.faults after.faults →
    SaysLine line meant (stop_status fault) before after
line-refused line meant Failed before after written rose = inr (inl (refl, (written, rose)))
line-refused line meant NoMemory before after same quiet =
    let P : Option (List ℕ) → Type 0 = λ told. Appends before.bytes [] told in
    inr (inr (refl, (([], line, refl, subst P (sym same) (appends-nil before.bytes)), quiet)))
