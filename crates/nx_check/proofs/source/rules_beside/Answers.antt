use Rattle.std.proofs.Common.{ap, true, false, refl, Err, List, ℕ, Bool, sym}
use Rattle.std.proofs.lemmas.Result.{err_from_is_err_and}
use Rattle.nx_session.specs.Editor.{files_state}
use Rattle.nx_check.proofs.Finding.{lacks-beside}
use Rattle.nx_check.proofs.source.rules_beside.Goals as goal

pub returns-in_err-uri-clause-stops : goal.returns-in_err-uri-clause-stops
returns-in_err-uri-clause-stops g c =
    let f = g.F.Files in
    let files = files_state (f.told c.args.files.now) (f.faults c.args.files.now) in
    let r = err_from_is_err_and c.from_residual.result c.from_residual.ensures.1 in
    rw (r.1, r.2) (lacks-beside c.args.document.now files c.in_err-uri.field-0.0
    (λ bad. rw c.uri.ensures at c.in_err-uri.ensures.bad (ap (λ fault. Err fault) bad)))
