use Rattle.std.proofs.Common.{ap, Err, List, ℕ, Option, None, sym, subst}
use Rattle.std.specs.Option.{option_map}
use Rattle.std.proofs.lemmas.Result.{err_from_is_err_and}
use Rattle.nx_session.specs.Editor.{files_state}
use Rattle.nx_check.specs.Sources.{HasBadRules}
use Rattle.nx_check.specs.Words.{asked_of_call}
use Rattle.nx_check.proofs.Finding.{lost}
use Rattle.nx_check.proofs.source.rules_of.Goals as goal

pub returns-in_err-uri_of-in-Some-clause-stops : goal.returns-in_err-uri_of-in-Some-clause-stops
returns-in_err-uri_of-in-Some-clause-stops g c =
    let f = g.F.Files in
    let files = files_state (f.told c.args.files.now) (f.faults c.args.files.now) in
    let r = err_from_is_err_and c.from_residual.result c.from_residual.ensures.1 in
    let P : Option (List ℕ) → Type 0 = λ rules. HasBadRules rules c.args.folder.now c.args.document.now in
    rw (r.1, r.2) (lost (asked_of_call c.args.call.now) c.args.folder.now c.args.word.now files c.args.document.now None c.in_err-uri_of-in-Some.field-0.0
    c.requires.document c.requires.not_given c.requires.not_named
    (λ bad. subst P (sym (ap (option_map (λ value. value.now)) c.in-Some.is)) (c.in_err-uri_of-in-Some.ensures.bad (ap (λ fault. Err fault) bad))))
