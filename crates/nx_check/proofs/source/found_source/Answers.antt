use Rattle.std.proofs.Common.{ap, Err, Some, sym, ◌∙◌}
use Rattle.std.proofs.lemmas.Result.{err_from_is_err_and}
use Rattle.nx_locate.specs.NamedSchemas.{named_schema}
use Rattle.nx_session.specs.Editor.{files_state}
use Rattle.nx_check.specs.Words.{asked_of_call}
use Rattle.nx_check.proofs.Finding.{lost}
use Rattle.nx_check.proofs.source.found_source.Goals as goal

pub returns-in_err-join-in-Some-clause-stops : goal.returns-in_err-join-in-Some-clause-stops
returns-in_err-join-in-Some-clause-stops g c =
    let f = g.F.Files in
    let files = files_state (f.told c.args.files.now) (f.faults c.args.files.now) in
    let r = err_from_is_err_and c.from_residual-in_err-join-in-Some.result c.from_residual-in_err-join-in-Some.ensures.1 in
    rw (r.1, r.2) (lost (asked_of_call c.args.call.now) c.args.folder.now c.args.word.now files c.args.document.now (Some c.in-Some.href) c.in_err-join-in-Some.field-0.0
    c.requires.document c.requires.not_given (ap named_schema (sym (c.in_ok-text.ensures ∙ c.in_ok-copy.ensures)) ∙ sym c.in_ok-href.ensures.named ∙ c.in-Some.is)
    (λ bad. rw (c.uri.ensures, c.text_of.ensures) at c.in_err-join-in-Some.ensures.bad (ap (λ fault. Err fault) bad)))
