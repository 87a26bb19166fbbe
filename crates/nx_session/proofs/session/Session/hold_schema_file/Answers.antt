use Rattle.std.proofs.Common.{Err, refl, ap, inr}
use Rattle.std.proofs.lemmas.Result.{err_from_is_err_and}
use Rattle.nx_session.specs.Editor.{SessionState, files_state}
use Rattle.nx_session.proofs.Using.{unjoined}
use Rattle.nx_session.proofs.session.Session.hold_schema_file.Goals as goal

pub returns-in_err-uri-clause-step : goal.returns-in_err-uri-clause-step
returns-in_err-uri-clause-step g c =
    let f = g.F.Files in
    let refusal = err_from_is_err_and c.from_residual.result c.from_residual.ensures.1 in
    let files = files_state (f.told c.args.files.now) (f.faults c.args.files.now) in
    rw (refusal.1, refusal.2) (
      refl,
      refl,
      unjoined c.args.uri_text.now files files c.in_err-uri.field-0.0
          (λ bad. rw c.text_of.ensures at c.in_err-uri.ensures.bad (ap (λ fault. Err fault) bad)) refl,
    )

pub returns-in_err-hold_file-clause-step : goal.returns-in_err-hold_file-clause-step
returns-in_err-hold_file-clause-step g c =
    let refusal = err_from_is_err_and c.from_residual-in_err-hold_file.result c.from_residual-in_err-hold_file.ensures.1 in
    rw (refusal.1, refusal.2) (
      ap (λ (s : SessionState). s.editor) c.in_err-hold_file.ensures.stays,
      c.in_err-hold_file.ensures.map,
      inr (inr (c.in_ok-uri.uri, rw c.text_of.ensures at c.in_ok-uri.ensures.joined, rw c.text_of-2.ensures at c.in_err-hold_file.ensures.refused)),
    )

pub returns-clause-step : goal.returns-clause-step
returns-clause-step g c =
    (c.in_ok-uri.uri, rw c.text_of.ensures at c.in_ok-uri.ensures.joined, rw c.text_of-2.ensures at c.in_ok-hold_file.ensures.held)
