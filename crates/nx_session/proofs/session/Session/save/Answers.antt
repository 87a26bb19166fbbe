use Rattle.std.proofs.Common.{Err, refl, ap}
use Rattle.std.proofs.lemmas.Result.{err_from_is_err_and}
use Rattle.nx_session.specs.Editor.{files_state}
use Rattle.nx_session.proofs.Filing.{save-unjoined, save-unstored}
use Rattle.nx_session.proofs.session.Session.save.Goals as goal

pub returns-clause-step : goal.returns-clause-step
returns-clause-step g c = (
  c.in_ok-uri.uri,
  rw c.text_of.ensures at c.in_ok-uri.ensures.joined,
  refl,
  rw (c.text_of-2.ensures, c.in_ok-text.ensures.bytes) at c.in_ok-store.ensures.stored,
  c.in_ok-store.ensures.faults,
)

pub returns-in_err-store-clause-step : goal.returns-in_err-store-clause-step
returns-in_err-store-clause-step g c =
    let f = g.F.Files in
    let refusal = err_from_is_err_and c.from_residual-in_err-store.result c.from_residual-in_err-store.ensures.1 in
    rw (refusal.1, refusal.2)
    (save-unstored c.args.uri_text.now c.in_ok-uri.uri c.args.self.now.editor
    (files_state (f.told c.args.files.now) (f.faults c.args.files.now)) (files_state (f.told c.store.new.self) (f.faults c.store.new.self)) c.in_err-store.field-0.0
    (rw c.text_of.ensures at c.in_ok-uri.ensures.joined) (rw c.text_of-2.ensures at c.in_err-store.ensures.stored) c.in_err-store.ensures.faults)

pub returns-in_err-uri-clause-step : goal.returns-in_err-uri-clause-step
returns-in_err-uri-clause-step g c =
    let f = g.F.Files in
    let refusal = err_from_is_err_and c.from_residual.result c.from_residual.ensures.1 in
    rw (refusal.1, refusal.2)
    (save-unjoined c.args.uri_text.now c.args.self.now.editor (files_state (f.told c.args.files.now) (f.faults c.args.files.now)) c.in_err-uri.field-0.0
    (λ bad. rw c.text_of.ensures at c.in_err-uri.ensures.bad (ap (λ fault. Err fault) bad)))
