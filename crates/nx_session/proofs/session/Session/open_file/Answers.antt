use Rattle.std.proofs.Common.{Err, refl, ap}
use Rattle.std.proofs.lemmas.Result.{err_from_is_err_and}
use Rattle.nx_session.specs.Editor.{files_state}
use Rattle.nx_session.proofs.Filing.{opens, open-unfetched, open-unjoined}
use Rattle.nx_session.proofs.session.Session.open_file.Goals as goal

pub returns-in_err-uri-clause-step : goal.returns-in_err-uri-clause-step
returns-in_err-uri-clause-step g c =
    let f = g.F.Files in
    let refusal = err_from_is_err_and c.from_residual.result c.from_residual.ensures.1 in
    rw (refusal.1, refusal.2)
    (open-unjoined c.args.uri_text.now c.args.self.now.editor (files_state (f.told c.args.files.now) (f.faults c.args.files.now)) c.in_err-uri.field-0.0
    (λ bad. rw c.text_of.ensures at c.in_err-uri.ensures.bad (ap (λ fault. Err fault) bad)))

pub returns-in_err-bytes-clause-step : goal.returns-in_err-bytes-clause-step
returns-in_err-bytes-clause-step g c =
    let f = g.F.Files in
    let refusal = err_from_is_err_and c.from_residual-in_err-bytes.result c.from_residual-in_err-bytes.ensures.1 in
    rw (refusal.1, refusal.2)
    (open-unfetched c.args.uri_text.now c.in_ok-uri.uri c.args.self.now.editor
    (files_state (f.told c.args.files.now) (f.faults c.args.files.now)) (files_state (f.told c.fetch.new.self) (f.faults c.fetch.new.self)) c.in_err-bytes.field-0.0
    (rw c.text_of.ensures at c.in_ok-uri.ensures.joined) c.in_err-bytes.ensures.map c.in_err-bytes.ensures.faults)

pub returns-in-Some-clause-step : goal.returns-in-Some-clause-step
returns-in-Some-clause-step g c =
    let f = g.F.Files in
    opens c.args.uri_text.now c.in_ok-uri.uri c.in-Some.bytes c.args.self.now.editor c.open_bytes.new.self.editor _
    (files_state (f.told c.args.files.now) (f.faults c.args.files.now)) (files_state (f.told c.fetch.new.self) (f.faults c.fetch.new.self))
    (rw c.text_of.ensures at c.in_ok-uri.ensures.joined, rw (c.text_of-2.ensures, c.in-Some.is) at c.in_ok-bytes.ensures.found)
    (cc (c.in_ok-bytes.ensures.map, c.in_ok-bytes.ensures.faults))
    c.open_bytes.ensures.step

pub returns-in-None-clause-step : goal.returns-in-None-clause-step
returns-in-None-clause-step g c = (
  (rw c.text_of.ensures at c.in_ok-uri.ensures.joined, rw (c.text_of-2.ensures, c.in-None.is) at c.in_ok-bytes.ensures.found),
  refl,
  cc (c.in_ok-bytes.ensures.map, c.in_ok-bytes.ensures.faults),
)
