use Rattle.std.proofs.lemmas.Result.{err_from_is_err_and}
use Rattle.nx_session.specs.Editor.{files_state}
use Rattle.nx_run.proofs.Fetching.{fetched, unfetched}
use Rattle.nx_run.proofs.script.fetch_script.Goals as goal

pub returns-in_err-script : goal.returns-in_err-script
returns-in_err-script g c =
    let f = g.F.Files in
    let fault = err_from_is_err_and c.from_residual-in_err-script.result c.from_residual-in_err-script.ensures.1 in
    rw (fault.1, fault.2)
    (unfetched c.args.word.now c.in_ok-uri.uri
    (files_state (f.told c.args.files.now) (f.faults c.args.files.now)) (files_state (f.told c.fetch.new.self) (f.faults c.fetch.new.self)) c.in_err-script.field-0.0
    c.in_ok-uri.ensures.joined c.in_err-script.ensures.map c.in_err-script.ensures.faults)

pub returns-in-Some : goal.returns-in-Some
returns-in-Some g c =
    let f = g.F.Files in
    fetched c.args.word.now c.in_ok-uri.uri c.in-Some.script
    (files_state (f.told c.args.files.now) (f.faults c.args.files.now)) (files_state (f.told c.fetch.new.self) (f.faults c.fetch.new.self)) c.text_alone.result
    c.in_ok-uri.ensures.joined (rw (c.text_of.ensures, c.in-Some.is) at c.in_ok-script.ensures.found)
    (cc (c.in_ok-script.ensures.map, c.in_ok-script.ensures.faults))
    c.text_alone.ensures
