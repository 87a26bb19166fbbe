use Rattle.nx_session.specs.Editor.{files_state}
use Rattle.nx_check.specs.Words.{asked_of_call}
use Rattle.nx_check.proofs.Asking.{refused-call}
use Rattle.nx_check.proofs.check.check_call.Goals as goal

pub returns : goal.returns
returns g c =
    let f = g.F.Files in
    refused-call (asked_of_call c.args.call.now) c.args.folder.now _ (files_state (f.told c.keep_given.new.files.files) (f.faults c.keep_given.new.files.files)) _ _ _ _
    c.in-Err.reason c.in-Err.ensures.refused c.refuse.ensures
