use Rattle.nx_scan.proofs.Themselves.{edit-leaves}
use Rattle.nx_scan.proofs.border.edits_leave_tokens.Goals as goal

pub returns : goal.returns
returns c text added from to at utf8 added_utf8 start end ordered place within before =
    edit-leaves text added from to at utf8 added_utf8 start end ordered place within before
