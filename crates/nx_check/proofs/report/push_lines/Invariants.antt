use Rattle.nx_session.specs.Editor.{files_state}
use Rattle.nx_check.proofs.Listing.{IsListing}
use Rattle.nx_check.proofs.report.push_lines.Given as goal

abbrev pub invariant-loop-number : goal.invariant-loop-number
invariant-loop-number g l =
    let f = g.F.Files in
    IsListing l.fn.session.editor l.session.editor (files_state (f.told l.fn.files) (f.faults l.fn.files)) (files_state (f.told l.files) (f.faults l.files))
    l.word l.faults l.number l.fn.text.items l.text.items l.cursor
