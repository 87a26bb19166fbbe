use Rattle.std.proofs.Common.{refl, arith, sym, ap}
use Rattle.nx_session.specs.Editor.{files_state}
use Rattle.nx_check.proofs.Listing.{listing-more}
use Rattle.nx_check.proofs.report.push_lines.Goals as goal

pub loop-number-preserved : goal.loop-number-preserved
loop-number-preserved g c =
    let f = g.F.Files in
    let h = c.loop-number.invariant in
    listing-more c.args.session.now.editor c.loop-number.session.editor c.push_fault.new.session.editor (files_state (f.told c.args.files.now) (f.faults c.args.files.now))
    (files_state (f.told c.loop-number.files) (f.faults c.loop-number.files)) (files_state (f.told c.push_fault.new.files) (f.faults c.push_fault.new.files))
    c.args.word.now c.args.faults.now c.loop-number.number _ _ c.args.text.now.items c.loop-number.text.items c.push_fault.new.text.items c.loop-number.cursor c.push_fault.new.cursor
    h (omega (arith, c.loop-number-test.true)) c.index-faults-number.is refl c.in_ok-push_fault.ensures.line c.in_ok-push_fault.ensures.editor c.in_ok-push_fault.ensures.stays
    c.in_ok-push_fault.ensures.stands c.in_ok-push_fault.ensures.encoding
