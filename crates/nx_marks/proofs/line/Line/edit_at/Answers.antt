use Rattle.std.proofs.Common.{◌≡◌, true, subst, sym}
use Rattle.nx_marks.specs.Chain.{Kept}
use Rattle.nx_marks.specs.Editing.{edit_noted}
use Rattle.nx_marks.specs.Joined.{seen}
use Rattle.nx_marks.proofs.Cutting.{edited_at, fits_same}
use Rattle.nx_marks.proofs.line.Line.edit_at.Goals as goal

pub returns-clause-edited : goal.returns-clause-edited
returns-clause-edited g c = λ ordered fits whole ends.
    let k = seen c.args.joined c.args.self.now in
    let edit = c.args.edit.now in
    let d = c.cut_off.new.self in
    let cut = c.cut_off.ensures.cut ordered (fits_same edit.from edit.to edit.added k c.go_before.new.self c.go_before.ensures.all fits) in
    let Q : Kept _ → Type 0 = λ j. record { front = j.front; here = j.here; marked = true; aside = j.aside } ≡ edit_noted edit.from edit.to edit.added k in
    subst Q (sym c.self.view_is) (edited_at edit.from edit.to edit.added k c.go_before.new.self d ordered c.requires whole c.go_before.ensures cut)
