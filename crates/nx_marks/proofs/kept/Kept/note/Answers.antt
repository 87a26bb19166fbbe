use Rattle.std.proofs.Common.{◌≡◌, Bool, ap, subst, sym, ◌∙◌}
use Rattle.nx_marks.specs.Editing.{noted}
use Rattle.nx_marks.specs.Joined.{seen}
use Rattle.nx_marks.proofs.kept.Kept.note.Goals as goal

pub returns-then-self : goal.returns-then-self
returns-then-self g c =
    let P : Bool → Type 0 = λ b. seen b c.note_last.new.self ≡ noted (seen b c.self.inside.line) in
    subst P (sym c.if-self.true) c.note_last.ensures ∙ ap noted c.self.view_is

pub returns-else-self : goal.returns-else-self
returns-else-self g c =
    let P : Bool → Type 0 = λ b. seen b c.note.new.self ≡ noted (seen b c.self.inside.line) in
    subst P (sym c.if-self.false) c.note.ensures ∙ ap noted c.self.view_is
