use Rattle.std.proofs.Common.{◌≡◌, ◌∙◌, ap}
use Rattle.std.specs.Prelude.{min}
use Rattle.nx_lines.proofs.Moves.{moved}
use Rattle.nx_lines.proofs.cursor.Cursor.move_to.Goals as goal
use Rattle.nx_lines.proofs.cursor.Cursor.move_to.Goals.{then-to-self, else-to-self}

pub returns-clause-position : goal.returns-clause-position
returns-clause-position c =
    let same : c.go_on.new.self.encoding ≡ c.args.self.now.encoding = elim c.if-to-self.branch [ then-to-self w ↦ cc | else-to-self w ↦ cc ] in
    moved c.args.self.now.encoding c.args.text.now c.args.at c.min-to.result c.go_on.new.self c.go_on.ensures.place same c.go_on.ensures.there
    (c.min-to.ensures ∙ ap (min c.args.at) c.len.ensures.bytes)
