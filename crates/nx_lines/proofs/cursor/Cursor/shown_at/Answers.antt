use Rattle.std.proofs.Common.{◌∙◌, sym, ap}
use Rattle.nx_lines.specs.Shown.{unmarked}
use Rattle.nx_lines.proofs.Marks.{shown}
use Rattle.nx_lines.proofs.cursor.Cursor.shown_at.Goals as goal

pub returns-then-has_mark-clause-position : goal.returns-then-has_mark-clause-position
returns-then-has_mark-clause-position c =
    let self = c.args.self.now in
    c.without_mark.ensures ∙ ap (λ e. unmarked e c.move_to-position.result) c.move_to-position.ensures.encoding
    ∙ shown self.encoding c.args.text.now c.args.at c.max.result c.move_to-position.result (sym c.has_mark.ensures ∙ c.if-has_mark.true) c.max.ensures
    c.move_to-position.ensures.position
