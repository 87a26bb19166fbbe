use Rattle.std.proofs.Common.{◌≡◌, ◌∙◌, ◌-◌, ◌+◌, ℕ, sym, ap, arith}
use Rattle.nx_position.specs.Positions.{lines_ended, position_of}
use Rattle.nx_lines.proofs.Moves.{at_of, line_in_front}
use Rattle.nx_lines.proofs.cursor.Cursor.step_back.Goals as goal

pub overflow_sub-self : goal.overflow_sub-self
overflow_sub-self c =
    let text = c.args.text.now in let self = c.args.self.now in let at = self.at - 1 in
    let some = c.requires.inside in let within = c.requires.place.within in
    let next : self.at ≡ at + 1 = omega (arith, some) in
    let place : self.position ≡ position_of self.encoding text (at + 1) = c.requires.place.position ∙ ap (position_of self.encoding text) next in
    let line = line_in_front self.encoding text at self.position (omega (arith, some, within)) place (sym c.ends_line_at.ensures ∙ c.if-ends_line_at.true) in
    omega (arith, line)

pub returns-then-ends_line_at-clause-place : goal.returns-then-ends_line_at-clause-place
returns-then-ends_line_at-clause-place c =
    let text = c.args.text.now in let self = c.args.self.now in let at = self.at - 1 in
    let some = c.requires.inside in let within = c.requires.place.within in
    let next : self.at ≡ at + 1 = omega (arith, some) in
    let place : self.position ≡ position_of self.encoding text (at + 1) = c.requires.place.position ∙ ap (position_of self.encoding text) next in
    let line = line_in_front self.encoding text at self.position (omega (arith, some, within)) place (sym c.ends_line_at.ensures ∙ c.if-ends_line_at.true) in
    let one_less : self.position.line - 1 ≡ lines_ended at text = omega (arith, line) in
    let start = c.start_of_line-self.ensures.within in
    record {
      within = omega (arith, start, within);
      position = ap (λ (l : ℕ). at_of l 0) one_less ∙ sym (c.start_of_line-self.ensures.start self.encoding);
    }
