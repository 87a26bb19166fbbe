use Rattle.std.proofs.Common.{◌≡◌, ◌∙◌, ◌-◌, ◌+◌, ℕ, true, false, sym, ap, arith}
use Rattle.nx_position.specs.Positions.{lines_ended, position_of}
use Rattle.nx_lines.proofs.Moves.{Ends, same_lines, line_begins}
use Rattle.nx_lines.proofs.cursor.start_of_line.Goals as goal

pub loop-start-preserved : goal.loop-start-preserved
loop-start-preserved c =
    let text = c.args.text.now in let at = c.loop-start.start - 1 in
    let invariant = c.loop-start.invariant.0 in let within = c.requires.within in
    let next : at + 1 ≡ c.loop-start.start = omega arith in
    let ends : Ends text at false = sym c.ends_line_at.ensures ∙ c.if-not-ends_line_at.true in (
      omega (arith, invariant),
      same_lines text at (omega (arith, invariant, within)) ends ∙ ap (λ (n : ℕ). lines_ended n text) next ∙ c.loop-start.invariant.1,
    )

pub returns-else-not-ends_line_at-clause-start : goal.returns-else-not-ends_line_at-clause-start
returns-else-not-ends_line_at-clause-start c encoding =
    let text = c.args.text.now in let at = c.loop-start.start - 1 in
    let invariant = c.loop-start.invariant.0 in let within = c.requires.within in
    let next : at + 1 ≡ c.loop-start.start = omega arith in
    let ends : Ends text at true = sym c.ends_line_at.ensures ∙ c.if-not-ends_line_at.false in
    sym (ap (λ (n : ℕ). position_of encoding text n) next)
    ∙ line_begins encoding text at (lines_ended c.args.at text) (omega (arith, invariant, within)) ends (ap (λ (n : ℕ). lines_ended n text) next ∙ c.loop-start.invariant.1)
