use Rattle.std.proofs.Common.{◌≡◌, ◌∙◌, ◌+◌, ℕ, true, false, get_or, sym, ap, arith}
use Rattle.nx_position.specs.Positions.{is_content, byte_units}
use Rattle.nx_lines.proofs.Moves.{Ends, at_of, behind_end, behind_content, behind_return, few_lines, few_behind}
use Rattle.nx_lines.proofs.cursor.position_behind.Goals as goal

pub overflow_add-result : goal.overflow_add-result
overflow_add-result c =
    let few = few_lines c.args.encoding c.args.text.now c.args.at c.args.position c.requires.held c.requires.inside c.requires.place in omega (arith, few)

pub returns-then-ends_line_at : goal.returns-then-ends_line_at
returns-then-ends_line_at c =
    behind_end c.args.encoding c.args.text.now c.args.at c.args.position c.requires.inside c.requires.place (sym c.ends_line_at.ensures ∙ c.if-ends_line_at.true)

pub overflow_add-result-then-is_content : goal.overflow_add-result-then-is_content
overflow_add-result-then-is_content c =
    let ends : Ends c.args.text.now c.args.at false = sym c.ends_line_at.ensures ∙ c.if-ends_line_at.false in
    let counts : is_content (get_or c.args.text.now c.args.at 0) ≡ true = sym (ap is_content c.byte_of-byte.ensures) ∙ sym c.is_content.ensures ∙ c.if-is_content.true in
    let wide : byte_units c.args.encoding (get_or c.args.text.now c.args.at 0) ≡ c.byte_units.result =
    sym (ap (byte_units c.args.encoding) c.byte_of-byte.ensures) ∙ sym c.byte_units.ensures in
    let few = few_behind c.args.encoding c.args.text.now c.args.at c.args.position c.requires.held c.requires.inside c.requires.place ends counts in
    omega (arith, few, wide)

pub returns-then-is_content : goal.returns-then-is_content
returns-then-is_content c =
    let ends : Ends c.args.text.now c.args.at false = sym c.ends_line_at.ensures ∙ c.if-ends_line_at.false in
    let counts : is_content (get_or c.args.text.now c.args.at 0) ≡ true = sym (ap is_content c.byte_of-byte.ensures) ∙ sym c.is_content.ensures ∙ c.if-is_content.true in
    let wide : c.byte_units.result ≡ byte_units c.args.encoding (get_or c.args.text.now c.args.at 0) =
    c.byte_units.ensures ∙ ap (byte_units c.args.encoding) c.byte_of-byte.ensures in
    ap (λ (n : ℕ). at_of c.args.position.line (c.args.position.column + n)) wide
    ∙ behind_content c.args.encoding c.args.text.now c.args.at c.args.position c.requires.inside c.requires.place ends counts

pub returns-else-is_content : goal.returns-else-is_content
returns-else-is_content c =
    let ends : Ends c.args.text.now c.args.at false = sym c.ends_line_at.ensures ∙ c.if-ends_line_at.false in
    let counts : is_content (get_or c.args.text.now c.args.at 0) ≡ false = sym (ap is_content c.byte_of-byte.ensures) ∙ sym c.is_content.ensures ∙ c.if-is_content.false in
    c.requires.place ∙ behind_return c.args.encoding c.args.text.now c.args.at c.requires.inside ends counts
