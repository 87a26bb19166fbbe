use Rattle.std.proofs.Common.{◌≡◌, ◌∙◌, ◌-◌, ◌≤◌, ℕ, true, false, get_or, sym, ap, subst}
use Rattle.nx_position.specs.Positions.{is_content, byte_units}
use Rattle.nx_lines.proofs.Moves.{at_of, behind_return, wide_enough, in_front_of_content}
use Rattle.nx_lines.proofs.cursor.position_in_front.Goals as goal

pub overflow_sub-result : goal.overflow_sub-result
overflow_sub-result c =
    let counts : is_content (get_or c.args.text.now c.args.at 0) ≡ true = sym (ap is_content c.byte_of-byte.ensures) ∙ sym c.is_content.ensures ∙ c.if-is_content.true in
    let wide : byte_units c.args.encoding (get_or c.args.text.now c.args.at 0) ≡ c.byte_units.result =
    sym (ap (byte_units c.args.encoding) c.byte_of-byte.ensures) ∙ sym c.byte_units.ensures in
    let P : ℕ → Type 0 = λ n. n ≤ c.args.position.column in
    subst P wide (wide_enough c.args.encoding c.args.text.now c.args.at c.args.position c.requires.inside c.requires.place c.requires.in_line counts)

pub returns-then-is_content : goal.returns-then-is_content
returns-then-is_content c =
    let counts : is_content (get_or c.args.text.now c.args.at 0) ≡ true = sym (ap is_content c.byte_of-byte.ensures) ∙ sym c.is_content.ensures ∙ c.if-is_content.true in
    let wide : c.byte_units.result ≡ byte_units c.args.encoding (get_or c.args.text.now c.args.at 0) =
    c.byte_units.ensures ∙ ap (byte_units c.args.encoding) c.byte_of-byte.ensures in
    ap (λ (n : ℕ). at_of c.args.position.line (c.args.position.column - n)) wide
    ∙ in_front_of_content c.args.encoding c.args.text.now c.args.at c.args.position c.requires.inside c.requires.place c.requires.in_line counts

pub returns-else-is_content : goal.returns-else-is_content
returns-else-is_content c =
    let counts : is_content (get_or c.args.text.now c.args.at 0) ≡ false = sym (ap is_content c.byte_of-byte.ensures) ∙ sym c.is_content.ensures ∙ c.if-is_content.false in
    c.requires.place ∙ sym (behind_return c.args.encoding c.args.text.now c.args.at c.requires.inside c.requires.in_line counts)
