use Rattle.std.proofs.Common.{◌≡◌, ◌∙◌, ◌+◌, ◌-◌, ◌<◌, ◌≤◌, true, length, drop, get_or, sym, ap, arith}
use Rattle.nx_position.specs.Positions.{byte_units, bytes_to, content, is_content}
use Rattle.nx_places.proofs.Lines.{column_further, column_inside}
use Rattle.nx_places.proofs.place.column_from.Goals as goal

pub returns-then-width-left-clause-place : goal.returns-then-width-left-clause-place
returns-then-width-left-clause-place c =
    let text = c.args.text.now in let at = c.loop-at.at in
    let is : is_content (get_or text at 0) ≡ true = ap is_content (sym c.byte_of-byte.ensures) ∙ sym c.is_content.ensures ∙ c.if-not-is_content.false in
    let width : c.byte_units-width.result ≡ byte_units c.args.encoding (get_or text at 0) =
    c.byte_units-width.ensures ∙ ap (byte_units c.args.encoding) c.byte_of-byte.ensures in
    let wide = c.if-width-left.true in
    let len = c.len.ensures.bytes in let test = c.loop-at-test.true in
    let none = column_inside c.args.encoding text at c.loop-at.left (omega (arith, len, test)) is (omega (arith, wide, width)) in
    let reached = c.loop-at.invariant.1 in
    omega (arith, none, reached)

pub loop-at-preserved : goal.loop-at-preserved
loop-at-preserved c =
    let text = c.args.text.now in let at = c.loop-at.at in
    let is : is_content (get_or text at 0) ≡ true = ap is_content (sym c.byte_of-byte.ensures) ∙ sym c.is_content.ensures ∙ c.if-not-is_content.false in
    let width : c.byte_units-width.result ≡ byte_units c.args.encoding (get_or text at 0) =
    c.byte_units-width.ensures ∙ ap (byte_units c.args.encoding) c.byte_of-byte.ensures in
    let fits = c.if-width-left.false in
    let len = c.len.ensures.bytes in let test = c.loop-at-test.true in
    let further = column_further c.args.encoding text at c.loop-at.left (omega (arith, len, test)) is (omega (arith, fits, width)) in
    let same = ap (λ w. bytes_to c.args.encoding (c.loop-at.left - w) (content (drop (at + 1) text))) width in
    let reached = c.loop-at.invariant.1 in
    (omega (arith, len, test), omega (arith, further, same, reached))
