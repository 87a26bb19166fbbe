use Rattle.std.proofs.Common.{None, Some, refl, sym, ◌∙◌}
use Rattle.nx_host.proofs.TextFronts.{text_stops}
use Rattle.nx_host.proofs.utf8.text_front.Goals as goal

pub returns-in_default-error_len : goal.returns-in_default-error_len
returns-in_default-error_len c =
    let e = c.in-Err.ensures in
    text_stops c.args.bytes.now c.in-Err.error.valid_up_to None _ e.cases.1 (sym c.in_default-error_len.is ∙ c.error_len.ensures ∙ e.fault) refl

pub returns-then-begins_char : goal.returns-then-begins_char
returns-then-begins_char c =
    let e = c.in-Err.ensures in
    rw (c.valid_up_to-at.ensures)
    (text_stops c.args.bytes.now c.in-Err.error.valid_up_to (Some c.in-Some.wrong) _ e.cases.1 (sym c.in-Some.is ∙ c.error_len.ensures ∙ e.fault) (rw c.valid_up_to-at.ensures at c.if-begins_char.ensures))

pub returns-else-begins_char : goal.returns-else-begins_char
returns-else-begins_char c =
    let e = c.in-Err.ensures in
    rw (c.valid_up_to-at.ensures)
    (text_stops c.args.bytes.now c.in-Err.error.valid_up_to (Some c.in-Some.wrong) _ e.cases.1 (sym c.in-Some.is ∙ c.error_len.ensures ∙ e.fault) (rw c.valid_up_to-at.ensures at c.if-begins_char.ensures))
