use Rattle.std.proofs.Common.{sym, ◌∙◌}
use Rattle.nx_scan.proofs.Rows.{markup-plain}
use Rattle.nx_scan.proofs.scan.markup_end.Goals as goal

pub returns-else-byte_is-2 : goal.returns-else-byte_is-2
returns-else-byte_is-2 c =
    markup-plain c.args.text.now c.args.at c.tag_end.result (sym c.byte_is.ensures ∙ c.if-byte_is.false)
    (sym c.byte_is-else-byte_is.ensures ∙ c.if-byte_is-2.false) c.tag_end.ensures
