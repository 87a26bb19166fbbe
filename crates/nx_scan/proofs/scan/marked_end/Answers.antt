use Rattle.std.proofs.Common.{sym, ◌∙◌}
use Rattle.nx_scan.proofs.Rows.{markup-comment, markup-cdata, markup-doctype, markup-instruction, markup-tag}
use Rattle.nx_scan.proofs.scan.marked_end.Goals as goal

pub returns-then-stands_at : goal.returns-then-stands_at
returns-then-stands_at c =
    markup-comment c.args.text.now c.args.at c.closed_end.result (sym c.stands_at.ensures.stands ∙ c.if-stands_at.true) c.closed_end.ensures

pub returns-then-stands_at-2 : goal.returns-then-stands_at-2
returns-then-stands_at-2 c =
    markup-cdata c.args.text.now c.args.at c.closed_end-then-stands_at-2.result (sym c.stands_at.ensures.stands ∙ c.if-stands_at.false)
    (sym c.stands_at-else-stands_at.ensures.stands ∙ c.if-stands_at-2.true) c.closed_end-then-stands_at-2.ensures

pub returns-then-stands_at-3 : goal.returns-then-stands_at-3
returns-then-stands_at-3 c =
    markup-doctype c.args.text.now c.args.at c.declared_type_end.result (sym c.stands_at.ensures.stands ∙ c.if-stands_at.false)
    (sym c.stands_at-else-stands_at.ensures.stands ∙ c.if-stands_at-2.false)
    (sym c.stands_at-else-stands_at-2.ensures.stands ∙ c.if-stands_at-3.true) c.declared_type_end.ensures

pub returns-then-stands_at-4 : goal.returns-then-stands_at-4
returns-then-stands_at-4 c =
    markup-instruction c.args.text.now c.args.at c.instruction_end.result (sym c.stands_at.ensures.stands ∙ c.if-stands_at.false)
    (sym c.stands_at-else-stands_at.ensures.stands ∙ c.if-stands_at-2.false)
    (sym c.stands_at-else-stands_at-2.ensures.stands ∙ c.if-stands_at-3.false)
    (sym c.stands_at-else-stands_at-3.ensures.stands ∙ c.if-stands_at-4.true) c.instruction_end.ensures

pub returns-else-stands_at-4 : goal.returns-else-stands_at-4
returns-else-stands_at-4 c =
    markup-tag c.args.text.now c.args.at c.tag_end.result (sym c.stands_at.ensures.stands ∙ c.if-stands_at.false)
    (sym c.stands_at-else-stands_at.ensures.stands ∙ c.if-stands_at-2.false)
    (sym c.stands_at-else-stands_at-2.ensures.stands ∙ c.if-stands_at-3.false)
    (sym c.stands_at-else-stands_at-3.ensures.stands ∙ c.if-stands_at-4.false) c.tag_end.ensures
