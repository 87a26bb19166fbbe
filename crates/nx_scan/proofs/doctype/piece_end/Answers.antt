use Rattle.std.proofs.Common.{ap, sym, ◌∙◌}
use Rattle.nx_base.specs.Characters.{is_quote}
use Rattle.nx_scan.proofs.Doctypes.{quote-end, comment-end, instruction-end, byte-end}
use Rattle.nx_scan.proofs.doctype.piece_end.Goals as goal

pub returns-then-is_quote-clause-end : goal.returns-then-is_quote-clause-end
returns-then-is_quote-clause-end c =
    c.find_past.ensures.end
    ∙ quote-end c.args.text.now c.args.at c.args.byte c.args.subset c.requires.within c.requires.byte (ap is_quote (sym c.from.ensures) ∙ sym c.is_quote.ensures ∙ c.if-is_quote.true)

pub returns-then-stands_in_subset-clause-end : goal.returns-then-stands_in_subset-clause-end
returns-then-stands_in_subset-clause-end c =
    c.find_past-then-stands_in_subset.ensures.end
    ∙ comment-end c.args.text.now c.args.at c.args.byte c.args.subset c.requires.within c.requires.byte
    (ap is_quote (sym c.from.ensures) ∙ sym c.is_quote.ensures ∙ c.if-is_quote.false) (sym c.stands_in_subset.ensures.stands ∙ c.if-stands_in_subset.true)

pub returns-then-stands_in_subset-2-clause-end : goal.returns-then-stands_in_subset-2-clause-end
returns-then-stands_in_subset-2-clause-end c =
    c.find_past-then-stands_in_subset-2.ensures.end
    ∙ instruction-end c.args.text.now c.args.at c.args.byte c.args.subset c.requires.within c.requires.byte
    (ap is_quote (sym c.from.ensures) ∙ sym c.is_quote.ensures ∙ c.if-is_quote.false) (sym c.stands_in_subset.ensures.stands ∙ c.if-stands_in_subset.false)
    (sym c.stands_in_subset-else-stands_in_subset.ensures.stands ∙ c.if-stands_in_subset-2.true)

pub returns-else-stands_in_subset-2-clause-end : goal.returns-else-stands_in_subset-2-clause-end
returns-else-stands_in_subset-2-clause-end c =
    byte-end c.args.text.now c.args.at c.args.byte c.args.subset c.requires.within c.requires.byte
    (ap is_quote (sym c.from.ensures) ∙ sym c.is_quote.ensures ∙ c.if-is_quote.false) (sym c.stands_in_subset.ensures.stands ∙ c.if-stands_in_subset.false)
    (sym c.stands_in_subset-else-stands_in_subset.ensures.stands ∙ c.if-stands_in_subset-2.false)
