use Rattle.std.proofs.Common.{sym, ◌∙◌, arith}
use Rattle.std.proofs.lemmas.Bool.{eq-eqb, ne_eqb}
use Rattle.nx_scan.proofs.Pieces.{first-is, found-behind, found-here, text-ends}
use Rattle.nx_scan.proofs.Rows.{token-order_mark, token-markup}
use Rattle.nx_scan.proofs.scan.token_end.Goals as goal

pub returns-then-at_order_mark : goal.returns-then-at_order_mark
returns-then-at_order_mark c =
    token-order_mark c.args.text.now c.args.at c.requires.utf8 (sym c.at_order_mark.ensures.begins ∙ c.if-at_order_mark.true)

pub returns-then-piece-eq60 : goal.returns-then-piece-eq60
returns-then-piece-eq60 c =
    token-markup c.args.text.now c.args.at c.markup_end_in.result (sym c.at_order_mark.ensures.begins ∙ c.if-at_order_mark.false)
    (first-is c.args.text.now c.args.piece.now c.args.at 60 c.requires.piece c.requires.some ∙ eq-eqb _ _ c.if-piece-eq60.true)
    c.markup_end_in.ensures

pub returns-then-len-piece : goal.returns-then-len-piece
returns-then-len-piece c =
    text-ends c.args.text.now c.args.at c.new.result (sym c.at_order_mark.ensures.begins ∙ c.if-at_order_mark.false)
    (first-is c.args.text.now c.args.piece.now c.args.at 60 c.requires.piece c.requires.some ∙ ne_eqb _ _ c.if-piece-eq60.false)
    (omega arith) c.new.ensures.kind
    (c.new.ensures.place
    ∙ found-here 60 c.args.text.now c.args.piece.now c.args.at c.up_to_byte-len.result c.requires.piece c.up_to_byte-len.ensures.first
    c.if-len-piece.true)

pub returns-else-len-piece : goal.returns-else-len-piece
returns-else-len-piece c =
    text-ends c.args.text.now c.args.at c.text_end.result (sym c.at_order_mark.ensures.begins ∙ c.if-at_order_mark.false)
    (first-is c.args.text.now c.args.piece.now c.args.at 60 c.requires.piece c.requires.some ∙ ne_eqb _ _ c.if-piece-eq60.false)
    (omega arith) c.text_end.ensures.kind
    (found-behind 60 c.args.text.now c.args.piece.now c.args.at c.up_to_byte-len.result _ c.requires.piece c.up_to_byte-len.ensures.first
    c.up_to_byte-len.ensures.within c.if-len-piece.false c.text_end.ensures.first)
