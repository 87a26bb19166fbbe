use Rattle.std.proofs.Common.{string_bytes}
use Rattle.nx_session.specs.LargeDocuments.{opening_text}
use Rattle.nx_session.proofs.Pieces.{numbers_begin, pieces_begin, numbers_go_on, pieces_go_on}
use Rattle.nx_session.proofs.large_document.large_document.Goals as goal

pub loop-index-init : goal.loop-index-init
loop-index-init c = record {
  number = numbers_begin c.args.seed;
  text = pieces_begin c.args.seed (opening_text c.args.seed) (string_bytes c.in_ok-text.text) c.in_ok-text.ensures;
}

pub loop-index-preserved : goal.loop-index-preserved
loop-index-preserved c =
    let number = numbers_go_on c.args.seed c.loop-index.index c.loop-index.number c.next_number-number.result c.loop-index.invariant.number c.next_number-number.ensures in
    record {
      number = number;
      text = pieces_go_on c.args.seed c.loop-index.index c.next_number-number.result (opening_text c.args.seed) (string_bytes c.loop-index.text) (string_bytes c.push_comment.new.text) (string_bytes c.push_paragraph.new.text)
          c.loop-index.invariant.text c.in_ok-push_comment.ensures c.in_ok-push_paragraph.ensures number;
    }
