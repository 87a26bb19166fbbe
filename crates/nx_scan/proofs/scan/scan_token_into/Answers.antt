use Rattle.std.proofs.Common.{sym, subst, arith}
use Rattle.std.specs.Str.{IsUtf8}
use Rattle.std.proofs.lemmas.Str.{IsUtf8-between}
use Rattle.nx_scan.proofs.Rows.{is-cut}
use Rattle.nx_scan.proofs.scan.scan_token_into.Goals as goal

pub returns-clause-token : goal.returns-clause-token
returns-clause-token g c =
    is-cut c.args.text.now c.copy_from_piece.new.list c.args.at c.token_end-end.result c.token_end-end.ensures c.in_ok-copy_from_piece.ensures

pub returns-clause-utf8 : goal.returns-clause-utf8
returns-clause-utf8 g c =
    let place = c.token_end-end.ensures.place in
    subst IsUtf8 (sym c.in_ok-copy_from_piece.ensures)
    (IsUtf8-between c.args.text.now c.args.at c.token_end-end.result.place c.len-len.ensures.utf8 (omega (arith, place)) c.requires.place
    c.token_end-end.ensures.border)
