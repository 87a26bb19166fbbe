use Rattle.std.proofs.Common.{refl, arith}
use Rattle.nx_events.proofs.Pieces.{string_more}
use Rattle.nx_events.proofs.PlainRuns.{run_read}
use Rattle.nx_events.proofs.piece.push_front.Goals as goal

pub returns-then-n-gt0-clause-string : goal.returns-then-n-gt0-clause-string
returns-then-n-gt0-clause-string c = run_read c.args.reading c.plain_len-n.result c.args.bytes.now c.args.out.now.items _ (omega (arith, c.plain_len-n.ensures.value)) c.in_ok-extend_from_slice.ensures.items

pub returns-clause-string : goal.returns-clause-string
returns-clause-string c = string_more c.args.reading c.args.bytes.now c.front_piece-piece.result.now c.args.out.now.items _ _ c.front_piece-piece.ensures.piece c.front_piece-piece.ensures.some c.in_ok-push_piece.ensures refl
