use Rattle.std.proofs.Common.{◌∙◌, arith}
use Rattle.nx_events.proofs.PlainRuns.{run_read}
use Rattle.nx_events.proofs.piece.push_string.Goals as goal

pub returns : goal.returns
returns c =
    c.in_ok-push_further.ensures
    ∙ run_read c.args.reading c.plain_len-n.result c.args.bytes.now c.args.out.now.items _ (omega (arith, c.plain_len-n.ensures.value)) c.in_ok-extend_from_slice.ensures.items
