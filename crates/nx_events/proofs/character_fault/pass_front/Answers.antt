use Rattle.std.proofs.Common.{◌+◌, length, refl, arith}
use Rattle.nx_events.proofs.CharacterFaults.{faults_more}
use Rattle.nx_events.proofs.PlainRuns.{run_told}
use Rattle.nx_events.proofs.character_fault.pass_front.Goals as goal

pub returns-then-n-gt0-clause-faults : goal.returns-then-n-gt0-clause-faults
returns-then-n-gt0-clause-faults c = run_told c.args.told c.args.reading c.args.at c.plain_len-n.result c.args.bytes.now c.args.items.now (omega (arith, c.plain_len-n.ensures.value))

pub returns-clause-faults : goal.returns-clause-faults
returns-clause-faults c =
    let piece = c.front_piece-piece.result.now in
    faults_more c.args.told c.behind.result c.piece_flaw-flaw.result c.args.reading c.args.at (c.args.at + length piece) c.args.bytes.now piece c.args.items.now _ _ c.front_piece-piece.ensures.piece c.front_piece-piece.ensures.some refl c.piece_flaw-flaw.ensures c.behind.ensures c.in_ok-push_new.ensures refl
