use Rattle.nx_scan.proofs.Runs.{letters-in_name, run-in_name}
use Rattle.nx_scan.proofs.tag_part.closed_len.Goals as goal

pub returns-then-bytes-letters-eq62-clause-names : goal.returns-then-bytes-letters-eq62-clause-names
returns-then-bytes-letters-eq62-clause-names c =
    letters-in_name c.args.bytes.now c.letter_run-letters.result c.type_inv.bytes c.letter_run-letters.ensures c.if-letters-lt-LANES.true

pub returns-clause-names : goal.returns-clause-names
returns-clause-names c = run-in_name c.args.bytes.now c.name_len.result c.name_len.ensures.len
