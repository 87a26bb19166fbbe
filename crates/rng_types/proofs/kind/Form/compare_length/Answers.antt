use Rattle.std.proofs.Common.{◌^◌, ◌-◌, length, arith}
use Rattle.rng_types.specs.Spaces.{words}
use Rattle.rng_types.proofs.Collapsed.{words-collapsed}
use Rattle.rng_types.proofs.Lengths.{compare_stopped}
use Rattle.rng_types.proofs.kind.Form.compare_length.Goals as goal

pub returns-in-Several : goal.returns-in-Several
returns-in-Several c =
    rw c.in-Several.is (rw (words-collapsed c.args.text.now, c.cmp.ensures, c.word_count.ensures)
    (compare_stopped (length (words c.args.text.now)) c.args.limit (2 ^ 64 - 1) (omega arith)))
