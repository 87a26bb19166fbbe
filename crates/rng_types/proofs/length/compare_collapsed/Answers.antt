use Rattle.std.proofs.Common.{◌^◌, ◌-◌, arith}
use Rattle.std.specs.List.{sum_by}
use Rattle.rng_types.specs.Spaces.{words}
use Rattle.rng_types.proofs.Lengths.{spaced, length-collapsed, compare_less_one}
use Rattle.rng_types.proofs.length.compare_collapsed.Goals as goal

pub returns : goal.returns
returns c =
    rw (c.cmp.ensures, c.saturating_sub.ensures, c.spaced_count.ensures, length-collapsed c.args.text.now c.utf8.text)
    (compare_less_one (sum_by spaced (words c.args.text.now)) c.args.limit (2 ^ 64 - 1) (omega arith))
