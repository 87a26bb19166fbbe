use Rattle.std.proofs.Common.{◌-◌, length, arith}
use Rattle.std.proofs.lemmas.Str.{IsCharBoundary-start}
use Rattle.nx_scan.proofs.Joined.{joined-from}
use Rattle.nx_scan.proofs.border.tokens_join.Goals as goal

pub returns : goal.returns
returns c text utf8 =
    let all = joined-from (length text - 0) text 0 utf8 (IsCharBoundary-start text utf8) (omega arith) in
    (all.bytes, all.lie, all.some)
