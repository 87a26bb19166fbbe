use Rattle.std.proofs.Common.{sym, ◌∙◌, arith}
use Rattle.nx_events.proofs.PlainGroups.{name_ends_at}
use Rattle.nx_events.proofs.front.name_end.Goals as goal

pub returns-then-ends_name-clause-value : goal.returns-then-ends_name-clause-value
returns-then-ends_name-clause-value c =
    name_ends_at c.args.bytes.now 16 c.first_low-first.result (omega arith) c.if-bytes-ge16.true c.first_low-first.ensures c.if-first-lt16.true
    (sym c.ends_name.ensures ∙ c.if-ends_name.true)
