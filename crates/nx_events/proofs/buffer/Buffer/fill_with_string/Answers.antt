use Rattle.std.proofs.Common.{◌∙◌}
use Rattle.nx_events.proofs.PlainRuns.{plain_string_of}
use Rattle.nx_events.proofs.buffer.Buffer.fill_with_string.Goals as goal

pub returns-then-are_plain : goal.returns-then-are_plain
returns-then-are_plain c = c.in_ok-fill.ensures ∙ plain_string_of c.args.reading c.args.text.now (c.are_plain.ensures c.if-are_plain.true)
