use Rattle.std.proofs.Common.{sym, ◌∙◌}
use Rattle.nx_events.proofs.Tags.{alone_of_nothing, alone_of_some}
use Rattle.nx_events.proofs.tag.is_name_alone.Goals as goal

pub returns-then-is_empty : goal.returns-then-is_empty
returns-then-is_empty c = λ alone at. alone_of_nothing c.args.bytes.now at (sym c.is_empty.ensures ∙ c.if-is_empty.true)

pub returns : goal.returns
returns c = λ alone at. alone_of_some c.name_end-n.result c.args.bytes.now at c.name_end-n.ensures.value (sym c.are_between.ensures ∙ alone)
