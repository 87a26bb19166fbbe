use Rattle.std.proofs.Common.{sym, ◌∙◌}
use Rattle.nx_events.proofs.Tags.{tag_of_nothing, tag_of_some}
use Rattle.nx_events.proofs.tag.tag_attributes.Goals as goal

pub returns-then-is_empty : goal.returns-then-is_empty
returns-then-is_empty c = c.new.ensures.items ∙ tag_of_nothing c.args.at c.args.bytes.now (sym c.is_empty.ensures ∙ c.if-is_empty.true)

pub returns : goal.returns
returns c = c.in_ok-all.ensures ∙ tag_of_some c.args.at c.name_end-n.result c.args.bytes.now c.name_end-n.ensures.value
