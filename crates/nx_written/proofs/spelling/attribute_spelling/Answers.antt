use Rattle.std.proofs.Common.{sym, ◌∙◌, rules}
use Rattle.nx_written.proofs.Spellings.{attribute_plain, attribute_prefixed}
use Rattle.nx_written.proofs.spelling.attribute_spelling.Goals as goal

pub returns-then-is_empty : goal.returns-then-is_empty
returns-then-is_empty c =
    attribute_plain c.args.scope.now c.args.name.now c.in_ok-copy.field-0 c.requires c.in_ok-copy.ensures (sym c.is_empty.ensures ∙ c.if-is_empty.true)

pub returns : goal.returns
returns c =
    attribute_prefixed c.args.scope.now c.args.name.now c.in_ok-joined.field-0 c.in_ok-chosen.chosen c.requires (search rules) c.in_ok-chosen.ensures
