use Rattle.std.proofs.Common.{sym, ◌∙◌, rules}
use Rattle.nx_written.proofs.Spellings.{element_default, element_ended, element_prefixed}
use Rattle.nx_written.proofs.spelling.element_spelling.Goals as goal

pub returns-then-eq : goal.returns-then-eq
returns-then-eq c =
    element_default c.args.scope.now c.args.name.now c.in_ok-copy.field-0 c.default_uri.result.now c.requires c.in_ok-copy.ensures c.default_uri.ensures (search rules)

pub returns-then-is_empty : goal.returns-then-is_empty
returns-then-is_empty c =
    element_ended c.args.scope.now c.args.name.now c.in_ok-copy-2.field-0 c.new-then-is_empty-2.result c.requires c.in_ok-copy-2.ensures (sym c.is_empty.ensures ∙ c.if-is_empty.true) (search rules)

pub returns : goal.returns
returns c =
    element_prefixed c.args.scope.now c.args.name.now c.in_ok-joined.field-0 c.in_ok-chosen.chosen c.requires (search rules) c.in_ok-chosen.ensures
