use Rattle.std.proofs.Common.{sym, ◌∙◌}
use Rattle.nx_scan.proofs.Endings.{instruction-declaration, instruction-other}
use Rattle.nx_scan.proofs.scan.instruction_end.Goals as goal

pub returns-then-begins_declaration : goal.returns-then-begins_declaration
returns-then-begins_declaration c =
    instruction-declaration c.args.text.now c.args.at c.closed_end.result
    (sym c.begins_declaration.ensures.begins ∙ c.if-begins_declaration.true) c.closed_end.ensures

pub returns-else-begins_declaration : goal.returns-else-begins_declaration
returns-else-begins_declaration c =
    instruction-other c.args.text.now c.args.at c.closed_end-else-begins_declaration.result
    (sym c.begins_declaration.ensures.begins ∙ c.if-begins_declaration.false) c.closed_end-else-begins_declaration.ensures
