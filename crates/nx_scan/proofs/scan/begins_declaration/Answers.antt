use Rattle.std.proofs.Common.{sym, ◌∙◌}
use Rattle.nx_scan.proofs.Endings.{declaration-begins, declaration-not}
use Rattle.nx_scan.proofs.scan.begins_declaration.Goals as goal

pub returns-then-stands_at-clause-begins : goal.returns-then-stands_at-clause-begins
returns-then-stands_at-clause-begins c =
    c.space_at.ensures.space ∙ declaration-begins c.args.text.now c.args.at (sym c.stands_at.ensures.stands ∙ c.if-stands_at.true)

pub returns-else-stands_at-clause-begins : goal.returns-else-stands_at-clause-begins
returns-else-stands_at-clause-begins c =
    declaration-not c.args.text.now c.args.at (sym c.stands_at.ensures.stands ∙ c.if-stands_at.false)
