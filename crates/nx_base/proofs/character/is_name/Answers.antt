use Rattle.std.proofs.Common.{sym, ◌∙◌}
use Rattle.nx_base.proofs.CodePoints.{is_name-start}
use Rattle.nx_base.proofs.character.is_name.Goals as goal

pub returns-then-is_name_start : goal.returns-then-is_name_start
returns-then-is_name_start c =
    let begins = sym c.chars.ensures.rest ∙ c.in-Some.ensures.steps.0 in
    c.are_name_chars.ensures ∙ is_name-start c.args.text.now _ c.in-Some.first c.utf8.text begins (sym c.is_name_start.ensures ∙ c.if-is_name_start.true)
