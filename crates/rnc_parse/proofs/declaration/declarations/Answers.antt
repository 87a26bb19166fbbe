use Rattle.std.proofs.Common.{◌++◌, ◌∷◌, [], sym, ◌∙◌, ap}
use Rattle.std.proofs.lemmas.Result.{err_from_is_err_and}
use Rattle.rnc_parse.specs.Reading.{first}
use Rattle.rnc_parse.specs.ReadingFiles.{is_declaration, declaration_at, declarations_at}
use Rattle.rnc_parse.proofs.Finding.{loop_fails, loop_next, loop_over}
use Rattle.rnc_parse.proofs.Shortening.{declaration_shortens}
use Rattle.rnc_parse.proofs.declaration.declarations.Goals as goal

pub returns-in_err-one_declaration : goal.returns-in_err-one_declaration
returns-in_err-one_declaration c =
    let p = err_from_is_err_and c.from_residual.result c.from_residual.ensures.1 in
    rw (p.1, p.2)
    (loop_fails (λ more. is_declaration (first more)) declaration_at (λ before next. before ++ next ∷ []) c.declarations.declarations c.declarations.cursor (declarations_at c.args.cursor.now) c.in_err-one_declaration.field-0.0 declaration_shortens (ap is_declaration (sym c.first.ensures) ∙ sym c.is_declaration.ensures ∙ c.declarations-test.true) c.declarations.invariant c.in_err-one_declaration.ensures)

pub declarations-smaller : goal.declarations-smaller
declarations-smaller c = declaration_shortens.shorter c.declarations.cursor (ap is_declaration (sym c.first.ensures) ∙ sym c.is_declaration.ensures ∙ c.declarations-test.true) _ c.one_declaration.new.cursor c.in_ok-one_declaration.ensures

pub declarations-preserved : goal.declarations-preserved
declarations-preserved c =
    loop_next (λ more. is_declaration (first more)) declaration_at (λ before next. before ++ next ∷ []) c.declarations.declarations c.push.new.self _ c.declarations.cursor c.one_declaration.new.cursor _ declaration_shortens (ap is_declaration (sym c.first.ensures) ∙ sym c.is_declaration.ensures ∙ c.declarations-test.true) c.in_ok-one_declaration.ensures (sym c.in_ok-push.ensures.ok) c.declarations.invariant

pub returns : goal.returns
returns c = loop_over (λ more. is_declaration (first more)) declaration_at (λ before next. before ++ next ∷ []) c.declarations.declarations c.declarations.cursor _ (ap is_declaration (sym c.first.ensures) ∙ sym c.is_declaration.ensures ∙ c.declarations-test.false) c.declarations.invariant
