use Rattle.std.proofs.Common.{◌++◌, sym, ◌∙◌, ap}
use Rattle.std.proofs.lemmas.Result.{err_from_is_err_and}
use Rattle.rnc_lex.specs.declared.token.Symbol.TheVariants.{Tilde}
use Rattle.rnc_parse.specs.Reading.{read, behind, stands}
use Rattle.rnc_parse.specs.ReadingParts.{one_literal_at, literal_at}
use Rattle.rnc_parse.proofs.Finding.{loop_fails, loop_next, loop_over}
use Rattle.rnc_parse.proofs.Shortening.{literal_shortens}
use Rattle.rnc_parse.proofs.part.literal.Goals as goal

pub returns-in_err-next : goal.returns-in_err-next
returns-in_err-next c =
    let p = err_from_is_err_and c.from_residual-in_err-next.result c.from_residual-in_err-next.ensures.1 in
    rw (p.1, p.2)
    (loop_fails (stands Tilde) (λ more. one_literal_at (behind more)) ◌++◌ c.literals.text.items c.literals.cursor (literal_at c.args.cursor.now) c.in_err-next.field-0.0 literal_shortens (sym c.stands.ensures ∙ c.literals-test.true) c.literals.invariant (rw c.advance.ensures at c.in_err-next.ensures))

pub literals-smaller : goal.literals-smaller
literals-smaller c = literal_shortens.shorter c.literals.cursor (sym c.stands.ensures ∙ c.literals-test.true) c.in_ok-next.next.now c.one_literal-in-literals.new.cursor (ap one_literal_at (sym c.advance.ensures) ∙ c.in_ok-next.ensures)

pub literals-preserved : goal.literals-preserved
literals-preserved c =
    loop_next (stands Tilde) (λ more. one_literal_at (behind more)) ◌++◌ c.literals.text.items c.extend_from_slice.new.self.items c.in_ok-next.next.now c.literals.cursor c.one_literal-in-literals.new.cursor _ literal_shortens (sym c.stands.ensures ∙ c.literals-test.true) (ap one_literal_at (sym c.advance.ensures) ∙ c.in_ok-next.ensures)
    (ap (λ t. c.literals.text.items ++ t) (sym c.as_slice-in-literals.ensures) ∙ sym c.in_ok-extend_from_slice.ensures.items) c.literals.invariant

pub returns : goal.returns
returns c = loop_over (stands Tilde) (λ more. one_literal_at (behind more)) ◌++◌ c.literals.text.items c.literals.cursor _ (sym c.stands.ensures ∙ c.literals-test.false) c.literals.invariant ∙ ap (λ t. read t c.literals.cursor) (sym c.from_vec.ensures)
