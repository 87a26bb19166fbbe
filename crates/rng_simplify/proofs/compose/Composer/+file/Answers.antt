use Rattle.std.proofs.Common.{◌≡◌, ◌≢◌, ap, sym, ◌∙◌, subst, length, arith}
use Rattle.std.proofs.lemmas.Result.{err_from_is_err_and}
use Rattle.rnc_parse.specs.Written as written
use Rattle.rnc_parse.specs.Written.{a_pattern}
use Rattle.rnc_parse.specs.Views.{pattern_of, items_in}
use Rattle.rng_simplify.specs.declared.node.Sign.TheVariants as sign
use Rattle.rng_simplify.specs.MadeCells.{Makes, ◌>>=◌, made, of_pattern, stock_of, make_row, make_file, piece_of}
use Rattle.rng_simplify.specs.Rows.{row_of}
use Rattle.rng_simplify.proofs.Joining.{choice_is, group_is, interleave_is, row_file_is, row_refused}
use Rattle.rng_simplify.proofs.Rows.{grammar_seen}
use Rattle.rng_simplify.proofs.compose.Composer.+file.Goals as goal

pub pattern_file-returns-in-Grammar : goal.pattern_file-returns-in-Grammar
pattern_file-returns-in-Grammar t c =
    let seen : written.grammar (items_in c.in-Grammar.items.items) ≡ pattern_of c.args.pattern = grammar_seen c.in-Grammar.items ∙ ap pattern_of (sym c.in-Grammar.is) in
    subst (λ p. Makes (stock_of c.grammar_file.new.self) piece_of (make_file c.args.inherited.now (a_pattern p) (stock_of c.args.self.now)) c.grammar_file.result) seen c.grammar_file.ensures

pub pattern_file-returns-in-Choice : goal.pattern_file-returns-in-Choice
pattern_file-returns-in-Choice t c =
    let seen : row_of sign.Choice c.in-Choice.patterns.items ≡ pattern_of c.args.pattern = sym (choice_is c.in-Choice.patterns) ∙ ap pattern_of (sym c.in-Choice.is) in
    subst (λ p. Makes (stock_of c.row_file.new.self) piece_of (make_file c.args.inherited.now (a_pattern p) (stock_of c.args.self.now)) c.row_file.result) seen c.row_file.ensures

pub pattern_file-returns-in-Group : goal.pattern_file-returns-in-Group
pattern_file-returns-in-Group t c =
    let seen : row_of sign.Group c.in-Group.patterns.items ≡ pattern_of c.args.pattern = sym (group_is c.in-Group.patterns) ∙ ap pattern_of (sym c.in-Group.is) in
    subst (λ p. Makes (stock_of c.row_file-in-Group.new.self) piece_of (make_file c.args.inherited.now (a_pattern p) (stock_of c.args.self.now)) c.row_file-in-Group.result) seen c.row_file-in-Group.ensures

pub pattern_file-returns-in-Interleave : goal.pattern_file-returns-in-Interleave
pattern_file-returns-in-Interleave t c =
    let seen : row_of sign.Interleave c.in-Interleave.patterns.items ≡ pattern_of c.args.pattern = sym (interleave_is c.in-Interleave.patterns) ∙ ap pattern_of (sym c.in-Interleave.is) in
    subst (λ p. Makes (stock_of c.row_file-in-Interleave.new.self) piece_of (make_file c.args.inherited.now (a_pattern p) (stock_of c.args.self.now)) c.row_file-in-Interleave.result) seen c.row_file-in-Interleave.ensures

pub row_file-returns-in_err-root : goal.row_file-returns-in_err-root
row_file-returns-in_err-root t c =
    let other : length c.args.patterns.items ≢ 1 = λ one. omega (arith, one, c.len.ensures, c.args.patterns.ok.0) in
    let p = err_from_is_err_and c.from_residual.result c.from_residual.ensures.1 in
    rw (p.1, p.2) (row_refused (stock_of c.joined.new.self) (make_row c.args.inherited.now c.args.sign c.args.patterns.items (stock_of c.args.self.now)) _ c.in_err-root.field-0.0 (row_file_is c.args.inherited.now c.args.sign c.args.patterns.items
    (stock_of c.args.self.now) other) c.in_err-root.ensures)

pub row_file-returns-then-len-ne1 : goal.row_file-returns-then-len-ne1
row_file-returns-then-len-ne1 t c =
    let other : length c.args.patterns.items ≢ 1 = λ one. omega (arith, one, c.len.ensures, c.args.patterns.ok.0) in
    row_file_is c.args.inherited.now c.args.sign c.args.patterns.items (stock_of c.args.self.now) other
    ∙ ap (λ outcome. outcome >>= λ root. made (of_pattern root)) c.in_ok-root.ensures
