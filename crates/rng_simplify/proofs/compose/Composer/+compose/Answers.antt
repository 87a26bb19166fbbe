use Rattle.std.proofs.Common.{◌≡◌, ap, sym, ◌∙◌, subst}
use Rattle.rnc_parse.specs.Written as written
use Rattle.rnc_parse.specs.Views.{pattern_of, item_of, items_in, replacement_of, replacements_in}
use Rattle.rng_simplify.specs.declared.node.Sign.TheVariants as sign
use Rattle.rng_simplify.specs.MadeCells.{Makes, make, make_row, make_item, make_replacement, stock_of, behind}
use Rattle.rng_simplify.proofs.Rows.{choice_seen, group_seen, interleave_seen, grammar_seen, div_seen, include_seen, div_anew_seen}
use Rattle.rng_simplify.proofs.compose.Composer.+compose.Goals as goal

pub pattern-returns-in-Grammar : goal.pattern-returns-in-Grammar
pattern-returns-in-Grammar t c =
    let seen : written.grammar (items_in c.in-Grammar.items.items) ≡ pattern_of c.args.pattern = grammar_seen c.in-Grammar.items ∙ ap pattern_of (sym c.in-Grammar.is) in
    subst (λ p. Makes (stock_of c.grammar.new.self) (λ i. i) (make c.args.inherited.now p (stock_of c.args.self.now)) c.grammar.result) seen c.grammar.ensures

pub pattern-returns-in-Choice : goal.pattern-returns-in-Choice
pattern-returns-in-Choice t c =
    let seen : make_row c.args.inherited.now sign.Choice c.in-Choice.patterns.items (stock_of c.args.self.now) ≡ make c.args.inherited.now (pattern_of c.args.pattern) (stock_of c.args.self.now) = choice_seen c.args.inherited.now c.in-Choice.patterns (stock_of c.args.self.now) ∙ ap (λ p. make c.args.inherited.now (pattern_of p) (stock_of c.args.self.now)) (sym c.in-Choice.is) in
    subst (λ outcome. Makes (stock_of c.joined.new.self) (λ i. i) outcome c.joined.result) seen c.joined.ensures

pub pattern-returns-in-Group : goal.pattern-returns-in-Group
pattern-returns-in-Group t c =
    let seen : make_row c.args.inherited.now sign.Group c.in-Group.patterns.items (stock_of c.args.self.now) ≡ make c.args.inherited.now (pattern_of c.args.pattern) (stock_of c.args.self.now) = group_seen c.args.inherited.now c.in-Group.patterns (stock_of c.args.self.now) ∙ ap (λ p. make c.args.inherited.now (pattern_of p) (stock_of c.args.self.now)) (sym c.in-Group.is) in
    subst (λ outcome. Makes (stock_of c.joined-in-Group.new.self) (λ i. i) outcome c.joined-in-Group.result) seen c.joined-in-Group.ensures

pub pattern-returns-in-Interleave : goal.pattern-returns-in-Interleave
pattern-returns-in-Interleave t c =
    let seen : make_row c.args.inherited.now sign.Interleave c.in-Interleave.patterns.items (stock_of c.args.self.now) ≡ make c.args.inherited.now (pattern_of c.args.pattern) (stock_of c.args.self.now) = interleave_seen c.args.inherited.now c.in-Interleave.patterns (stock_of c.args.self.now) ∙ ap (λ p. make c.args.inherited.now (pattern_of p) (stock_of c.args.self.now)) (sym c.in-Interleave.is) in
    subst (λ outcome. Makes (stock_of c.joined-in-Interleave.new.self) (λ i. i) outcome c.joined-in-Interleave.result) seen c.joined-in-Interleave.ensures

pub item-returns-in-Div : goal.item-returns-in-Div
item-returns-in-Div t c =
    let seen : written.div (items_in c.in-Div.inside.items) ≡ item_of c.args.item = div_seen c.in-Div.inside ∙ ap item_of (sym c.in-Div.is) in
    subst (λ w. Makes (stock_of c.items.new.self) (λ _. c.items.new.clauses.items) (behind c.args.clauses.now.items (make_item c.args.inherited.now w (stock_of c.args.self.now))) c.items.result) seen c.items.ensures

pub item-returns : goal.item-returns
item-returns t c =
    let seen : written.include c.in-Include.field-0 (replacements_in c.in-Include.replacements.items) ≡ item_of c.args.item = include_seen c.in-Include.field-0 c.in-Include.replacements ∙ ap item_of (sym c.in-Include.is) in
    subst (λ w. Makes (stock_of c.inclusion.new.self) (λ _. c.inclusion.new.clauses.items) (behind c.args.clauses.now.items (make_item c.args.inherited.now w (stock_of c.args.self.now))) c.inclusion.result) seen (c.inclusion.ensures c.in-Include.field-0)

pub replacement-returns-in-Div : goal.replacement-returns-in-Div
replacement-returns-in-Div t c =
    let seen : written.div_anew (replacements_in c.in-Div.inside.items) ≡ replacement_of c.args.replacement = div_anew_seen c.in-Div.inside ∙ ap replacement_of (sym c.in-Div.is) in
    subst (λ w. Makes (stock_of c.replacements.new.self) (λ _. c.replacements.new.clauses.items) (behind c.args.clauses.now.items (make_replacement c.args.inherited.now w (stock_of c.args.self.now))) c.replacements.result) seen c.replacements.ensures
