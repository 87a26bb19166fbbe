-- what is made so far, and of what is left, is what is made of all
use Rattle.std.proofs.Common.{◌≡◌}
use Rattle.rnc_parse.specs.Views.{items_in, replacements_in}
use Rattle.rng_simplify.specs.MadeCells.{stock_of, behind, make_items, make_anew, make_row}
use Rattle.rng_simplify.proofs.Rows.{make_rest}
use Rattle.rng_simplify.proofs.compose.Composer.+compose.Given as goal

abbrev pub invariant-joined-loop-pattern : goal.invariant-joined-loop-pattern
invariant-joined-loop-pattern l =
    make_rest l.inherited l.sign l.joined l.pattern-iterator.rest.items (stock_of l.self) ≡ make_row l.inherited l.sign l.fn.patterns.items (stock_of l.fn.self)

abbrev pub invariant-items-loop-item : goal.invariant-items-loop-item
invariant-items-loop-item l =
    behind l.clauses.items (make_items l.inherited (items_in l.item-iterator.rest.items) (stock_of l.self)) ≡ behind l.fn.clauses.items (make_items l.inherited (items_in l.fn.items.items) (stock_of l.fn.self))

abbrev pub invariant-replacements-loop-replacement : goal.invariant-replacements-loop-replacement
invariant-replacements-loop-replacement l =
    behind l.clauses.items (make_anew l.inherited (replacements_in l.replacement-iterator.rest.items) (stock_of l.self)) ≡ behind l.fn.clauses.items (make_anew l.inherited (replacements_in l.fn.replacements.items) (stock_of l.fn.self))
