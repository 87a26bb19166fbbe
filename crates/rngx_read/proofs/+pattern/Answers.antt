use Rattle.std.proofs.Common.{◌∷◌, map, ◌∙◌, ap}
use Rattle.std.proofs.lemmas.List.{map_push}
use Rattle.std.proofs.lemmas.Result.{err_from_is_err_and}
use Rattle.rnc_parse.specs.Views.{pattern_of, item_of, replacement_of}
use Rattle.rnc_parse.specs.Written.{item_then, replacement_then}
use Rattle.rngx_read.specs.Names.{bound_in}
use Rattle.rngx_read.specs.Reading.{read}
use Rattle.rngx_read.specs.Views.{defaults_of, patterns_of, parts_of}
use Rattle.rngx_read.proofs.Loops.{went_on, stopped, over, list_in_front, items_in_front, replacements_in_front, by_patterns, by_items}
use Rattle.rngx_read.proofs.Loops.{by_replacements}
use Rattle.rngx_read.proofs.Loops.{parts_went_on, parts_stopped, parts_over}
use Rattle.rngx_read.proofs.Rows.{include_seen}
use Rattle.rngx_read.proofs.+pattern.Goals as goal

pub pattern::patterns-returns-in_err-next : goal.pattern::patterns-returns-in_err-next
pattern::patterns-returns-in_err-next t c =
    let p = err_from_is_err_and c.from_residual.result c.from_residual.ensures.1 in
    rw (p.1, p.2)
    (stopped ◌∷◌ (by_patterns bound_in (defaults_of c.args.defaults.now)) c.args.elements.now (patterns_of c.loop-element.patterns.items)
    c.loop-element.element-index
    c.element-item.result c.in_err-next.field-0.0 c.loop-element-test.true c.element-item.is c.in_err-next.ensures c.loop-element.invariant)

pub pattern::patterns-loop-element-preserved : goal.pattern::patterns-loop-element-preserved
pattern::patterns-loop-element-preserved t c =
    went_on ◌∷◌ (by_patterns bound_in (defaults_of c.args.defaults.now)) c.args.elements.now (patterns_of c.loop-element.patterns.items)
    (patterns_of c.push.new.self.items) c.loop-element.element-index c.element-item.result (pattern_of c.in_ok-next.next) c.loop-element-test.true
    c.element-item.is c.in_ok-next.ensures
    (ap (patterns_of) c.in_ok-push.ensures.items ∙ map_push pattern_of c.loop-element.patterns.items c.in_ok-next.next)
    c.loop-element.invariant

pub pattern::patterns-returns : goal.pattern::patterns-returns
pattern::patterns-returns t c =
    over ◌∷◌ (by_patterns bound_in (defaults_of c.args.defaults.now)) c.args.elements.now (patterns_of c.loop-element.patterns.items)
    c.loop-element.element-index
    c.loop-element-test.false c.loop-element.invariant
    ∙ ap read (list_in_front (patterns_of c.loop-element.patterns.items))

pub pattern::all_parts-returns-in_err-parts : goal.pattern::all_parts-returns-in_err-parts
pattern::all_parts-returns-in_err-parts t c =
    let p = err_from_is_err_and c.from_residual.result c.from_residual.ensures.1 in
    rw (p.1, p.2)
    (parts_stopped bound_in (defaults_of c.args.defaults.now) c.args.elements.now c.loop-element.element-index c.element-item.result
    (parts_of c.loop-element.parts) _
    c.in_err-parts.field-0.0 c.loop-element-test.true c.element-item.is c.in_err-parts.ensures c.loop-element.invariant)

pub pattern::all_parts-loop-element-preserved : goal.pattern::all_parts-loop-element-preserved
pattern::all_parts-loop-element-preserved t c =
    parts_went_on bound_in (defaults_of c.args.defaults.now) c.args.elements.now c.loop-element.element-index c.element-item.result
    (parts_of c.loop-element.parts) _ _
    c.loop-element-test.true c.element-item.is c.in_ok-parts.ensures c.loop-element.invariant

pub pattern::all_parts-returns : goal.pattern::all_parts-returns
pattern::all_parts-returns t c =
    parts_over bound_in (defaults_of c.args.defaults.now) c.args.elements.now c.loop-element.element-index (parts_of c.loop-element.parts) _
    c.loop-element-test.false c.loop-element.invariant

pub grammar::items-returns-in_err-next : goal.grammar::items-returns-in_err-next
grammar::items-returns-in_err-next t c =
    let p = err_from_is_err_and c.from_residual.result c.from_residual.ensures.1 in
    rw (p.1, p.2)
    (stopped item_then (by_items bound_in (defaults_of c.args.defaults.now)) c.args.elements.now (map item_of c.loop-element.items.items)
    c.loop-element.element-index
    c.element-item.result c.in_err-next.field-0.0 c.loop-element-test.true c.element-item.is c.in_err-next.ensures c.loop-element.invariant)

pub grammar::items-loop-element-preserved : goal.grammar::items-loop-element-preserved
grammar::items-loop-element-preserved t c =
    went_on item_then (by_items bound_in (defaults_of c.args.defaults.now)) c.args.elements.now (map item_of c.loop-element.items.items)
    (map item_of c.push.new.self.items) c.loop-element.element-index c.element-item.result (item_of c.in_ok-next.next) c.loop-element-test.true
    c.element-item.is c.in_ok-next.ensures
    (ap (map item_of) c.in_ok-push.ensures.items ∙ map_push item_of c.loop-element.items.items c.in_ok-next.next)
    c.loop-element.invariant

pub grammar::items-returns : goal.grammar::items-returns
grammar::items-returns t c =
    over item_then (by_items bound_in (defaults_of c.args.defaults.now)) c.args.elements.now (map item_of c.loop-element.items.items)
    c.loop-element.element-index
    c.loop-element-test.false c.loop-element.invariant
    ∙ ap read (items_in_front c.loop-element.items.items)

pub grammar::replacements-returns-in_err-next : goal.grammar::replacements-returns-in_err-next
grammar::replacements-returns-in_err-next t c =
    let p = err_from_is_err_and c.from_residual.result c.from_residual.ensures.1 in
    rw (p.1, p.2)
    (stopped replacement_then (by_replacements bound_in (defaults_of c.args.defaults.now)) c.args.elements.now
    (map replacement_of c.loop-element.replacements.items) c.loop-element.element-index
    c.element-item.result c.in_err-next.field-0.0 c.loop-element-test.true c.element-item.is c.in_err-next.ensures c.loop-element.invariant)

pub grammar::replacements-loop-element-preserved : goal.grammar::replacements-loop-element-preserved
grammar::replacements-loop-element-preserved t c =
    went_on replacement_then (by_replacements bound_in (defaults_of c.args.defaults.now)) c.args.elements.now
    (map replacement_of c.loop-element.replacements.items)
    (map replacement_of c.push.new.self.items) c.loop-element.element-index c.element-item.result (replacement_of c.in_ok-next.next)
    c.loop-element-test.true
    c.element-item.is c.in_ok-next.ensures
    (ap (map replacement_of) c.in_ok-push.ensures.items ∙ map_push replacement_of c.loop-element.replacements.items c.in_ok-next.next)
    c.loop-element.invariant

pub grammar::replacements-returns : goal.grammar::replacements-returns
grammar::replacements-returns t c =
    over replacement_then (by_replacements bound_in (defaults_of c.args.defaults.now)) c.args.elements.now
    (map replacement_of c.loop-element.replacements.items) c.loop-element.element-index
    c.loop-element-test.false c.loop-element.invariant
    ∙ ap read (replacements_in_front c.loop-element.replacements.items)

pub grammar::include-returns-in-Ok : goal.grammar::include-returns-in-Ok
grammar::include-returns-in-Ok t c = rw (c.in_ok-file.ensures, c.in-Ok.ensures) (ap read (include_seen c.in_ok-file.file c.in-Ok.replacements))
