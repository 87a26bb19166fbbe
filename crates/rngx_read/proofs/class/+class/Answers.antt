use Rattle.std.proofs.Common.{◌∷◌, ◌∙◌, ap}
use Rattle.std.proofs.lemmas.List.{map_push}
use Rattle.std.proofs.lemmas.Result.{err_from_is_err_and}
use Rattle.rnc_parse.specs.Views.{class_of}
use Rattle.rngx_read.specs.Names.{bound_in}
use Rattle.rngx_read.specs.Reading.{read}
use Rattle.rngx_read.specs.Views.{defaults_of, classes_of}
use Rattle.rngx_read.proofs.Loops.{went_on, stopped, over, list_in_front, by_classes}
use Rattle.rngx_read.proofs.class.+class.Goals as goal

pub classes-returns-in_err-next : goal.classes-returns-in_err-next
classes-returns-in_err-next t c =
    let p = err_from_is_err_and c.from_residual.result c.from_residual.ensures.1 in
    rw (p.1, p.2)
    (stopped ◌∷◌ (by_classes bound_in (defaults_of c.args.defaults.now)) c.args.elements.now (classes_of c.loop-element.classes.items)
    c.loop-element.element-index
    c.element-item.result c.in_err-next.field-0.0 c.loop-element-test.true c.element-item.is c.in_err-next.ensures c.loop-element.invariant)

pub classes-loop-element-preserved : goal.classes-loop-element-preserved
classes-loop-element-preserved t c =
    went_on ◌∷◌ (by_classes bound_in (defaults_of c.args.defaults.now)) c.args.elements.now (classes_of c.loop-element.classes.items)
    (classes_of c.push.new.self.items) c.loop-element.element-index c.element-item.result (class_of c.in_ok-next.next) c.loop-element-test.true
    c.element-item.is
    c.in_ok-next.ensures (ap classes_of c.in_ok-push.ensures.items ∙ map_push class_of c.loop-element.classes.items c.in_ok-next.next)
    c.loop-element.invariant

pub classes-returns : goal.classes-returns
classes-returns t c =
    over ◌∷◌ (by_classes bound_in (defaults_of c.args.defaults.now)) c.args.elements.now (classes_of c.loop-element.classes.items)
    c.loop-element.element-index
    c.loop-element-test.false c.loop-element.invariant
    ∙ ap read (list_in_front (classes_of c.loop-element.classes.items))
