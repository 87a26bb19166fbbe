use Rattle.std.proofs.Common.{[], ◌∷◌, ◌++◌, sym, ◌∙◌, ap}
use Rattle.std.proofs.lemmas.Result.{err_from_is_err_and}
use Rattle.rnc_parse.specs.Looking.{scope_in}
use Rattle.rnc_parse.specs.Views.{class_of}
use Rattle.rnc_parse.specs.Reading.{read}
use Rattle.rnc_parse.specs.ReadingClasses.{annotated_class_at, several_classes_at}
use Rattle.rnc_parse.proofs.ClassLoop.{begun, went_on, fails, over, only_one}
use Rattle.rnc_parse.proofs.ClassViews.{class_of-Choice}
use Rattle.rnc_parse.proofs.Shortening.{class_shortens}
use Rattle.rnc_parse.proofs.reader.Reader.+class.Goals as goal

pub more_classes-classes-init : goal.more_classes-classes-init
more_classes-classes-init t c = begun _ _ _ c.push.new.self.items c.args.first c.args.cursor.now (c.in_ok-push.ensures.items ∙ ap (λ l. l ++ c.args.first ∷ []) c.new-classes.ensures.items)

pub more_classes-returns-in_err-next : goal.more_classes-returns-in_err-next
more_classes-returns-in_err-next t c =
    let p = err_from_is_err_and c.from_residual-in_err-next.result c.from_residual-in_err-next.ensures.1 in
    rw (p.1, p.2)
    (fails (scope_in c.args.self.now.look_ups) c.args.unprefixed.now c.args.left c.classes.classes.items c.classes.cursor _ c.in_err-next.field-0.0 (sym c.stands.ensures ∙ c.classes-test.true) c.classes.invariant (rw c.advance.ensures at c.in_err-next.ensures))

pub more_classes-classes-smaller : goal.more_classes-classes-smaller
more_classes-classes-smaller t c = (class_shortens (scope_in c.args.self.now.look_ups) c.args.unprefixed.now c.args.left).shorter c.classes.cursor (sym c.stands.ensures ∙ c.classes-test.true) (class_of c.in_ok-next.next) c.annotated_class.new.cursor (ap (annotated_class_at _ _ _) (sym c.advance.ensures) ∙ c.in_ok-next.ensures)

pub more_classes-classes-preserved : goal.more_classes-classes-preserved
more_classes-classes-preserved t c = went_on _ _ _ c.classes.classes.items c.push-in-classes.new.self.items c.in_ok-next.next c.classes.cursor c.annotated_class.new.cursor _ (sym c.stands.ensures ∙ c.classes-test.true) (ap (annotated_class_at _ _ _) (sym c.advance.ensures) ∙ c.in_ok-next.ensures) c.in_ok-push-2.ensures.items c.classes.invariant

pub more_classes-returns : goal.more_classes-returns
more_classes-returns t c =
    over _ _ _ c.classes.classes.items c.classes.cursor _ (sym c.stands.ensures ∙ c.classes-test.false) c.classes.invariant
    ∙ ap (λ class. read class c.classes.cursor) (sym (class_of-Choice c.classes.classes))

pub several_classes-returns-then-not-stands : goal.several_classes-returns-then-not-stands
unfolding several_classes_at
several_classes-returns-then-not-stands t c =
    rw (c.in_ok-first.ensures, c.in_ok-follow.ensures) (only_one _ _ _ _ _ (sym c.stands.ensures ∙ c.if-not-stands.true))
