use Rattle.std.proofs.Common.{◌≡◌, ap, sym, ◌∙◌, subst, IfOk}
use Rattle.rnc_parse.specs.Views.{class_of as written_class_of}
use Rattle.rng_core.specs.Meaning.{class_of}
use Rattle.rng_simplify.specs.Classes.{class_in as class_in_file}
use Rattle.rng_simplify.specs.JudgedClasses.{written_classes}
use Rattle.rng_simplify.proofs.Views.{choice_seen, choices_left, left_next}
use Rattle.rng_simplify.proofs.class.+class_in.Goals as goal

pub class_in-returns-in-Choice : goal.class_in-returns-in-Choice
class_in-returns-in-Choice t c =
    let seen : written_classes c.in-Choice.classes.items ≡ written_class_of c.args.class = sym (choice_seen c.in-Choice.classes) ∙ ap written_class_of (sym c.in-Choice.is) in
    subst (λ w. IfOk c.choice_in.result (λ built. class_of built ≡ class_in_file c.args.inherited.now w)) seen c.choice_in.ensures

pub choice_in-loop-class-preserved : goal.choice_in-loop-class-preserved
choice_in-loop-class-preserved t c =
    left_next c.args.inherited.now c.loop-class.choice c.in_ok-choice_next.field-0 c.in-Some.class c.next.new.self.rest.items c.in_ok-choice_next.ensures
    ∙ ap (choices_left c.args.inherited.now c.loop-class.choice) (sym c.in-Some.ensures.steps.0) ∙ c.loop-class.invariant
