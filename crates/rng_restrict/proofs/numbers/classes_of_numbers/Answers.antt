use Rattle.std.specs.Prelude.{map}
use Rattle.rng_core.specs.Meaning.{class_of, definition_of}
use Rattle.rng_restrict.proofs.Alike.{classes_step}
use Rattle.rng_restrict.proofs.numbers.classes_of_numbers.Goals as goal

pub loop-number-preserved : goal.loop-number-preserved
loop-number-preserved c =
    classes_step (map definition_of c.args.defs.now) c.args.numbers.now c.loop-number.number-index _
    (map (λ x. class_of x.now) c.loop-number.found.items) (map (λ x. class_of x.now) c.add_class.new.found.items)
    c.loop-number-test.true c.loop-number.invariant c.in_ok-add_class.ensures
