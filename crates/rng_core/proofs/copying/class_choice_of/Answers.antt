use Rattle.std.proofs.Common.{refl}
use Rattle.rng_core.specs.Meaning.{class_of}
use Rattle.rng_core.proofs.Choices.{one_less}
use Rattle.rng_core.proofs.copying.class_choice_of.Goals as goal

pub loop-other-preserved : goal.loop-other-preserved
loop-other-preserved c =
    rw c.in_ok-new.ensures.ok
    (one_less _ (class_of c.loop-other.built) c.in_ok-front.front.value c.loop-other.built c.in-Some.other c.loop-other.others.items c.pop.new.self.items
    c.in_ok-front.ensures.ok refl c.in-Some.ensures.items c.loop-other.invariant)
