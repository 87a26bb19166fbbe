use Rattle.std.proofs.Common.{ap, ◌∙◌, arith}
use Rattle.rng_core.specs.declared.name_class.NameClass.{size-NameClass}
use Rattle.rng_core.specs.declared.name_class.NameClass.TheViews.{sized-Choice}
use Rattle.rng_core.specs.Meaning.{class_of}
use Rattle.rng_core.proofs.Choices.{one_more}
use Rattle.rng_core.proofs.name_class.NameClass.+class_copy.Goals as goal

pub copy-loop-front-preserved : goal.copy-loop-front-preserved
copy-loop-front-preserved t c =
    let is = ap size-NameClass c.in-Choice.is in
    let rest = ap size-NameClass c.deref-front.ensures in
    let sides = sized-Choice c.in-Choice.more c.in-Choice.last in (
      one_more _ (class_of c.loop-front.front.now) c.in-Choice.more.value c.in-Choice.last.value c.deref-front.result.now c.in_ok-copy.field-0 c.loop-front.lasts.items c.push.new.self.items
          (ap class_of c.in-Choice.is) c.deref-front.ensures (c.in_ok-copy.ensures ∙ ap class_of c.deref.ensures) c.in_ok-push.ensures.items c.loop-front.invariant.0,
      omega (arith, is, rest, sides, c.loop-front.invariant.1),
    )
