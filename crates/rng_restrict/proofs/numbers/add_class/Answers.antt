use Rattle.std.proofs.Common.{refl}
use Rattle.rng_core.specs.Meaning.{class_of}
use Rattle.rng_restrict.proofs.Sides.{class_read, none_read}
use Rattle.rng_restrict.proofs.numbers.add_class.Goals as goal

pub returns-in_ok-push : goal.returns-in_ok-push
returns-in_ok-push c = class_read c.args.defs.now c.args.number c.in-Some.def.now (λ x. class_of x.now) c.args.found.now.items c.push.new.self.items _ c.in-Some.ensures c.in_ok-push.ensures.items refl

pub returns-in_default : goal.returns-in_default
returns-in_default c = none_read c.args.defs.now c.args.number _ c.in_default.ensures
