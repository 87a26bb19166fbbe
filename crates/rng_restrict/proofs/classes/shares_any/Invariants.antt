use Rattle.std.proofs.Common.{◌≡◌, false, take}
use Rattle.std.specs.List.{list_any}
use Rattle.rng_core.specs.Meaning.{class_of}
use Rattle.rng_restrict.specs.Finding.{share_name}
use Rattle.rng_restrict.proofs.classes.shares_any.Given as goal

abbrev pub invariant-loop-other : goal.invariant-loop-other
invariant-loop-other l = list_any (λ o. share_name l.bearer (class_of l.class) (class_of o.now)) (take l.other-index l.others) ≡ false
