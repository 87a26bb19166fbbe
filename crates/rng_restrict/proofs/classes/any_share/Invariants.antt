use Rattle.std.proofs.Common.{◌≡◌, false, take}
use Rattle.std.specs.List.{list_any}
use Rattle.rng_core.specs.Meaning.{class_of}
use Rattle.rng_restrict.specs.Finding.{share_name}
use Rattle.rng_restrict.proofs.classes.any_share.Given as goal

abbrev pub invariant-loop-class : goal.invariant-loop-class
invariant-loop-class l = list_any (λ c. list_any (λ o. share_name l.bearer (class_of c.now) (class_of o.now)) l.others) (take l.class-index l.classes) ≡ false
