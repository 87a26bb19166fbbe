use Rattle.std.proofs.Common.{◌≡◌, Bool, true, false, refl, sym, ◌∙◌}
use Rattle.rng_core.specs.declared.name_class.Bearer.{Bearer}
use Rattle.rng_core.specs.Meaning.{class_of}
use Rattle.rng_core.specs.Names.{Class}
use Rattle.rng_core.specs.Unmentioned.{OverlapAs}
use Rattle.rng_core.proofs.Borne.{overlap_found, overlap_there}
use Rattle.rng_live.specs.Living.{has_name_for}
use Rattle.rng_live.proofs.naming.has_some_name.Goals as goal

-- the answer is that of the test
same_answer : (bearer : Bearer) (c : Class) (b : Bool) → (b ≡ true → OverlapAs bearer c c) → (OverlapAs bearer c c → b ≡ true) → b ≡ has_name_for bearer c
same_answer bearer c b f h = go b (has_name_for bearer c) refl refl
  where
    go : (x y : Bool) → b ≡ x → has_name_for bearer c ≡ y → b ≡ has_name_for bearer c
    go true y d e = d ∙ sym (overlap_found bearer c c (f d))
    go false true d e = h (overlap_there bearer c c e) ∙ sym e
    go false false d e = d ∙ sym e

pub returns : goal.returns
returns c = same_answer c.args.bearer (class_of c.args.class.now) c.overlaps.result c.overlaps.ensures.0 c.overlaps.ensures.1
