-- Names that a class doesn't mention are in it alike.
use Rattle.std.specs.Prelude.{◌≡◌, Bool, not, ◌&&◌, false}
use Rattle.std.proofs.Common.{refl}
use Rattle.std.proofs.lemmas.Bool.{or_parts, and_left}
use Rattle.nx_base.specs.declared.name.Name.{Name}
use Rattle.rng_core.specs.Names.{Class, any_name, ns_name, the_name, either, without, covers}
use Rattle.rng_core.specs.Unmentioned.{covers_others_in, covers_others}
use Rattle.rng_core.proofs.Overlaps.{both_or}
use Rattle.rng_kept.specs.Mentioned.{class_mentions, class_mentions_ns}

both_but : (a b c d : Bool) → a ≡ c → b ≡ d → (a && not b) ≡ (c && not d)
both_but a b c d p q = rw (p, q) refl

-- a name that isn't mentioned is covered as the other names of its namespace are
pub covers-unmentioned : (c : Class) (n : Name) → class_mentions c n ≡ false → covers c n ≡ covers_others_in c n.ns
covers-unmentioned any_name n other = refl
covers-unmentioned (ns_name of) n other = refl
covers-unmentioned (the_name m) n other = other
covers-unmentioned (either c d) n other =
    let parts = or_parts (class_mentions c n) (class_mentions d n) other in
    both_or _ _ _ _ (covers-unmentioned c n parts.0) (covers-unmentioned d n parts.1)
covers-unmentioned (without c d) n other =
    let parts = or_parts (class_mentions c n) (class_mentions d n) other in
    both_but _ _ _ _ (covers-unmentioned c n parts.0) (covers-unmentioned d n parts.1)

-- and one of a namespace that isn't mentioned as those of other namespaces are
pub covers-other_namespace : (c : Class) (n : Name) → class_mentions_ns c n.ns ≡ false → covers c n ≡ covers_others c
covers-other_namespace any_name n other = refl
covers-other_namespace (ns_name of) n other = other
covers-other_namespace (the_name m) n other = and_left _ _ other
covers-other_namespace (either c d) n other =
    let parts = or_parts (class_mentions_ns c n.ns) (class_mentions_ns d n.ns) other in
    both_or _ _ _ _ (covers-other_namespace c n parts.0) (covers-other_namespace d n parts.1)
covers-other_namespace (without c d) n other =
    let parts = or_parts (class_mentions_ns c n.ns) (class_mentions_ns d n.ns) other in
    both_but _ _ _ _ (covers-other_namespace c n parts.0) (covers-other_namespace d n parts.1)
