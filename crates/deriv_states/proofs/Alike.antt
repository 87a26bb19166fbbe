-- The answer whether two outers are put together alike is right.
use Rattle.std.specs.Prelude.{◌≡◌, Bool, true, false, ◌&&◌}
use Rattle.std.specs.Bool.{Decides}
use Rattle.std.proofs.Common.{refl, ap, ◌∙◌, subst}
use Rattle.std.proofs.lemmas.Bool.{and_parts, and_from, false≢true}
use Rattle.rng_core.specs.Patterns.{Pattern}
use Rattle.rng_core.specs.Equality.{same_pattern}
use Rattle.rng_core.proofs.Same.{patterns_decided}
use Rattle.rng_kept.specs.Residuals.{Outer, document, inside, one_of}
use Rattle.rng_kept.specs.Merging.{same_flag, same_outer}

flags_same : (v w : Bool) → same_flag v w ≡ true → v ≡ w
flags_same true true same = refl
flags_same true false same = absurd (false≢true same)
flags_same false true same = absurd (false≢true same)
flags_same false false same = refl

flag_itself : (v : Bool) → same_flag v v ≡ true
flag_itself true = refl
flag_itself false = refl

insides : (b c l k : Pattern) (v w : Bool) (o u : Outer) → b ≡ c → l ≡ k → v ≡ w → o ≡ u → inside b l v o ≡ inside c k w u
insides b c l k v w o u first second third last =
    ap (λ x. inside x l v o) first ∙ (ap (λ x. inside c x v o) second ∙ (ap (λ x. inside c k x o) third ∙ ap (λ x. inside c k w x) last))

outers_same : (o u : Outer) → same_outer o u ≡ true → o ≡ u
outers_same (document p) (document q) same = ap (λ x. document x) ((patterns_decided p q).0 same)
outers_same (document p) (inside c k w u) same = absurd (false≢true same)
outers_same (document p) (one_of u r) same = absurd (false≢true same)
outers_same (inside b l v o) (document q) same = absurd (false≢true same)
outers_same (inside b l v o) (one_of u r) same = absurd (false≢true same)
outers_same (one_of o r) (document q) same = absurd (false≢true same)
outers_same (one_of o r) (inside c k w u) same = absurd (false≢true same)
outers_same (one_of o r) (one_of u s) same =
    let parts = and_parts (same_outer o u) (same_outer r s) same in
    ap (λ x. one_of x r) (outers_same o u parts.0) ∙ ap (λ x. one_of u x) (outers_same r s parts.1)
outers_same (inside b l v o) (inside c k w u) same =
    let first = and_parts (same_pattern b c) (same_pattern l k && (same_flag v w && same_outer o u)) same in
    let second = and_parts (same_pattern l k) (same_flag v w && same_outer o u) first.1 in
    let third = and_parts (same_flag v w) (same_outer o u) second.1 in
    insides b c l k v w o u ((patterns_decided b c).0 first.0) ((patterns_decided l k).0 second.0) (flags_same v w third.0) (outers_same o u third.1)

outer_itself : (o : Outer) → same_outer o o ≡ true
outer_itself (document p) = (patterns_decided p p).1 refl
outer_itself (inside b l v o) =
    and_from _ _ ((patterns_decided b b).1 refl) (and_from _ _ ((patterns_decided l l).1 refl) (and_from _ _ (flag_itself v) (outer_itself o)))
outer_itself (one_of o u) = and_from _ _ (outer_itself o) (outer_itself u)

pub outers_decided : (o u : Outer) → Decides (same_outer o u) (o ≡ u)
outers_decided o u = (outers_same o u, λ e. let P : Outer → Type 0 = λ x. same_outer o x ≡ true in subst P e (outer_itself o))
