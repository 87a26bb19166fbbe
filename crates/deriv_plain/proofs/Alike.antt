-- The answers whether two residuals are put together alike are right.
use Rattle.std.specs.Prelude.{◌≡◌, [], ◌∷◌, Bool, true, false, ◌&&◌, IsTrue, ◌↔◌}
use Rattle.std.proofs.Common.{refl, sym, ap, ◌∙◌, subst}
use Rattle.std.proofs.lemmas.Bool.{and_parts, and_from, false≢true}
use Rattle.rng_core.specs.Patterns.{Pattern}
use Rattle.rng_core.specs.Equality.{same_pattern}
use Rattle.rng_core.proofs.Same.{patterns_decided}
use Rattle.rng_kept.specs.Residuals.{Outer, document, inside, one_of, Way, among, in_tag, Residual}
use Rattle.rng_kept.specs.Merging.{same_flag, same_outer}
use Rattle.deriv_plain.specs.Sameness.{same_way, same_residual}

flags_same : (v w : Bool) → same_flag v w ≡ true → v ≡ w
flags_same true true same = refl
flags_same true false same = absurd (false≢true same)
flags_same false true same = absurd (false≢true same)
flags_same false false same = refl

flag_itself : (v : Bool) → same_flag v v ≡ true
flag_itself true = refl
flag_itself false = refl

insides : (b c l k : Pattern) (v w : Bool) (o u : Outer) → b ≡ c → l ≡ k → v ≡ w → o ≡ u → inside b l v o ≡ inside c k w u
insides b c l k v w o u first second third last =
    ap (λ x. inside x l v o) first ∙ (ap (λ x. inside c x v o) second ∙ (ap (λ x. inside c k x o) third ∙ ap (λ x. inside c k w x) last))

outers_same : (o u : Outer) → same_outer o u ≡ true → o ≡ u
outers_same (document p) (document q) same = ap (λ x. document x) ((patterns_decided p q).0 same)
outers_same (document p) (inside c k w u) same = absurd (false≢true same)
outers_same (document p) (one_of u r) same = absurd (false≢true same)
outers_same (inside b l v o) (document q) same = absurd (false≢true same)
outers_same (inside b l v o) (one_of u r) same = absurd (false≢true same)
outers_same (one_of o r) (document q) same = absurd (false≢true same)
outers_same (one_of o r) (inside c k w u) same = absurd (false≢true same)
outers_same (one_of o r) (one_of u s) same =
    let parts = and_parts (same_outer o u) (same_outer r s) same in
    ap (λ x. one_of x r) (outers_same o u parts.0) ∙ ap (λ x. one_of u x) (outers_same r s parts.1)
outers_same (inside b l v o) (inside c k w u) same =
    let first = and_parts (same_pattern b c) (same_pattern l k && (same_flag v w && same_outer o u)) same in
    let second = and_parts (same_pattern l k) (same_flag v w && same_outer o u) first.1 in
    let third = and_parts (same_flag v w) (same_outer o u) second.1 in
    insides b c l k v w o u ((patterns_decided b c).0 first.0) ((patterns_decided l k).0 second.0) (flags_same v w third.0) (outers_same o u third.1)

outer_itself : (o : Outer) → same_outer o o ≡ true
outer_itself (document p) = (patterns_decided p p).1 refl
outer_itself (inside b l v o) =
    and_from _ _ ((patterns_decided b b).1 refl) (and_from _ _ ((patterns_decided l l).1 refl) (and_from _ _ (flag_itself v) (outer_itself o)))
outer_itself (one_of o u) = and_from _ _ (outer_itself o) (outer_itself u)

tags_same : (p q : Pattern) (o u : Outer) → p ≡ q → o ≡ u → in_tag p o ≡ in_tag q u
tags_same p q o u first second = ap (λ x. in_tag x o) first ∙ ap (λ x. in_tag q x) second

ways_same : (w v : Way) → same_way w v ≡ true → w ≡ v
ways_same (among o) (among u) same = ap (λ x. among x) (outers_same o u same)
ways_same (among o) (in_tag q u) same = absurd (false≢true same)
ways_same (in_tag p o) (among u) same = absurd (false≢true same)
ways_same (in_tag p o) (in_tag q u) same =
    let parts = and_parts (same_pattern p q) (same_outer o u) same in
    tags_same p q o u ((patterns_decided p q).0 parts.0) (outers_same o u parts.1)

way_itself : (w : Way) → same_way w w ≡ true
way_itself (among o) = outer_itself o
way_itself (in_tag p o) = and_from _ _ ((patterns_decided p p).1 refl) (outer_itself o)

residuals_same : (x y : Residual) → same_residual x y ≡ true → x ≡ y
residuals_same [] [] same = refl
residuals_same [] (v ∷ vs) same = absurd (false≢true same)
residuals_same (w ∷ ws) [] same = absurd (false≢true same)
residuals_same (w ∷ ws) (v ∷ vs) same =
    let parts = and_parts (same_way w v) (same_residual ws vs) same in
    ap (λ x. x ∷ ws) (ways_same w v parts.0) ∙ ap (λ x. v ∷ x) (residuals_same ws vs parts.1)

residual_itself : (x : Residual) → same_residual x x ≡ true
residual_itself [] = refl
residual_itself (w ∷ ws) = and_from _ _ (way_itself w) (residual_itself ws)

pub residuals_told : (x y : Residual) (found : Bool) → found ≡ same_residual x y → IsTrue found ↔ (x ≡ y)
residuals_told x y found is = (
  λ t. residuals_same x y (sym is ∙ t),
  λ e. let P : Residual → Type 0 = λ z. same_residual x z ≡ true in is ∙ subst P e (residual_itself x),
)
