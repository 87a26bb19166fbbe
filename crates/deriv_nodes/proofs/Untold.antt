-- Where strings aren't told apart, what is left behind two of them is the same.
use Rattle.std.specs.Prelude.{◌≡◌, ℕ, List, Bool, true, false, ◌&&◌, ◌||◌, if◌then◌else◌}
use Rattle.std.proofs.Common.{refl, sym, ap, ◌∙◌}
use Rattle.std.proofs.lemmas.Bool.{or_parts, true≢false}
use Rattle.nx_base.specs.declared.name.Name.{Name}
use Rattle.nx_base.specs.Characters.{is_blank}
use Rattle.rng_core.specs.Names.{has_attribute_name}
use Rattle.rng_core.specs.Patterns.{Pattern, not_allowed, empty, any_text, ref, typed, literal, listed, attribute, one_or_more, choice, group, interleave}
use Rattle.rng_kept.specs.SmallPatterns.{choice_of, group_of, interleave_of, star}
use Rattle.rng_kept.specs.Nullable.{nullable}
use Rattle.rng_kept.specs.Strings.{Tests, string_tests, after_by, after}
use Rattle.rng_kept.specs.Attributes.{value_fits, around, attribute_by, after_attribute}
use Rattle.deriv_nodes.specs.Telling.{tells_strings, tells_values}

-- ---- two sides at once

both : {A : Type 0} (f : A → A → A) (a b c d : A) → a ≡ b → c ≡ d → f a c ≡ f b d
both f a b c d one other = ap (λ x. f x c) one ∙ ap (λ x. f b x) other

-- ---- behind strings

same_by : (f g : Tests) (p : Pattern) → tells_strings p ≡ false → after_by f p ≡ after_by g p
same_by f g not_allowed none = refl
same_by f g empty none = refl
same_by f g any_text none = refl
same_by f g (ref n) none = refl
same_by f g (attribute class p) none = refl
same_by f g (typed type excepts) none = absurd (true≢false none)
same_by f g (literal type wanted) none = absurd (true≢false none)
same_by f g (listed p) none = absurd (true≢false none)
same_by f g (one_or_more p) none = ap (λ x. group_of x (star p)) (same_by f g p none)
same_by f g (choice p q) none =
    let sides = or_parts (tells_strings p) (tells_strings q) none in
    both choice_of _ _ _ _ (same_by f g p sides.0) (same_by f g q sides.1)
same_by f g (group p q) none =
    let sides = or_parts (tells_strings p) (tells_strings q) none in
    both choice_of _ _ _ _ (ap (λ x. group_of x q) (same_by f g p sides.0)) (ap (λ x. if nullable p then x else not_allowed) (same_by f g q sides.1))
same_by f g (interleave p q) none =
    let sides = or_parts (tells_strings p) (tells_strings q) none in
    both choice_of _ _ _ _ (ap (λ x. interleave_of x q) (same_by f g p sides.0)) (ap (λ x. interleave_of p x) (same_by f g q sides.1))

pub same_after : (t u : List ℕ) (p : Pattern) → tells_strings p ≡ false → after t p ≡ after u p
same_after t u p none = same_by (string_tests t) (string_tests u) p none

-- ---- behind attributes

pub same_fits : (v w : List ℕ) (p : Pattern) → is_blank v ≡ is_blank w → tells_strings p ≡ false → value_fits v p ≡ value_fits w p
same_fits v w p blank none = both (λ x y. x || y) _ _ _ _ (ap nullable (same_after v w p none)) (ap (λ b. b && nullable p) blank)

same_named : (named : Bool) (v w : List ℕ) (p : Pattern) → is_blank v ≡ is_blank w → (named && tells_strings p) ≡ false
    → (if named && value_fits v p then empty else not_allowed) ≡ (if named && value_fits w p then empty else not_allowed)
same_named false v w p blank none = refl
same_named true v w p blank none = ap (λ b. if b then empty else not_allowed) (same_fits v w p blank none)

pub same_attribute : (n : Name) (v w : List ℕ) (p : Pattern) → is_blank v ≡ is_blank w → tells_values n p ≡ false
    → after_attribute n v p ≡ after_attribute n w p
same_attribute n v w not_allowed blank none = refl
same_attribute n v w empty blank none = refl
same_attribute n v w any_text blank none = refl
same_attribute n v w (ref k) blank none = refl
same_attribute n v w (typed type excepts) blank none = refl
same_attribute n v w (literal type wanted) blank none = refl
same_attribute n v w (listed p) blank none = refl
same_attribute n v w (attribute class p) blank none = same_named (has_attribute_name class n) v w p blank none
same_attribute n v w (one_or_more p) blank none = ap (λ x. around x p) (same_attribute n v w p blank none)
same_attribute n v w (choice p q) blank none =
    let sides = or_parts (tells_values n p) (tells_values n q) none in
    both choice_of _ _ _ _ (same_attribute n v w p blank sides.0) (same_attribute n v w q blank sides.1)
same_attribute n v w (group p q) blank none =
    let sides = or_parts (tells_values n p) (tells_values n q) none in
    both choice_of _ _ _ _ (ap (λ x. group_of x q) (same_attribute n v w p blank sides.0)) (ap (λ x. group_of p x) (same_attribute n v w q blank sides.1))
same_attribute n v w (interleave p q) blank none =
    let sides = or_parts (tells_values n p) (tells_values n q) none in
    both choice_of _ _ _ _ (ap (λ x. interleave_of x q) (same_attribute n v w p blank sides.0))
    (ap (λ x. interleave_of p x) (same_attribute n v w q blank sides.1))
