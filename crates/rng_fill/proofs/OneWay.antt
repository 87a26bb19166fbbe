-- Definitions can be filled in one way only, so that it may be told from what is only known to be there.
use Rattle.std.specs.Prelude.{◌≡◌, List, [], ◌∷◌, Bool}
use Rattle.std.specs.List.{AllByRecursion}
use Rattle.std.specs.Coded.{×_prop, Unit-prop, le_prop, coded_bool, Coded-set}
use Rattle.std.proofs.Common.{ap, refl, ◌∙◌}
use Rattle.nx_base.specs.Trees.{Attribute, AreAttributes, no_attributes, one_more}
use Rattle.rng_core.specs.Patterns.{Pattern, not_allowed, empty, any_text, typed, literal, listed, attribute, ref, one_or_more}
use Rattle.rng_core.specs.Patterns.{choice, group, interleave}
use Rattle.rng_fill.specs.Strings.{AreSoundTexts}
use Rattle.rng_fill.specs.Fillable.{HasFilling, IsNamed}
use Rattle.rng_fill.specs.Laws.{FilledInOneWay}

flags_alike : (b c : Bool) → IsProp (b ≡ c)
flags_alike b c = Coded-set coded_bool b c

three_alike : {A B C : Type 0} → IsProp A → IsProp B → IsProp C → IsProp (A × B × C)
three_alike a b c x y = ap (λ u. (u, x.1, x.2)) (a x.0 y.0) ∙ (ap (λ u. (y.0, u, x.2)) (b x.1 y.1) ∙ ap (λ u. (y.0, y.1, u)) (c x.2 y.2))

texts_alike : (p : Pattern) → IsProp (AreSoundTexts p)
texts_alike not_allowed = Unit-prop
texts_alike empty = Unit-prop
texts_alike any_text = Unit-prop
texts_alike (typed type excepts) = three_alike le_prop (flags_alike _ _) (flags_alike _ _)
texts_alike (literal type text) = ×_prop (flags_alike _ _) (flags_alike _ _)
texts_alike (listed p) = texts_alike p
texts_alike (attribute class p) = texts_alike p
texts_alike (ref i) = Unit-prop
texts_alike (one_or_more p) = texts_alike p
texts_alike (choice p q) = ×_prop (texts_alike p) (texts_alike q)
texts_alike (group p q) = ×_prop (texts_alike p) (texts_alike q)
texts_alike (interleave p q) = ×_prop (texts_alike p) (texts_alike q)

leaf_alike : (p : Pattern) → IsProp (HasFilling p)
leaf_alike (attribute class p) = three_alike (flags_alike _ _) (texts_alike p) (flags_alike _ _)
leaf_alike (ref i) = Unit-prop
leaf_alike not_allowed = ×_prop (texts_alike not_allowed) (flags_alike _ _)
leaf_alike empty = ×_prop (texts_alike empty) (flags_alike _ _)
leaf_alike any_text = ×_prop (texts_alike any_text) (flags_alike _ _)
leaf_alike (typed type excepts) = ×_prop (texts_alike (typed type excepts)) (flags_alike _ _)
leaf_alike (literal type text) = ×_prop (texts_alike (literal type text)) (flags_alike _ _)
leaf_alike (listed p) = ×_prop (texts_alike (listed p)) (flags_alike _ _)
leaf_alike (one_or_more p) = ×_prop (texts_alike (one_or_more p)) (flags_alike _ _)
leaf_alike (choice p q) = ×_prop (texts_alike (choice p q)) (flags_alike _ _)
leaf_alike (group p q) = ×_prop (texts_alike (group p q)) (flags_alike _ _)
leaf_alike (interleave p q) = ×_prop (texts_alike (interleave p q)) (flags_alike _ _)

all_alike : {X : Type 0} (P : X → Type 0) (xs : List X) → ((x : X) → IsProp (P x)) → IsProp (AllByRecursion P xs)
all_alike P [] each = Unit-prop
all_alike P (x ∷ xs) each = ×_prop (each x) (all_alike P xs each)

never_alike : {X : Type 0} → IsProp (X → ⊥)
never_alike a b = λ i x. let same : a x ≡ b x = absurd (a x) in same i

attributes_alike : (a : List Attribute) → IsProp (AreAttributes a)
attributes_alike [] no_attributes no_attributes = refl
attributes_alike (x ∷ a) (one_more named new more) (one_more named' new' more') =
    λ i. one_more (flags_alike _ _ named named' i) (never_alike new new' i) (attributes_alike a more more' i)

pub filled_in_one_way : FilledInOneWay
filled_in_one_way g costs a b = λ i. record {
  small = λ n h. le_prop (a.small n h) (b.small n h) i;
  settled = λ n d h. le_prop (a.settled n d h) (b.settled n d h) i;
  unmixed = λ n d h. flags_alike _ _ (a.unmixed n d h) (b.unmixed n d h) i;
  distinct = λ n d h atts m. attributes_alike atts (a.distinct n d h atts m) (b.distinct n d h atts m) i;
  filled = λ n d h. all_alike HasFilling _ leaf_alike (a.filled n d h) (b.filled n d h) i;
  named = λ n d h. all_alike (IsNamed g) _ (λ k. flags_alike _ _) (a.named n d h) (b.named n d h) i;
}
