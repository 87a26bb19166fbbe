-- That a pattern is in order can be so in one way only, and contents of a sound grammar are in order.
use Rattle.std.specs.Prelude.{◌≡◌, ℕ, List, [], ◌∷◌, Bool}
use Rattle.std.specs.List.{AllByRecursion}
use Rattle.std.specs.Coded.{×_prop, Unit-prop, le_prop, coded_bool, Coded-set}
use Rattle.std.proofs.Common.{ap, ◌∙◌}
use Rattle.rng_types.specs.declared.datatype.Datatype.{Datatype}
use Rattle.rng_types.specs.declared.datatype.Except.{Except}
use Rattle.rng_types.specs.Types.{Accepts}
use Rattle.rng_core.specs.Patterns.{Pattern, Definition, not_allowed, empty, any_text, typed, literal, listed, attribute, ref, one_or_more, choice, group, interleave}
use Rattle.rng_core.specs.Soundness.{IsSoundDefinition}
use Rattle.deriv_pattern.specs.Leaves.{IsInOrder, SoundAreInOrder}

flags_alike : (b c : Bool) → IsProp (b ≡ c)
flags_alike b c = Coded-set coded_bool b c

accepted_alike : (type : Datatype) (text : List ℕ) → IsProp (Accepts type text)
accepted_alike type text a b =
    ap (λ f. record { form = f; facets = a.facets }) (flags_alike _ _ a.form b.form)
    ∙ ap (λ f. record { form = b.form; facets = f }) (flags_alike _ _ a.facets b.facets)

three_alike : {A B C : Type 0} → IsProp A → IsProp B → IsProp C → IsProp (A × B × C)
three_alike a b c x y = ap (λ u. (u, x.1, x.2)) (a x.0 y.0) ∙ (ap (λ u. (y.0, u, x.2)) (b x.1 y.1) ∙ ap (λ u. (y.0, y.1, u)) (c x.2 y.2))

typed_alike : (type : Datatype) (excepts : List Except) → IsProp (IsInOrder (typed type excepts))
typed_alike type excepts = three_alike le_prop (flags_alike _ _) (flags_alike _ _)

pub in_order_alike : (p : Pattern) → IsProp (IsInOrder p)
in_order_alike not_allowed = Unit-prop
in_order_alike empty = Unit-prop
in_order_alike any_text = Unit-prop
in_order_alike (typed type excepts) = typed_alike type excepts
in_order_alike (literal type text) = ×_prop (flags_alike _ _) (accepted_alike type text)
in_order_alike (listed p) = in_order_alike p
in_order_alike (attribute class p) = in_order_alike p
in_order_alike (ref i) = Unit-prop
in_order_alike (one_or_more p) = in_order_alike p
in_order_alike (choice p q) = ×_prop (in_order_alike p) (in_order_alike q)
in_order_alike (group p q) = ×_prop (in_order_alike p) (in_order_alike q)
in_order_alike (interleave p q) = ×_prop (in_order_alike p) (in_order_alike q)

-- of the contents of definitions
pub contents_alike : (g : List Definition) → IsProp (AllByRecursion (λ (d : Definition). IsInOrder d.content) g)
contents_alike [] = Unit-prop
contents_alike (d ∷ g) = ×_prop (in_order_alike d.content) (contents_alike g)

-- the contents of a sound grammar
pub sound_contents : SoundAreInOrder → (count : ℕ) (g : List Definition) → AllByRecursion (IsSoundDefinition count) g →
    AllByRecursion (λ (d : Definition). IsInOrder d.content) g
sound_contents sound count [] a = tt
sound_contents sound count (d ∷ g) a = (sound count d.content (a.0).content_is, sound_contents sound count g a.1)
