-- Laws of fillings: which definitions can be filled.
use Rattle.std.specs.Prelude.{◌≡◌, ℕ, true, List}
use Rattle.nx_base.specs.Trees.{Attribute, AreAttributes}
use Rattle.rng_core.specs.Patterns.{Pattern, Definition, Language}
use Rattle.rng_core.specs.Soundness.{IsSoundGrammar}
use Rattle.rng_restrict.specs.declared.content.Content.{Content}
use Rattle.rng_restrict.specs.Contents.{HasType, BreaksMixture}
use Rattle.rng_kept.specs.Apart.{IsApart}
use Rattle.rng_kept.specs.Live.{AreLive}
use Rattle.rng_live.specs.Pruned.{IsPruned}
use Rattle.rng_cost.specs.Costs.{IsLarge}
use Rattle.rng_cost.specs.Least.{AreLeast}
use Rattle.rng_cost.specs.Leaves.{leaves}
use Rattle.rng_fill.specs.Sorted.{attribute_leaves, AreAttributesOf}
use Rattle.rng_fill.specs.Fillable.{is_unmixed, HaveUnmixedContents, CanBeFilled}

-- definitions that live, are sound and unmixed, and aren't large can be filled by their least costs
abbrev pub FilledWhereNotLarge : Type 0
FilledWhereNotLarge = (start : Pattern) (g : List Definition) (costs : List ℕ) → IsSoundGrammar start g → AreLive g → HaveUnmixedContents g
    → AreLeast g costs → (IsLarge g → ⊥) → CanBeFilled g costs

-- a content with a content type is unmixed
abbrev pub TypedAreUnmixed : Type 0
TypedAreUnmixed = (p : Pattern) (t : Content) → HasType p t → is_unmixed p ≡ true

-- so are those that pruning leaves of a grammar with no mixture
abbrev pub PrunedAreUnmixed : Type 0
PrunedAreUnmixed = (old new : Language) → (BreaksMixture old.start old.definitions → ⊥) → IsPruned old new
    → HaveUnmixedContents new.definitions

-- the attributes of the leaves of a content whose attributes are apart have distinct names
abbrev pub LeavesAreDistinct : Type 0
LeavesAreDistinct = (g : List Definition) (costs : List ℕ) (p : Pattern) (a : List Attribute) → IsApart p
    → AreAttributesOf g (attribute_leaves (leaves costs p)) a → AreAttributes a

-- whether definitions can be filled is a fact, of which it doesn't matter how it was found
abbrev pub FilledInOneWay : Type 0
FilledInOneWay = (g : List Definition) (costs : List ℕ) → IsProp (CanBeFilled g costs)
