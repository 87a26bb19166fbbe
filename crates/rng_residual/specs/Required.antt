-- The names that a residual requires are exactly those of which each list of attributes, behind which the tag may end, has one.
use Rattle.std.specs.Prelude.{◌≡◌, true, false, List}
use Rattle.nx_base.specs.declared.name.Name.{Name}
use Rattle.rng_core.specs.Names.{Class, has_attribute_name}
use Rattle.rng_core.specs.Patterns.{Pattern, Language}
use Rattle.rng_kept.specs.Moves.{Move}
use Rattle.rng_kept.specs.KeptLists.{IsRequired}
use Rattle.rng_kept.specs.Residuals.{Residual}
use Rattle.rng_kept.specs.Live.{AreLive}
use Rattle.rng_kept.specs.Standing.{Stands}
use Rattle.rng_kept.specs.Required.{has_only, is_required}

-- another name of a class that an attribute can have
pub record OtherName (c : Class) (n : Name) : Type 0 where
  pub name : Name
  pub has : has_attribute_name c name ≡ true
  pub other : name ≡ n → ⊥

-- the test tells whether a class, of which some attribute has a name, has that name alone
abbrev pub OnlyIsExact : Type 0
OnlyIsExact = (c : Class) (n m : Name) → has_attribute_name c m ≡ true →
    (has_only c n ≡ true → m ≡ n) × (has_only c n ≡ false → OtherName c n)

abbrev pub RequiredIsExact : Type 0
RequiredIsExact = (g : Language) → AreLive g.definitions → (p : Pattern) (h : List Move) (x : Residual) → Stands g p h x → (n : Name) →
    (is_required n x ≡ true → IsRequired g p h n) × (IsRequired g p h n → is_required n x ≡ true)
