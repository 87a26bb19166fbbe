-- The names that a residual needs where content is skipped are exactly those of which each content that can stand there has an element.
use Rattle.std.specs.Prelude.{◌≡◌, List, [], true, false, Option, Contains}
use Rattle.nx_base.specs.declared.name.Name.{Name}
use Rattle.rng_core.specs.Names.{Class, has_name}
use Rattle.rng_core.specs.Patterns.{Pattern, Language}
use Rattle.rng_kept.specs.Moves.{Move}
use Rattle.rng_kept.specs.KeptLists.{IsNeeded, CanMove, skip_move}
use Rattle.rng_kept.specs.Residuals.{Residual}
use Rattle.rng_kept.specs.Live.{AreLive}
use Rattle.rng_kept.specs.Standing.{Stands}
use Rattle.rng_kept.specs.Needed.{is_in, sole_names, needed}

-- another name of a class
pub record OtherElementName (c : Class) (n : Name) : Type 0 where
  pub name : Name
  pub has : has_name c name ≡ true
  pub other : name ≡ n → ⊥

-- of a class that has some name, the sole names are the one that it has alone
abbrev pub SoleIsExact : Type 0
SoleIsExact = (c : Class) (n m : Name) → has_name c m ≡ true →
    (is_in n (sole_names c) ≡ true → m ≡ n) × (is_in n (sole_names c) ≡ false → OtherElementName c n)

-- where content can be skipped; where none can, each name is needed, and none is listed
abbrev pub NeededIsExact : Type 0
NeededIsExact = (g : Language) → AreLive g.definitions → (p : Pattern) (h : List Move) (x : Residual) → Stands g p h x → (skip : Option Name)
    → CanMove g p h (skip_move skip) → (n : Name) →
    (Contains (needed g.definitions skip x) n → IsNeeded g p h skip n) × (IsNeeded g p h skip n → Contains (needed g.definitions skip x) n)

abbrev pub NothingIsListed : Type 0
NothingIsListed = (g : Language) (p : Pattern) (h : List Move) (x : Residual) → Stands g p h x → (skip : Option Name)
    → (CanMove g p h (skip_move skip) → ⊥) → needed g.definitions skip x ≡ []
