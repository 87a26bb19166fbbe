-- Residuals that use the names of the attributes of the open tag: whatever is taken for them, none of its attributes has to have one.
use Rattle.std.specs.Prelude.{◌≡◌, ℕ, List, true, Some, slice_get}
use Rattle.std.specs.List.{AllByRecursion}
use Rattle.nx_base.specs.Trees.{Event}
use Rattle.nx_base.specs.declared.name.Name.{Name}
use Rattle.rng_core.specs.Patterns.{Pattern, Definition, Language}
use Rattle.rng_core.specs.Soundness.{IsSoundPattern, IsSoundGrammar}
use Rattle.rng_kept.specs.Apart.{IsApart}
use Rattle.rng_kept.specs.Content.{chars_any, leave_skip}
use Rattle.rng_kept.specs.Entering.{enter_skip}
use Rattle.rng_kept.specs.Events.{IsAmong}
use Rattle.rng_kept.specs.Live.{AreLive}
use Rattle.rng_kept.specs.Moves.{take, skip_to, any_value, any_string, missing_attributes, missing_content, attributes_after}
use Rattle.rng_kept.specs.Residuals.{Way, among, in_tag, Residual}
use Rattle.rng_kept.specs.Standing.{first_residual}
use Rattle.rng_kept.specs.Tags.{attribute_any, tag_end_missing}
use Rattle.rng_residual.specs.Moves.{behind_event}
use Rattle.rng_names.specs.Used.{used, IsParted}

-- what is left of a sound content behind attributes of these names
pub record UsesNames (l : List Name) (p : Pattern) : Type 0 where
  pub parted : IsParted p
  pub used : (n : Name) → IsAmong n l → used p n ≡ true
  pub count : ℕ
  pub sound : IsSoundPattern count p

-- each way in a tag does
abbrev pub WayUsesNames : List Name → Way → Type 0
WayUsesNames l (among o) = Unit {0}
WayUsesNames l (in_tag p o) = UsesNames l p

abbrev pub UseNames : List Name → Residual → Type 0
UseNames l x = AllByRecursion (WayUsesNames l) x

-- ---- what is left behind moves uses their names, whether or not the names are new

-- behind each move, by the attributes behind it
pub record UseBehind (g : List Definition) (l : List Name) (x : Residual) : Type 0 where
  pub event : (e : Event) → UseNames (attributes_after l (take e)) (behind_event g e x)
  pub skip : (n : Name) → UseNames (attributes_after l (skip_to n)) (enter_skip g n x)
  pub value : (n : Name) → UseNames (attributes_after l (any_value n)) (attribute_any n x)
  pub string : UseNames (attributes_after l any_string) (chars_any x)
  pub attributes : UseNames (attributes_after l missing_attributes) (tag_end_missing x)
  pub content : UseNames (attributes_after l missing_content) (leave_skip x)

-- sound contents whose attributes are apart
pub record HaveApartContents (g : List Definition) : Type 0 where
  pub count : ℕ
  pub sound : (i : ℕ) (d : Definition) → slice_get g i ≡ Some d → IsSoundPattern count d.content
  pub apart : (i : ℕ) (d : Definition) → slice_get g i ≡ Some d → IsApart d.content

-- those of a sound grammar that lives
abbrev pub LiveContentsAreApart : Type 0
LiveContentsAreApart = (g : Language) → IsSoundGrammar g.start g.definitions → AreLive g.definitions → HaveApartContents g.definitions

abbrev pub MovesUseNames : Type 0
MovesUseNames = (g : List Definition) → HaveApartContents g → (l : List Name) (x : Residual) → UseNames l x → UseBehind g l x

-- a frame begins outside of tags
abbrev pub FramesUseNames : Type 0
FramesUseNames = (l : List Name) (p : Pattern) → UseNames l (first_residual p)
