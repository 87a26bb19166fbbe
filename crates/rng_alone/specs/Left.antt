-- Residuals whose strings stand alone: what is left of such contents.
use Rattle.std.specs.Prelude.{◌≡◌, Bool, true, false, ◌||◌, List, []}
use Rattle.std.specs.List.{AllByRecursion}
use Rattle.nx_base.specs.Trees.{Event}
use Rattle.nx_base.specs.declared.name.Name.{Name}
use Rattle.rng_core.specs.Patterns.{Pattern, Definition, typed, literal, listed, one_or_more, choice, group, interleave}
use Rattle.rng_kept.specs.Content.{chars_any, leave_skip}
use Rattle.rng_kept.specs.Entering.{enter_skip}
use Rattle.rng_kept.specs.Live.{IsStart, AreLive}
use Rattle.rng_kept.specs.Lively.{AreLively}
use Rattle.rng_kept.specs.Residuals.{Outer, document, inside, one_of, Way, among, in_tag, Residual}
use Rattle.rng_kept.specs.Standing.{first_residual}
use Rattle.rng_kept.specs.Strings.{Tests, string_tests}
use Rattle.rng_kept.specs.Tags.{attribute_any, tag_end_missing}
use Rattle.rng_residual.specs.Moves.{behind_event}
use Rattle.rng_fill.specs.Fillable.{has_string_leaf}
use Rattle.rng_alone.specs.Alone.{is_alone, HaveAloneContents}

-- whether some leaf of a string passes a test
abbrev pub some_passes : Tests → Pattern → Bool
some_passes tests (typed type excepts) = tests.of_data type excepts
some_passes tests (literal type text) = tests.of_value type text
some_passes tests (listed p) = tests.of_list p
some_passes tests (one_or_more p) = some_passes tests p
some_passes tests (choice p q) = some_passes tests p || some_passes tests q
some_passes tests (group p q) = some_passes tests p || some_passes tests q
some_passes tests (interleave p q) = some_passes tests p || some_passes tests q
some_passes tests _ = false

-- what is left of children, as they stand (b) and without blank strings (l): strings stand alone in both views; and where there have to
-- be children, no string of them is the empty one,
-- which a text can't write
pub record AreAloneInside (b l : Pattern) (v : Bool) : Type 0 where
  pub strict : is_alone b ≡ true
  pub loose : is_alone l ≡ true
  pub some : v ≡ false → some_passes (string_tests []) b ≡ false

-- what is left outside of the root has no string
abbrev pub IsAloneOutside : Outer → Type 0
IsAloneOutside (document p) = (has_string_leaf p ≡ false) × (is_alone p ≡ true)
IsAloneOutside (inside b l v o) = AreAloneInside b l v × IsAloneOutside o
IsAloneOutside (one_of o u) = IsAloneOutside o × IsAloneOutside u

abbrev pub IsAloneWay : Way → Type 0
IsAloneWay (among o) = IsAloneOutside o
IsAloneWay (in_tag p o) = (is_alone p ≡ true) × IsAloneOutside o

abbrev pub AreAlone : Residual → Type 0
AreAlone x = AllByRecursion IsAloneWay x

-- ---- laws

-- so it is behind each call of a matcher
pub record AreAloneBehind (g : List Definition) (x : Residual) : Type 0 where
  pub event : (e : Event) → AreAlone (behind_event g e x)
  pub skip : (n : Name) → AreAlone (enter_skip g n x)
  pub value : (n : Name) → AreAlone (attribute_any n x)
  pub string : AreAlone (chars_any x)
  pub attributes : AreAlone (tag_end_missing x)
  pub content : AreAlone (leave_skip x)

abbrev pub MovesKeepAlone : Type 0
MovesKeepAlone = (g : List Definition) → AreLive g → HaveAloneContents g → (l : List Name) (x : Residual) → AreLively g l x → AreAlone x
    → AreAloneBehind g x

-- and where a frame begins
abbrev pub FramesAreAlone : Type 0
FramesAreAlone = (p : Pattern) → IsStart p → AreAlone (first_residual p)
