-- The laws.
use Rattle.std.specs.Prelude.{if◌then◌else◌, ◌≡◌, ◌&&◌, ℕ, Bool, true, false, List, Option, None, Some, slice_get, ◌↔◌, IsTrue}
use Rattle.nx_base.specs.declared.name.Name.{Name}
use Rattle.nx_base.specs.Trees.{Attribute, Children}
use Rattle.rng_core.specs.Names.{has_name}
use Rattle.rng_core.specs.Patterns.{Pattern, Definition, not_allowed, choice, ref}
use Rattle.rng_core.specs.Matching.{Matches}
use Rattle.rng_core.specs.Soundness.{IsSoundGrammar}
use Rattle.rng_restrict.specs.Standing.{Stands}
use Rattle.rng_restrict.specs.Paths.{BreaksPath}
use Rattle.rng_restrict.specs.Attributes.{BreaksAttributeOverlap}
use Rattle.rng_kept.specs.Apart.{IsApart}
use Rattle.rng_kept.specs.Live.{IsLive}
use Rattle.rng_live.specs.Dead.{IsOfUtf8, ValuesAre, StringsAre, Lives, IsDead}
use Rattle.rng_live.proofs.Fitting.{living, Fits, AllFit, AreDerived, AreClosed}
use Rattle.rng_live.specs.Conditions.{is_marked}
use Rattle.rng_live.specs.Living.{lives_with}
use Rattle.rng_core.specs.Patterns.{Language}
use Rattle.rng_live.specs.Left.{prune, prune_all}
use Rattle.rng_live.proofs.ReachRounds.{reached_numbers}
use Rattle.rng_live.proofs.Renumbered.{renamed, place, renumbered, is_kept, AreKept, IsPrunedBy}

-- the rounds end with marks that are derived and closed
abbrev pub RoundsSettle : Type 0
RoundsSettle = (named : ℕ → Bool) (g : List Definition) → AllFit named g → AreDerived named g (living g) × AreClosed g (living g)

-- a definition is dead where its class has no name, or its content is dead
abbrev pub IsDeadDefinition : List Definition → Definition → Type 0
IsDeadDefinition g d = (n : Name) → IsTrue (has_name d.class n) → Lives g d.content → ⊥

-- with marks that are derived and closed, the test is exact: it fails exactly for the dead
abbrev pub MarksAreExact : Type 0
MarksAreExact = (named : ℕ → Bool) (g : List Definition) → AllFit named g → (marks : List Bool) → AreDerived named g marks → AreClosed g marks
    → (p : Pattern) → Fits named p → IsDead g p ↔ (lives_with marks p ≡ false)

-- a pattern that is pruned matches over pruned definitions exactly what it matched, of text
abbrev pub PruningKeepsTrees : Type 0
PruningKeepsTrees = (named : ℕ → Bool) (g : List Definition) → AllFit named g → (marks : List Bool) → AreClosed g marks
    → (p : Pattern) → Fits named p → (a : List Attribute) (c : Children) → ValuesAre IsOfUtf8 a → StringsAre IsOfUtf8 c
    → Matches (prune_all marks g) (prune marks p) a c ↔ Matches g p a c

-- definitions under new numbers match what they matched
abbrev pub RenumberingKeepsTrees : Type 0
RenumberingKeepsTrees = (start : Pattern) (g : List Definition) (numbers : List ℕ) → AreKept start g numbers → (a : List Attribute) (c : Children)
    → Matches (renumbered numbers g) (renamed (place numbers) start) a c ↔ Matches g start a c

-- a pruned schema matches exactly the trees of text that the schema matched
abbrev pub PrunedKeepsTrees : Type 0
PrunedKeepsTrees = (named : ℕ → Bool) (old new : Language) → AllFit named old.definitions → Fits named old.start → (marks : List Bool) → AreClosed old.definitions marks
    → IsPrunedBy marks old new → (a : List Attribute) (c : Children) → ValuesAre IsOfUtf8 a → StringsAre IsOfUtf8 c
    → Matches new.definitions new.start a c ↔ Matches old.definitions old.start a c

-- the attributes of these definitions' contents are apart
abbrev pub AreApart : (ℕ → Bool) → List Definition → Type 0
AreApart named g = (i : ℕ) (d : Definition) → named i ≡ true → slice_get g i ≡ Some d → IsApart d.content

-- a choice of references, or nothing
abbrev pub is_start : Pattern → Bool
is_start not_allowed = true
is_start (ref i) = true
is_start (choice p q) = is_start p && is_start q
is_start p = false

-- a pruned schema whose start lives is live
abbrev pub PrunedIsLive : Type 0
PrunedIsLive = (named : ℕ → Bool) (old new : Language) → AllFit named old.definitions → Fits named old.start → AreApart named old.definitions → is_start old.start ≡ true
    → (marks : List Bool) → AreDerived named old.definitions marks → AreClosed old.definitions marks → lives_with marks old.start ≡ true → IsPrunedBy marks old new → IsLive new

-- what a sound grammar that keeps the restrictions gives for the laws above, of the definitions that its start reaches
pub record IsFit (named : ℕ → Bool) (start : Pattern) (g : List Definition) : Type 0 where
  pub fit : AllFit named g
  pub start_fits : Fits named start
  pub apart : AreApart named g
  pub start_is : is_start start ≡ true

abbrev pub CheckedIsFit : Type 0
CheckedIsFit = (start : Pattern) (g : List Definition) → IsSoundGrammar start g → (BreaksPath start g → ⊥) → (BreaksAttributeOverlap start g → ⊥) → (numbers : List ℕ) → AreKept start g numbers → IsFit (is_kept numbers) start g

-- a definition is dead exactly where it isn't marked
abbrev pub DefinitionsAreExact : Type 0
DefinitionsAreExact = (named : ℕ → Bool) (g : List Definition) → AllFit named g → (marks : List Bool) → AreDerived named g marks → AreClosed g marks
    → (i : ℕ) (d : Definition) → named i ≡ true → slice_get g i ≡ Some d → IsDeadDefinition g d ↔ (is_marked marks i ≡ false)

-- whatever stands in a pruned pattern that lives, lives
abbrev pub PartsLive : Type 0
PartsLive = (named : ℕ → Bool) (g : List Definition) → AllFit named g → (marks : List Bool) → AreDerived named g marks → AreClosed g marks
    → (p : Pattern) → Fits named p → lives_with marks p ≡ true → (q : Pattern) → Stands q (prune marks p) → Lives (prune_all marks g) q
