-- The definitions that are kept, under new numbers.
use Rattle.std.specs.Prelude.{◌≡◌, ℕ, zero, suc, Bool, true, false, ◌||◌, ◌==◌, if◌then◌else◌, List, [], ◌∷◌, Option, None, Some, map, slice_get}
use Rattle.rng_core.specs.Names.{any_name}
use Rattle.rng_core.specs.Patterns.{Pattern, Definition, Language, not_allowed, listed, attribute, ref, one_or_more, choice, group, interleave}
use Rattle.rng_live.specs.Pruned.{Reaches}
use Rattle.rng_live.specs.Left.{refs_are, prune, prune_all}

-- references by new numbers
abbrev pub renamed : (ℕ → ℕ) → Pattern → Pattern
renamed r (listed p) = listed (renamed r p)
renamed r (attribute class p) = attribute class (renamed r p)
renamed r (ref i) = ref (r i)
renamed r (one_or_more p) = one_or_more (renamed r p)
renamed r (choice p q) = choice (renamed r p) (renamed r q)
renamed r (group p q) = group (renamed r p) (renamed r q)
renamed r (interleave p q) = interleave (renamed r p) (renamed r q)
renamed r p = p

abbrev pub renamed_definition : (ℕ → ℕ) → Definition → Definition
renamed_definition r d = record { class = d.class; content = renamed r d.content }

abbrev pub is_kept : List ℕ → ℕ → Bool
is_kept [] i = false
is_kept (j ∷ js) i = (j == i) || is_kept js i

-- where a number stands first
abbrev pub place : List ℕ → ℕ → ℕ
place [] i = zero
place (j ∷ js) i = if j == i then zero else suc (place js i)

abbrev pub definition_at : Option Definition → Definition
definition_at None = record { class = any_name; content = not_allowed }
definition_at (Some d) = d

-- the definitions of these numbers, in that order
abbrev pub renumbered : List ℕ → List Definition → List Definition
renumbered numbers g = map (λ i. renamed_definition (place numbers) (definition_at (slice_get g i))) numbers

-- the numbers of the definitions that are reached
pub record AreKept (start : Pattern) (g : List Definition) (numbers : List ℕ) : Type 0 where
  pub there : (i : ℕ) → is_kept numbers i ≡ true → (d : Definition) × (slice_get g i ≡ Some d)
  pub start_in : refs_are (is_kept numbers) start ≡ true
  pub content_in : (i : ℕ) (d : Definition) → is_kept numbers i ≡ true → slice_get g i ≡ Some d → refs_are (is_kept numbers) d.content ≡ true
  pub reached : (i : ℕ) → is_kept numbers i ≡ true → Reaches start g i

-- a schema of which only what lives is left, by marks on its definitions
pub record IsPrunedBy (marks : List Bool) (old new : Language) : Type 0 where
  pub numbers : List ℕ
  pub kept : AreKept (prune marks old.start) (prune_all marks old.definitions) numbers
  pub start_is : new.start ≡ renamed (place numbers) (prune marks old.start)
  pub definitions_are : new.definitions ≡ renumbered numbers (prune_all marks old.definitions)
