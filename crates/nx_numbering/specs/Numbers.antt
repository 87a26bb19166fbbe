-- Languages that are one but for the numbers of their definitions.
use Rattle.std.specs.Prelude.{◌≡◌, ℕ, None, Some, slice_get}
use Rattle.rng_core.specs.Patterns.{Pattern, Definition, Language, not_allowed, empty, any_text, typed, literal, listed, attribute, ref, one_or_more}
use Rattle.rng_core.specs.Patterns.{choice, group, interleave}

-- a pattern whose references have other numbers
abbrev pub renumbered : (ℕ → ℕ) → Pattern → Pattern
renumbered f not_allowed = not_allowed
renumbered f empty = empty
renumbered f any_text = any_text
renumbered f (typed type excepts) = typed type excepts
renumbered f (literal type text) = literal type text
renumbered f (listed p) = listed (renumbered f p)
renumbered f (attribute class p) = attribute class (renumbered f p)
renumbered f (ref number) = ref (f number)
renumbered f (one_or_more p) = one_or_more (renumbered f p)
renumbered f (choice p q) = choice (renumbered f p) (renumbered f q)
renumbered f (group p q) = group (renumbered f p) (renumbered f q)
renumbered f (interleave p q) = interleave (renumbered f p) (renumbered f q)

abbrev pub renumbered_in : (ℕ → ℕ) → Definition → Definition
renumbered_in f d = record { class = d.class; content = renumbered f d.content }

-- by these numbers the start and each definition of one language are those of another, and what has none there has none here
pub record Renumbers (f : ℕ → ℕ) (g h : Language) : Type 0 where
  pub start : h.start ≡ renumbered f g.start
  pub definitions : (i : ℕ) (d : Definition) → slice_get g.definitions i ≡ Some d →
      slice_get h.definitions (f i) ≡ Some (renumbered_in f d)
  pub undefined : (i : ℕ) → slice_get g.definitions i ≡ None → slice_get h.definitions (f i) ≡ None

-- and back, from each definition's number to itself: two languages are one but for the numbers of their definitions
pub record AreOneButForNumbers (g h : Language) : Type 0 where
  pub there : ℕ → ℕ
  pub back : ℕ → ℕ
  pub leads_there : Renumbers there g h
  pub leads_back : Renumbers back h g
  pub there_and_back : (i : ℕ) (d : Definition) → slice_get g.definitions i ≡ Some d → back (there i) ≡ i
  pub back_and_there : (i : ℕ) (d : Definition) → slice_get h.definitions i ≡ Some d → there (back i) ≡ i
