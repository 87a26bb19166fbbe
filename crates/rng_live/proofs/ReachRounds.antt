-- The numbers of the definitions that a start reaches, by rounds.
use Rattle.std.specs.Prelude.{◌≡◌, ℕ, zero, suc, Bool, true, false, not, ◌&&◌, ◌||◌, ◌==◌, if◌then◌else◌, List, [], ◌∷◌, Option, None, Some, map, length, slice_get}
use Rattle.rng_core.specs.Patterns.{Pattern, Definition}
use Rattle.rng_live.specs.Left.{refs_are}
use Rattle.rng_live.proofs.Renumbered.{AreKept}

abbrev pub refers : ℕ → Pattern → Bool
refers i p = not (refs_are (λ j. if j == i then false else true) p)

-- the content of a marked definition refers to it
abbrev pub some_refers : ℕ → List Bool → List Definition → Bool
some_refers i [] ds = false
some_refers i (b ∷ m) [] = false
some_refers i (b ∷ m) (d ∷ ds) = (b && refers i d.content) || some_refers i m ds

abbrev pub numbers_from : ℕ → List Definition → List ℕ
numbers_from k [] = []
numbers_from k (d ∷ ds) = k ∷ numbers_from (suc k) ds

abbrev pub reach_round : Pattern → List Definition → List Bool → List Bool
reach_round start g m = map (λ i. refers i start || some_refers i m g) (numbers_from 0 g)

abbrev pub reach_rounds : Pattern → List Definition → ℕ → List Bool
reach_rounds start g zero = map (λ i. false) (numbers_from 0 g)
reach_rounds start g (suc n) = reach_round start g (reach_rounds start g n)

abbrev pub marked_numbers : ℕ → List Bool → List ℕ
marked_numbers k [] = []
marked_numbers k (true ∷ m) = k ∷ marked_numbers (suc k) m
marked_numbers k (false ∷ m) = marked_numbers (suc k) m

abbrev pub reached_numbers : Pattern → List Definition → List ℕ
reached_numbers start g = marked_numbers 0 (reach_rounds start g (length g))

abbrev pub is_there : Option Definition → Bool
is_there None = false
is_there (Some d) = true

-- each reference names a definition
abbrev pub refs_there : List Definition → Pattern → Bool
refs_there g p = refs_are (λ j. is_there (slice_get g j)) p

abbrev pub ReachedAreKept : Type 0
ReachedAreKept = (start : Pattern) (g : List Definition) → refs_there g start ≡ true → ((i : ℕ) (d : Definition) → slice_get g i ≡ Some d → refs_there g d.content ≡ true) → AreKept start g (reached_numbers start g)
