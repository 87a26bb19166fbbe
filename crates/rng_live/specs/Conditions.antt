-- Conditions that rest on one another, and which of a list hold: those alone for which the list gives a reason, from below.
use Rattle.std.specs.Prelude.{◌≡◌, ℕ, Bool, true, false, ◌&&◌, ◌||◌, List, Option, None, Some, slice_get}
use Rattle.rng_live.specs.declared.condition.Condition.{Condition}
use Rattle.rng_live.specs.declared.condition.Condition.TheVariants.{Known, If, Both, Either}

-- the condition of a number holds
pub data Holds (conditions : List Condition) : ℕ → Type 0 where
  holds_known : {k : ℕ} → slice_get conditions k ≡ Some (Known true) → Holds conditions k
  holds_if : {k a : ℕ} → slice_get conditions k ≡ Some (If true a) → Holds conditions a → Holds conditions k
  holds_both : {k a b : ℕ} → slice_get conditions k ≡ Some (Both a b) → Holds conditions a → Holds conditions b → Holds conditions k
  holds_first : {k a b : ℕ} → slice_get conditions k ≡ Some (Either a b) → Holds conditions a → Holds conditions k
  holds_second : {k a b : ℕ} → slice_get conditions k ≡ Some (Either a b) → Holds conditions b → Holds conditions k

-- whether the thing of a number is marked
abbrev pub is_true_at : Option Bool → Bool
is_true_at None = false
is_true_at (Some b) = b

abbrev pub is_marked : List Bool → ℕ → Bool
is_marked marks i = is_true_at (slice_get marks i)

-- the marked ones are those that hold
pub record AreHeld (conditions : List Condition) (marks : List Bool) : Type 0 where
  pub only : (k : ℕ) → is_marked marks k ≡ true → Holds conditions k
  pub all : (k : ℕ) → Holds conditions k → is_marked marks k ≡ true

-- whether a condition holds by a test of those that it rests on
abbrev pub holds_where : (ℕ → Bool) → Condition → Bool
holds_where test (Known b) = b
holds_where test (If b a) = b && test a
holds_where test (Both a b) = test a && test b
holds_where test (Either a b) = test a || test b

-- a condition rests on that of a number
pub data RestsOn : Condition → ℕ → Type 0 where
  rests_if : {b : Bool} {a : ℕ} → RestsOn (If b a) a
  rests_both_first : {a b : ℕ} → RestsOn (Both a b) a
  rests_both_second : {a b : ℕ} → RestsOn (Both a b) b
  rests_either_first : {a b : ℕ} → RestsOn (Either a b) a
  rests_either_second : {a b : ℕ} → RestsOn (Either a b) b
