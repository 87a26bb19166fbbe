-- Texts, and a map that has the number of each.
use Rattle.std.specs.Prelude.{◌≡◌, ℕ, List, if◌then◌else◌, map, Option, Some, None, Vec}
use Rattle.std.specs.BTreeMap.{BTreeMap, get_by}
use Rattle.std.specs.declared.alloc.Global.{Global}
use Rattle.std.specs.Cmp.Lexicographic.{slice_cmp}
use Rattle.std.specs.Ordering.{nat_cmp}
use Rattle.std.specs.Str.{bytes_eq}
use Rattle.deriv_memory.specs.Remembered.{AreOnce, IsText}

abbrev pub texts_in : List (Vec ℕ Global) → List (List ℕ)
texts_in all = map (λ (text : Vec ℕ Global). text.items) all

-- what a map has for a text
abbrev pub number_at : BTreeMap (Vec ℕ Global) ℕ → List ℕ → Option ℕ
number_at numbers text = get_by (λ key. slice_cmp nat_cmp text key.items) numbers

-- it has this for a text, and for all others what it had
abbrev pub PutsAt : List ℕ → ℕ → BTreeMap (Vec ℕ Global) ℕ → BTreeMap (Vec ℕ Global) ℕ → Type 0
PutsAt text number old new = (other : List ℕ) → number_at new other ≡ (if bytes_eq text other then Some number else number_at old other)

-- the map has the number of each text, and no other, and no text has two
pub record AreNumbered (texts : List (List ℕ)) (numbers : BTreeMap (Vec ℕ Global) ℕ) : Type 0 where
  pub found : (text : List ℕ) (i : ℕ) → number_at numbers text ≡ Some i → IsText texts text i
  pub none : (text : List ℕ) → number_at numbers text ≡ None → (i : ℕ) → IsText texts text i → ⊥
  pub once : AreOnce texts
