-- From offset to offset, up to a border.
use Rattle.std.proofs.Common.{◌≡◌, ◌∙◌, ℕ, ◌+◌, ◌-◌, ◌<◌, ◌≤◌, List, length, true, false, refl, sym, subst, arith, inl, inr}
use Rattle.std.specs.Prelude.{IsTrue, ◌↔◌}
use Rattle.std.specs.Str.{IsUtf8}
use Rattle.std.proofs.lemmas.Bool.{cases_lt}
use Rattle.std.proofs.lemmas.Str.{IsCharBoundary-start, IsCharBoundary-end}
use Rattle.unicode_segmentation.proofs.CursorLemmas.{breaks_at-start, breaks_at-end}
use Rattle.nx_text.specs.Borders.{IsBorder}

-- no border lies between two offsets
abbrev pub NoneBetween : List ℕ → ℕ → ℕ → Type 0
NoneBetween text low high = (k : ℕ) → low < k → k < high → ¬ IsBorder text k

module _ (text : List ℕ) where
  pub border_at_end : IsBorder text (length text)
  border_at_end = record { place = IsCharBoundary-end text; breaks = sym (breaks_at-end true text (length text) refl) }

  pub border_at_start : IsUtf8 text → IsBorder text 0
  border_at_start u = record { place = IsCharBoundary-start text u; breaks = sym (breaks_at-start true text 0 refl) }

  pub not_the_end : (at : ℕ) → ¬ IsBorder text at → at ≤ length text → at < length text
  not_the_end at none le = elim (cases_lt at (length text)) [
    | inl lt ↦ lt
    | inr past ↦ (let e : length text ≡ at = omega arith in absurd (none (subst (IsBorder text) e border_at_end)))
  ]

  pub not_the_start : (at : ℕ) → IsUtf8 text → ¬ IsBorder text at → 0 < at
  not_the_start at u none = elim (cases_lt 0 at) [
    | inl lt ↦ lt
    | inr past ↦ (let e : 0 ≡ at = omega arith in absurd (none (subst (IsBorder text) e (border_at_start u))))
  ]

  -- one offset more, forward and back
  pub none_more : (at next : ℕ) → NoneBetween text at next → ¬ IsBorder text next → NoneBetween text at (next + 1)
  none_more at next h none k low high is = elim (cases_lt k next) [
    | inl lt ↦ h k low lt is
    | inr past ↦ (let e : k ≡ next = omega arith in none (subst (IsBorder text) e is))
  ]

  pub none_less : (previous at : ℕ) → 0 < previous → NoneBetween text previous at → ¬ IsBorder text previous → NoneBetween text (previous - 1) at
  none_less previous at some h none k low high is = elim (cases_lt previous k) [
    | inl lt ↦ h k lt high is
    | inr past ↦ (let e : k ≡ previous = omega arith in none (subst (IsBorder text) e is))
  ]

-- a test that failed
pub failed : (r : _) (P : Type 0) → (IsTrue r ↔ P) → r ≡ false → ¬ P
failed r P h is p = let yes : r ≡ true = h.1 p in let bad : true ≡ false = sym yes ∙ is in cc
