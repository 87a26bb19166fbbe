-- The parts of a list between its separators.
use Rattle.std.proofs.Common.{◌≡◌, ℕ, ◌+◌, ◌-◌, ◌≤◌, ◌<◌, Bool, List, [], ◌∷◌, length, take, drop, arith}
use Rattle.std.specs.List.{slice_split, position_or_len}
use Rattle.std.proofs.lemmas.List.Splits.{slice_split_first, slice_split_none}
use Rattle.std.proofs.lemmas.List.Sums.{fails_before_first}
use Rattle.std.proofs.Math.Seq.{take-length}
use Rattle.std.proofs.Math.Arith.{lt_of_le-ne}
use Rattle.std.proofs.lemmas.List.{length-drop}

-- the first part, where it is the only one
pub split_alone : (p : ℕ → Bool) (xs : List ℕ) (n : ℕ) → n ≡ position_or_len p xs → n ≡ length xs → slice_split p xs ≡ take n xs ∷ []
split_alone p xs n place all = rw (all, take-length xs) (slice_split_none p xs (λ k d h. fails_before_first p xs k d (omega (arith, place, all, h))))

split_first : (p : ℕ → Bool) (xs : List ℕ) (n : ℕ) → n ≡ position_or_len p xs → n < length xs → slice_split p xs ≡ take n xs ∷ slice_split p (drop (n + 1) xs)
split_first p xs n place inside = rw place (slice_split_first p xs 0 (omega (arith, place, inside)))

-- what stands from a place on, as `&xs[n..]` says it
rest_from : (xs : List ℕ) (n : ℕ) → take (length xs - n) (drop n xs) ≡ drop n xs
rest_from xs n = rw (← length-drop n xs) (take-length (drop n xs))

-- the first part, where a separator ends it
pub split_more : (p : ℕ → Bool) (xs : List ℕ) (n : ℕ) → n ≡ position_or_len p xs → n ≤ length xs → (n ≡ length xs → ⊥) → slice_split p xs ≡ take n xs ∷ slice_split p (take (length xs - (n + 1)) (drop (n + 1) xs))
split_more p xs n place within other = rw (rest_from xs (n + 1)) (split_first p xs n place (lt_of_le-ne within other))
