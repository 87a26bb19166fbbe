-- What stands in a pattern stands in it with other numbers.
use Rattle.std.proofs.Common.{ℕ}
use Rattle.rng_core.specs.Patterns.{Pattern}
use Rattle.rng_restrict.specs.Standing.{Stands, itself, in_list, in_attribute, in_one_or_more, in_first_choice, in_second_choice, in_first_of_group, in_second_of_group, in_first_of_interleave, in_second_of_interleave}
use Rattle.nx_numbering.specs.Numbers.{renumbered}

pub stands_on : {q p : Pattern} (f : ℕ → ℕ) → Stands q p → Stands (renumbered f q) (renumbered f p)
stands_on f itself = itself
stands_on f (in_list h) = in_list (stands_on f h)
stands_on f (in_attribute h) = in_attribute (stands_on f h)
stands_on f (in_one_or_more h) = in_one_or_more (stands_on f h)
stands_on f (in_first_choice h) = in_first_choice (stands_on f h)
stands_on f (in_second_choice h) = in_second_choice (stands_on f h)
stands_on f (in_first_of_group h) = in_first_of_group (stands_on f h)
stands_on f (in_second_of_group h) = in_second_of_group (stands_on f h)
stands_on f (in_first_of_interleave h) = in_first_of_interleave (stands_on f h)
stands_on f (in_second_of_interleave h) = in_second_of_interleave (stands_on f h)
