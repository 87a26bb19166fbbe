-- The least costs, as numbers of at most 10,001, which stands for more than 10,000 and for none.
use Rattle.std.specs.Prelude.{◌≡◌, ◌≤◌, ◌+◌, ℕ, min, List, length, get_or}
use Rattle.rng_core.specs.Patterns.{Pattern, Definition, not_allowed, empty, any_text, typed, literal, listed, attribute, ref, one_or_more}
use Rattle.rng_core.specs.Patterns.{choice, group, interleave}
use Rattle.rng_cost.specs.Costs.{ContentCosts}

-- the cost of a definition's content, by its number
abbrev pub cost_at : List ℕ → ℕ → ℕ
cost_at costs i = get_or costs i 10001

-- the least cost of a pattern, by those of the definitions' contents
abbrev pub least : List ℕ → Pattern → ℕ
least costs not_allowed = 10001
least costs empty = 0
least costs any_text = 0
least costs (typed type excepts) = 1
least costs (literal type text) = 1
least costs (listed p) = 1
least costs (attribute class p) = 1
least costs (ref i) = min (cost_at costs i + 3) 10001
least costs (one_or_more p) = least costs p
least costs (choice p q) = min (least costs p) (least costs q)
least costs (group p q) = min (least costs p + least costs q) 10001
least costs (interleave p q) = min (least costs p + least costs q) 10001

-- costs of contents that are so, and none of them above 10,001
pub record AreRight (g : List Definition) (costs : List ℕ) : Type 0 where
  pub as_many : length costs ≡ length g
  pub within : (i : ℕ) → cost_at costs i ≤ 10001
  pub so : (i : ℕ) → cost_at costs i ≤ 10000 → ContentCosts g i (cost_at costs i)

-- and the least ones
pub record AreLeast (g : List Definition) (costs : List ℕ) : Type 0 where
  pub right : AreRight g costs
  pub least : (i n : ℕ) → ContentCosts g i n → cost_at costs i ≤ n
