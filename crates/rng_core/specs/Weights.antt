-- How much of a pattern is still to be let go.
use Rattle.std.specs.Prelude.{ℕ, suc, ◌+◌, ◌*◌}
use Rattle.rng_core.specs.Patterns.{Pattern, not_allowed, empty, any_text, typed, literal, listed, attribute, ref}
use Rattle.rng_core.specs.Patterns.{one_or_more, choice, group, interleave}

-- how many nodes a pattern has
abbrev pub node_count : Pattern → ℕ
node_count not_allowed = 1
node_count empty = 1
node_count any_text = 1
node_count (typed type excepts) = 1
node_count (literal type text) = 1
node_count (listed p) = suc (node_count p)
node_count (attribute class p) = suc (node_count p)
node_count (ref i) = 1
node_count (one_or_more p) = suc (node_count p)
node_count (choice p q) = suc (node_count p + node_count q)
node_count (group p q) = suc (node_count p + node_count q)
node_count (interleave p q) = suc (node_count p + node_count q)

-- what of a pattern that holds what was put aside is still to be let go
abbrev pub waits : Pattern → ℕ
waits not_allowed = 0
waits empty = 0
waits any_text = 0
waits (typed type excepts) = 0
waits (literal type text) = 0
waits (listed p) = 2 * node_count p
waits (attribute class p) = 2 * node_count p
waits (ref i) = 0
waits (one_or_more p) = 2 * node_count p
waits (choice before second) = suc (2 * node_count second + waits before)
waits (group before second) = suc (2 * node_count second + waits before)
waits (interleave before second) = suc (2 * node_count second + waits before)

-- of a pattern that is let go, and what was put aside
abbrev pub weight : Pattern → Pattern → ℕ
weight p aside = 2 * node_count p + waits aside
