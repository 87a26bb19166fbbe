use Rattle.std.proofs.Common.{ℕ, ◌≤◌, Option, length}
use Rattle.rnc_parse.proofs.TooDeep.{Deep}
use Rattle.rnc_parse.proofs.read.too_deep_at.Given as goal

abbrev pub invariant-brackets : goal.invariant-brackets
invariant-brackets l = (l.open ≤ 200) × ((answer : Option ℕ) → Deep l.open l.rest answer → Deep 0 l.tokens answer)

abbrev pub decreases-brackets : goal.decreases-brackets
decreases-brackets l = length l.rest
