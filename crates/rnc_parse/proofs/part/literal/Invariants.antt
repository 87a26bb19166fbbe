use Rattle.std.proofs.Common.{◌≡◌, ◌++◌, length}
use Rattle.rnc_lex.specs.declared.token.Symbol.TheVariants.{Tilde}
use Rattle.rnc_parse.specs.Reading.{behind, stands, loop_at}
use Rattle.rnc_parse.specs.ReadingParts.{one_literal_at, literal_at}
use Rattle.rnc_parse.proofs.part.literal.Given as goal

abbrev pub invariant-literals : goal.invariant-literals
invariant-literals l = loop_at (stands Tilde) (λ more. one_literal_at (behind more)) ◌++◌ l.text.items l.cursor ≡ literal_at l.fn.cursor

abbrev pub decreases-literals : goal.decreases-literals
decreases-literals l = length l.cursor
