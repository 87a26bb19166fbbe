use Rattle.std.proofs.Common.{◌≡◌, ◌++◌, length}
use Rattle.rnc_lex.specs.Reading.{then_found, tokens_from, tokens_of}
use Rattle.rnc_lex.proofs.lex.tokens_of.Given as goal

abbrev pub invariant-loop-first : goal.invariant-loop-first
invariant-loop-first l = tokens_of l.letters ≡ then_found (λ more. l.tokens ++ more) (tokens_from 0 l.rest)

abbrev pub decreases-loop-first : goal.decreases-loop-first
decreases-loop-first l = length l.rest
