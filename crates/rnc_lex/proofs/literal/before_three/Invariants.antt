use Rattle.std.proofs.Common.{◌≡◌, ◌+◌, drop}
use Rattle.std.specs.Option.{option_map}
use Rattle.rnc_lex.specs.Reading.{before_three}
use Rattle.rnc_lex.proofs.literal.before_three.Given as goal

abbrev pub invariant-loop-i : goal.invariant-loop-i
invariant-loop-i l = before_three l.quote l.letters ≡ option_map (λ n. n + l.i) (before_three l.quote (drop l.i l.letters))
