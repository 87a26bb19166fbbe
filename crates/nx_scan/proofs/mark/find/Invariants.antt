use Rattle.std.proofs.Common.{◌≡◌, ◌+◌, drop}
use Rattle.std.specs.Option.{option_map}
use Rattle.nx_base.specs.Tokens.{bytes_before}
use Rattle.nx_scan.proofs.mark.find.Given as goal

abbrev pub invariant-loop-at : goal.invariant-loop-at
invariant-loop-at l =
    option_map (λ n. l.from + n) (bytes_before l.mark (drop l.from l.text)) ≡ option_map (λ n. l.at + n) (bytes_before l.mark (drop l.at l.text))
