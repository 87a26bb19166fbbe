use Rattle.std.proofs.Common.{◌-◌, length, arith, ◌∙◌, ap, zero-add}
use Rattle.std.specs.List.{flat_map}
use Rattle.std.proofs.lemmas.Str.{IsCharBoundary-start}
use Rattle.nx_base.specs.Tokens.{tokens_from}
use Rattle.nx_scan.proofs.Joined.{behind-border}
use Rattle.nx_scan.proofs.border.tokens_from_border.Goals as goal

pub returns : goal.returns
returns c text front back utf8 e =
    behind-border front back (length text - 0) text 0 utf8 (IsCharBoundary-start text utf8) (omega arith) e
    ∙ ap (tokens_from text) (zero-add (length (flat_map (λ token. token.bytes) front)))
