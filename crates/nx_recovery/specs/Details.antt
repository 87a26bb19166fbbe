-- The details of faults can be written out: they are UTF-8 where the text is.
use Rattle.std.specs.Prelude.{ℕ, List, Option, IfSome}
use Rattle.std.specs.List.{AllByRecursion}
use Rattle.std.specs.Str.{IsUtf8}
use Rattle.nx_base.specs.declared.fault.Fault.{Fault}
use Rattle.rng_core.specs.Patterns.{Language}
use Rattle.rng_kept.specs.Live.{IsLive}
use Rattle.nx_recover.specs.Faults.{AreFaultsOf}

-- of a text against a live schema or none
abbrev pub FaultsAreText : Type 0
FaultsAreText = (schema : Option Language) (text : List ℕ) (faults : List Fault) → IfSome schema IsLive → IsUtf8 text →
    AreFaultsOf schema text faults → AllByRecursion (λ (fault : Fault). IsUtf8 fault.detail) faults
