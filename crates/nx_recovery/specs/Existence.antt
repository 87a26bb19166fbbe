-- Each text has faults: what a machine over residuals finds in it.
use Rattle.std.specs.Prelude.{ℕ, List, Option, IfSome}
use Rattle.std.specs.Str.{IsUtf8}
use Rattle.nx_base.specs.Running.{machine_faults}
use Rattle.nx_base.specs.declared.fault.Fault.{Fault}
use Rattle.rng_core.specs.Patterns.{Language}
use Rattle.rng_kept.specs.Live.{IsLive}
use Rattle.nx_recover.specs.Faults.{AreFaultsOf}
use Rattle.nx_recover.specs.RecoverRules.{recover_rules}

-- against a live schema or none, the rules over residuals find the faults of a text
abbrev pub RecoverGivesFaults : Type 0
RecoverGivesFaults = (schema : Option Language) (text : List ℕ) → IfSome schema IsLive → IsUtf8 text →
    AreFaultsOf schema text (machine_faults (recover_rules schema) text)

pub record HasFaults (schema : Option Language) (text : List ℕ) : Type 0 where
  pub faults : List Fault
  pub are : AreFaultsOf schema text faults

abbrev pub EveryTextHasFaults : Type 0
EveryTextHasFaults = (schema : Option Language) (text : List ℕ) → IfSome schema IsLive → IsUtf8 text → HasFaults schema text
