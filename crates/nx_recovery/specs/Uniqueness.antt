-- A text has one list of faults at most.
use Rattle.std.specs.Prelude.{◌≡◌, ℕ, List, Option}
use Rattle.nx_base.specs.declared.fault.Fault.{Fault}
use Rattle.rng_core.specs.Patterns.{Language}
use Rattle.nx_recover.specs.Faults.{AreFaultsOf}

abbrev pub RecoveryIsOne : Type 0
RecoveryIsOne = (schema : Option Language) (text : List ℕ) (one other : List Fault) →
    AreFaultsOf schema text one → AreFaultsOf schema text other → one ≡ other
