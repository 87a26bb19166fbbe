-- Where an open element stands is no part of it.
use Rattle.nx_recover.specs.declared.levels.Open.{Open}
use Rattle.nx_recover.specs.declared.levels.Open.TheVariants as opens
use Rattle.nx_recover.specs.declared.packed.Held.{Held}
use Rattle.nx_recover.specs.declared.packed.Held.TheVariants.{In, Begins, Lost}

-- the element, wherever it stands
abbrev pub open_of : {S : Type 0} → Held S → Open S
open_of (In name) = opens.In name
open_of (Begins beginning) = opens.Begins beginning.value.name beginning.value.around
open_of (Lost around) = opens.Lost around
