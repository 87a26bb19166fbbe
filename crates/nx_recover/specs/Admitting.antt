-- Where an element begins: what goes on in it if it is admitted, and what begins if it isn't.
use Rattle.std.specs.Prelude.{Option, Some, None}
use Rattle.nx_base.specs.declared.name.Name.{Name}
use Rattle.rng_core.specs.Patterns.{Language}
use Rattle.rng_kept.specs.Residuals.{Residual}
use Rattle.rng_kept.specs.Merging.{answered}
use Rattle.rng_kept.specs.Entering.{enter, enter_skip}
use Rattle.nx_recover.specs.Needed.{needed_names}
use Rattle.nx_recover.specs.Table.{Form, Done, entered_by, entered_known, found_by, opens}
use Rattle.nx_recover.specs.declared.levels.Begun.{Begun}

-- what is left in it, none where it isn't admitted
abbrev pub admitted : Language → Name → Option Residual → Option Residual
admitted g n (Some x) = answered (enter g.definitions n x)
admitted g n None = None

-- the rows of an element that isn't admitted
abbrev pub refused : Language → Name → Option Residual → Begun Residual
refused g n (Some x) = entered_by x n (needed_names g (Some n) x) None (answered (enter_skip g.definitions n x)) (entered_known g n)
refused g n None = found_by n (entered_known g n)

-- the levels behind it, and what is wrong
abbrev pub refused_in : Language → Form → Name → Done
refused_in g l n = opens l.elements (refused g n l.here)
