-- Recovery along items, over residuals.
use Rattle.std.specs.Prelude.{List, [], ◌∷◌, ◌++◌}
use Rattle.nx_base.specs.declared.fault.Fault.{Fault}
use Rattle.nx_events.specs.declared.item.Item.{Item}
use Rattle.nx_events.specs.declared.item.Item.TheVariants as items
use Rattle.rng_core.specs.Patterns.{Language}
use Rattle.nx_recover.specs.Faults.{flaw_at}
use Rattle.nx_recover.specs.Table.{Form, done_by}

abbrev pub form_behind : Language → Form → Item → Form
form_behind g l (items.Event event span) = (done_by g l event).form
form_behind g l (items.Fault fault) = l

abbrev pub faults_found : Language → Form → Item → List Fault
faults_found g l (items.Event event span) = flaw_at span (done_by g l event).flaw
faults_found g l (items.Fault fault) = fault ∷ []

-- the levels behind items, and the faults of recovery with those among the items
unfoldable pub form_along : Language → Form → List Item → Form
form_along g l [] = l
form_along g l (item ∷ all) = form_along g (form_behind g l item) all

unfoldable pub found_along : Language → Form → List Item → List Fault
found_along g l [] = []
found_along g l (item ∷ all) = faults_found g l item ++ found_along g (form_behind g l item) all
