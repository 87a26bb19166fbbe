use Rattle.std.proofs.Common.{◌≡◌, ◌++◌, [], take, drop}
use Rattle.nx_events.specs.Faults.{faults_as_items}
use Rattle.nx_events.specs.Declarations.{declaration_faults, bindings}
use Rattle.nx_events.specs.SeenNames.{AreDeclared}
use Rattle.nx_events.proofs.namespace.declarations.Given as goal

abbrev pub invariant-loop-it : goal.invariant-loop-it
invariant-loop-it l =
    (l.items ++ faults_as_items (declaration_faults (take l.it-index l.attributes) (drop l.it-index l.attributes)) ≡ l.initial.items ++ faults_as_items (declaration_faults [] l.attributes))
    × (l.own ++ bindings (take l.it-index l.attributes) (drop l.it-index l.attributes) ≡ bindings [] l.attributes)
    × AreDeclared l.came.names.keys (take l.it-index l.attributes)
