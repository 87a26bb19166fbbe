use Rattle.std.proofs.Common.{◌≡◌, ◌++◌, List, [], drop}
use Rattle.nx_base.specs.declared.name.Name.{Name}
use Rattle.nx_events.specs.Elements.{attribute_items}
use Rattle.nx_events.specs.OpenItems.{kept_names}
use Rattle.nx_events.specs.SeenNames.{AreKept}
use Rattle.nx_events.proofs.element.push_attributes.Given as goal

abbrev pub invariant-loop-it : goal.invariant-loop-it
invariant-loop-it l =
    (names : List Name) × AreKept l.kept.names.keys names
    × (l.items ++ attribute_items (l.outer ++ l.own) names (drop l.it-index l.attributes) ≡ l.initial.items ++ attribute_items (l.outer ++ l.own) [] l.attributes)
    × (kept_names (l.outer ++ l.own) names (drop l.it-index l.attributes) ≡ kept_names (l.outer ++ l.own) [] l.attributes)
