use Rattle.std.proofs.Common.{◌<◌, ◌^◌, length, arith, ◌∙◌}
use Rattle.std.proofs.lemmas.List.{length-map}
use Rattle.nx_events.specs.Places.{names_in}
use Rattle.nx_events.specs.declared.name_places.Placed.{Placed}
use Rattle.nx_events.proofs.Stacks.{last_small}
use Rattle.nx_events.proofs.name_places.NamePlaces.last_place.Goals as goal

pub returns-clause-small : goal.returns-clause-small
returns-clause-small c =
    let size = length-map c.self.inside.names.items (λ (it : Placed). it.name.items) in
    let small : length (names_in c.self.inside.names.items) < 2 ^ 63 = omega (arith, size, c.self.inside.names.ok, c.self.inside.names.small) in
    last_small c.args.name.now (names_in c.self.inside.names.items) c.copied.result (c.copied.ensures ∙ c.get.ensures.value ∙ c.self.invariant.found c.args.name.now) small
