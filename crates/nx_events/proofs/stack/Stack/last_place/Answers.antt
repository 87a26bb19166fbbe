use Rattle.std.proofs.Common.{◌+◌, ◌<◌, List, length, take, map, sym, subst, ap, ◌∙◌, arith}
use Rattle.nx_events.specs.Places.{last_place}
use Rattle.nx_events.proofs.Stacks.{found_behind, not_behind, named_within}
use Rattle.nx_events.proofs.stack.Stack.last_place.Goals as goal

pub overflow_add-result : goal.overflow_add-result
overflow_add-result g c = omega (arith, c.in-Some.ensures.small)

pub returns-in-Some-clause-value : goal.returns-in-Some-clause-value
returns-in-Some-clause-value g c =
    let found = sym (c.in-Some.ensures.value ∙ ap (last_place c.args.name.now) c.self.invariant) in
    sym (found_behind g.T.Named.name_of c.args.name.now c.self.inside.items c.in-Some.n found).0
    ∙ ap (λ (xs : List g.row.T.Denot). last_place c.args.name.now (map g.T.Named.name_of xs)) c.self.view_is

pub returns-in-Some-clause-bound : goal.returns-in-Some-clause-bound
returns-in-Some-clause-bound g c =
    let found = sym (c.in-Some.ensures.value ∙ ap (last_place c.args.name.now) c.self.invariant) in
    subst (λ (xs : List g.row.T.Denot). 32 + c.in-Some.n < length xs) c.self.view_is
    (found_behind g.T.Named.name_of c.args.name.now c.self.inside.items c.in-Some.n found).1

pub returns-in-None-clause-value : goal.returns-in-None-clause-value
returns-in-None-clause-value g c =
    let none = sym (c.in-None.ensures.value ∙ ap (last_place c.args.name.now) c.self.invariant) in
    c.last_place_in.ensures.value
    ∙ ap (λ (xs : List g.row.T.Denot). last_place c.args.name.now (map g.T.Named.name_of xs)) (c.front_of.ensures ∙ ap (take 32) c.as_slice.ensures)
    ∙ sym (not_behind g.T.Named.name_of c.args.name.now c.self.inside.items none)
    ∙ ap (λ (xs : List g.row.T.Denot). last_place c.args.name.now (map g.T.Named.name_of xs)) c.self.view_is

pub returns-in-None-clause-bound : goal.returns-in-None-clause-bound
returns-in-None-clause-bound g c = named_within g.T.Named.name_of c.args.name.now c.args.self.now c.last_place_in.result (returns-in-None-clause-value g c)
