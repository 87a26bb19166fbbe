use Rattle.std.proofs.Common.{sym, ap, ◌∙◌, List, map}
use Rattle.rng_simplify.specs.declared.order.Step.{Step}
use Rattle.rng_simplify.specs.Cells.{cell_of}
use Rattle.rng_simplify.specs.NodeWalks.{walk_state_of}
use Rattle.rng_simplify.proofs.WalkTurns.{last_met, next_met, met_marked, turned_on, turned_back}
use Rattle.rng_simplify.proofs.order.Walk.turn.Goals as goal

pub next-requires-clause-met : goal.next-requires-clause-met
next-requires-clause-met c = last_met (map cell_of c.args.whole.now.nodes.items) c.args.whole.now.root c.args.found.now (walk_state_of c.args.self.now) c.args.step c.requires.here

pub meet-requires : goal.meet-requires
meet-requires c =
    let cells = map cell_of c.args.whole.now.nodes.items in
    let root = c.args.whole.now.root in
    let found = c.args.found.now in
    met_marked cells root found _ _ c.in-Some.next c.requires.formed c.requires.here (next_met cells root found (walk_state_of c.args.self.now) c.args.step c.in-Some.next c.requires.formed c.requires.resolved c.requires.here (sym c.next.ensures.next_is ∙ c.in-Some.is))

pub leave-requires : goal.leave-requires
leave-requires c =
    let cells = map cell_of c.args.whole.now.nodes.items in
    let root = c.args.whole.now.root in
    let found = c.args.found.now in
    met_marked cells root found _ _ c.args.step.place c.requires.formed c.requires.here (last_met cells root found (walk_state_of c.args.self.now) c.args.step c.requires.here)

pub returns-in_ok-push-in-Some : goal.returns-in_ok-push-in-Some
returns-in_ok-push-in-Some c =
    let cells = map cell_of c.args.whole.now.nodes.items in
    let root = c.args.whole.now.root in
    let found = c.args.found.now in
    turned_on cells root found (walk_state_of c.args.self.now) _ _ c.args.step c.in-Some.next c.requires.formed c.requires.resolved c.requires.here (sym c.next.ensures.next_is ∙ c.in-Some.is) (ap (λ (p : List Step). record { marks = c.args.self.now.marks.items; path = p; order = c.args.self.now.order.items }) c.in_ok-push-in-Some.ensures.items) c.meet.result c.meet.ensures

pub returns-in_ok-leave-in-None : goal.returns-in_ok-leave-in-None
returns-in_ok-leave-in-None c =
    let cells = map cell_of c.args.whole.now.nodes.items in
    let root = c.args.whole.now.root in
    let found = c.args.found.now in
    turned_back cells root found (walk_state_of c.args.self.now) _ c.args.step c.requires.formed c.requires.here (sym c.next.ensures.next_is ∙ c.in-None.is) c.in_ok-leave-in-None.ensures
