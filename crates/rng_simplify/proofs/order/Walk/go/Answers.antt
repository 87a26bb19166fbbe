use Rattle.std.proofs.Common.{map, Err}
use Rattle.std.proofs.lemmas.Result.{err_from_is_err_and}
use Rattle.rng_simplify.specs.Cells.{cell_of}
use Rattle.rng_simplify.specs.NodeWalks.{walk_state_of}
use Rattle.rng_simplify.proofs.WalkTurns.{met_marked, begun, begun_ok}
use Rattle.rng_simplify.proofs.order.Walk.go.Goals as goal

pub meet-requires : goal.meet-requires
meet-requires c =
    let cells = map cell_of c.args.whole.now.nodes.items in
    met_marked cells c.args.whole.now.root c.args.found.now _ _ c.args.from c.requires.formed c.requires.here c.requires.met

pub returns-in_err-meet : goal.returns-in_err-meet
returns-in_err-meet c =
    let cells = map cell_of c.args.whole.now.nodes.items in
    let p = err_from_is_err_and c.from_residual.result c.from_residual.ensures.1 in
    rw (p.1, p.2) (begun cells c.args.whole.now.root c.args.found.now {A = Unit {0}} (walk_state_of c.args.self.now) (walk_state_of c.meet.new.self) c.args.from c.requires.formed c.requires.here c.requires.at_rest c.requires.met (Err c.in_err-meet.field-0.0) c.in_err-meet.ensures)

pub loop-step-init : goal.loop-step-init
loop-step-init c =
    let cells = map cell_of c.args.whole.now.nodes.items in
    let h = begun_ok cells c.args.whole.now.root c.args.found.now (walk_state_of c.args.self.now) (walk_state_of c.meet.new.self) c.args.from c.requires.formed c.requires.here c.requires.at_rest c.requires.met c.in_ok-meet.field-0 c.in_ok-meet.ensures in
    record { is_walk = h.is_walk; keeps = h.keeps; met = h.met }
