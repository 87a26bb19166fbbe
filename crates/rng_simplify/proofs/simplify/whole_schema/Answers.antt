use Rattle.std.proofs.Common.{subst, sym}
use Rattle.rng_simplify.specs.Composition.{GivesWhole}
use Rattle.rng_simplify.proofs.Walking.{no_piece_is_missing}
use Rattle.rng_simplify.proofs.Wholes.{gives_whole}
use Rattle.rng_simplify.proofs.simplify.whole_schema.Goals as goal

pub compose-requires : goal.compose-requires
compose-requires g c =
    no_piece_is_missing (g.F.Files.told c.args.files.now) c.args.uri.now c.in_ok-loaded.loaded.items c.in_ok-loaded.ensures.loads.0

pub returns-clause-gives : goal.returns-clause-gives
returns-clause-gives g c =
    let f = g.F.Files in
    let count = f.faults c.args.files.now in
    subst (λ after. GivesWhole (f.told c.args.files.now) c.args.uri.now count after c.compose.result) (sym c.in_ok-loaded.ensures.loads.1)
    (gives_whole c.args.uri.now c.in_ok-loaded.loaded.items (f.told c.args.files.now) count c.compose.result c.in_ok-loaded.ensures.loads.0
    c.compose.ensures)
