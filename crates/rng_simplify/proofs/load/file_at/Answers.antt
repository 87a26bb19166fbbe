use Rattle.rng_simplify.proofs.Loading.{file_is}
use Rattle.rng_simplify.proofs.load.file_at.Goals as goal

pub returns-clause-file : goal.returns-clause-file
returns-clause-file g c =
    let f = g.F.Files in
    file_is (f.told c.args.files.now) c.args.uri.now c.in_ok-bytes.bytes (f.faults c.args.files.now) (f.faults c.fetched.new.files)
    c.surface_of.result c.in_ok-bytes.ensures.found c.surface_of.ensures.said
