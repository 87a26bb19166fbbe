use Rattle.rng_widen.proofs.Handing.{has_answered}
use Rattle.rng_widen.proofs.wider_files.WiderFilesFiles.has.Goals as goal

pub returns-clause-found : goal.returns-clause-found
returns-clause-found g c =
    has_answered c.args.self.now.strict (g.F.Files.told c.args.self.now.files) c.args.uri.now c.has.result c.utf8.uri c.has.ensures.found
