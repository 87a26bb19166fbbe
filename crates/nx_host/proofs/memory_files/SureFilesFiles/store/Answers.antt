use Rattle.nx_host.proofs.TableLemmas.{insert-SetsFile}
use Rattle.nx_host.proofs.memory_files.SureFilesFiles.store.Goals as goal

pub returns-clause-stored : goal.returns-clause-stored
returns-clause-stored c =
    insert-SetsFile c.self.inside.table c.args.self.now c.set.new.self c.args.uri.now c.args.bytes.now
    c.as_slice.result.now c.self.view_is c.as_slice.ensures c.in_ok-set.ensures.ok
