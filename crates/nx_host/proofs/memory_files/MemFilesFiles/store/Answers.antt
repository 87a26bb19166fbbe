use Rattle.std.proofs.Common.{refl}
use Rattle.nx_host.proofs.TableLemmas.{insert-SetsFile}
use Rattle.nx_host.proofs.memory_files.MemFilesFiles.store.Goals as goal

pub returns-clause-stored : goal.returns-clause-stored
returns-clause-stored c =
    insert-SetsFile c.args.self.now.table c.args.self.now.table c.set.new.self c.args.uri.now c.args.bytes.now
    c.as_slice.result.now refl c.as_slice.ensures c.in_ok-set.ensures.ok
