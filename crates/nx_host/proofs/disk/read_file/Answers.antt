use Rattle.nx_host.proofs.DiskPathLemmas.{leads_somewhere}
use Rattle.nx_host.proofs.disk.read_file.Goals as goal

-- a URI that names a path of text is not nowhere
pub returns-in-Some : goal.returns-in-Some
returns-in-Some g c = λ nowhere.
    absurd (leads_somewhere c.args.start c.args.uri.now _ (rw c.in-Some.is at c.in_ok-path.ensures) (rw c.as_str.ensures.value at c.as_str.utf8) nowhere)
