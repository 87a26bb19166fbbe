use Rattle.nx_base.proofs.Fronts.{shortest-exactly, passing-exactly}
use Rattle.nx_base.proofs.form.fronts_exactly.Goals as goal

pub returns : goal.returns
returns c p cs = (shortest-exactly cs p, passing-exactly cs p)
