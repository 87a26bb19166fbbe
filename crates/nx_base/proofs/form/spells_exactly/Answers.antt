use Rattle.nx_base.proofs.Forms.{spells-exactly}
use Rattle.nx_base.proofs.form.spells_exactly.Goals as goal

pub returns : goal.returns
returns c form cs = spells-exactly form cs
