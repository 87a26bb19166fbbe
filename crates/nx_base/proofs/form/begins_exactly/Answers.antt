use Rattle.nx_base.proofs.Forms.{begins-exactly}
use Rattle.nx_base.proofs.form.begins_exactly.Goals as goal

pub returns : goal.returns
returns c form cs = begins-exactly form cs
