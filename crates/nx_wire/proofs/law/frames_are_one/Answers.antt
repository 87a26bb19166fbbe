use Rattle.nx_wire.proofs.Framing as framing
use Rattle.nx_wire.proofs.law.frames_are_one.Goals as goal

pub returns : goal.returns
returns c = framing.frames_are_one
