use Rattle.nx_protocol.proofs.Served as served
use Rattle.nx_protocol.proofs.law.texts_are_the_clients.Goals as goal

pub returns : goal.returns
returns c = served.texts_are_the_clients
