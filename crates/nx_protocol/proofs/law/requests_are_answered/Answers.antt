use Rattle.nx_protocol.proofs.Served as served
use Rattle.nx_protocol.proofs.law.requests_are_answered.Goals as goal

pub returns : goal.returns
returns c = served.requests_are_answered
