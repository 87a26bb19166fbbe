use Rattle.nx_session.proofs.session.schemas.restricted.Goals as goal

pub returns-in-Path : goal.returns-in-Path
returns-in-Path c = record { why = λ whole h. rw c.in-Path.is at h }
