use Rattle.std.proofs.Common.{ℕ, List, subst}
use Rattle.nx_session.specs.Editor.{files_state}
use Rattle.nx_session.specs.Schemas.{IsRefusedSchema}
use Rattle.nx_check.proofs.kept.hold.Goals as goal

pub returns-in-Refused-clause-refused : goal.returns-in-Refused-clause-refused
returns-in-Refused-clause-refused g c =
    let f = g.F.Files in
    let P : List ℕ → Type 0 = λ t. IsRefusedSchema t (files_state (f.told c.args.files.now) (f.faults c.args.files.now))
    (files_state (f.told c.apply.new.files) (f.faults c.apply.new.files)) c.in-Refused.cause in
    subst P c.in_ok-copy.ensures c.in-Refused.ensures.step.0.2
