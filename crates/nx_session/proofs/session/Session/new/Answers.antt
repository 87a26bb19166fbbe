use Rattle.std.proofs.Common.{◌∙◌, ap, sym, subst}
use Rattle.std.proofs.lemmas.Str.{IsCharBoundary-start, IsUtf8-nil}
use Rattle.std.specs.Str.{IsUtf8}
use Rattle.nx_marks.specs.Starting.{started}
use Rattle.nx_session.specs.Reading.{grammar_of, rules_for}
use Rattle.nx_session.proofs.session.Session.new.Goals as goal

pub invariant_of-session : goal.invariant_of-session
invariant_of-session c =
    let utf8 : IsUtf8 c.new.result = subst IsUtf8 (sym c.new.ensures) IsUtf8-nil in
    record { well = c.in-Ok.ensures.well c.new.result utf8; place = IsCharBoundary-start c.new.result utf8 }

pub returns-in-Ok-clause-marks : goal.returns-in-Ok-clause-marks
returns-in-Ok-clause-marks c = c.in-Ok.ensures.marks ∙ ap (λ matcher. started (rules_for (grammar_of matcher)).first) c.new-machine.ensures
