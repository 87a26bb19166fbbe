use Rattle.std.proofs.Common.{◌∙◌, ap, sym, Option}
use Rattle.nx_marks.specs.Chain.{frontier_of, Kept}
use Rattle.nx_marks.specs.Starting.{started}
use Rattle.nx_recover.specs.RecoverRules.{Recovered}
use Rattle.rng_core.specs.declared.grammar.Grammar.{Grammar}
use Rattle.nx_session.specs.Reading.{grammar_of, rules_for}
use Rattle.nx_session.proofs.Holding.{begun_anew}
use Rattle.nx_session.proofs.Sessions.{seen}
use Rattle.nx_session.proofs.session.Session.hold_schema.Goals as goal

pub invariant_of-self : goal.invariant_of-self
invariant_of-self c =
    rw (c.replace.ensures.after) (rw (c.replace-in-Ok.ensures.after)
    (record { well = c.in-Ok.ensures.well c.self.inside.text c.len-len.ensures.utf8; place = c.self.invariant.place }))

pub returns-in-Ok-clause-held : goal.returns-in-Ok-clause-held
returns-in-Ok-clause-held c =
    rw (← c.self.view_is) (rw (c.replace.ensures.after) (rw (c.replace-in-Ok.ensures.after) (begun_anew (seen c.self.inside.text c.self.inside.caret c.self.inside.document c.self.inside.machine.matcher c.self.inside.locating (frontier_of c.self.inside.marks.kept) c.self.inside.marks.taken) (grammar_of c.begun.new.machine.matcher) (grammar_of c.args.matcher) (frontier_of c.in-Ok.marks.kept) c.in-Ok.marks.taken
    (c.begun.ensures.grammar ∙ ap grammar_of c.new-machine.ensures) c.in-Ok.ensures.frontier c.in-Ok.ensures.taken)))

pub returns-in-Ok-clause-marks : goal.returns-in-Ok-clause-marks
returns-in-Ok-clause-marks c =
    let first : Option Grammar → Kept Recovered = λ schema. started (rules_for schema).first in
    rw (c.replace.ensures.after) (rw (c.replace-in-Ok.ensures.after) (c.in-Ok.ensures.marks ∙ ap first (sym c.begun.ensures.grammar)))
