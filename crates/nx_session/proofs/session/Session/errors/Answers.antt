use Rattle.std.proofs.Common.{◌≡◌, ◌∙◌, Option, option_map, subst, sym, ap}
use Rattle.nx_marks.specs.Chain.{frontier_of, Kept}
use Rattle.nx_marks.specs.Keeping.{KeepsMarks}
use Rattle.nx_marks.specs.Meant.{itself, marks_by}
use Rattle.nx_recover.specs.Faults.{AreFaultsOf}
use Rattle.deriv_pool.specs.Later.{meaning_of}
use Rattle.nx_recover.specs.Machine.{means_by}
use Rattle.nx_recover.specs.RecoverRules.{Recovered}
use Rattle.nx_session.specs.Reading.{grammar_of, meant, rules_for}
use Rattle.nx_session.proofs.Holding.{reads_on}
use Rattle.nx_session.proofs.Views.{refreshed_text, starved_text}
use Rattle.nx_session.proofs.session.Session.errors.Goals as goal
use Rattle.rng_core.specs.Meaning.{language_of}
use Rattle.rng_core.specs.declared.grammar.Grammar.{Grammar}

pub returns-clause-step : goal.returns-clause-step
returns-clause-step g c =
    let P : Option Grammar → Type 0 = λ schema. AreFaultsOf (option_map language_of schema) c.self.inside.text c.in_ok-faults.faults in
    let was = c.caught_up.ensures.grammar in
    rw (← c.self.view_is) (
      subst P was c.in_ok-faults.ensures.faults,
      c.in_ok-caught_up.ensures.all,
      c.in_ok-caught_up.ensures.on,
      reads_on _ _ _ (grammar_of c.found.new.machine.matcher) (frontier_of c.caught_up.new.marks.kept) c.caught_up.new.marks.taken
          c.caught_up.ensures.border (c.found.ensures.grammar ∙ was) c.caught_up.ensures.frontier c.caught_up.ensures.steps,
    )

pub returns-clause-views_text : goal.returns-clause-views_text
returns-clause-views_text g c = λ h. refreshed_text c.in_ok-faults.faults _ _ c.in_ok-refresh.ensures.ok c.in_ok-faults.ensures.text

pub returns-in_err-refresh-clause-views_text : goal.returns-in_err-refresh-clause-views_text
returns-in_err-refresh-clause-views_text g c = λ h. starved_text c.in_ok-faults.faults _ _ c.in_err-refresh.ensures.err c.in_ok-faults.ensures.text h

pub returns-clause-marks : goal.returns-clause-marks
returns-clause-marks g c =
    let matcher = c.self.inside.machine.matcher in
    let K : Kept Recovered → Type 0 = λ k. KeepsMarks itself (rules_for (grammar_of matcher)) c.self.inside.text (meant matcher c.self.inside.marks.kept) k in
    rw (← c.self.view_is) (subst K (sym c.found.ensures.marks) c.caught_up.ensures.marks, c.in_ok-caught_up.ensures.few, c.in_ok-caught_up.ensures.row, λ all. ap (marks_by (means_by meaning_of c.found.new.machine.matcher)) (c.caught_up.ensures.aside all))
