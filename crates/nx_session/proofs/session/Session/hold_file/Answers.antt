use Rattle.std.proofs.Common.{◌≡◌, Option, Some, ap, subst}
use Rattle.std.proofs.lemmas.Result.{err_from_is_err_and}
use Rattle.nx_session.specs.Editor.{files_state, with_schema}
use Rattle.nx_session.proofs.Filing.{same-files}
use Rattle.nx_session.proofs.session.Session.hold_file.Goals as goal
use Rattle.rng_core.specs.declared.grammar.Grammar.{Grammar}

pub returns-clause-held : goal.returns-clause-held
returns-clause-held g c =
    let f = g.F.Files in
    let before = files_state (f.told c.args.files.now) (f.faults c.args.files.now) in
    let after = files_state (f.told c.schema_at.new.files) (f.faults c.schema_at.new.files) in
    let P : Option Grammar → Type 0 = λ schema. c.hold_schema.new.self.editor ≡ with_schema c.args.self.now.editor schema in (
      c.in_ok-schema.schema.grammar,
      c.in_ok-schema.ensures.answers.0,
      subst P (ap (λ schema. Some schema.grammar) c.in_ok-matcher.ensures) c.in_ok-hold_schema.ensures.held,
      same-files after before c.schema_at.ensures.map c.in_ok-schema.ensures.answers.1,
    )

pub returns-in_err-schema-clause-refused : goal.returns-in_err-schema-clause-refused
returns-in_err-schema-clause-refused g c =
    let refusal = err_from_is_err_and c.from_residual.result c.from_residual.ensures.1 in
    rw (refusal.1, refusal.2) c.in_err-schema.ensures.answers
