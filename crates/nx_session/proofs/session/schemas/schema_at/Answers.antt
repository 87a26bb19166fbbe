use Rattle.nx_session.proofs.Using.{use_answers}
use Rattle.nx_session.proofs.session.schemas.schema_at.Goals as goal

pub returns-in-Ok-clause-answers : goal.returns-in-Ok-clause-answers
returns-in-Ok-clause-answers g c =
    let f = g.F.Files in
    use_answers (f.told c.args.files.now) c.args.uri.now (f.faults c.args.files.now) (f.faults c.simplify.new.files) c.in-Ok.grammar c.usable.result
    (record { simplified = c.in-Ok.ensures.answers.0; sound = c.in-Ok.ensures.answers.1 }) c.in-Ok.ensures.answers.2 c.usable.ensures

pub returns-in-Err-clause-answers : goal.returns-in-Err-clause-answers
returns-in-Err-clause-answers g c =
    let f = g.F.Files in
    c.undefined.ensures.why (f.told c.args.files.now) c.args.uri.now (f.faults c.args.files.now) (f.faults c.simplify.new.files) c.in-Err.ensures.answers

pub returns-in-Err-clause-text : goal.returns-in-Err-clause-text
returns-in-Err-clause-text g c =
    let f = g.F.Files in
    c.undefined.ensures.text (f.told c.args.files.now) c.args.uri.now (f.faults c.args.files.now) (f.faults c.simplify.new.files) c.in-Err.ensures.answers
