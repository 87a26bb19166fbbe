use Rattle.std.proofs.Common.{◌≡◌, ◌∙◌, Err, ap}
use Rattle.std.proofs.lemmas.Result.{err_from_is_err_and}
use Rattle.nx_session.proofs.Locating.{unjoined_rules, joined_rules}
use Rattle.nx_session.proofs.session.Session.rules_uri.Goals as goal

pub returns-in_err-join-clause-lacks : goal.returns-in_err-join-clause-lacks
returns-in_err-join-clause-lacks c =
    let refusal = err_from_is_err_and c.from_residual.result c.from_residual.ensures.1 in
    rw (refusal.1, refusal.2, ← c.self.view_is, c.in-Some.is)
    (unjoined_rules c.in-Some.given c.in-Ok.text.now c.in_err-join.field-0.0 (c.in-Ok.ensures.cases.0 ∙ c.as_slice.ensures)
    (λ bad. c.in_err-join.ensures.bad (ap (λ fault. Err fault) bad)))

pub returns-clause-given : goal.returns-clause-given
returns-clause-given c =
    rw (← c.self.view_is, c.in-Some.is)
    (joined_rules c.in-Some.given c.as_slice.result.now c.in-Ok.text.now c.in_ok-join.field-0 c.in-Ok.ensures.cases.0 c.as_slice.ensures c.in-Ok.ensures.cases.1
    c.in_ok-join.ensures.joined)
