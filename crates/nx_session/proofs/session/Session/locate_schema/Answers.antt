use Rattle.std.proofs.Common.{refl, inl}
use Rattle.std.proofs.lemmas.Result.{err_from_is_err_and}
use Rattle.nx_session.proofs.session.Session.locate_schema.Goals as goal

pub returns-in_err-uri-clause-step : goal.returns-in_err-uri-clause-step
returns-in_err-uri-clause-step g c =
    let refusal = err_from_is_err_and c.from_residual.result c.from_residual.ensures.1 in
    rw (refusal.1, refusal.2) (refl, c.in_err-uri.ensures.map, inl c.in_err-uri.ensures.located)
