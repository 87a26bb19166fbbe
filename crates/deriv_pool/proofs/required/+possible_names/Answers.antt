use Rattle.std.proofs.Common.{◌∷◌, ap, ◌∙◌}
use Rattle.deriv_states.specs.Places.{state_in, way_made}
use Rattle.deriv_pool.proofs.Needing.{possible_more}
use Rattle.deriv_pool.proofs.required.+possible_names.Goals as goal

pub returns-in-Way-Among-default : goal.returns-in-Way-Among-default
returns-in-Way-Among-default t c =
    let places = c.args.states.now in
    possible_more _ _ _ _
    (c.in-Way-Among-default.ensures.is
    ∙ ap (λ b. way_made places.patterns places.outers b ∷ state_in places.states c.in-Way-Among-default.more) c.in-Way-Among-default.field-0-is)
    c.possible_names.ensures
