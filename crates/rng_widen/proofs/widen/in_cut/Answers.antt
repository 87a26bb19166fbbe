use Rattle.std.proofs.Common.{◌∙◌}
use Rattle.rng_widen.proofs.Handing.{markup_found}
use Rattle.rng_widen.proofs.widen.in_cut.Goals as goal

pub returns : goal.returns
returns g c =
    c.in_ok-found.ensures
    ∙ markup_found c.args.text.now c.as_slice.result.now c.len-len.result (c.as_slice.ensures.value ∙ c.in_ok-tokens.ensures)
    c.len-len.ensures.bytes
