use Rattle.std.proofs.Common.{ap, ◌∙◌, take, drop}
use Rattle.rng_more_types.proofs.Unspaced.{base64_is}
use Rattle.rng_more_types.proofs.octets.is_base64.Goals as goal

pub returns : goal.returns
returns c =
    let front = c.split_at.ensures.front ∙ ap (λ n. take n c.args.text.now) c.filler_place.ensures.place in
    let back = c.split_at.ensures.back ∙ ap (λ n. drop n c.args.text.now) c.filler_place.ensures.place in
    rw (base64_is c.args.text.now c.split_at.result.0.now c.split_at.result.1.now front back, ← c.count_unspaced.ensures) c.are_groups.ensures
