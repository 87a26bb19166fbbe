use Rattle.std.proofs.Common.{◌≡◌, sym, ap, ◌∙◌, length, take}
use Rattle.rng_more_types.specs.Spaces.{unspaced}
use Rattle.rng_more_types.specs.Octets.{digits_of}
use Rattle.rng_more_types.proofs.Unspaced.{digits_unspaced}
use Rattle.rng_more_types.proofs.Sixes.{base64_count}
use Rattle.rng_more_types.proofs.octets.count_base64.Goals as goal

pub returns : goal.returns
returns c =
    let front = c.split_at.ensures.front ∙ ap (λ n. take n c.args.text.now) c.filler_place.ensures.place in
    let count : c.count_unspaced-count.result ≡ length (digits_of (unspaced c.args.text.now)) = c.count_unspaced-count.ensures ∙ ap (λ x. length (unspaced x)) front ∙ sym (ap length (digits_unspaced c.args.text.now)) in
    rw (c.div_ceil.ensures, count) (sym (base64_count (unspaced c.args.text.now)))
