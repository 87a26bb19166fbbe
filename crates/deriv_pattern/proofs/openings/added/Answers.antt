use Rattle.std.proofs.Common.{ap, ◌≡◌, ◌∙◌, ◌==◌, length, arith}
use Rattle.std.specs.List.{position_or_len}
use Rattle.deriv_pattern.specs.Opened.{openings_of}
use Rattle.deriv_pattern.proofs.Opened.{added_last}
use Rattle.deriv_pattern.proofs.openings.added.Goals as goal

pub returns-then-place-len : goal.returns-then-place-len
returns-then-place-len c =
    let place = rw c.as_slice.ensures.value at c.place_of-place.ensures.place in
    let last : position_or_len (λ o. c.args.more.number == o.number) c.args.opened.items ≡ length c.args.opened.items = omega (arith, place) in
    ap openings_of c.in_ok-push.ensures.items ∙ added_last c.args.opened.items c.args.more last
