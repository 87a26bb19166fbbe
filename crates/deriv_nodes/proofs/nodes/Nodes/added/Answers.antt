use Rattle.std.proofs.Common.{◌≡◌, ◌==◌, ◌<◌, length, get_or, ap, sym, subst, arith}
use Rattle.std.specs.List.{position_or_len}
use Rattle.rng_kept.specs.SmallPatterns.{choice_of}
use Rattle.deriv_nodes.specs.declared.openings.Open.{Open}
use Rattle.deriv_nodes.specs.Numbers.{at, IsAt}
use Rattle.deriv_nodes.proofs.Opening.{added_last, added_there}
use Rattle.deriv_nodes.proofs.nodes.Nodes.added.Goals as goal

pub returns-then-place-len-clause-made : goal.returns-then-place-len-clause-made
returns-then-place-len-clause-made c =
    let place = rw c.as_slice.ensures.value at c.place_of-place.ensures.place in
    let last : position_or_len (λ o. c.args.more.number == o.number) c.args.opened.items ≡ length c.args.opened.items = omega (arith, place) in
    rw c.in_ok-push.ensures.items (added_last c.args.self.now c.args.opened.items c.args.more last c.requires.opened c.requires.more)

pub returns-clause-made : goal.returns-clause-made
returns-clause-made c =
    let old = c.args.self.now in
    let os = c.args.opened.items in
    let k = c.place_of-place.result in
    let it = c.index-one.result.now in
    let place = rw c.as_slice.ensures.value at c.place_of-place.ensures.place in
    let within = rw c.as_slice.ensures.value at c.place_of-place.ensures.within in
    let here : k < length os = omega (arith, within) in
    let one : it ≡ get_or os k it = c.index-one.ensures in
    let P : Open → Type 0 = λ o. IsAt c.choice_of.new.self (choice_of (at old o.rest) (at old c.args.more.rest)) c.in_ok-rest.rest in
    added_there old c.choice_of.new.self c.args.more.number (at old c.args.more.rest) os k
    (record { number = it.number; rest = c.in_ok-rest.rest }) it c.in_ok-rest.ensures.later c.requires.opened (sym place) here
    (ap (λ (o : Open). o.number) one) (subst P one c.in_ok-rest.ensures.made)
