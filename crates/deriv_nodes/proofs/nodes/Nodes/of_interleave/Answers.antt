use Rattle.std.proofs.Common.{ap, ◌∙◌}
use Rattle.rng_kept.specs.Openings.{joined}
use Rattle.deriv_nodes.specs.declared.openings.Place.TheVariants.{InFirst, InSecond}
use Rattle.deriv_nodes.specs.Opened.{openings_at}
use Rattle.deriv_nodes.proofs.IfOk.{if_ok}
use Rattle.deriv_nodes.proofs.Opening.{both_placed, told_as}
use Rattle.deriv_nodes.proofs.nodes.Nodes.of_interleave.Goals as goal

pub returns-clause-made : goal.returns-clause-made
returns-clause-made c =
    let old = c.args.self.now in
    let mid = c.all_placed.new.self in
    let new = c.all_placed-2.new.self in
    let fs = c.in_ok-first.first.items in
    let ss = c.in_ok-second.second.items in
    if_ok c.joined.result c.joined.ensures.made (λ made is.
    told_as c.joined.new.self _ _ made.items
    (ap (λ os. joined (openings_at new fs) (openings_at new os)) c.as_slice.ensures.value
    ∙ both_placed old mid new InFirst InSecond c.args.a c.args.b c.args.first.now c.args.second.now fs ss c.in_ok-first.ensures.later
    c.in_ok-second.ensures.later c.requires.second c.requires.a c.in_ok-first.ensures.made c.in_ok-second.ensures.made) is)
