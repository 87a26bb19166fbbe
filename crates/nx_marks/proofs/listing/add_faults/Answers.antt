use Rattle.std.proofs.Common.{◌++◌, map, ap, ◌∙◌, arith}
use Rattle.nx_base.specs.Shifting.{moved_fault}
use Rattle.nx_marks.proofs.Faults.{shifted-is}
use Rattle.nx_marks.proofs.listing.add_faults.Goals as goal

pub returns : goal.returns
returns c =
    c.in_ok-append.ensures.ok ∙ ap (λ l. c.args.faults.now ++ l) (c.shift.ensures ∙ ap (map (moved_fault (record { from = 0; to = 0; added = c.args.place }))) c.in_ok-moved.ensures
    ∙ shifted-is c.args.place c.args.more.now (omega (arith, c.ranges.place.fits)) c.requires)
