use Rattle.std.proofs.Common.{sym}
use Rattle.nx_locate.proofs.Stretches.{nowhere, begins_by, goes_on_by, nowhere_by, fits_whole}
use Rattle.nx_locate.proofs.pattern.runs_of.Goals as goal

pub returns-in_default : goal.returns-in_default
returns-in_default c = nowhere c.args.pattern.now c.args.text.now (sym c.in_default.ensures.value)

pub loop-star-init : goal.loop-star-init
loop-star-init c =
    begins_by c.args.pattern.now c.args.text.now c.new-runs.result c.in-Some.front c.new-runs.ensures c.in-Some.ensures.value

pub loop-star-preserved : goal.loop-star-preserved
loop-star-preserved c =
    goes_on_by c.args.pattern.now c.args.text.now c.loop-star.runs c.push.new.self c.loop-star.rest.now c.loop-star.left.now
    c.in-Some-split_first.more.now _ c.in-Some-split_first._star.now c.in-Some-next_stretch.stretch c.loop-star.invariant
    c.in-Some-split_first.ensures.cases.0 c.in-Some-next_stretch.ensures.value c.in_ok-bytes_of.ensures c.in_ok-push.ensures.ok

pub returns-in_default-next_stretch : goal.returns-in_default-next_stretch
returns-in_default-next_stretch c =
    nowhere_by c.args.pattern.now c.args.text.now c.loop-star.runs c.loop-star.rest.now c.loop-star.left.now
    c.in-Some-split_first.more.now c.in-Some-split_first._star.now c.loop-star.invariant
    c.in-Some-split_first.ensures.cases.0 c.in_default-next_stretch.ensures.value

pub returns : goal.returns
returns c =
    fits_whole c.args.pattern.now c.args.text.now c.loop-star.runs c.loop-star.rest.now c.loop-star.left.now c.loop-star.invariant
    c.in_default-split_first.ensures.cases
