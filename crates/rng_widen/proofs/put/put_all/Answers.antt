use Rattle.std.proofs.Common.{length, refl, ◌∙◌}
use Rattle.rng_widen.proofs.Putting.{put_begun, put_more, put_none}
use Rattle.rng_widen.proofs.put.put_all.Goals as goal

pub widenings-init : goal.widenings-init
widenings-init c =
    put_begun (length c.args.text.now) c.args.text.now c.in_ok-out.out.items c.args.widenings.now refl c.in_ok-out.ensures.items

pub widenings-preserved : goal.widenings-preserved
widenings-preserved c =
    put_more (length c.args.text.now) c.widenings.rest.now c.put_behind-rest.result.now c.widenings.out.items c.add_front.new.out.items _
    c.in-Some.one.now c.in-Some.more.now c.widenings.left.now c.in-Some.ensures.cases.0 c.in_ok-add_front.ensures
    c.put_behind-rest.ensures c.widenings.invariant

pub returns : goal.returns
returns c =
    c.from_vec.ensures
    ∙ put_none (length c.args.text.now) c.widenings.rest.now c.widenings.out.items c.extend_from_slice.new.self.items _
    c.widenings.left.now c.in_default.ensures.cases c.in_ok-extend_from_slice.ensures.items c.widenings.invariant
