use Rattle.std.proofs.Common.{sym, append-nil}
use Rattle.rng_types.proofs.Pushed.{pushed_more}
use Rattle.rng_types.proofs.pushing.push_many.Goals as goal

pub loop-made-init : goal.loop-made-init
loop-made-init c = sym (append-nil c.args.text.now)

pub loop-made-preserved : goal.loop-made-preserved
loop-made-preserved c = pushed_more c.args.text.now c.loop-made.text c.push.new.self c.loop-made.made c.args.byte c.loop-made.invariant c.in_ok-push.ensures.ok
