use Rattle.rng_types.proofs.Spaceless.{unspaced_more}
use Rattle.rng_types.proofs.one_token.without_space.Goals as goal

pub loop-byte-preserved : goal.loop-byte-preserved
loop-byte-preserved c =
    unspaced_more c.args.bytes.now c.loop-byte.kept c.push_solid.new.kept c.loop-byte.byte-index c.loop-byte-test.true c.loop-byte.invariant c.in_ok-push_solid.ensures
