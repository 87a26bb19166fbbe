use Rattle.std.proofs.Common.{◌≡◌, ◌<◌, length, arith}
use Rattle.rng_live.proofs.Listing.{noted_by}
use Rattle.rng_live.proofs.waiting.Waiting.add.Goals as goal

pub returns : goal.returns
returns c =
    let inside : c.args.on < length c.args.self.now.lists.items = omega (arith, c.len.ensures, c.args.self.now.lists.ok.0, c.if-on-len.false) in
    let place : c.len-place.result ≡ length c.args.self.now.waiters.items = omega (arith, c.len-place.ensures, c.args.self.now.waiters.ok.0) in
    noted_by inside c.index-before.ensures place c.in_ok-push.ensures.items
