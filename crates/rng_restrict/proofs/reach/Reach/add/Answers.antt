use Rattle.std.proofs.Common.{◌<◌, length, true, false, sym, ◌∙◌, arith}
use Rattle.rng_restrict.proofs.Reached.{stays_without, stays_among, is_added, mark_read}
use Rattle.rng_restrict.proofs.reach.Reach.add.Goals as goal

pub returns-then-place-len-clause-added : goal.returns-then-place-len-clause-added
returns-then-place-len-clause-added c = sym (stays_without _ c.args.number c.args.self.now.found.items (omega (arith, c.len.ensures, c.args.self.now.seen.ok.0, c.if-place-len.true)))

pub returns-then-index-clause-added : goal.returns-then-index-clause-added
returns-then-index-clause-added c =
    let inside : c.args.number < length c.args.self.now.seen.items = omega (arith, c.len.ensures, c.args.self.now.seen.ok.0, c.if-place-len.false) in
    sym (stays_among _ c.args.number c.args.self.now.found.items (mark_read c.args.number c.args.self.now.found.items c.args.self.now.seen.items c.index.result.now true inside c.args.self.now.marked c.index.ensures c.if-index.true))

pub returns-clause-added : goal.returns-clause-added
returns-clause-added c =
    let inside : c.args.number < length c.args.self.now.seen.items = omega (arith, c.len.ensures, c.args.self.now.seen.ok.0, c.if-place-len.false) in
    c.in_ok-push.ensures.items ∙ sym (is_added _ c.args.number c.args.self.now.found.items inside (mark_read c.args.number c.args.self.now.found.items c.args.self.now.seen.items c.index.result.now false inside c.args.self.now.marked c.index.ensures c.if-index.false))
