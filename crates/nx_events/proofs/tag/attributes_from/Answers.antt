use Rattle.std.proofs.Common.{sym, ◌∙◌, arith}
use Rattle.nx_events.proofs.Tags.{rest_len, attributes_more, attributes_whole}
use Rattle.nx_events.proofs.tag.attributes_from.Goals as goal

pub loop-rest-preserved : goal.loop-rest-preserved
loop-rest-preserved c =
    let rest = c.loop-rest.rest.now in
    let n = c.in_ok-n.n in
    let e = c.in_ok-n.ensures in (
      omega (arith, rest_len rest n, e.bound, c.loop-rest.invariant.0),
      attributes_more c.loop-rest.at n rest c.loop-rest.out.items c.push_front.new.out.items _ e.passed e.positive e.bound e.pushed c.loop-rest.invariant.1,
    )

pub returns : goal.returns
returns c = attributes_whole c.loop-rest.at c.loop-rest.rest.now _ _ (sym c.is_empty.ensures ∙ c.loop-rest-test.false) c.loop-rest.invariant.1
