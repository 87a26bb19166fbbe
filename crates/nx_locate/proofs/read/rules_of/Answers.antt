use Rattle.nx_locate.proofs.RuleItems.{depth_grows, rules_further, rules_end}
use Rattle.std.proofs.Common.{arith}
use Rattle.nx_locate.proofs.read.rules_of.Goals as goal

pub loop-item-preserved : goal.loop-item-preserved
loop-item-preserved c = record {
  rules =
      rules_further c.loop-item.depth c.depth_behind-depth.result c.loop-item.rules.items c.push_rule.new.rules.items _
      c.loop-item.rest.now c.in-Some.behind.now c.in-Some.item.now c.loop-item.invariant.rules c.in-Some.ensures.cases.0
      c.in_ok-push_rule.ensures c.depth_behind-depth.ensures;
  depth = omega (arith, c.loop-item.invariant.depth, c.in-Some.ensures.cases.1, depth_grows c.loop-item.depth c.in-Some.item.now, c.depth_behind-depth.ensures);
}

pub returns : goal.returns
returns c =
    rules_end c.loop-item.depth c.loop-item.rules.items _ c.loop-item.rest.now c.loop-item.invariant.rules c.in_default.ensures.cases
