use Rattle.std.proofs.Common.{arith}
use Rattle.nx_events.specs.Texts.{ItemIsText}
use Rattle.nx_recover.proofs.Going.{gone_on, gone_forms, gone_faults, none_left, comes_next, first_and_rest}
use Rattle.nx_recover.proofs.along.take_items.Goals as goal

pub loop-i-preserved : goal.loop-i-preserved
loop-i-preserved g c =
    let on = c.in_ok-take_item.ensures in
    let item = c.index_mut-item.result.now in
    let cons = comes_next c.loop-i.items.items c.loop-i.i item c.take_item.new.item (omega arith) c.index_mut-item.ensures.value in (
      gone_on g.met.M.Matcher.laws c.args.matcher.now c.args.levels.now _ _ c.args.items.now.items c.loop-i.matcher c.take_item.new.matcher c.loop-i.change c.take_item.new.change c.loop-i.faults c.take_item.new.faults item
          _ _ c.loop-i.invariant.0 cons on.later on.change on.form on.faults,
      (first_and_rest ItemIsText _ _ _ cons c.loop-i.invariant.1).1,
    )

pub take_item-requires-clause-text : goal.take_item-requires-clause-text
take_item-requires-clause-text g c =
    let item = c.index_mut-item.result.now in
    (first_and_rest ItemIsText _ _ _ (comes_next c.loop-i.items.items c.loop-i.i item item (omega arith) c.index_mut-item.ensures.value) c.loop-i.invariant.1).0

pub returns-in_err-take_item-clause-later : goal.returns-in_err-take_item-clause-later
returns-in_err-take_item-clause-later g c = g.met.M.Matcher.laws.chain c.args.matcher.now c.loop-i.matcher c.take_item.new.matcher c.loop-i.invariant.0.on c.in_err-take_item.ensures.later

pub returns-clause-form : goal.returns-clause-form
returns-clause-form g c = gone_forms g.met.M.Matcher.laws c.args.matcher.now c.args.levels.now _ _ c.args.items.now.items c.loop-i.matcher c.loop-i.change c.loop-i.faults _ c.loop-i.invariant.0 (none_left c.loop-i.i c.loop-i.items.items (omega arith))

pub returns-clause-faults : goal.returns-clause-faults
returns-clause-faults g c = gone_faults g.met.M.Matcher.laws c.args.matcher.now c.args.levels.now _ _ c.args.items.now.items c.loop-i.matcher c.loop-i.change c.loop-i.faults _ c.loop-i.invariant.0 (none_left c.loop-i.i c.loop-i.items.items (omega arith))
