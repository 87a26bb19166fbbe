use Rattle.std.proofs.Common.{◌++◌, ap, sym, ◌∙◌}
use Rattle.nx_events.specs.Faults.{faults_as_items}
use Rattle.nx_events.proofs.CharacterFaults.{faults_whole, faults_begin}
use Rattle.nx_events.proofs.character_fault.push_faults_one_by_one.Goals as goal

pub loop-rest-init : goal.loop-rest-init
loop-rest-init c = (c.requires, ap (λ fs. c.args.items.now ++ faults_as_items fs) (faults_begin c.args.reading c.args.at c.args.bytes.now))

pub loop-rest-preserved : goal.loop-rest-preserved
loop-rest-preserved c = (c.in_ok-left.ensures.room, c.in_ok-left.ensures.faults ∙ c.loop-rest.invariant.1)

pub returns : goal.returns
returns c = faults_whole c.loop-rest.told c.args.reading c.loop-rest.at c.loop-rest.rest.now _ _ (sym c.is_empty.ensures ∙ c.loop-rest-test.false) c.loop-rest.invariant.1
