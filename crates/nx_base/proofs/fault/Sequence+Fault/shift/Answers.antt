use Rattle.std.proofs.Common.{◌≡◌, ◌<◌, ◌∙◌, length, ap, sym, set, arith}
use Rattle.std.proofs.lemmas.List.Edits.{map_over_more}
use Rattle.nx_base.specs.Shifting.{moved_fault}
use Rattle.nx_base.proofs.fault.Sequence+Fault.shift.Goals as goal

pub loop-fault-preserved : goal.loop-fault-preserved
loop-fault-preserved c =
    let items = c.loop-fault.fault-items in
    let i = c.loop-fault.fault-index in
    let same : c.deref_mut-fault-items.result.now ≡ c.args.self.now = c.deref_mut-fault-items.ensures.value ∙ c.self.view_is in
    let within : i < length c.args.self.now = omega (arith, ap length same) in
    ap (λ x. set items i x) (c.shift.ensures ∙ ap (moved_fault c.args.edit.now) (sym c.fault-item.is))
    ∙ map_over_more (moved_fault c.args.edit.now) c.args.self.now items i c.fault-item.result within c.loop-fault.invariant c.fault-item.is
