use Rattle.std.proofs.Common.{◌≡◌, ◌++◌, ◌∙◌, map, sym, ap, subst}
use Rattle.nx_publish.proofs.Listing.{one_more}
use Rattle.nx_publish.specs.Published.{fault_data}
use Rattle.serde_json.specs.View.{view}
use Rattle.nx_publish.proofs.publication.push_faults.Goals as goal

pub loop-fault-preserved : goal.loop-fault-preserved
loop-fault-preserved c =
    let text = c.args.text.now in let fault = c.in-Some.fault.now in
    let rule = fault_data c.args.encoding text in (
      subst (λ xs. map view xs ++ map rule c.in-Some.behind.now ≡ map view c.args.list.now.items ++ map rule c.args.faults.now)
          (sym c.in_ok-push.ensures.items)
          (one_more rule c.loop-fault.list.items c.in_ok-made.made fault c.in-Some.behind.now c.loop-fault.rest.now _ c.in-Some.ensures.cases.0
          (c.in_ok-made.ensures.made ∙ ap (λ encoding. fault_data encoding text fault) c.loop-fault.invariant.2) c.loop-fault.invariant.0),
      c.fault_value.ensures.stands,
      c.fault_value.ensures.encoding ∙ c.loop-fault.invariant.2,
    )
