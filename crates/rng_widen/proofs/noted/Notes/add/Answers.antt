use Rattle.rng_widen.proofs.Noting.{none_more, one_noted}
use Rattle.rng_widen.proofs.noted.Notes.add.Goals as goal

pub returns-then-is_empty-clause-ok : goal.returns-then-is_empty-clause-ok
returns-then-is_empty-clause-ok c =
    none_more c.args.uri.now c.args.bytes c.args.found.items c.as_slice.result.now _ c.as_slice.ensures.value c.if-is_empty.ensures

pub returns-clause-ok : goal.returns-clause-ok
returns-clause-ok c =
    rw (← c.self.view_is)
    (one_noted c.args.uri.now c.args.bytes c.args.found.items c.as_slice.result.now c.in_ok-one.one _ _ c.as_slice.ensures.value
    c.if-is_empty.ensures c.in_ok-one.ensures c.in_ok-push.ensures.items)
