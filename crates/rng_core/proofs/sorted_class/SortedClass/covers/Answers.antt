use Rattle.rng_core.proofs.SortedNames.{told_by_keys, told_by_others}
use Rattle.rng_core.proofs.sorted_class.SortedClass.covers.Goals as goal

pub returns-then-contains : goal.returns-then-contains
returns-then-contains c =
    told_by_keys c.args.self.now.names.keys c.args.self.now.others.items (c.as_slice.result, c.as_slice-2.result) c.args.name.now c.contains.result
    c.as_slice.ensures c.as_slice-2.ensures c.contains.ensures c.if-contains.true

pub returns-else-contains : goal.returns-else-contains
returns-else-contains c =
    told_by_others c.args.self.now.names.keys c.args.self.now.others.items (c.as_slice.result, c.as_slice-2.result) c.args.name.now c.contains.result c.one_covers.result
    c.as_slice.ensures c.as_slice-2.ensures c.contains.ensures c.if-contains.false (rw c.as_slice-else-contains.ensures.value at c.one_covers.ensures)
