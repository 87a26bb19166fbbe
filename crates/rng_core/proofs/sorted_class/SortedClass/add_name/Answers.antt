use Rattle.rng_core.proofs.SortedNames.{one_sorted}
use Rattle.rng_core.proofs.sorted_class.SortedClass.add_name.Goals as goal

pub returns : goal.returns
returns c n =
    one_sorted c.args.self.now.names.keys c.insert.new.self.keys c.args.self.now.others.items (c.as_slice.result, c.as_slice-2.result) n c.args.name.now
    c.as_slice.ensures c.as_slice-2.ensures c.in_ok-insert.ensures.keys
