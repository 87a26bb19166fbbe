use Rattle.std.proofs.Common.{◌-◌, length, refl}
use Rattle.std.proofs.lemmas.List.{take_rest}
use Rattle.nx_events.proofs.Buffers.{both_ends}
use Rattle.nx_events.proofs.few_bytes.put_both_ends.Goals as goal

pub returns-clause-copied : goal.returns-clause-copied
returns-clause-copied g c =
    let bytes = c.args.bytes.now in
    let rest = length bytes - g.row.N in
    both_ends bytes c.put_first.new.memory c.put_first-2.new.memory g.row.N rest refl
    c.requires.enough c.requires.all c.put_first.ensures.copied (rw (take_rest bytes rest) at c.put_first-2.ensures.copied)
