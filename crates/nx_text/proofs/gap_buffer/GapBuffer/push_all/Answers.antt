use Rattle.std.proofs.Common.{◌≡◌, ◌+◌, ◌≤◌, length, rules}
use Rattle.nx_text.proofs.Gaps.{behind_write}
use Rattle.nx_text.proofs.gap_buffer.GapBuffer.push_all.Goals as goal

pub returns-clause-back : goal.returns-clause-back
returns-clause-back g c =
    let b = c.self.inside in let stop = b.start + length c.args.added.now in
    let now : c.deref_mut.result.now ≡ b.items.items = search rules in
    let fits : b.end ≤ length b.items.items = search rules in
    rw (← c.self.view_is, now) (behind_write b.items.items c.copy_from_slice.new.self b.start stop b.end b.items.len
    (search rules) (search rules) (search rules) fits (search rules))
