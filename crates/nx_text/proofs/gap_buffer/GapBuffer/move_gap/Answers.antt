use Rattle.std.proofs.Common.{◌∙◌, ◌+◌, ◌-◌, ◌≤◌, length, take, drop, ap, rules}
use Rattle.nx_text.proofs.Gaps.{back_of_lower, front_of_higher, back_of_higher, in_reach}
use Rattle.nx_text.proofs.gap_buffer.GapBuffer.move_gap.Goals as goal

pub returns-then-at-self-clause-back : goal.returns-then-at-self-clause-back
returns-then-at-self-clause-back g c =
    let b = c.self.inside in let n = b.start - c.args.at in
    let fits : b.end ≤ length b.items.items = search rules in
    rw (← c.self.view_is) (ap (drop (b.end - n)) c.copy_within.ensures.items
    ∙ back_of_lower b.items.items c.args.at b.start b.end (search rules) (search rules) fits)

pub returns-else-at-self-clause-front : goal.returns-else-at-self-clause-front
returns-else-at-self-clause-front g c =
    let b = c.self.inside in
    let fits : b.end ≤ length b.items.items = search rules in
    let asked : c.args.at ≤ length (take b.start b.items.items) + length (drop b.end b.items.items) = rw (← c.self.view_is) at c.requires in
    let reach = in_reach b.items.items c.args.at b.start b.end (search rules) (search rules) fits asked in
    rw (← c.self.view_is) (ap (take c.args.at) c.copy_within-else-at-self.ensures.items
    ∙ front_of_higher b.items.items c.args.at b.start b.end (search rules) (search rules) fits reach)

pub returns-else-at-self-clause-back : goal.returns-else-at-self-clause-back
returns-else-at-self-clause-back g c =
    let b = c.self.inside in
    let fits : b.end ≤ length b.items.items = search rules in
    let asked : c.args.at ≤ length (take b.start b.items.items) + length (drop b.end b.items.items) = rw (← c.self.view_is) at c.requires in
    let reach = in_reach b.items.items c.args.at b.start b.end (search rules) (search rules) fits asked in
    rw (← c.self.view_is) (ap (drop (b.end + (c.args.at - b.start))) c.copy_within-else-at-self.ensures.items
    ∙ back_of_higher b.items.items c.args.at b.start b.end (search rules) (search rules) fits reach)
