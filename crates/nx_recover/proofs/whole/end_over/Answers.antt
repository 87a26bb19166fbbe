use Rattle.std.proofs.Common.{◌∙◌, Some, refl}
use Rattle.nx_recover.specs.Machine.{over}
use Rattle.nx_recover.proofs.Stepping.{from_empty, given_at_end}
use Rattle.nx_recover.proofs.whole.end_over.Goals as goal

pub returns-clause-faults : goal.returns-clause-faults
returns-clause-faults g c =
    let m = g.M.Matcher in
    given_at_end (Some (m.language c.args.matcher.now)) (over (m.means c.args.matcher.now) c.args.state.now) c.args.len c.args.faults.now c.take_items.new.faults c.append.new.self c.into_vec-items.result.items c.requires.place c.in_ok-append.ensures.ok
    (from_empty refl c.in_ok-take_items.ensures.faults c.new-more.ensures) (c.into_vec-items.ensures ∙ c.in_ok-finish.ensures.items)
