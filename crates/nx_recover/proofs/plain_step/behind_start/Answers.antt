use Rattle.std.proofs.Common.{ap}
use Rattle.std.specs.Prelude.{option_copied}
use Rattle.nx_recover.specs.PlainSteps.{listed_if}
use Rattle.nx_recover.proofs.PlainSteps.{behind_chars}
use Rattle.nx_recover.proofs.plain_step.behind_start.Goals as goal

pub returns-in_ok-inside-in-Some-2-clause-gives : goal.returns-in_ok-inside-in-Some-2-clause-gives
returns-in_ok-inside-in-Some-2-clause-gives g c =
    behind_chars g.met.M.Matcher.laws c.chars.ensures.later (option_copied c.args.run) c.in-Some.text.now c.args.name.now (listed_if (option_copied c.args.attributes)) (g.M.Matcher.means c.args.matcher.now c.args.here.now)
    c.in-Some-2.before c.in_ok-before.field-0 _ _ c.in_ok-inside-in-Some-2.inside (ap option_copied c.in-Some.is) c.in_ok-before.ensures.gives c.in-Some-2.is c.in_ok-inside-in-Some-2.ensures.gives
