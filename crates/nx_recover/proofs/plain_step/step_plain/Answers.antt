use Rattle.std.proofs.Common.{refl}
use Rattle.nx_recover.proofs.PlainSteps.{text_passes}
use Rattle.nx_recover.proofs.plain_step.step_plain.Goals as goal

pub returns-in_ok-add_characters-in-Text-clause-taken : goal.returns-in_ok-add_characters-in-Text-clause-taken
returns-in_ok-add_characters-in-Text-clause-taken g c = λ _.
    text_passes (g.M.Matcher.is_state c.args.matcher.now) (g.M.Matcher.means c.args.matcher.now) (g.M.Matcher.language c.args.matcher.now) c.args.state.now _ c.args.token.now
    c.requires.states (c.is_plain_text.ensures c.in-Text.is c.if-not-is_plain_text.false) (rw c.as_slice.ensures at c.in_ok-add_characters-in-Text.ensures.ok) refl
