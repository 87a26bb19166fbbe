use Rattle.std.proofs.Common.{ap, map, ◌≡◌, [], true, ◌∙◌, sym, subst}
use Rattle.clap.specs.Faults.{fault_of, is_simple_and_free}
use Rattle.clap.specs.Simple.{App, is_simple, matches_of}
use Rattle.nx_check.proofs.Matching.{checker_is_simple, checker_is_free, has_fault}
use Rattle.nx_check.proofs.words.match_words.Goals as goal

pub returns-in-Ok : goal.returns-in-Ok
returns-in-Ok c =
    let is = c.in_ok-command.ensures in
    let words = map (λ word. word.now) c.args.words.now in (
      ap (λ (a : App). fault_of a words) (sym is) ∙ c.in-Ok.ensures.kinds (ap is_simple_and_free is ∙ checker_is_free),
      (c.in-Ok.ensures.matches (ap is_simple is ∙ checker_is_simple)).0 ∙ ap (λ (a : App). matches_of a words) is,
    )

pub returns : goal.returns
returns c none =
    let is = c.in_ok-command.ensures in
    let words = map (λ word. word.now) c.args.words.now in
    has_fault _ c.in-Err.error (c.in-Err.ensures.kinds (ap is_simple_and_free is ∙ checker_is_free))
    (λ memory. c.in_default.not-OutOfMemory (c.kind.ensures ∙ memory)) (ap (λ (a : App). fault_of a words) is ∙ none)
