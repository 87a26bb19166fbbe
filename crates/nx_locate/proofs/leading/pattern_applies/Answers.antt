use Rattle.std.proofs.Common.{sym, subst, refl, ℕ, List, Option, Some, Ok, Bool}
use Rattle.nx_locate.specs.Answering.{PatternAnswers}
use Rattle.nx_locate.proofs.Giving.{pattern_told}
use Rattle.nx_locate.proofs.Making.{runs_are}
use Rattle.nx_locate.proofs.leading.pattern_applies.Goals as goal

pub returns-in_ok-runs-in-Some : goal.returns-in_ok-runs-in-Some
returns-in_ok-runs-in-Some c =
    let base = c.args.base.now in
    let document = c.args.document.now in
    let pattern : List ℕ = c.in-Some.pattern in
    let runs : Option (List (List ℕ)) = c.in_ok-runs-in-Some.runs in
    subst (λ (p : Option (List ℕ)). PatternAnswers base document p (Ok c.is_some.result)) (sym c.in-Some.is)
    (subst (λ (b : Bool). PatternAnswers base document (Some pattern) (Ok b)) (sym c.is_some.ensures)
    (pattern_told base document pattern runs (runs_are c.as_slice.result.now base c.as_bytes.result.now document c.as_slice-in-Some.result.now
    pattern runs runs c.as_slice.ensures c.as_bytes.ensures.value c.as_slice-in-Some.ensures refl c.in_ok-runs-in-Some.ensures)))
