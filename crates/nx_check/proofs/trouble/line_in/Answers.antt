use Rattle.std.proofs.Common.{rules, ◌∙◌, List, ℕ, subst, IsUtf8}
use Rattle.nx_check.specs.Stopping.{StopsReading}
use Rattle.nx_check.proofs.trouble.line_in.Goals as goal

pub returns-in_ok-line_at-in-Some : goal.returns-in_ok-line_at-in-Some
returns-in_ok-line_at-in-Some g c =
    let P : List ℕ → Type 0 = λ t. StopsReading t c.in-Some.stop in
    record {
      utf8 = subst IsUtf8 c.as_slice.ensures c.in-Ok.ensures.cases.1;
      stop = c.in-Some.stop;
      stops = subst P (c.in-Ok.ensures.cases.0 ∙ c.as_slice.ensures) (rw c.in-Some.is at c.in_ok-stop.ensures);
      same_cause = search rules;
      told = c.in_ok-line_at-in-Some.ensures;
    }
