use Rattle.std.proofs.Common.{◌≡◌, ℕ, ◌+◌, ◌-◌, ◌≤◌, List, [], length}
use Rattle.nx_base.specs.Rules.{Rules}
use Rattle.nx_marks.specs.Chain.{Kept, frontier_of}
use Rattle.nx_marks.specs.Frontier.{MovesOver}
use Rattle.nx_marks.specs.Keeping.{KeepsMarks}
use Rattle.nx_marks.specs.Right.{IsRight}
use Rattle.nx_marks.proofs.marks.take_rest.Given as goal

-- what is kept is right for the later machine, nothing is aside, and so many tokens lie between the old frontier and this one
pub record TakesOn {Self S M : Type 0} (later_than : Self → Self → Type 0) (is_state : Self → S → Type 0) (means : Self → S → M) (rules : Self → Rules M)
    (first now : Self) (text : List ℕ) (old kept : Kept S) (before taken n steps_first steps : ℕ) : Type 0 where
  pub later : later_than first now
  pub right : IsRight (is_state now) (means now) (rules now) text kept
  pub over : MovesOver text (frontier_of old) (taken - before) (frontier_of kept)
  pub more : before ≤ taken
  pub most : taken ≤ n
  pub counted : steps + before ≡ steps_first + taken
  pub none : kept.aside ≡ []
  pub keeps : KeepsMarks (means first) (rules first) text old kept

abbrev pub invariant-loop-alloc : goal.invariant-loop-alloc
invariant-loop-alloc g l =
    let m = g.A.Machine in
    TakesOn m.later m.is_state m.means m.rules l.fn.machine l.machine l.text l.fn.line l.line l.fn.taken l.taken l.n l.fn.steps l.steps

abbrev pub decreases-loop-alloc : goal.decreases-loop-alloc
decreases-loop-alloc g l = length l.text - frontier_of l.line
