use Rattle.std.proofs.Common.{◌≡◌, ◌⊎◌, ℕ, ◌+◌, ◌-◌, ◌<◌, ◌≤◌, List, [], length}
use Rattle.nx_base.specs.Rules.{Rules}
use Rattle.nx_marks.specs.Bound.{WillReach, ReachesIn}
use Rattle.nx_marks.specs.Chain.{Kept, frontier_of}
use Rattle.nx_marks.specs.Frontier.{MovesOver}
use Rattle.nx_marks.specs.Keeping.{KeepsMarks}
use Rattle.nx_marks.specs.Right.{IsRight}
use Rattle.nx_marks.proofs.marks.Marks.take_up_to.Given as goal

-- what is kept is right for the later machine, so many tokens lie between the old frontier and this one, and fewer are left up
-- to a row that is to be joined; where it is joined, the others lie behind it
pub record GoesOn {Self S M : Type 0} (later_than : Self → Self → Type 0) (is_state : Self → S → Type 0) (means : Self → S → M) (rules : Self → Rules M)
    (first now : Self) (text : List ℕ) (old kept : Kept S) (taken n steps_first steps : ℕ) : Type 0 where
  pub later : later_than first now
  pub right : IsRight (is_state now) (means now) (rules now) text kept
  pub over : MovesOver text (frontier_of old) taken (frontier_of kept)
  pub most : taken ≤ n
  pub counted : steps ≡ steps_first + taken
  pub near : (count end : ℕ) → WillReach (means first) (rules first) text count end old → ReachesIn (means now) (rules now) text (count - taken) end kept
  pub joined : (count end : ℕ) → WillReach (means first) (rules first) text count end old → count ≤ taken → MovesOver text end (taken - count) (frontier_of kept)
  pub settled : (0 < kept.here.len) ⊎ (kept.aside ≡ [])
  pub keeps : KeepsMarks (means first) (rules first) text old kept

abbrev pub invariant-loop-self : goal.invariant-loop-self
invariant-loop-self g l =
    let m = g.A.Machine in
    GoesOn m.later m.is_state m.means m.rules l.fn.machine l.machine l.text l.fn.self.kept l.self.kept l.self.taken l.n l.fn.steps l.steps

abbrev pub decreases-loop-self : goal.decreases-loop-self
decreases-loop-self g l = length l.text - frontier_of l.self.kept
