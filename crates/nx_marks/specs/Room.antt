-- What marks in front of a place, and on both sides of a place come to.
use Rattle.std.specs.Prelude.{◌≡◌, ℕ, ◌+◌, ◌^◌, ◌<◌, List, length}
use Rattle.nx_marks.specs.Chain.{reach}
use Rattle.nx_marks.specs.declared.mark.Mark.{Mark}

-- marks are counted in 32 bits, and all places are numbers of the machine
pub record Held {S : Type 0} (front : List (Mark S)) (here : Mark S) (aside : List (Mark S)) : Type 0 where
  pub counted : length front + length aside + 1 < 2 ^ 32
  pub fits : reach front + here.len + reach aside < 2 ^ 64

-- marks that reach so far, as many as are counted
pub record Reaches {S : Type 0} (marks : List (Mark S)) (far : ℕ) : Type 0 where
  pub reaches : far ≡ reach marks
  pub counted : length marks < 2 ^ 32
