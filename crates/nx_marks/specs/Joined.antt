-- Where all that is aside is joined.
use Rattle.std.specs.Prelude.{Bool, true, false, List, [], ◌∷◌, ◌++◌}
use Rattle.nx_marks.specs.Chain.{Kept}
use Rattle.nx_marks.specs.declared.mark.Mark.{Mark}

-- the last of these marks
abbrev pub last : {S : Type 0} → Mark S → List (Mark S) → Mark S
last x [] = x
last x (y ∷ ys) = last y ys

-- all of them but the last
abbrev pub but_last : {S : Type 0} → Mark S → List (Mark S) → List (Mark S)
but_last x [] = []
but_last x (y ∷ ys) = x ∷ but_last y ys

-- what is kept, where the frontier is at the last mark of all if `joined`
abbrev pub seen : {S : Type 0} → Bool → Kept S → Kept S
seen false k = k
seen true k = record {
  front = k.front ++ but_last k.here k.aside;
  here = last k.here k.aside;
  marked = k.marked;
  aside = [];
}
