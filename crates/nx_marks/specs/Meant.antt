-- What is kept, with what its states mean in their places.
use Rattle.std.specs.Prelude.{List, [], ◌∷◌}
use Rattle.nx_marks.specs.Chain.{Kept}
use Rattle.nx_marks.specs.declared.mark.Mark.{Mark}

abbrev pub mark_by : {S M : Type 0} → (S → M) → Mark S → Mark M
mark_by means x = record { state = means x.state; len = x.len; tags = x.tags; faults = x.faults; whole = x.whole; saved = x.saved }

abbrev pub marks_by : {S M : Type 0} → (S → M) → List (Mark S) → List (Mark M)
marks_by means [] = []
marks_by means (x ∷ xs) = mark_by means x ∷ marks_by means xs

abbrev pub kept_by : {S M : Type 0} → (S → M) → Kept S → Kept M
kept_by means k = record {
  front = marks_by means k.front;
  here = mark_by means k.here;
  marked = k.marked;
  aside = marks_by means k.aside;
}

-- any meaning is a state of its own
abbrev pub is_any : {M : Type 0} → M → Type 0
is_any m = Unit {0}

-- a meaning means itself
abbrev pub itself : {M : Type 0} → M → M
itself m = m
