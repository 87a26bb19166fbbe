-- What is kept before the first token.
use Rattle.std.specs.Prelude.{true, false, []}
use Rattle.nx_marks.specs.Chain.{Kept}

-- the first state, as a mark at the start
abbrev pub started : {S : Type 0} → S → Kept S
started state = record {
  front = [];
  here = record { state = state; len = 0; tags = 0; faults = []; whole = false; saved = false };
  marked = true;
  aside = [];
}
