-- What a token does to what is kept.
use Rattle.std.specs.Prelude.{ℕ, ◌+◌, ◌-◌, nat_le, true, false, Bool, ◌||◌, List, [], ◌∷◌, ◌++◌, length, if◌then◌else◌}
use Rattle.nx_base.specs.declared.fault.Fault.{Fault}
use Rattle.nx_base.specs.Shifting.{placed}
use Rattle.nx_base.specs.Rules.{Rules, Lexeme}
use Rattle.nx_marks.specs.Tags.{tag_of}
use Rattle.nx_marks.specs.Ruling.{is_due}
use Rattle.nx_marks.specs.Chain.{Kept}
use Rattle.nx_marks.specs.Editing.{split}
use Rattle.nx_marks.specs.Right.{tags_behind}
use Rattle.nx_marks.specs.declared.mark.Mark.{Mark}

-- a mark with a copy of the frontier's state becomes the last of the front, with nothing behind it, and the frontier is no mark
abbrev pub begun : {S : Type 0} → Kept S → S → Kept S
begun k s = record {
  front = k.front ++ record { state = s; len = 0; tags = 0; faults = []; whole = true; saved = true } ∷ [];
  here = k.here;
  marked = false;
  aside = k.aside;
}

-- a segment with one more token, which gives these faults
abbrev pub longer : {S : Type 0} → Mark S → Lexeme → List Fault → Mark S
longer x token more = record {
  state = x.state;
  len = x.len + length token.bytes;
  tags = x.tags + tag_of token.kind;
  faults = x.faults ++ more;
  whole = x.whole;
  saved = x.saved;
}

-- a token is taken, no longer than what lies before the first mark aside: `x` was the last mark of the front, behind `before`;
-- a mark stands behind the token where one is due
abbrev pub took : {S M : Type 0} → (S → M) → Rules M → Kept S → List (Mark S) → Mark S → Lexeme → S → Kept S
took means r k before x token s = record {
  front = before ++ longer x token (placed (x.len - r.back (means k.here.state)) (r.gives (means k.here.state) token)) ∷ [];
  here = record {
    state = s;
    len = k.here.len - length token.bytes;
    tags = k.here.tags;
    faults = k.here.faults;
    whole = k.here.whole;
    saved = k.here.saved;
  };
  marked = is_due r (means s) (x.tags + tag_of token.kind);
  aside = k.aside;
}

-- The frontier is to go n bytes on: the marks aside that lie less than n bytes behind it are let go. `here.len` is the distance to the
-- first of them that is left; it grows by the length of each that goes, and is n where none is left
abbrev pub let_go : {S : Type 0} → ℕ → Mark S → List (Mark S) → Bool → List (Mark S) → Kept S
let_go n here front marked [] = record { front = front; here = record { state = here.state; len = n; tags = here.tags; faults = here.faults; whole = here.whole; saved = here.saved }; marked = marked; aside = [] }
let_go n here front marked (y ∷ ys) =
    if nat_le n here.len then record { front = front; here = here; marked = marked; aside = y ∷ ys }
    else let_go n (record {
      state = here.state;
      len = here.len + y.len;
      tags = here.tags;
      faults = here.faults;
      whole = here.whole;
      saved = here.saved;
    }) front marked ys

-- whether the end of a row that is joined is a mark: it was one, or the frontier was, where the row has no segment, or one is due
abbrev pub marked_behind : {S M : Type 0} → (S → M) → Rules M → Bool → Mark S → List (Mark S) → Bool
marked_behind means r marked end [] = marked || end.saved
marked_behind means r marked end (x ∷ xs) = end.saved || is_due r (means end.state) (tags_behind (x ∷ xs))

-- the first mark aside is at the frontier, in a state that means the same: its row is the front's
abbrev pub join_with : {S M : Type 0} → (S → M) → Rules M → Kept S → Kept S → Kept S
join_with means r k row = record {
  front = k.front ++ row.front;
  here = row.here;
  marked = marked_behind means r k.marked row.here row.front;
  aside = row.aside;
}

abbrev pub row_joined : {S M : Type 0} → (S → M) → Rules M → Kept S → Mark S → List (Mark S) → Kept S
row_joined means r k y ys = join_with means r k (split k.marked y ys)
