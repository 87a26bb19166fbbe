use Rattle.std.proofs.Common.{sym, ◌∙◌}
use Rattle.deriv_pattern.proofs.strings.+after_word.Goals as goal

pub returns-then-nullable : goal.returns-then-nullable
returns-then-nullable t c =
    let left = rw c.deref-in-Group.ensures at c.after_word-left-in-Group.ensures in
    let second = rw c.deref-then-nullable-2.ensures at c.after_word-then-nullable.ensures in
    let empty = rw c.deref-in-Group-2.ensures at c.nullable.ensures in
    let whole = rw c.deref-then-nullable.ensures at (c.either_side.ensures _ _ left second) in
    rw c.in-Group.is (rw (sym empty ∙ c.if-nullable.true) whole)

pub returns-else-nullable : goal.returns-else-nullable
returns-else-nullable t c =
    let left = rw c.deref-in-Group.ensures at c.after_word-left-in-Group.ensures in
    let empty = rw c.deref-in-Group-2.ensures at c.nullable.ensures in
    let whole = rw c.deref-else-nullable.ensures at (c.first_side.ensures _ left) in
    rw c.in-Group.is (rw (sym empty ∙ c.if-nullable.false) whole)

pub returns-in-Interleave : goal.returns-in-Interleave
returns-in-Interleave t c =
    let left = rw c.deref-in-Interleave.ensures at c.after_word-left-in-Interleave.ensures in
    let second = rw c.deref-in-Interleave-2.ensures at c.after_word-second.ensures in
    let whole = rw c.deref-in-Interleave-3.ensures at (c.one_of_interleave.ensures _ _ left second) in
    rw c.in-Interleave.is (rw c.deref-in-Interleave-4.ensures at whole)
