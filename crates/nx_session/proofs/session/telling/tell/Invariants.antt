use Rattle.std.proofs.Common.{◌≡◌, List, ℕ, length}
use Rattle.std.specs.Str.{IsUtf8}
use Rattle.nx_marks.specs.Right.{IsRight}
use Rattle.nx_session.specs.Telling.{Fit}
use Rattle.nx_session.proofs.Telling.{Between}
use Rattle.nx_text.specs.Changing.{AreChanges}
use Rattle.nx_session.proofs.session.telling.tell.Given as goal

abbrev pub invariant-loop-change : goal.invariant-loop-change
invariant-loop-change g l =
    let m = g.A.Machine in
    ((a : _) (text : List ℕ) → IsUtf8 text → AreChanges text l.changes → Fit text l.changes → IsRight (m.is_state a) (m.means a) (m.rules a) text l.fn.marks.kept
    → Between (m.is_state a) (m.means a) (m.rules a) text l.changes l.left l.fn.marks.kept l.marks.kept)
    × (l.marks.taken ≡ l.fn.marks.taken)

abbrev pub decreases-loop-change : goal.decreases-loop-change
decreases-loop-change g l = length l.left
