-- A text is a list of bytes that is UTF-8. Its places, its edits, and where an edit moves a place.
use Rattle.std.specs.Prelude.{◌≡◌, ℕ, ◌+◌, ◌-◌, ◌^◌, ◌≤◌, min, nat_lt, nat_le, List, [], ◌++◌, length, take, drop, if◌then◌else◌}
use Rattle.std.specs.Str.{IsCharBoundary, IsUtf8}
use Rattle.nx_base.specs.declared.edit.Edit.{Edit}

-- a byte offset of the text, at most its length, that doesn't lie inside a character
abbrev pub IsPlace : List ℕ → ℕ → Type 0
IsPlace text at = IsCharBoundary text at

-- the first `from` bytes, then the added ones, then the text from `to` on
abbrev pub edited : List ℕ → ℕ → ℕ → List ℕ → List ℕ
edited text from to added = take from text ++ added ++ drop to text

-- where an edit moves a place: the first case that holds, and a sum stops at the greatest usize
abbrev pub moved_place : ℕ → Edit → ℕ
moved_place at edit =
    if nat_lt at edit.from then at
    else (if nat_le edit.to at then min (at - (edit.to - edit.from) + edit.added) (2 ^ 64 - 1)
    else edit.from)

-- an edit of a text between two of its places leaves a text
abbrev pub EditedIsUtf8 : Type 0
EditedIsUtf8 = (text added : List ℕ) (from to : ℕ) →
    IsUtf8 text → IsUtf8 added → IsPlace text from → IsPlace text to → IsUtf8 (edited text from to added)

-- an edit leaves what stands before it and behind it
abbrev pub EditedKeepsRest : Type 0
EditedKeepsRest = (text added : List ℕ) (from to at : ℕ) → from ≤ to → to ≤ length text →
    (at ≤ from → take at (edited text from to added) ≡ take at text)
    × (to ≤ at → drop (at - (to - from) + length added) (edited text from to added) ≡ drop at text)

-- what was put in can be taken out again
abbrev pub InsertionIsUndone : Type 0
InsertionIsUndone = (text added : List ℕ) (at : ℕ) → at ≤ length text →
    edited (edited text at at added) at (at + length added) [] ≡ text
