-- The lines of a script.
use Rattle.std.specs.Prelude.{◌≡◌, ◌≢◌, ℕ, List, [], ◌∷◌, ◌++◌, map, ◌==◌, ◌⊎◌, ◌↔◌}
use Rattle.std.specs.List.{slice_split, Contains}
use Rattle.std.specs.Str.Lines.{strip_carriage_return}

-- what stands behind the last LF is a line, unless it is empty
abbrev pub last_line : List ℕ → List (List ℕ)
last_line [] = []
last_line (byte ∷ bytes) = (byte ∷ bytes) ∷ []

-- the parts between LFs, of which an empty last one is no line
abbrev pub without_empty_last : List (List ℕ) → List (List ℕ)
without_empty_last [] = []
without_empty_last (part ∷ []) = last_line part
without_empty_last (part ∷ next ∷ parts) = part ∷ without_empty_last (next ∷ parts)

-- the lines with their CRs: a line ends at LF or at the end of the text
abbrev pub raw_lines_of : List ℕ → List (List ℕ)
raw_lines_of text = without_empty_last (slice_split (λ b. b == 10) text)

-- the lines: one CR at a line's end is dropped
abbrev pub lines_of : List ℕ → List (List ℕ)
lines_of text = map strip_carriage_return (raw_lines_of text)

-- the text is these lines, which hold no LF, with an LF behind each; behind the last it may be missing,
-- unless that line is empty
abbrev pub IsInLines : List (List ℕ) → List ℕ → Type 0
IsInLines [] text = text ≡ []
IsInLines (line ∷ lines) text = ¬ (Contains line 10)
    × (((rest : List ℕ) × (text ≡ line ++ 10 ∷ rest) × IsInLines lines rest)
    ⊎ ((text ≡ line) × (line ≢ []) × (lines ≡ [])))

-- the raw lines are those lines that the text is in, and there are no others
abbrev pub RawLinesAreTheLines : Type 0
RawLinesAreTheLines = (text : List ℕ) (lines : List (List ℕ)) → IsInLines lines text ↔ (lines ≡ raw_lines_of text)
