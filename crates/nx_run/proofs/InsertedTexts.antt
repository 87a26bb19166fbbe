-- What the lines of a script insert is text, where the script is.
use Rattle.std.proofs.Common.{◌≡◌, ℕ, ◌+◌, ◌<◌, List, [], ◌∷◌, ◌++◌, length, drop, codes, get_or, IsUtf8, refl, sym, ap, ◌∙◌, subst, inl, inr, arith, append_assoc, length-append}
use Rattle.std.specs.Prelude.{encode_utf8}
use Rattle.std.specs.List.{AllByRecursion, flat_map}
use Rattle.std.specs.Str.Lines.{strip_carriage_return}
use Rattle.std.specs.Str.Parse.{digits_value}
use Rattle.std.proofs.Math.Seq.{take-append_seam, drop-append_seam, get_or-append_seam}
use Rattle.std.proofs.lemmas.Bool.{cases_eq}
use Rattle.std.proofs.lemmas.Str.{IsUtf8-append, IsUtf8-encode, IsUtf8-take, IsUtf8-drop, IsCharBoundary-before_ascii, IsCharBoundary-after_ascii}
use Rattle.nx_script.proofs.Cutting.{strip_carriage_return_some, strip_carriage_return_none}
use Rattle.nx_script.proofs.Printed.{word_text}
use Rattle.nx_script.specs.Grammar.{Piece, Itself, Newline, Tab, Return, Backslash, Quote, Code, IsPiece, spelled, meant, IsInsertLine}
use Rattle.nx_script.specs.Lines.{IsInLines}

-- ---- on both sides of an ASCII byte

drop_behind : (front behind : List ℕ) (b : ℕ) → drop (length front + 1) (front ++ b ∷ behind) ≡ behind
drop_behind front behind b =
    let size : length (front ++ b ∷ []) ≡ length front + 1 = length-append front (b ∷ []) in
    let same : (front ++ b ∷ []) ++ behind ≡ front ++ b ∷ behind = append_assoc front (b ∷ []) behind in
    ap (λ n. drop n (front ++ b ∷ behind)) (sym size) ∙ ap (drop (length (front ++ b ∷ []))) (sym same) ∙ drop-append_seam (front ++ b ∷ []) behind

beside : (front behind : List ℕ) (b : ℕ) → b < 128 → IsUtf8 (front ++ b ∷ behind) → IsUtf8 front × IsUtf8 behind
beside front behind b small utf8 =
    let whole = front ++ b ∷ behind in
    let n = length front in
    let at : get_or whole n 0 ≡ b = get_or-append_seam front b behind 0 in
    let within : n < length whole = omega (arith, length-append front (b ∷ behind)) in
    let low : get_or whole n 0 < 128 = omega (arith, at, small) in (
      subst IsUtf8 (take-append_seam front (b ∷ behind)) (IsUtf8-take whole n utf8 (IsCharBoundary-before_ascii whole n within low)),
      subst IsUtf8 (drop_behind front behind b) (IsUtf8-drop whole (n + 1) utf8 (IsCharBoundary-after_ascii whole n utf8 within low)),
    )

-- ---- a text between quotes

-- the parts beside an escape
beside_escape : (front middle behind : List ℕ) (last : ℕ) → last < 128 → IsUtf8 (front ++ ((92 ∷ middle ++ last ∷ []) ++ behind)) → IsUtf8 front × IsUtf8 behind
beside_escape front middle behind last small utf8 =
    let first = beside front ((middle ++ last ∷ []) ++ behind) 92 (omega arith) utf8 in
    let others : IsUtf8 (middle ++ last ∷ behind) = subst IsUtf8 (append_assoc middle (last ∷ []) behind) first.1 in
    (first.0, (beside middle behind last small others).1)

-- an escape stands for a text
escape_text : (front middle : List ℕ) (last : ℕ) (text behind rest : List ℕ) → last < 128 → IsUtf8 text → (IsUtf8 behind → IsUtf8 rest) →
    IsUtf8 (front ++ ((92 ∷ middle ++ last ∷ []) ++ behind)) → IsUtf8 (front ++ (text ++ rest))
escape_text front middle last text behind rest small is others utf8 =
    let parts = beside_escape front middle behind last small utf8 in
    IsUtf8-append front (text ++ rest) parts.0 (IsUtf8-append text rest is (others parts.1))

-- what pieces mean is text where their spelling is, behind bytes that stand for themselves
meant_text : (front : List ℕ) (pieces : List Piece) → AllByRecursion IsPiece pieces → IsUtf8 (front ++ flat_map spelled pieces) →
    IsUtf8 (front ++ flat_map meant pieces)
meant_text front [] are utf8 = utf8
meant_text front (Itself b ∷ pieces) are utf8 =
    let now : IsUtf8 ((front ++ b ∷ []) ++ flat_map spelled pieces) = subst IsUtf8 (sym (append_assoc front (b ∷ []) (flat_map spelled pieces))) utf8 in
    subst IsUtf8 (append_assoc front (b ∷ []) (flat_map meant pieces)) (meant_text (front ++ b ∷ []) pieces are.1 now)
meant_text front (Newline ∷ pieces) are utf8 =
    escape_text front [] 110 (codes "\n") (flat_map spelled pieces) (flat_map meant pieces) (omega arith) (word_text (codes "\n") refl)
    (λ h. meant_text [] pieces are.1 h) utf8
meant_text front (Tab ∷ pieces) are utf8 =
    escape_text front [] 116 (codes "\t") (flat_map spelled pieces) (flat_map meant pieces) (omega arith) (word_text (codes "\t") refl)
    (λ h. meant_text [] pieces are.1 h) utf8
meant_text front (Return ∷ pieces) are utf8 =
    escape_text front [] 114 (codes "\r") (flat_map spelled pieces) (flat_map meant pieces) (omega arith) (word_text (codes "\r") refl)
    (λ h. meant_text [] pieces are.1 h) utf8
meant_text front (Backslash ∷ pieces) are utf8 =
    escape_text front [] 92 (codes "\\") (flat_map spelled pieces) (flat_map meant pieces) (omega arith) (word_text (codes "\\") refl)
    (λ h. meant_text [] pieces are.1 h) utf8
meant_text front (Quote ∷ pieces) are utf8 =
    escape_text front [] 34 (codes "\"") (flat_map spelled pieces) (flat_map meant pieces) (omega arith) (word_text (codes "\"") refl)
    (λ h. meant_text [] pieces are.1 h) utf8
meant_text front (Code digits ∷ pieces) are utf8 =
    escape_text front (117 ∷ 123 ∷ digits) 125 (encode_utf8 (digits_value 16 digits)) (flat_map spelled pieces) (flat_map meant pieces) (omega arith)
    (IsUtf8-encode (digits_value 16 digits) are.0.2) (λ h. meant_text [] pieces are.1 h) utf8

-- ---- a line that inserts a text

-- two words behind one, each behind a gap
joined_words : (blanks word gap number space text rest : List ℕ) →
    (blanks ++ word) ++ ((gap ++ number) ++ ((space ++ text) ++ rest)) ≡ (((blanks ++ word) ++ (gap ++ number)) ++ space) ++ (text ++ rest)
joined_words blanks word gap number space text rest =
    sym (append_assoc (blanks ++ word) (gap ++ number) ((space ++ text) ++ rest))
    ∙ ap (λ (t : List ℕ). ((blanks ++ word) ++ (gap ++ number)) ++ t) (append_assoc space text rest)
    ∙ sym (append_assoc ((blanks ++ word) ++ (gap ++ number)) space (text ++ rest))

quoted_word : (inner rest : List ℕ) → ((codes "\"" ++ inner) ++ codes "\"") ++ rest ≡ 34 ∷ (inner ++ 34 ∷ rest)
quoted_word inner rest = append_assoc (34 ∷ inner) (34 ∷ []) rest

pub inserted_text : (line : List ℕ) (at : ℕ) (added : List ℕ) → IsUtf8 line → IsInsertLine at added line → IsUtf8 added
inserted_text line at added utf8 (number, text, is_number, (pieces, are, word_is, meant_is), (blanks, behind, line_is, are_blanks, (gap, others, behind_is, is_gap, (space, rest, others_is, is_space, last)))) =
    let inner = flat_map spelled pieces in
    let before = ((blanks ++ codes "insert") ++ (gap ++ number)) ++ space in
    let whole : line ≡ before ++ (34 ∷ (inner ++ 34 ∷ rest)) =
    line_is
    ∙ ap (λ (t : List ℕ). (blanks ++ codes "insert") ++ t) (behind_is ∙ ap (λ (t : List ℕ). (gap ++ number) ++ t) others_is)
    ∙ joined_words blanks (codes "insert") gap number space text rest
    ∙ ap (λ (t : List ℕ). before ++ t) (ap (λ (t : List ℕ). t ++ rest) word_is ∙ quoted_word inner rest) in
    let quoted = (beside before (inner ++ 34 ∷ rest) 34 (omega arith) (subst IsUtf8 whole utf8)).1 in
    let inside : IsUtf8 inner = (beside inner rest 34 (omega arith) quoted).0 in
    subst IsUtf8 (sym meant_is) (meant_text [] pieces are inside)

-- ---- lines

-- the last byte of a list, with what stands in front of it
record HasLast (bytes : List ℕ) : Type 0 where
  front : List ℕ
  last : ℕ
  are : bytes ≡ front ++ last ∷ []

last_of : (b : ℕ) (bytes : List ℕ) → HasLast (b ∷ bytes)
last_of b [] = record { front = []; last = b; are = refl }
last_of b (x ∷ bytes) =
    let others = last_of x bytes in
    record { front = b ∷ others.front; last = others.last; are = ap (λ (t : List ℕ). b ∷ t) others.are }

none_behind : (front : List ℕ) (b : ℕ) → [] ≡ front ++ b ∷ [] → ⊥
none_behind [] b e = cc
none_behind (x ∷ front) b e = cc

same_last : (front other : List ℕ) (b c : ℕ) → front ++ b ∷ [] ≡ other ++ c ∷ [] → b ≡ c
same_last [] [] b c e = cc
same_last [] (x ∷ other) b c e = let rest : [] ≡ other ++ c ∷ [] = cc in absurd (none_behind other c rest)
same_last (x ∷ front) [] b c e = let rest : [] ≡ front ++ b ∷ [] = cc in absurd (none_behind front b rest)
same_last (x ∷ front) (y ∷ other) b c e = let rest : front ++ b ∷ [] ≡ other ++ c ∷ [] = cc in same_last front other b c rest

pub stripped_text : (line : List ℕ) → IsUtf8 line → IsUtf8 (strip_carriage_return line)
stripped_text [] utf8 = subst IsUtf8 (sym (strip_carriage_return_none [] (λ front e. none_behind front 13 e))) utf8
stripped_text (b ∷ bytes) utf8 =
    let line = b ∷ bytes in
    let end = last_of b bytes in
    elim (cases_eq end.last 13) [
      | inl return ↦
          let are : line ≡ end.front ++ 13 ∷ [] = end.are ∙ ap (λ c. end.front ++ c ∷ []) return in
          subst IsUtf8 (sym (strip_carriage_return_some line end.front are)) (beside end.front [] 13 (omega arith) (subst IsUtf8 are utf8)).0
      | inr other ↦
          subst IsUtf8 (sym (strip_carriage_return_none line (λ front e. other (same_last end.front front end.last 13 (sym end.are ∙ e))))) utf8
    ]

pub lines_are_text : (lines : List (List ℕ)) (text : List ℕ) → IsInLines lines text → IsUtf8 text → AllByRecursion IsUtf8 lines
lines_are_text [] text is utf8 = tt
lines_are_text (line ∷ lines) text (none, inl (rest, e, more)) utf8 =
    let parts = beside line rest 10 (omega arith) (subst IsUtf8 e utf8) in
    (parts.0, lines_are_text lines rest more parts.1)
lines_are_text (line ∷ lines) text (none, inr (e, some, last)) utf8 = rw last (subst IsUtf8 e utf8, tt)
