-- The first line of a text, and the lines of the rest.
use Rattle.std.proofs.Common.{◌≡◌, ◌≢◌, ℕ, zero, suc, ◌+◌, ◌-◌, ◌<◌, Bool, true, false, eqb, List, [], ◌∷◌, ◌++◌, length, get_or, take, map, Option, Some, None, MatchOption, unwrap_or, refl, sym, ap, subst, ◌∙◌, arith, inl, inr}
use Rattle.std.specs.List.{slice_split, onto_first, All, Contains}
use Rattle.std.specs.Str.Lines.{strip_carriage_return}
use Rattle.std.proofs.lemmas.List.{length-append, get_or_at, take_at, take_all, take_more, get_or_default}
use Rattle.std.proofs.lemmas.Bool.{eqb-true, eqb-false, ne_eqb, cases_Bool}
use Rattle.std.proofs.lemmas.List.Splits.{slice_split_at, slice_split_none, length-slice_split, slice_split-cons_yes, slice_split-cons_no}
use denote.Ref.{Bor}
use Rattle.nx_script.specs.Lines.{without_empty_last, raw_lines_of, lines_of, IsInLines, RawLinesAreTheLines}

-- a line in front of other parts is a line
without_empty_last-cons : (part : List ℕ) (parts : List (List ℕ)) → 0 < length parts → without_empty_last (part ∷ parts) ≡ part ∷ without_empty_last parts
without_empty_last-cons part [] some = absurd (omega arith)
without_empty_last-cons part (next ∷ parts) some = refl

no_newline : (text : List ℕ) → ((i : ℕ) → i < length text → get_or text i 0 ≢ 10) → All (λ b. eqb b 10 ≡ false) text
no_newline text none k d lt = rw (get_or_default text k d 0 lt) (ne_eqb _ 10 (none k lt))

no_newline_from : (text : List ℕ) → ¬ (Contains text 10) → (i : ℕ) → i < length text → get_or text i 0 ≢ 10
no_newline_from text none i lt e = none (i, lt, get_or_default text i 10 0 lt ∙ e)

-- the first of several lines
raw_lines_of_first : (line rest : List ℕ) → ((i : ℕ) → i < length line → get_or line i 0 ≢ 10) → raw_lines_of (line ++ 10 ∷ rest) ≡ line ∷ raw_lines_of rest
raw_lines_of_first line rest none =
    let parts = slice_split (λ b. eqb b 10) rest in
    let some : 0 < length parts = omega (arith, length-slice_split (λ b. eqb b 10) rest) in
    rw (slice_split_at (λ b. eqb b 10) line 10 rest (no_newline line none) refl) (without_empty_last-cons line parts some)

pub lines_of_first : (line rest : List ℕ) → ((i : ℕ) → i < length line → get_or line i 0 ≢ 10) → lines_of (line ++ 10 ∷ rest) ≡ strip_carriage_return line ∷ lines_of rest
lines_of_first line rest none = ap (map strip_carriage_return) (raw_lines_of_first line rest none)

-- the only line
raw_lines_of_only : (line : List ℕ) → ((i : ℕ) → i < length line → get_or line i 0 ≢ 10) → 0 < length line → raw_lines_of line ≡ line ∷ []
raw_lines_of_only [] none some = absurd (omega arith)
raw_lines_of_only (b ∷ line) none some = ap without_empty_last (slice_split_none (λ b. eqb b 10) (b ∷ line) (no_newline (b ∷ line) none))

pub lines_of_only : (line : List ℕ) → ((i : ℕ) → i < length line → get_or line i 0 ≢ 10) → 0 < length line → lines_of line ≡ strip_carriage_return line ∷ []
lines_of_only line none some = ap (map strip_carriage_return) (raw_lines_of_only line none some)

-- a line that ends in CR is what stands in front of it
pub strip_carriage_return_some : (line front : List ℕ) → line ≡ front ++ 13 ∷ [] → strip_carriage_return line ≡ front
strip_carriage_return_some line front e =
    let last : length (front ++ 13 ∷ []) - 1 ≡ length front = omega (arith, length-append front (13 ∷ [])) in
    rw (e, last, get_or_at front 13 [] 0 (length front) refl, take_at front (13 ∷ []) (length front) refl) refl

ends_in_cr : (line : List ℕ) → ((front : List ℕ) → line ≢ front ++ 13 ∷ []) → get_or line (length line - 1) 0 ≢ 13
ends_in_cr [] none e = absurd (cc)
ends_in_cr (b ∷ bs) none e =
    let line = b ∷ bs in
    let whole : line ≡ take (length line - 1) line ++ get_or line (length line - 1) 0 ∷ [] = sym (take_all (length line - 1 + 1) line (omega arith)) ∙ take_more line (length line - 1) 0 (omega arith) in
    none (take (length line - 1) line) (whole ∙ ap (λ c. take (length line - 1) line ++ c ∷ []) e)

-- any other line stays
pub strip_carriage_return_none : (line : List ℕ) → ((front : List ℕ) → line ≢ front ++ 13 ∷ []) → strip_carriage_return line ≡ line
strip_carriage_return_none line none =
    elim (cases_Bool (eqb (get_or line (length line - 1) 0) 13)) [
      | inl same ↦ absurd (ends_in_cr line none (eqb-true _ 13 same))
      | inr other ↦ rw other refl
    ]

-- what `strip_suffix` gives, or the line itself
pub without_cr_is : (line : List ℕ) (r : Option (Bor (List ℕ))) → MatchOption r ((front : List ℕ) → line ≢ front ++ 13 ∷ []) (λ x. line ≡ x.now ++ 13 ∷ []) → (same : Bor (List ℕ)) → same.now ≡ line → (unwrap_or r same).now ≡ strip_carriage_return line
without_cr_is line None h same e = e ∙ sym (strip_carriage_return_none line h)
without_cr_is line (Some x) h same e = sym (strip_carriage_return_some line x.now h)

-- ---- the lines that a text is in

not_in_nil : ¬ (Contains {X = ℕ} [] 10)
not_in_nil (k, lt, e) = absurd (omega arith)

not_in_cons : (c : ℕ) (line : List ℕ) → c ≢ 10 → ¬ (Contains line 10) → ¬ (Contains (c ∷ line) 10)
not_in_cons c line other none (zero, lt, e) = other e
not_in_cons c line other none (suc k, lt, e) = none (k, omega arith, e)

-- one more byte in front of the first line
longer_first : (c : ℕ) (line : List ℕ) (lines : List (List ℕ)) (text : List ℕ) → c ≢ 10 → IsInLines (line ∷ lines) text → IsInLines ((c ∷ line) ∷ lines) (c ∷ text)
longer_first c line lines text other (none, inl (rest, e, more)) = (not_in_cons c line other none, inl (rest, ap (λ t. c ∷ t) e, more))
longer_first c line lines text other (none, inr (e, some, last)) = (not_in_cons c line other none, inr (ap (λ t. c ∷ t) e, (λ h. absurd (cc)), last))

-- the parts of a text are its lines
parts_in_lines : (c : ℕ) (part : List ℕ) (parts : List (List ℕ)) (text : List ℕ) → c ≢ 10 → IsInLines (without_empty_last (part ∷ parts)) text → IsInLines (without_empty_last ((c ∷ part) ∷ parts)) (c ∷ text)
parts_in_lines c [] [] text other h = rw h (not_in_cons c [] other not_in_nil, inr (refl, (λ e. absurd (cc)), refl))
parts_in_lines c (b ∷ part) [] text other h = longer_first c (b ∷ part) [] text other h
parts_in_lines c part (next ∷ parts) text other h = longer_first c part (without_empty_last (next ∷ parts)) text other h

onto_first_in_lines : (c : ℕ) (parts : List (List ℕ)) (text : List ℕ) → c ≢ 10 → 0 < length parts → IsInLines (without_empty_last parts) text → IsInLines (without_empty_last (onto_first c parts)) (c ∷ text)
onto_first_in_lines c [] text other some h = absurd (omega arith)
onto_first_in_lines c (part ∷ parts) text other some h = parts_in_lines c part parts text other h

-- one more byte in front of a text, which is an LF or not
raw_lines_in_cons : (c : ℕ) (text : List ℕ) (newline : Bool) → eqb c 10 ≡ newline → IsInLines (raw_lines_of text) text → IsInLines (raw_lines_of (c ∷ text)) (c ∷ text)
raw_lines_in_cons c text true test h =
    let p = λ (b : ℕ). eqb b 10 in
    let first : raw_lines_of (c ∷ text) ≡ [] ∷ raw_lines_of text = ap without_empty_last (slice_split-cons_yes p c text test) ∙ without_empty_last-cons [] (slice_split p text) (omega (arith, length-slice_split p text)) in
    subst (λ ls. IsInLines ls (c ∷ text)) (sym first) (not_in_nil, inl (text, ap (λ b. b ∷ text) (eqb-true c 10 test), h))
raw_lines_in_cons c text false test h =
    let p = λ (b : ℕ). eqb b 10 in
    subst (λ parts. IsInLines (without_empty_last parts) (c ∷ text)) (sym (slice_split-cons_no p c text test))
    (onto_first_in_lines c (slice_split p text) text (eqb-false c 10 test) (omega (arith, length-slice_split p text)) h)

raw_lines_in : (text : List ℕ) → IsInLines (raw_lines_of text) text
raw_lines_in [] = refl
raw_lines_in (c ∷ text) = raw_lines_in_cons c text (eqb c 10) refl (raw_lines_in text)

length_some : (line : List ℕ) → line ≢ [] → 0 < length line
length_some [] some = absurd (some refl)
length_some (b ∷ bs) some = omega arith

lines_are_raw : (lines : List (List ℕ)) (text : List ℕ) → IsInLines lines text → lines ≡ raw_lines_of text
lines_are_raw [] text h = rw h refl
lines_are_raw (line ∷ lines) text (none, inl (rest, e, more)) = rw (e, raw_lines_of_first line rest (no_newline_from line none)) (ap (λ ls. line ∷ ls) (lines_are_raw lines rest more))
lines_are_raw (line ∷ lines) text (none, inr (e, some, last)) = rw (e, last) (sym (raw_lines_of_only line (no_newline_from line none) (length_some line some)))

pub raw_lines_are_the_lines : RawLinesAreTheLines
raw_lines_are_the_lines text lines = (lines_are_raw lines text, λ e. subst (λ ls. IsInLines ls text) (sym e) (raw_lines_in text))
