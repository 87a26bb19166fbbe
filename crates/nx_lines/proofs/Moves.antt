-- How a cursor's position goes on and back.
use Rattle.std.proofs.Common.{◌≡◌, ◌∙◌, ℕ, zero, suc, ◌+◌, ◌-◌, ◌<◌, ◌≤◌, ◌^◌, Bool, true, false, cond, List, [], ◌∷◌, ◌++◌, length}
use Rattle.std.proofs.Common.{take, drop, get_or, min, refl, sym, ap, arith, ◌⊎◌, inl, inr, append_assoc}
use Rattle.std.specs.Prelude.{◌==◌, not, ◌&&◌, ◌||◌}
use Rattle.std.specs.List.{prefix_len}
use Rattle.std.proofs.lemmas.Bool.{cases_lt}
use Rattle.std.proofs.lemmas.List.Sums.{sum_by-cons}
use Rattle.nx_position.specs.declared.position.Encoding.{Encoding}
use Rattle.nx_position.specs.declared.position.Encoding.TheVariants.{Utf8}
use Rattle.nx_position.specs.declared.position.Position.{Position}
use Rattle.nx_position.specs.Positions.{begins_with_feed, ends_line, is_content, lines_ended, byte_units, units, position_of}
use Rattle.nx_position.proofs.Steps.{go_on, small, shifted, one_in_front}
use Rattle.nx_text.specs.Reading.{StandFrom}
use Rattle.nx_lines.specs.declared.cursor.Cursor.{Cursor}
use Rattle.nx_lines.specs.Cursors.{IsAtPlace, IsHeld}

pub feed_at : (text : List ℕ) (at : ℕ) → get_or text at 0 == 10 ≡ begins_with_feed (drop at text)
feed_at [] zero = refl
feed_at [] (suc at) = refl
feed_at (byte ∷ rest) zero = refl
feed_at (byte ∷ rest) (suc at) = feed_at rest at

abbrev pub Ends : List ℕ → ℕ → Bool → Type 0
Ends text at b = ends_line (get_or text at 0) (drop (at + 1) text) ≡ b

-- a position of any line and column
abbrev pub at_of : ℕ → ℕ → Position
at_of line column = record { line = line; column = column }

-- the step behind a byte that ends a line, is of its content, or is neither
pub behind_end : (e : Encoding) (text : List ℕ) (at : ℕ) (p : Position) → at < length text → p ≡ position_of e text at → Ends text at true
    → at_of (p.line + 1) 0 ≡ position_of e text (at + 1)
behind_end e text at p less is ends =
    let before = position_of e text at in let byte = get_or text at 0 in
    ap (λ (q : Position). at_of (q.line + 1) 0) is
    ∙ sym (ap (λ (b : Bool). cond b (at_of (before.line + 1) 0) (cond (is_content byte) (at_of before.line (before.column + byte_units e byte)) before)) ends)
    ∙ sym ((go_on e text).1 at less)

pub behind_content : (e : Encoding) (text : List ℕ) (at : ℕ) (p : Position) → at < length text → p ≡ position_of e text at → Ends text at false
    → is_content (get_or text at 0) ≡ true → at_of p.line (p.column + byte_units e (get_or text at 0)) ≡ position_of e text (at + 1)
behind_content e text at p less is ends counts =
    let before = position_of e text at in let byte = get_or text at 0 in
    ap (λ (q : Position). at_of q.line (q.column + byte_units e byte)) is
    ∙ sym (ap (λ (b : Bool). cond b (at_of before.line (before.column + byte_units e byte)) before) counts)
    ∙ sym (ap (λ (b : Bool). cond b (at_of (before.line + 1) 0) (cond (is_content byte) (at_of before.line (before.column + byte_units e byte)) before)) ends)
    ∙ sym ((go_on e text).1 at less)

pub behind_return : (e : Encoding) (text : List ℕ) (at : ℕ) → at < length text → Ends text at false → is_content (get_or text at 0) ≡ false
    → position_of e text at ≡ position_of e text (at + 1)
behind_return e text at less ends counts =
    let before = position_of e text at in let byte = get_or text at 0 in
    sym (ap (λ (b : Bool). cond b (at_of before.line (before.column + byte_units e byte)) before) counts)
    ∙ sym (ap (λ (b : Bool). cond b (at_of (before.line + 1) 0) (cond (is_content byte) (at_of before.line (before.column + byte_units e byte)) before)) ends)
    ∙ sym ((go_on e text).1 at less)

-- lines and columns fit
pub few_lines : (e : Encoding) (text : List ℕ) (at : ℕ) (p : Position) → IsHeld text → at < length text → p ≡ position_of e text at → p.line + 1 < 2 ^ 64
few_lines e text at p held less is =
    let few = (small e text at held.utf8).0 in let line = ap (λ (q : Position). q.line) is in let fits = held.fits in omega (arith, few, line)

pub few_columns : (e : Encoding) (text : List ℕ) (at : ℕ) (p : Position) → IsHeld text → p ≡ position_of e text at → p.column < 2 ^ 64
few_columns e text at p held is =
    let few = (small e text at held.utf8).1 in let column = ap (λ (q : Position). q.column) is in let fits = held.fits in omega (arith, few, column)

pub few_behind : (e : Encoding) (text : List ℕ) (at : ℕ) (p : Position) → IsHeld text → at < length text → p ≡ position_of e text at → Ends text at false
    → is_content (get_or text at 0) ≡ true → p.column + byte_units e (get_or text at 0) < 2 ^ 64
few_behind e text at p held less is ends counts =
    few_columns e text (at + 1) (at_of p.line (p.column + byte_units e (get_or text at 0))) held (behind_content e text at p less is ends counts)

-- the step back over a byte of content
pub wide_enough : (e : Encoding) (text : List ℕ) (at : ℕ) (p : Position) → at < length text → p ≡ position_of e text (at + 1) → Ends text at false
    → is_content (get_or text at 0) ≡ true → byte_units e (get_or text at 0) ≤ p.column
wide_enough e text at p less is ends counts =
    let column = ap (λ (q : Position). q.column) (behind_content e text at (position_of e text at) less refl ends counts ∙ sym is) in omega (arith, column)

pub in_front_of_content : (e : Encoding) (text : List ℕ) (at : ℕ) (p : Position) → at < length text → p ≡ position_of e text (at + 1) → Ends text at false
    → is_content (get_or text at 0) ≡ true → at_of p.line (p.column - byte_units e (get_or text at 0)) ≡ position_of e text at
in_front_of_content e text at p less is ends counts =
    let before = position_of e text at in let wide = byte_units e (get_or text at 0) in
    let same : p ≡ at_of before.line (before.column + wide) = is ∙ sym (behind_content e text at before less refl ends counts) in
    let column : before.column + wide - wide ≡ before.column = omega arith in
    ap (λ (q : Position). at_of q.line (q.column - wide)) same ∙ ap (at_of before.line) column

-- no line ends with this byte
pub same_lines : (text : List ℕ) (at : ℕ) → at < length text → Ends text at false → lines_ended at text ≡ lines_ended (at + 1) text
same_lines text at less ends = by (is_content (get_or text at 0)) refl
  where
    by : (b : Bool) → is_content (get_or text at 0) ≡ b → lines_ended at text ≡ lines_ended (at + 1) text
    by true counts = ap (λ (q : Position). q.line) (behind_content Utf8 text at (position_of Utf8 text at) less refl ends counts)
    by false counts = ap (λ (q : Position). q.line) (behind_return Utf8 text at less ends counts)

-- a line begins behind a line's end
pub line_begins : (e : Encoding) (text : List ℕ) (at line : ℕ) → at < length text → Ends text at true → lines_ended (at + 1) text ≡ line
    → position_of e text (at + 1) ≡ at_of line 0
line_begins e text at line less ends is =
    let begins : at_of (lines_ended at text + 1) 0 ≡ position_of e text (at + 1) = behind_end e text at (position_of e text at) less refl ends in
    sym begins ∙ ap (λ (l : ℕ). at_of l 0) (ap (λ (q : Position). q.line) begins ∙ is)

-- the line in front of a line's end is the one before
pub line_in_front : (e : Encoding) (text : List ℕ) (at : ℕ) (p : Position) → at < length text → p ≡ position_of e text (at + 1) → Ends text at true
    → p.line ≡ lines_ended at text + 1
line_in_front e text at p less is ends =
    ap (λ (q : Position). q.line) (is ∙ sym (behind_end e text at (position_of e text at) less refl ends))

-- a byte of content ends no line
in_line : (byte : ℕ) (rest : List ℕ) → is_content byte ≡ true → ends_line byte rest ≡ false
in_line byte rest = by (byte == 10) (byte == 13)
  where
    by : (a b : Bool) → not (a || b) ≡ true → (a || (b && not (begins_with_feed rest))) ≡ false
    by true b is = cc
    by false true is = cc
    by false false is = refl

head_of : (text : List ℕ) (at x : ℕ) (rest : List ℕ) → drop at text ≡ x ∷ rest → (at < length text) × (get_or text at 0 ≡ x) × (drop (at + 1) text ≡ rest)
head_of [] zero x rest is = absurd (let none : [] ≡ x ∷ rest = is in cc)
head_of [] (suc at) x rest is = absurd (let none : [] ≡ x ∷ rest = is in cc)
head_of (byte ∷ text) zero x rest is =
    let same : byte ∷ text ≡ x ∷ rest = is in
    (omega arith, cc, (let same : text ≡ rest = cc in same))
head_of (byte ∷ text) (suc at) x rest is =
    let more = head_of text at x rest is in
    let next : suc at + 1 ≡ suc (at + 1) = omega arith in
    ((let less = more.0 in omega arith), more.1, ap (λ (n : ℕ). drop n (byte ∷ text)) next ∙ more.2)

-- a line's content at the front of what stands at a place is passed at once
pub passed : (e : Encoding) (text : List ℕ) (at : ℕ) (piece more : List ℕ) → drop at text ≡ piece ++ more
    → at_of (position_of e text at).line ((position_of e text at).column + units e (take (prefix_len is_content piece) piece))
    ≡ position_of e text (at + prefix_len is_content piece)
passed e text at [] more is =
    let here : at + 0 ≡ at = omega arith in
    let none : (position_of e text at).column + 0 ≡ (position_of e text at).column = omega arith in
    ap (at_of (position_of e text at).line) none ∙ sym (ap (position_of e text) here)
passed e text at (x ∷ piece) more is = by (is_content x) refl (passed e text (at + 1) piece more)
  where
    by : (b : Bool) → is_content x ≡ b
        → (drop (at + 1) text ≡ piece ++ more → at_of (position_of e text (at + 1)).line ((position_of e text (at + 1)).column + units e (take (prefix_len is_content piece) piece))
        ≡ position_of e text (at + 1 + prefix_len is_content piece))
        → at_of (position_of e text at).line ((position_of e text at).column + units e (take (cond b (1 + prefix_len is_content piece) 0) (x ∷ piece)))
        ≡ position_of e text (at + cond b (1 + prefix_len is_content piece) 0)
    by true counts on =
        let head = head_of text at x (piece ++ more) is in
        let before = position_of e text at in
        let n = prefix_len is_content piece in
        let ends : Ends text at false = in_line (get_or text at 0) (drop (at + 1) text) (ap is_content head.1 ∙ counts) in
        let step : at_of before.line (before.column + byte_units e (get_or text at 0)) ≡ position_of e text (at + 1) =
        behind_content e text at before head.0 refl ends (ap is_content head.1 ∙ counts) in
        let one : 1 + n ≡ suc n = omega arith in
        let sum : units e (x ∷ take n piece) ≡ byte_units e x + units e (take n piece) = sum_by-cons (byte_units e) x (take n piece) in
        let line = ap (λ (q : Position). q.line) step in
        let there : at + 1 + n ≡ at + (1 + n) = omega arith in
        let wide : before.column + units e (take (1 + n) (x ∷ piece)) ≡ (position_of e text (at + 1)).column + units e (take n piece) =
        ap (λ (m : ℕ). before.column + units e (take m (x ∷ piece))) one ∙ (let told = ap (λ (q : Position). q.column) step in let same = ap (byte_units e) head.1 in omega (arith, sum, told, same)) in
        ap (λ (c : ℕ). at_of before.line c) wide
        ∙ ap (λ (l : ℕ). at_of l ((position_of e text (at + 1)).column + units e (take n piece))) line
        ∙ on head.2
        ∙ ap (position_of e text) there
    by false counts on =
        let here : at + 0 ≡ at = omega arith in
        let none : (position_of e text at).column + 0 ≡ (position_of e text at).column = omega arith in
        ap (at_of (position_of e text at).line) none ∙ sym (ap (position_of e text) here)

-- as far as it lies in one piece
pub passed_near : (e : Encoding) (text : List ℕ) (at most : ℕ) (piece : List ℕ) (p : Position) → StandFrom text at piece → p ≡ position_of e text at
    → at_of p.line (p.column + units e (take (prefix_len is_content (take most piece)) (take most piece)))
    ≡ position_of e text (at + prefix_len is_content (take most piece))
passed_near e text at most piece p stands is =
    ap (λ (q : Position). at_of q.line (q.column + units e (take (prefix_len is_content (take most piece)) (take most piece)))) is
    ∙ passed e text at (take most piece) (drop most piece ++ stands.rest)
    (stands.whole ∙ ap (λ (t : List ℕ). t ++ stands.rest) (sym (parted most piece)) ∙ append_assoc (take most piece) (drop most piece) stands.rest)
  where
    parted : (n : ℕ) (xs : List ℕ) → take n xs ++ drop n xs ≡ xs
    parted zero xs = refl
    parted (suc n) [] = refl
    parted (suc n) (x ∷ xs) = ap (λ (t : List ℕ). x ∷ t) (parted n xs)

-- behind the end is the end
pub past : (e : Encoding) (text : List ℕ) (at : ℕ) → length text ≤ at → position_of e text at ≡ position_of e text (length text)
past e [] at le =
    ap (λ (c : ℕ). at_of (lines_ended at []) c) (nothing at ∙ sym (nothing 0)) ∙ ap (λ (l : ℕ). at_of l (position_of e [] 0).column) (no_lines at)
  where
    empty : (m : ℕ) → units e (take m []) ≡ 0
    empty zero = refl
    empty (suc m) = refl

    nothing : (n : ℕ) → (position_of e [] n).column ≡ 0
    nothing zero = empty 0
    nothing (suc n) = empty (suc n - 0)

    no_lines : (n : ℕ) → lines_ended n [] ≡ 0
    no_lines zero = refl
    no_lines (suc n) = refl
past e (byte ∷ rest) zero le = absurd (omega arith)
past e (byte ∷ rest) (suc at) le =
    one_in_front e byte at rest ∙ ap (shifted e byte rest) (past e rest at (omega arith)) ∙ sym (one_in_front e byte (length rest) rest)

pub up_to_end : (e : Encoding) (text : List ℕ) (at most : ℕ) → most ≡ min at (length text) → position_of e text most ≡ position_of e text at
up_to_end e text at most is = by (cases_lt at (length text))
  where
    by : (at < length text) ⊎ (length text ≤ at) → position_of e text most ≡ position_of e text at
    by (inl le) = (let same : most ≡ at = omega (arith, is) in ap (position_of e text) same)
    by (inr le) = (let same : most ≡ length text = omega (arith, is) in ap (position_of e text) same ∙ sym (past e text at le))

pub passed_there : (e : Encoding) (text : List ℕ) (at most len : ℕ) (piece : List ℕ) (p : Position) → StandFrom text at piece → p ≡ position_of e text at
    → len ≡ prefix_len is_content (take most piece) → at_of p.line (p.column + units e (take len (take most piece))) ≡ position_of e text (at + len)
passed_there e text at most len piece p stands is told =
    ap (λ (n : ℕ). at_of p.line (p.column + units e (take n (take most piece)))) told
    ∙ passed_near e text at most piece p stands is ∙ sym (ap (λ (n : ℕ). position_of e text (at + n)) told)

pub passed_few : (e : Encoding) (text : List ℕ) (at most len : ℕ) (piece : List ℕ) (p : Position) → IsHeld text → StandFrom text at piece → p ≡ position_of e text at
    → len ≡ prefix_len is_content (take most piece) → p.column + units e (take len (take most piece)) < 2 ^ 64
passed_few e text at most len piece p held stands is told =
    few_columns e text (at + len) (at_of p.line (p.column + units e (take len (take most piece)))) held (passed_there e text at most len piece p stands is told)

pub moved : (e : Encoding) (text : List ℕ) (at to : ℕ) (cursor : Cursor) → IsAtPlace text cursor → cursor.encoding ≡ e → cursor.at ≡ to → to ≡ min at (length text)
    → cursor.position ≡ position_of e text at
moved e text at to cursor place encoding there far =
    place.position ∙ ap (λ (e : Encoding). position_of e text cursor.at) encoding ∙ up_to_end e text at cursor.at (there ∙ far)
