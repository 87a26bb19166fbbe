-- Where lines begin, and what stands in front of a column.
use Rattle.std.proofs.Common.{◌≡◌, ◌∙◌, ◌⊎◌, ℕ, zero, suc, ◌+◌, ◌-◌, ◌<◌, ◌≤◌, Bool, true, false, cond, not, ◌&&◌, ◌||◌, List, [], ◌∷◌, ◌++◌, length}
use Rattle.std.proofs.Common.{take, drop, get_or, refl, sym, ap, subst, inl, inr, arith, length-append, get_or-take, get_or-append-add, drop-cons, append_assoc, not-suc-le-zero, true≢false, eqb-true}
use Rattle.std.specs.Prelude.{◌==◌, nat_lt}
use Rattle.std.specs.List.{prefix_len}
use Rattle.std.specs.Str.{IsUtf8}
use Rattle.std.proofs.lemmas.Bool.{cases_lt, ltb-false, ltb-true, le-ltb, lt-ltb}
use Rattle.std.proofs.lemmas.List.Folds.{length-prefix_len}
use Rattle.std.proofs.lemmas.List.Sums.{prefix_len-le-length, sum_by-cons, sum_by-append, sum_by-take-le}
use Rattle.nx_position.specs.declared.position.Encoding.{Encoding}
use Rattle.nx_position.specs.Positions.{begins_with_feed, ends_line, behind_line, from_line, lines_ended, is_content, content, byte_units, units, bytes_to}
use Rattle.nx_position.specs.Positions.{line_start, offset_of, SplitsLineEnd, ColumnsAreReached, PlacesLeadBack, PositionsLeadToPlaces}
use Rattle.nx_position.proofs.CodeUnits.{begins, is_first, few_units}

-- what stands behind a line stands at the text's end
pub tail : (text : List ℕ) → (front : List ℕ) × (text ≡ front ++ behind_line text)
tail [] = ([], refl)
tail (byte ∷ rest) = by (ends_line byte rest) (tail rest)
  where
    by : (b : Bool) → (front : List ℕ) × (rest ≡ front ++ behind_line rest)
        → (front : List ℕ) × (byte ∷ rest ≡ front ++ cond b rest (behind_line rest))
    by true behind = (byte ∷ [], refl)
    by false behind = (byte ∷ behind.0, ap (λ (t : List ℕ). byte ∷ t) behind.1)

-- so does what stands from a line on
pub lines_tail : (line : ℕ) (text : List ℕ) → (front : List ℕ) × (text ≡ front ++ from_line line text)
lines_tail zero text = ([], refl)
lines_tail (suc line) text =
    let one = tail text in let more = lines_tail line (behind_line text) in
    (one.0 ++ more.0, one.1 ∙ ap (λ (t : List ℕ). one.0 ++ t) more.1 ∙ sym (append_assoc one.0 more.0 (from_line line (behind_line text))))

-- no line stands in nothing
pub from_line-nil : (line : ℕ) → from_line line [] ≡ []
from_line-nil zero = refl
from_line-nil (suc line) = from_line-nil line

pub none_left : (lines : ℕ) (left whole : List ℕ) → length left ≡ 0 → from_line lines left ≡ whole → left ≡ whole
none_left lines [] whole none is = sym (from_line-nil lines) ∙ is
none_left lines (byte ∷ rest) whole none is = absurd (omega (arith, none))

-- one byte more is told of
pub one_told : (text : List ℕ) (at i : ℕ) → i < at → i < length text → lines_ended (at - i) (drop i text)
    ≡ cond (ends_line (get_or text i 0) (drop (i + 1) text)) 1 0 + lines_ended (at - (i + 1)) (drop (i + 1) text)
one_told text at i less within =
    let left : at - i ≡ suc (at - (i + 1)) = omega arith in
    let next : suc i ≡ i + 1 = omega arith in
    let head : drop i text ≡ get_or text i 0 ∷ drop (i + 1) text = drop-cons text i 0 within ∙ ap (λ (n : ℕ). get_or text i 0 ∷ drop n text) next in
    ap (λ (n : ℕ). lines_ended n (drop i text)) left ∙ ap (lines_ended (suc (at - (i + 1)))) head
    ∙ summed (ends_line (get_or text i 0) (drop (i + 1) text)) (lines_ended (at - (i + 1)) (drop (i + 1) text))
  where
    summed : (b : Bool) (n : ℕ) → cond b (suc n) n ≡ cond b 1 0 + n
    summed true n = omega arith
    summed false n = omega arith

-- what stands in a line takes no more code units than the text has bytes
pub few_in_line : (e : Encoding) (text : List ℕ) (line most at : ℕ) → IsUtf8 text →
    units e (take at (take most (from_line line text))) ≤ length text
few_in_line e text line most at u =
    let front = lines_tail line text in
    let few = few_units e text u in
    let sum : units e text ≡ units e front.0 + units e (from_line line text) =
    ap (units e) front.1 ∙ sum_by-append (byte_units e) front.0 (from_line line text) in
    let shorter = sum_by-take-le (byte_units e) (take most (from_line line text)) at in
    let short = sum_by-take-le (byte_units e) (from_line line text) most in
    omega (arith, few, sum, shorter, short)

-- the line of a place, with what stands in front of it, and how far the place is in it
pub record StandsIn (text : List ℕ) (at line : ℕ) : Type 0 where
  pub front : List ℕ
  pub far : ℕ
  pub whole : text ≡ front ++ from_line line text
  pub place : length front + far ≡ at
  pub inside : far ≤ prefix_len is_content (from_line line text)

behind_end : (byte : ℕ) (rest : List ℕ) (at line : ℕ) → ends_line byte rest ≡ true → StandsIn rest at line → StandsIn (byte ∷ rest) (suc at) (suc line)
behind_end byte rest at line is in_rest =
    let same : from_line (suc line) (byte ∷ rest) ≡ from_line line rest = ap (λ (b : Bool). from_line line (cond b rest (behind_line rest))) is in
    record {
      front = byte ∷ in_rest.front;
      far = in_rest.far;
      whole = ap (λ (t : List ℕ). byte ∷ t) in_rest.whole ∙ ap (λ (t : List ℕ). byte ∷ (in_rest.front ++ t)) (sym same);
      place = (let place = in_rest.place in omega arith);
      inside = subst (λ (t : List ℕ). in_rest.far ≤ prefix_len is_content t) (sym same) in_rest.inside;
    }

no_front : (front rest : List ℕ) → rest ≡ front ++ rest → length front ≡ 0
no_front front rest is = (let sum = ap length is ∙ length-append front rest in omega (arith, sum))

-- a byte that ends no line and isn't of its content is a carriage return in front of a line feed
pub is_split : (byte : ℕ) (rest : List ℕ) → ends_line byte rest ≡ false → is_content byte ≡ false → (byte ≡ 13) × (begins_with_feed rest ≡ true)
is_split byte rest other none = by (byte == 10) (byte == 13) (begins_with_feed rest) refl refl refl
  where
    by : (a b c : Bool) → byte == 10 ≡ a → byte == 13 ≡ b → begins_with_feed rest ≡ c → (byte ≡ 13) × (begins_with_feed rest ≡ true)
    by true b c x y z = absurd (true≢false (sym (ap (λ (t : Bool). t || ((byte == 13) && not (begins_with_feed rest))) x) ∙ other))
    by false true true x y z = (eqb-true byte 13 y, z)
    by false true false x y z =
        absurd (true≢false (sym (ap (λ (t : Bool). t || ((byte == 13) && not (begins_with_feed rest))) x ∙ ap (λ (t : Bool). t && not (begins_with_feed rest)) y ∙ ap not z) ∙ other))
    by false false c x y z = absurd (true≢false (sym (ap (λ (t : Bool). not (t || (byte == 13))) x ∙ ap not y) ∙ none))

with_feed : (rest : List ℕ) → begins_with_feed rest ≡ true → (behind : List ℕ) × (rest ≡ 10 ∷ behind)
with_feed [] is = absurd (true≢false (sym is))
with_feed (byte ∷ rest) is = (rest, ap (λ (b : ℕ). b ∷ rest) (eqb-true byte 10 is))

pub none_behind : (rest : List ℕ) → begins_with_feed rest ≡ true → prefix_len is_content rest ≡ 0
none_behind rest is = let feed = with_feed rest is in rw feed.1 refl

same_line : (byte : ℕ) (rest : List ℕ) (at line : ℕ) → ends_line byte rest ≡ false → StandsIn rest at line → (¬ SplitsLineEnd (byte ∷ rest) (suc at))
    → StandsIn (byte ∷ rest) (suc at) line
same_line byte rest at zero is in_rest whole_end =
    let none = no_front in_rest.front rest in_rest.whole in
    let far : in_rest.far ≡ at = (let place = in_rest.place in omega arith) in
    by (is_content byte) refl none far
  where
    by : (b : Bool) → is_content byte ≡ b → length in_rest.front ≡ 0 → in_rest.far ≡ at → StandsIn (byte ∷ rest) (suc at) zero
    by true good none far = record {
      front = [];
      far = suc at;
      whole = refl;
      place = omega arith;
      inside = rw good (let inside = in_rest.inside in omega arith);
    }
    by false bad none far =
        let split = is_split byte rest is bad in
        let feed = with_feed rest split.1 in
        let start : at ≡ 0 = (let inside = in_rest.inside in let zero_len = none_behind rest split.1 in omega arith) in
        absurd (whole_end (record {
          front = [];
          rest = feed.0;
          whole = ap (λ (t : List ℕ). byte ∷ t) feed.1 ∙ ap (λ (b : ℕ). b ∷ 10 ∷ feed.0) split.0;
          place = ap suc start;
        }))
same_line byte rest at (suc line) is in_rest whole_end =
    let same : from_line (suc line) (byte ∷ rest) ≡ from_line (suc line) rest = ap (λ (b : Bool). from_line line (cond b rest (behind_line rest))) is in
    record {
      front = byte ∷ in_rest.front;
      far = in_rest.far;
      whole = ap (λ (t : List ℕ). byte ∷ t) in_rest.whole ∙ ap (λ (t : List ℕ). byte ∷ (in_rest.front ++ t)) (sym same);
      place = (let place = in_rest.place in omega arith);
      inside = subst (λ (t : List ℕ). in_rest.far ≤ prefix_len is_content t) (sym same) in_rest.inside;
    }

further : (byte : ℕ) (rest : List ℕ) (at : ℕ) → SplitsLineEnd rest at → SplitsLineEnd (byte ∷ rest) (suc at)
further byte rest at split = record {
  front = byte ∷ split.front;
  rest = split.rest;
  whole = ap (λ (t : List ℕ). byte ∷ t) split.whole;
  place = ap suc split.place;
}

-- each place that doesn't split a line's end stands in the line that is told
pub stands_in : (text : List ℕ) (at : ℕ) → at ≤ length text → (¬ SplitsLineEnd text at) → StandsIn text at (lines_ended at text)
stands_in text zero le whole_end = record { front = []; far = 0; whole = refl; place = refl; inside = omega arith }
stands_in [] (suc at) le whole_end = absurd (not-suc-le-zero le)
stands_in (byte ∷ rest) (suc at) le whole_end =
    by (ends_line byte rest) refl (stands_in rest at (omega arith) (λ split. whole_end (further byte rest at split)))
  where
    by : (b : Bool) → ends_line byte rest ≡ b → StandsIn rest at (lines_ended at rest)
        → StandsIn (byte ∷ rest) (suc at) (cond b (suc (lines_ended at rest)) (lines_ended at rest))
    by true is in_rest = behind_end byte rest at (lines_ended at rest) is in_rest
    by false is in_rest = same_line byte rest at (lines_ended at rest) is in_rest whole_end

-- the column of a place leads back to it
back : (e : Encoding) (line : List ℕ) (at : ℕ) → at ≤ length line → (at < length line → 0 < byte_units e (get_or line at 0))
    → bytes_to e (units e (take at line)) line ≡ at
back e [] zero le first = refl
back e [] (suc at) le first = absurd (not-suc-le-zero le)
back e (byte ∷ rest) zero le first = rw (lt-ltb 0 (byte_units e byte) (first (omega arith))) refl
back e (byte ∷ rest) (suc at) le first =
    let width = byte_units e byte in
    let sum : units e (byte ∷ take at rest) ≡ width + units e (take at rest) = sum_by-cons (byte_units e) byte (take at rest) in
    let past : nat_lt (units e (byte ∷ take at rest)) width ≡ false = le-ltb (units e (byte ∷ take at rest)) width (omega arith) in
    let left : units e (byte ∷ take at rest) - width ≡ units e (take at rest) = omega arith in
    let more = back e rest at (omega arith) (λ less. first (omega arith)) in
    ap (λ (b : Bool). cond b 0 (1 + bytes_to e (units e (byte ∷ take at rest) - width) rest)) past
    ∙ ap (λ (n : ℕ). 1 + bytes_to e n rest) left ∙ omega (arith, more)

-- in front of a column stand whole characters
stops : (e : Encoding) (column : ℕ) (line : List ℕ) → bytes_to e column line < length line → 0 < byte_units e (get_or line (bytes_to e column line) 0)
stops e column [] less = absurd (omega arith)
stops e column (byte ∷ rest) less = by (nat_lt column (byte_units e byte)) refl (stops e (column - byte_units e byte) rest) less
  where
    by : (b : Bool) → nat_lt column (byte_units e byte) ≡ b
        → (bytes_to e (column - byte_units e byte) rest < length rest → 0 < byte_units e (get_or rest (bytes_to e (column - byte_units e byte) rest) 0))
        → cond b 0 (1 + bytes_to e (column - byte_units e byte) rest) < length (byte ∷ rest)
        → 0 < byte_units e (get_or (byte ∷ rest) (cond b 0 (1 + bytes_to e (column - byte_units e byte) rest)) 0)
    by true is more less = (let small = ltb-true column (byte_units e byte) is in omega (arith, small))
    by false is more less =
        let one : suc (bytes_to e (column - byte_units e byte) rest) ≡ 1 + bytes_to e (column - byte_units e byte) rest = omega arith in
        subst (λ (n : ℕ). 0 < byte_units e (get_or (byte ∷ rest) n 0)) one (more (omega arith))

pub bytes_to-le : (e : Encoding) (column : ℕ) (line : List ℕ) → bytes_to e column line ≤ length line
bytes_to-le e column [] = omega arith
bytes_to-le e column (byte ∷ rest) = by (nat_lt column (byte_units e byte)) (bytes_to-le e (column - byte_units e byte) rest)
  where
    by : (b : Bool) → bytes_to e (column - byte_units e byte) rest ≤ length rest
        → cond b 0 (1 + bytes_to e (column - byte_units e byte) rest) ≤ length (byte ∷ rest)
    by true more = omega arith
    by false more = omega arith

-- what stands in front of a column takes no more code units
fits : (e : Encoding) (column : ℕ) (line : List ℕ) → units e (take (bytes_to e column line) line) ≤ column
fits e column [] = omega arith
fits e column (byte ∷ rest) = by (nat_lt column (byte_units e byte)) refl (fits e (column - byte_units e byte) rest)
  where
    by : (b : Bool) → nat_lt column (byte_units e byte) ≡ b
        → units e (take (bytes_to e (column - byte_units e byte) rest) rest) ≤ column - byte_units e byte
        → units e (take (cond b 0 (1 + bytes_to e (column - byte_units e byte) rest)) (byte ∷ rest)) ≤ column
    by true is more = omega arith
    by false is more =
        let far = bytes_to e (column - byte_units e byte) rest in
        let one : suc far ≡ 1 + far = omega arith in
        let sum : units e (byte ∷ take far rest) ≡ byte_units e byte + units e (take far rest) = sum_by-cons (byte_units e) byte (take far rest) in
        let wide = ltb-false column (byte_units e byte) is in
        subst (λ (n : ℕ). units e (take n (byte ∷ rest)) ≤ column) one (omega (arith, sum, wide, more))

-- a front that takes no more is no longer
longest : (e : Encoding) (column : ℕ) (line : List ℕ) (at : ℕ) → at ≤ length line → units e (take at line) ≤ column → at ≤ bytes_to e column line
longest e column [] at le few = omega arith
longest e column (byte ∷ rest) zero le few = omega arith
longest e column (byte ∷ rest) (suc at) le few =
    let width = byte_units e byte in
    let sum : units e (byte ∷ take at rest) ≡ width + units e (take at rest) = sum_by-cons (byte_units e) byte (take at rest) in
    let wide : nat_lt column width ≡ false = le-ltb column width (omega (arith, sum, few)) in
    let more = longest e (column - width) rest at (omega arith) (omega (arith, sum, few)) in
    let is : bytes_to e column (byte ∷ rest) ≡ 1 + bytes_to e (column - width) rest =
    ap (λ (b : Bool). cond b 0 (1 + bytes_to e (column - width) rest)) wide in
    omega (arith, is, more)

pub reached : ColumnsAreReached
reached e column line = (fits e column line, longest e column line)

-- a line begins behind what stands in front of it
starts_behind : (text front : List ℕ) (line : ℕ) → text ≡ front ++ from_line line text → line_start line text ≡ length front
starts_behind text front line whole =
    let sum : length text ≡ length front + length (from_line line text) = ap length whole ∙ length-append front (from_line line text) in
    omega (arith, sum)

content_len : (text : List ℕ) → length (content text) ≡ prefix_len is_content text
content_len text = length-prefix_len is_content text

byte_of : (text front line : List ℕ) (far : ℕ) → text ≡ front ++ line → get_or text (length front + far) 0 ≡ get_or line far 0
byte_of text front line far whole = ap (λ (t : List ℕ). get_or t (length front + far) 0) whole ∙ get_or-append-add front line far 0

pub leads_back : PlacesLeadBack
leads_back e text at u place whole_end =
    let line = lines_ended at text in
    let in_line = stands_in text at place.0 whole_end in
    let rest = from_line line text in
    let start : line_start line text ≡ length in_line.front = starts_behind text in_line.front line in_line.whole in
    let far : at - line_start line text ≡ in_line.far = (let sum = in_line.place in omega (arith, start)) in
    let len = content_len rest in
    let first : in_line.far < length (content rest) → 0 < byte_units e (get_or (content rest) in_line.far 0) =
    (λ less.
    let bound = prefix_len-le-length is_content rest in
    let byte : get_or (content rest) in_line.far 0 ≡ get_or text at 0 =
    get_or-take (prefix_len is_content rest) rest in_line.far 0 (omega arith)
    ∙ sym (byte_of text in_line.front rest in_line.far in_line.whole) ∙ ap (λ (n : ℕ). get_or text n 0) in_line.place in
    let sum : length text ≡ length in_line.front + length rest = ap length in_line.whole ∙ length-append in_line.front rest in
    let inside : at < length text = (let place = in_line.place in omega (arith, sum, bound)) in
    subst (λ (b : ℕ). 0 < byte_units e b) (sym byte) (begins e (get_or text at 0) (place.1 inside))) in
    let column = back e (content rest) in_line.far (let inside = in_line.inside in omega arith) first in
    ap (λ (n : ℕ). line_start line text + bytes_to e (units e (take n (content rest))) (content rest)) far
    ∙ ap (λ (n : ℕ). line_start line text + n) column ∙ ap (λ (n : ℕ). n + in_line.far) start ∙ in_line.place

-- where a line's content stops, a line's end stands
content_stops : (text : List ℕ) → prefix_len is_content text < length text → get_or text (prefix_len is_content text) 0 < 128
content_stops [] less = absurd (omega arith)
content_stops (byte ∷ rest) less = by (is_content byte) refl (content_stops rest) less
  where
    small : (a b : Bool) → byte == 10 ≡ a → byte == 13 ≡ b → is_content byte ≡ false → byte < 128
    small true b x y is = (let is_feed = eqb-true byte 10 x in omega (arith, is_feed))
    small false true x y is = (let is_return = eqb-true byte 13 y in omega (arith, is_return))
    small false false x y is = absurd (true≢false (sym (ap (λ (t : Bool). not (t || (byte == 13))) x ∙ ap not y) ∙ is))

    by : (b : Bool) → is_content byte ≡ b → (prefix_len is_content rest < length rest → get_or rest (prefix_len is_content rest) 0 < 128)
        → cond b (1 + prefix_len is_content rest) 0 < length (byte ∷ rest)
        → get_or (byte ∷ rest) (cond b (1 + prefix_len is_content rest) 0) 0 < 128
    by true is more less =
        let one : suc (prefix_len is_content rest) ≡ 1 + prefix_len is_content rest = omega arith in
        subst (λ (n : ℕ). get_or (byte ∷ rest) n 0 < 128) one (more (omega arith))
    by false is more less = small (byte == 10) (byte == 13) refl refl is

pub leads_to_place : PositionsLeadToPlaces
leads_to_place e text position u =
    let front = lines_tail position.line text in
    let rest = from_line position.line text in
    let start = starts_behind text front.0 position.line front.1 in
    let len = content_len rest in
    let far = bytes_to e position.column (content rest) in
    let le = bytes_to-le e position.column (content rest) in
    let bound = prefix_len-le-length is_content rest in
    let sum : length text ≡ length front.0 + length rest = ap length front.1 ∙ length-append front.0 rest in
    let same : get_or text (offset_of e text position) 0 ≡ get_or rest far 0 =
    ap (λ (n : ℕ). get_or text (n + far) 0) start ∙ byte_of text front.0 rest far front.1 in (
      omega (arith, start, len, le, bound, sum),
      λ less large. by (cases_lt far (length (content rest))) same large (omega (arith, start, sum, less)),
    )
  where
    by : (bytes_to e position.column (content (from_line position.line text)) < length (content (from_line position.line text)))
        ⊎ (length (content (from_line position.line text)) ≤ bytes_to e position.column (content (from_line position.line text)))
        → get_or text (offset_of e text position) 0 ≡ get_or (from_line position.line text) (bytes_to e position.column (content (from_line position.line text))) 0
        → 128 ≤ get_or text (offset_of e text position) 0
        → bytes_to e position.column (content (from_line position.line text)) < length (from_line position.line text)
        → 192 ≤ get_or text (offset_of e text position) 0
    by (inl less) same large inside =
        let rest = from_line position.line text in let far = bytes_to e position.column (content rest) in
        let len = content_len rest in
        let byte : get_or (content rest) far 0 ≡ get_or rest far 0 = get_or-take (prefix_len is_content rest) rest far 0 (omega arith) in
        is_first e (get_or text (offset_of e text position) 0)
        (subst (λ (b : ℕ). 0 < byte_units e b) (byte ∙ sym same) (stops e position.column (content rest) less)) large
    by (inr more) same large inside =
        let rest = from_line position.line text in let far = bytes_to e position.column (content rest) in
        let len = content_len rest in
        let le = bytes_to-le e position.column (content rest) in
        let at_end : far ≡ prefix_len is_content rest = omega arith in
        let small = content_stops rest (omega arith) in
        let byte : get_or text (offset_of e text position) 0 ≡ get_or rest (prefix_len is_content rest) 0 =
        same ∙ ap (λ (n : ℕ). get_or rest n 0) at_end in
        absurd (omega (arith, byte, small, large))
