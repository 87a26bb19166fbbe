-- A text in two parts, one behind the other.
use Rattle.std.proofs.Common.{◌≡◌, ◌∙◌, ◌↔◌, ℕ, ◌+◌, ◌-◌, ◌<◌, ◌≤◌, ◌^◌, List, ◌++◌, length, take, drop, get_or, sym, ap, ap₂, subst, arith}
use Rattle.std.proofs.Common.{inl, inr}
use Rattle.std.proofs.Common.{length-append, append_assoc, drop-drop, take-take, eqb, false, cond}
use Rattle.std.specs.Prelude.{encode_utf8, Option, Some, None, MatchOption, IfSome}
use Rattle.std.specs.List.{count_by, suffix_len, prefix_len, after_last}
use Rattle.std.specs.Prelude.{reverse, min, max}
use Rattle.std.proofs.lemmas.List.{reverse-append, length-reverse, length-take-le}
use Rattle.std.proofs.lemmas.List.Folds.{prefix_len-append}
use Rattle.nx_text.specs.Places.{is_line_feed, is_in_line, line_front}
use Rattle.std.specs.Str.{IsUtf8, IsCharBoundary}
use Rattle.std.proofs.lemmas.Bool.{cases_lt, ne_eqb}
use Rattle.std.proofs.lemmas.List.{drop-append-le, length-drop}
use Rattle.std.proofs.lemmas.Str.{IsUtf8-append, IsUtf8-take, IsUtf8-drop}
use Rattle.std.proofs.Math.ListN.{get_or-append}
use Rattle.std.proofs.Math.Seq.{get_or-append_right, take-append-add, drop-append-add}
use Rattle.nx_base.specs.Text.{IsPlace}
use Rattle.nx_text.specs.Gap.{Parted}
use Rattle.nx_text.specs.Feeds.{IsKept, IsIndex, joined, feeds_of, feeds_from, feeds_to_end}
use Rattle.nx_text.specs.Reading.{StandsAt, HasNoCharAt}
use Rattle.nx_text.proofs.Feeds.{feed_count, counted, count_of_both, feeds_of_front, feeds_of_rest, feeds_of_both}
use Rattle.nx_text.proofs.Indices.{index_at}

module _ (front back : List ℕ) where
  -- a place of the front part, or of the back part
  pub place_in_front : (at : ℕ) → at < length front → (IsCharBoundary front at ↔ IsPlace (front ++ back) at)
  place_in_front at low =
      let same : get_or (front ++ back) at 0 ≡ get_or front at 0 = get_or-append front back 0 at low in
      let len = length-append front back in (
        λ p. (omega (arith, len), λ _ high. let more : 128 ≤ get_or front at 0 = omega arith in let most = p.1 low more in omega arith),
        λ p. (
          omega arith,
          λ _ high. let more : 128 ≤ get_or (front ++ back) at 0 = omega arith in
              let most = p.1 (omega (arith, len)) more in omega arith,
        ),
      )

  pub place_in_back : (at : ℕ) → length front ≤ at → (IsCharBoundary back (at - length front) ↔ IsPlace (front ++ back) at)
  place_in_back at past =
      let same : get_or (front ++ back) at 0 ≡ get_or back (at - length front) 0 = get_or-append_right front back at 0 past in
      let len = length-append front back in (
        λ p. let short = p.0 in (
          omega (arith, len),
          λ inside high.
              let more : 128 ≤ get_or back (at - length front) 0 = omega arith in let most = p.1 (omega (arith, len)) more in omega arith,
        ),
        λ p. let short = p.0 in (
          omega (arith, len),
          λ inside high.
              let more : 128 ≤ get_or (front ++ back) at 0 = omega arith in let most = p.1 (omega (arith, len)) more in omega arith,
        ),
      )

  -- line feeds in front of a place of the back part
  pub counted_behind : (at : ℕ) → length front ≤ at
      → count_by is_line_feed (take at (front ++ back)) ≡ feed_count front + count_by is_line_feed (take (at - length front) back)
  counted_behind at past =
      let inner = at - length front in
      let sum : length front + inner ≡ at = omega arith in
      let part : take at (front ++ back) ≡ front ++ take inner back =
      ap (λ k. take k (front ++ back)) (sym sum) ∙ take-append-add front back inner in
      ap (count_by is_line_feed) part ∙ sym (counted (front ++ take inner back)) ∙ count_of_both front (take inner back)
      ∙ ap (λ k. feed_count front + k) (counted (take inner back))

  -- the character that stands in one part
  pub char_in_front : (at : ℕ) (r : Option ℕ) → at < length front → IsPlace (front ++ back) at
      → MatchOption r (HasNoCharAt front at) (StandsAt front at) → MatchOption r (HasNoCharAt (front ++ back) at) (StandsAt (front ++ back) at)
  char_in_front at None low place h = elim h [
    | inl end ↦ absurd (omega arith)
    | inr nowhere ↦ absurd (nowhere ((place_in_front at low).1 place))
  ]
  char_in_front at (Some c) low place h = record {
    place = place;
    rest = h.rest ++ back;
    spelled = drop-append-le at front back (omega arith) ∙ ap (λ t. t ++ back) h.spelled ∙ append_assoc (encode_utf8 c) h.rest back;
  }

  pub char_in_back : (at : ℕ) (r : Option ℕ) → length front ≤ at → IsPlace (front ++ back) at
      → MatchOption r (HasNoCharAt back (at - length front)) (StandsAt back (at - length front))
      → MatchOption r (HasNoCharAt (front ++ back) at) (StandsAt (front ++ back) at)
  char_in_back at None past place h = elim h [
    | inl end ↦ (let len = length-append front back in inl (omega arith))
    | inr nowhere ↦ absurd (nowhere ((place_in_back at past).1 place))
  ]
  char_in_back at (Some c) past place h =
      let sum : length front + (at - length front) ≡ at = omega arith in
      record {
        place = place;
        rest = h.rest;
        spelled = ap (λ k. drop k (front ++ back)) (sym sum) ∙ drop-append-add front back (at - length front) ∙ h.spelled;
      }

-- the character at a place ends within the text
pub char_fits : (text : List ℕ) (at : ℕ) (r : Option ℕ) → length text < 2 ^ 64 → MatchOption r (HasNoCharAt text at) (StandsAt text at)
    → IfSome r (λ c. at + length (encode_utf8 c) < 2 ^ 64)
char_fits text at None short h = tt
char_fits text at (Some c) short h =
    let len = sym (length-drop at text) ∙ ap length h.spelled ∙ length-append (encode_utf8 c) h.rest in
    let low = h.place.0 in
    omega (arith, len, low)

-- what is kept is a text
pub kept_utf8 : (bytes feeds : Parted ℕ) → IsKept bytes feeds → IsUtf8 (joined bytes)
kept_utf8 bytes feeds is = IsUtf8-append bytes.front bytes.back is.front_utf8 is.back_utf8

-- gaps that were moved to a place
pub kept_moved : (old new : Parted ℕ) (feeds index : Parted ℕ) (at count : ℕ) → IsKept old feeds → IsPlace (joined old) at
    → IsIndex (joined old) index → length index.front ≡ count → count ≡ count_by is_line_feed (take at (joined old))
    → new.front ≡ take at (joined old) → new.back ≡ drop at (joined old) → IsKept new index
kept_moved old new feeds index at count is place i len number front back =
    let text = joined old in
    let whole = kept_utf8 old feeds is in
    let parts = index_at text index at i (len ∙ number ∙ sym (counted (take at text))) in
    record {
      front_utf8 = subst IsUtf8 (sym front) (IsUtf8-take text at whole place);
      back_utf8 = subst IsUtf8 (sym back) (IsUtf8-drop text at whole place);
      front_feeds = parts.0 ∙ ap feeds_of (sym front);
      back_feeds = parts.1 ∙ ap feeds_to_end (sym back);
    }

-- parts that were cut at the gaps
pub kept_cut : (old feeds new index : Parted ℕ) (from behind kept dropped : ℕ) → IsKept old feeds
    → IsUtf8 (take from old.front) → IsUtf8 (drop behind old.back)
    → kept ≡ count_by is_line_feed (take from old.front) → dropped ≡ count_by is_line_feed (take behind old.back)
    → new.front ≡ take from old.front → new.back ≡ drop behind old.back
    → index.front ≡ take kept feeds.front → index.back ≡ drop dropped feeds.back → IsKept new index
kept_cut old feeds new index from behind kept dropped is front_text back_text n m front back f b =
    record {
      front_utf8 = subst IsUtf8 (sym front) front_text;
      back_utf8 = subst IsUtf8 (sym back) back_text;
      front_feeds = f ∙ ap₂ (λ k t. take k t) (n ∙ sym (counted (take from old.front))) is.front_feeds
          ∙ sym (feeds_of_front 0 from old.front) ∙ ap feeds_of (sym front);
      back_feeds = b ∙ ap₂ (λ k t. drop k t) (m ∙ sym (counted (take behind old.back))) is.back_feeds
          ∙ sym (feeds_of_rest behind old.back) ∙ ap feeds_to_end (sym back);
    }

-- a text that was put in at the gaps
pub kept_more : (old feeds new index : Parted ℕ) (added : List ℕ) (at : ℕ) → IsKept old feeds → IsUtf8 added → at ≡ length old.front
    → new.front ≡ old.front ++ added → new.back ≡ old.back → index.front ≡ feeds.front ++ feeds_from at added → index.back ≡ feeds.back
    → IsKept new index
kept_more old feeds new index added at is text place front back f b =
    record {
      front_utf8 = subst IsUtf8 (sym front) (IsUtf8-append old.front added is.front_utf8 text);
      back_utf8 = subst IsUtf8 (sym back) is.back_utf8;
      front_feeds = f ∙ ap₂ (λ t k. t ++ feeds_from k added) is.front_feeds (place ∙ zero_more (length old.front))
          ∙ sym (feeds_of_both 0 old.front added) ∙ ap feeds_of (sym front);
      back_feeds = b ∙ is.back_feeds ∙ ap feeds_to_end (sym back);
    }
  where
    zero_more : (n : ℕ) → n ≡ 0 + n
    zero_more n = omega arith

-- the place between two others that is the nearest to the gap
pub place_between : (text : List ℕ) (gap from to middle : ℕ) → IsPlace text gap → IsPlace text from → IsPlace text to → from ≤ to
    → middle ≡ min (max gap from) to → IsPlace text middle
place_between text gap from to middle g f t order is = elim (cases_lt gap from) [
  | inl low ↦ (let e : from ≡ middle = omega arith in subst (IsPlace text) e f)
  | inr past ↦ elim (cases_lt to gap) [
    | inl high ↦ (let e : to ≡ middle = omega arith in subst (IsPlace text) e t)
    | inr within ↦ (let e : gap ≡ middle = omega arith in subst (IsPlace text) e g)
  ]
]

pub front_text : (text front : List ℕ) (from middle : ℕ) → IsUtf8 text → IsPlace text from → from ≤ middle → front ≡ take middle text
    → IsUtf8 (take from front)
front_text text front from middle u place le is =
    subst IsUtf8 (sym (ap (take from) is ∙ take-take from middle text le)) (IsUtf8-take text from u place)

pub back_text : (text back : List ℕ) (to middle : ℕ) → IsUtf8 text → IsPlace text to → middle ≤ to → back ≡ drop middle text
    → IsUtf8 (drop (to - middle) back)
back_text text back to middle u place le is =
    let sum : middle + (to - middle) ≡ to = omega arith in
    let whole : drop (to - middle) back ≡ drop to text =
    ap (drop (to - middle)) is ∙ drop-drop (to - middle) middle text ∙ ap (λ k. drop k text) sum in
    subst IsUtf8 (sym whole) (IsUtf8-drop text to u place)

-- a line that begins in the back part
pub line_behind : (front back : List ℕ) (at : ℕ) → length front ≤ at → at ≤ length (front ++ back)
    → suffix_len is_in_line (take (at - length front) back) < at - length front
    → line_front back (at - length front) ≡ line_front (front ++ back) at
line_behind front back at past short less =
    let inner = at - length front in let b = take inner back in
    let s = suffix_len is_in_line b in
    let len = length-append front back in
    let sum : length front + inner ≡ at = omega arith in
    let part : take at (front ++ back) ≡ front ++ b = ap (λ k. take k (front ++ back)) (sym sum) ∙ take-append-add front back inner in
    let width : length b ≡ inner = length-take-le inner back (omega (arith, len)) in
    let turned : length (reverse b) ≡ length b = length-reverse b in
    let low : prefix_len is_in_line (reverse b) < length (reverse b) = omega (arith, less) in
    let same : suffix_len is_in_line (front ++ b) ≡ s =
    ap (prefix_len is_in_line) (reverse-append front b) ∙ prefix_len-append is_in_line (reverse b) (reverse front)
    ∙ ap (λ c. cond c (length (reverse b) + prefix_len is_in_line (reverse front)) (prefix_len is_in_line (reverse b)))
    (lt-eqb (prefix_len is_in_line (reverse b)) (length (reverse b)) low) in
    let all : length (front ++ b) ≡ length front + length b = length-append front b in
    let start : length (front ++ b) - suffix_len is_in_line (front ++ b) ≡ length front + (length b - s) = omega (arith, all, same, less, width) in
    let whole : line_front (front ++ back) at ≡ drop (length b - s) b =
    ap (after_last is_line_feed) part ∙ ap (λ k. drop k (front ++ b)) start ∙ drop-append-add front b (length b - s) in
    sym whole
  where
    lt-eqb : (a b : ℕ) → a < b → eqb a b ≡ false
    lt-eqb a b lt = ne_eqb a b (λ e. omega arith)
