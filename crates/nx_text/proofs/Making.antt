-- Changes that are made one after another.
use Rattle.std.proofs.Common.{◌≡◌, ℕ, suc, ◌+◌, ◌-◌, ◌<◌, ◌≤◌, inl, inr, List, [], ◌∷◌, ◌++◌, length, take, drop, get_or, refl, sym, ◌∙◌, ap, subst, arith, append_assoc, length-append, length-take, length-drop}
use Rattle.std.specs.Prelude.{count_by}
use Rattle.std.specs.List.{flat_map}
use Rattle.std.specs.Str.{IsUtf8, IsCharBoundary}
use Rattle.std.proofs.lemmas.Bool.{cases_lt}
use Rattle.std.proofs.lemmas.List.{take_at, length-take-le, get_or-take}
use Rattle.std.proofs.lemmas.Str.{IsUtf8-append, IsUtf8-take, IsUtf8-drop, IsCharBoundary-at_seam}
use Rattle.nx_base.specs.Text.{IsPlace, edited}
use Rattle.nx_text.specs.Changing.{changed, LieInFront, AreChanges, texts_of}
use Rattle.nx_text.specs.Editing.{IsRange}
use Rattle.nx_text.specs.Feeds.{IsKept, joined, feeds_of, feeds_to_end}
use Rattle.nx_text.specs.Gap.{Parted}
use Rattle.nx_text.specs.Places.{is_line_feed}
use Rattle.nx_text.proofs.Feeds.{counted, count_of_both}
use Rattle.nx_base.specs.declared.change.Change.{Change}

-- ---- places in front of a change

module _ (text added : List ℕ) (from to : ℕ) (utf8 : IsUtf8 text) (added_utf8 : IsUtf8 added) (range : IsRange text from to) where
  parts : edited text from to added ≡ take from text ++ (added ++ drop to text)
  parts = append_assoc (take from text) added (drop to text)

  front_len : length (take from text) ≡ from
  front_len = length-take-le from text range.start.0

  own_place : IsPlace (edited text from to added) from
  own_place =
      subst (λ n. IsPlace (edited text from to added) n) front_len
      (IsCharBoundary-at_seam (edited text from to added) (take from text) (added ++ drop to text) parts
      (IsUtf8-append added (drop to text) added_utf8 (IsUtf8-drop text to utf8 range.end)))

  front_place : (at : ℕ) → at < from → IsPlace text at → IsPlace (edited text from to added) at
  front_place at before place =
      let fits = range.start.0 in
      let most = own_place.0 in
      let read : get_or (edited text from to added) at 0 ≡ get_or text at 0 =
      sym (get_or-take from (edited text from to added) at 0 before)
      ∙ ap (λ xs. get_or xs at 0) (ap (take from) parts ∙ take_at (take from text) (added ++ drop to text) from front_len)
      ∙ get_or-take from text at 0 before in (
        omega arith,
        λ within high. (let far = place.1 (omega arith) (omega arith) in omega arith),
      )

  pub stays_place : (at : ℕ) → at ≤ from → IsPlace text at → IsPlace (edited text from to added) at
  stays_place at le place =
      elim (cases_lt at from) [
        | inl before ↦ front_place at before place
        | inr past ↦ subst (λ n. IsPlace (edited text from to added) n) (let e : from ≡ at = omega arith in e) own_place
      ]

  -- so changes in front of it are changes still
  stay_changes : (limit : ℕ) (changes : List Change) → limit ≤ from → LieInFront limit changes → AreChanges text changes →
      AreChanges (edited text from to added) changes
  stay_changes limit [] le front all = tt
  stay_changes limit (change ∷ others) le front all =
      let ordered = all.0.ordered in (
        record { start = stays_place change.from (omega arith) all.0.start; end = stays_place change.to (omega arith) all.0.end; ordered = ordered },
        all.1,
        all.2,
        stay_changes change.from others (omega arith) all.2 all.3,
      )

pub count-both : (xs ys : List ℕ) → count_by is_line_feed (xs ++ ys) ≡ count_by is_line_feed xs + count_by is_line_feed ys
count-both xs ys =
    let all = counted (xs ++ ys) in
    let both = count_of_both xs ys in
    let front = counted xs in
    let back = counted ys in
    omega arith

-- ---- what is known while they are made

pub record Making (old : List ℕ) (all : List Change) (bytes feeds : Parted ℕ) (left : List Change) : Type 0 where
  pub kept : IsKept bytes feeds
  pub whole : changed (joined bytes) left ≡ changed old all
  pub are : AreChanges (joined bytes) left
  pub room : length (texts_of left) ≤ bytes.room
  pub feeds_room : count_by is_line_feed (texts_of left) ≤ feeds.room

-- room that is made leaves both parts
pub kept_again : (bytes feeds new index : Parted ℕ) → IsKept bytes feeds → new.front ≡ bytes.front → new.back ≡ bytes.back → index.front ≡ feeds.front →
    index.back ≡ feeds.back → IsKept new index
kept_again bytes feeds new index kept front back f b =
    record {
      front_utf8 = subst (λ t. IsUtf8 t) (sym front) kept.front_utf8;
      back_utf8 = subst (λ t. IsUtf8 t) (sym back) kept.back_utf8;
      front_feeds = f ∙ kept.front_feeds ∙ ap feeds_of (sym front);
      back_feeds = b ∙ kept.back_feeds ∙ ap feeds_to_end (sym back);
    }

pub joined_again : (bytes new : Parted ℕ) → new.front ≡ bytes.front → new.back ≡ bytes.back → joined new ≡ joined bytes
joined_again bytes new front back = ap (λ t. t ++ new.back) front ∙ ap (λ t. bytes.front ++ t) back

-- of the next change
pub next_room : (old : List ℕ) (all : List Change) (bytes feeds : Parted ℕ) (change : Change) (left : List Change) → Making old all bytes feeds (change ∷ left) →
    length change.text ≤ bytes.room
next_room old all bytes feeds change left m = let room = m.room in let len = length-append change.text (texts_of left) in omega arith

pub next_feeds : (old : List ℕ) (all : List Change) (bytes feeds : Parted ℕ) (change : Change) (left : List Change) → Making old all bytes feeds (change ∷ left) →
    count_by is_line_feed change.text ≤ feeds.room
next_feeds old all bytes feeds change left m = let room = m.feeds_room in let count = count-both change.text (texts_of left) in omega arith

pub begun : (old : List ℕ) (all : List Change) (bytes feeds : Parted ℕ) → IsKept bytes feeds → joined bytes ≡ old → AreChanges old all →
    length (texts_of all) ≤ bytes.room → count_by is_line_feed (texts_of all) ≤ feeds.room → Making old all bytes feeds all
begun old all bytes feeds kept is are room feeds_room =
    record {
      kept = kept;
      whole = ap (λ t. changed t all) is;
      are = subst (λ t. AreChanges t all) (sym is) are;
      room = room;
      feeds_room = feeds_room;
    }

pub one_made : (old : List ℕ) (all : List Change) (bytes feeds new index : Parted ℕ) (change : Change) (left : List Change) → IsUtf8 (joined bytes) →
    Making old all bytes feeds (change ∷ left) → IsKept new index → joined new ≡ edited (joined bytes) change.from change.to change.text →
    bytes.room ≤ new.room + length change.text → feeds.room ≤ index.room + count_by is_line_feed change.text → Making old all new index left
one_made old all bytes feeds new index change left utf8 m kept is room feeds_room =
    let before = m.room in
    let feeds_before = m.feeds_room in
    let len = length-append change.text (texts_of left) in
    let count = count-both change.text (texts_of left) in
    record {
      kept = kept;
      whole = ap (λ t. changed t left) is ∙ m.whole;
      are = subst (λ t. AreChanges t left) (sym is)
          (stay_changes (joined bytes) change.text change.from change.to utf8 m.are.1 m.are.0 change.from left (omega arith) m.are.2 m.are.3);
      room = omega arith;
      feeds_room = omega arith;
    }

pub all_made : (old : List ℕ) (all : List Change) (bytes feeds : Parted ℕ) (left : List Change) → Making old all bytes feeds left → length left ≡ 0 →
    joined bytes ≡ changed old all
all_made old all bytes feeds [] m e = m.whole
all_made old all bytes feeds (change ∷ left) m e = absurd (omega arith)
