-- A tag is found character by character.
use Rattle.std.proofs.Common.{◌≡◌, ℕ, ◌+◌, ◌-◌, ◌<◌, ◌≤◌, Bool, true, false, inl, inr, List, [], ◌∷◌, ◌++◌, length, drop, get_or, refl, sym, ◌∙◌, ap, subst, arith, length-append, zero-add, add_assoc}
use Rattle.std.specs.Prelude.{◌||◌, Option, Some, None}
use Rattle.std.specs.Option.{option_map, option_map_or}
use Rattle.std.specs.Char.{len_utf8}
use Rattle.std.specs.Str.{IsUtf8, chars}
use lib.Utf8.{encode, encodes}
use Rattle.std.proofs.lemmas.List.{drop-drop, drop_at, drop_all, drop_more}
use Rattle.std.proofs.lemmas.Str.{chars_past_char, drop_past_char, IsUtf8-drop, IsCharBoundary-past_char, IsCharBoundary-before_ascii, IsCharBoundary-after_ascii, length-encode, encode_ascii}
use Rattle.nx_base.specs.Form.{Form, never, nothing, may_end, is_possible, after, spells, begins, shortest_front, passing_front}
use Rattle.nx_base.specs.Text.{IsPlace}
use Rattle.nx_base.specs.Tokens.{Cut, cut_as, Tags, tags, begins_tag, bad_rest, bad, tag_or, tag}
use Rattle.nx_base.specs.declared.token.TokenKind.{TokenKind}
use Rattle.nx_base.specs.declared.token.TokenKind.TheVariants as kinds
use Rattle.nx_text.specs.Reading.{StandsAt, HasNoCharAt}
use Rattle.nx_scan.specs.Ending.{EndsAt}
use Rattle.nx_scan.specs.Tag.{left_of, left_after, in_end, IsPart, IsReadTo, later}
use Rattle.nx_scan.specs.declared.scan.End.{End}
use Rattle.nx_scan.specs.declared.tag.TagState.{TagState}
use Rattle.nx_scan.specs.declared.tag.TagState.TheVariants as seen

-- some tag may come
abbrev pub can_go_on : Tags → Bool
can_go_on left = is_possible left.end || (is_possible left.start || is_possible left.empty)

-- fronts of a form
front-step : (form : Form) (c : ℕ) (cs : List ℕ) → may_end form ≡ false →
    shortest_front (spells form) (c ∷ cs) ≡ option_map (λ front. c ∷ front) (shortest_front (spells (after form c)) cs)
unfolding shortest_front spells
front-step form c cs h = rw h refl

front-none : (cs : List ℕ) → shortest_front (spells never) cs ≡ None
unfolding shortest_front spells
front-none [] = refl
front-none (c ∷ cs) = ap (option_map (λ front. c ∷ front)) (front-none cs)

front-whole : (cs : List ℕ) → shortest_front (spells nothing) cs ≡ Some []
unfolding shortest_front spells
front-whole [] = refl
front-whole (c ∷ cs) = refl

front-end : (form : Form) → may_end form ≡ false → shortest_front (spells form) [] ≡ None
unfolding shortest_front spells
front-end form h = rw h refl

-- a row of the table, by what is found
row : TokenKind → Option (List ℕ) → Cut → Cut
row kind found other = option_map_or (λ cs. cut_as kind (length (encodes cs))) found other

row-later : (kind : TokenKind) (c : ℕ) (found : Option (List ℕ)) (other next : Cut) → other ≡ later (length (encode c)) next →
    option_map_or (λ cs. cut_as kind (length (encodes cs))) (option_map (λ front. c ∷ front) found) other
    ≡ later (length (encode c)) (option_map_or (λ cs. cut_as kind (length (encodes cs))) found next)
row-later kind c None other next e = e
row-later kind c (Some front) other next e = ap (cut_as kind) (length-append (encode c) (encodes front))

tag_or-step : (kind : TokenKind) (form : Form) (c : ℕ) (bs rest : List ℕ) (other next : Cut) → may_end form ≡ false →
    chars bs ≡ c ∷ chars rest → other ≡ later (length (encode c)) next →
    tag_or kind form bs other ≡ later (length (encode c)) (tag_or kind (after form c) rest next)
unfolding tag_or
tag_or-step kind form c bs rest other next h is e =
    ap (λ found. option_map_or (λ cs. cut_as kind (length (encodes cs))) found other)
    (ap (shortest_front (spells form)) is ∙ front-step form c (chars rest) h)
    ∙ row-later kind c (shortest_front (spells (after form c)) (chars rest)) other next e

-- a row that doesn't apply
tag_or-lost : (kind : TokenKind) (form : Form) (c : ℕ) (bs cs : List ℕ) (other : Cut) → may_end form ≡ false → after form c ≡ never → chars bs ≡ c ∷ cs →
    tag_or kind form bs other ≡ other
unfolding tag_or
tag_or-lost kind form c bs cs other h lost is =
    ap (λ found. option_map_or (λ cs. cut_as kind (length (encodes cs))) found other)
    (ap (shortest_front (spells form)) is ∙ front-step form c cs h
    ∙ ap (λ f. option_map (λ front. c ∷ front) (shortest_front (spells f) cs)) lost
    ∙ ap (option_map (λ front. c ∷ front)) (front-none cs))

pub tag_or-never : (kind : TokenKind) (bs : List ℕ) (other : Cut) → tag_or kind never bs other ≡ other
unfolding tag_or
tag_or-never kind bs other = ap (λ found. option_map_or (λ cs. cut_as kind (length (encodes cs))) found other) (front-none (chars bs))

tag_or-whole : (kind : TokenKind) (bs : List ℕ) (other : Cut) → tag_or kind nothing bs other ≡ cut_as kind 0
unfolding tag_or
tag_or-whole kind bs other = ap (λ found. option_map_or (λ cs. cut_as kind (length (encodes cs))) found other) (front-whole (chars bs))

tag_or-end : (kind : TokenKind) (form : Form) (other : Cut) → may_end form ≡ false → tag_or kind form [] other ≡ other
unfolding tag_or chars
tag_or-end kind form other h = ap (λ found. option_map_or (λ cs. cut_as kind (length (encodes cs))) found other) (front-end form h)

-- how far a Bad token is begun
passing-step : (left : Tags) (c : ℕ) (cs : List ℕ) → can_go_on (left_after left c) ≡ true →
    passing_front (begins_tag left) (c ∷ cs) ≡ c ∷ passing_front (begins_tag (left_after left c)) cs
unfolding passing_front begins left_after
passing-step left c cs h = rw h refl

passing-lost : (left : Tags) (c : ℕ) (cs : List ℕ) → can_go_on (left_after left c) ≡ false → passing_front (begins_tag left) (c ∷ cs) ≡ []
unfolding passing_front begins left_after
passing-lost left c cs h = rw h refl

bad_from : ℕ → List ℕ → Cut
bad_from begun rest = cut_as kinds.Bad (begun + bad_rest (drop begun rest))

bad-step : (left : Tags) (c : ℕ) (bs rest : List ℕ) → can_go_on (left_after left c) ≡ true → chars bs ≡ c ∷ chars rest → bs ≡ encode c ++ rest →
    bad left bs ≡ later (length (encode c)) (bad (left_after left c) rest)
unfolding bad
bad-step left c bs rest h is spelled =
    let k = length (encode c) in
    let front = passing_front (begins_tag (left_after left c)) (chars rest) in
    let begun : length (encodes (passing_front (begins_tag left) (chars bs))) ≡ k + length (encodes front) =
    ap (λ cs. length (encodes (passing_front (begins_tag left) cs))) is
    ∙ ap (λ cs. length (encodes cs)) (passing-step left c (chars rest) h)
    ∙ length-append (encode c) (encodes front) in
    let left_over : drop (k + length (encodes front)) bs ≡ drop (length (encodes front)) rest =
    sym (drop-drop (length (encodes front)) k bs) ∙ ap (drop (length (encodes front))) (ap (drop k) spelled ∙ drop_at (encode c) rest k refl) in
    ap (λ n. cut_as kinds.Bad (n + bad_rest (drop n bs))) begun
    ∙ ap (λ xs. cut_as kinds.Bad (k + length (encodes front) + bad_rest xs)) left_over
    ∙ ap (cut_as kinds.Bad) (add_assoc k (length (encodes front)) (bad_rest (drop (length (encodes front)) rest)))

bad-lost : (left : Tags) (c : ℕ) (bs cs : List ℕ) → can_go_on (left_after left c) ≡ false → chars bs ≡ c ∷ cs → bad left bs ≡ cut_as kinds.Bad (bad_rest bs)
unfolding bad
bad-lost left c bs cs h is =
    ap (λ xs. let n = length (encodes xs) in cut_as kinds.Bad (n + bad_rest (drop n bs)))
    (ap (passing_front (begins_tag left)) is ∙ passing-lost left c cs h)
    ∙ ap (cut_as kinds.Bad) (zero-add (bad_rest bs))

bad-end : (left : Tags) → bad left [] ≡ cut_as kinds.Bad (bad_rest [])
unfolding bad passing_front chars
bad-end left = ap (cut_as kinds.Bad) (zero-add (bad_rest []))

-- one character on
pub tag-step : (left : Tags) (c : ℕ) (bs rest : List ℕ) → IsPart left → can_go_on (left_after left c) ≡ true → chars bs ≡ c ∷ chars rest → bs ≡ encode c ++ rest →
    tag left bs ≡ later (length (encode c)) (tag (left_after left c) rest)
unfolding tag left_after
tag-step left c bs rest part h is spelled =
    tag_or-step kinds.End left.end c bs rest
    (tag_or kinds.Start left.start bs (tag_or kinds.Empty left.empty bs (bad left bs)))
    (tag_or kinds.Start (after left.start c) rest (tag_or kinds.Empty (after left.empty c) rest (bad (left_after left c) rest)))
    part.end is
    (tag_or-step kinds.Start left.start c bs rest
    (tag_or kinds.Empty left.empty bs (bad left bs)) (tag_or kinds.Empty (after left.empty c) rest (bad (left_after left c) rest))
    part.start is
    (tag_or-step kinds.Empty left.empty c bs rest (bad left bs) (bad (left_after left c) rest) part.empty is (bad-step left c bs rest h is spelled)))

-- no tag comes behind this character
pub tag-lost : (left : Tags) (c : ℕ) (bs cs : List ℕ) → IsPart left → left_after left c ≡ in_end never → chars bs ≡ c ∷ cs → tag left bs ≡ cut_as kinds.Bad (bad_rest bs)
unfolding tag left_after
tag-lost left c bs cs part lost is =
    let lost_end : after left.end c ≡ never = ap (λ (t : Tags). t.end) lost in
    let lost_start : after left.start c ≡ never = ap (λ (t : Tags). t.start) lost in
    let lost_empty : after left.empty c ≡ never = ap (λ (t : Tags). t.empty) lost in
    tag_or-lost kinds.End left.end c bs cs (tag_or kinds.Start left.start bs (tag_or kinds.Empty left.empty bs (bad left bs))) part.end lost_end is
    ∙ tag_or-lost kinds.Start left.start c bs cs (tag_or kinds.Empty left.empty bs (bad left bs)) part.start lost_start is
    ∙ tag_or-lost kinds.Empty left.empty c bs cs (bad left bs) part.empty lost_empty is
    ∙ bad-lost left c bs cs (ap can_go_on lost) is

-- the text ends
pub tag-end : (left : Tags) → IsPart left → tag left [] ≡ cut_as kinds.Bad (bad_rest [])
unfolding tag
tag-end left part =
    tag_or-end kinds.End left.end (tag_or kinds.Start left.start [] (tag_or kinds.Empty left.empty [] (bad left []))) part.end
    ∙ tag_or-end kinds.Start left.start (tag_or kinds.Empty left.empty [] (bad left [])) part.start
    ∙ tag_or-end kinds.Empty left.empty (bad left []) part.empty
    ∙ bad-end left

-- a tag is whole here
tag-is_start : (rest : List ℕ) → tag (left_of seen.Start) rest ≡ cut_as kinds.Start 0
unfolding tag left_of
tag-is_start rest =
    tag_or-never kinds.End rest (tag_or kinds.Start nothing rest (tag_or kinds.Empty never rest (bad (left_of seen.Start) rest)))
    ∙ tag_or-whole kinds.Start rest (tag_or kinds.Empty never rest (bad (left_of seen.Start) rest))

tag-is_empty : (rest : List ℕ) → tag (left_of seen.Empty) rest ≡ cut_as kinds.Empty 0
unfolding tag left_of
tag-is_empty rest =
    tag_or-never kinds.End rest (tag_or kinds.Start never rest (tag_or kinds.Empty nothing rest (bad (left_of seen.Empty) rest)))
    ∙ tag_or-never kinds.Start rest (tag_or kinds.Empty nothing rest (bad (left_of seen.Empty) rest))
    ∙ tag_or-whole kinds.Empty rest (bad (left_of seen.Empty) rest)

tag-is_end : (rest : List ℕ) → tag (left_of seen.End) rest ≡ cut_as kinds.End 0
unfolding tag left_of
tag-is_end rest = tag_or-whole kinds.End rest (tag_or kinds.Start never rest (tag_or kinds.Empty never rest (bad (left_of seen.End) rest)))

-- what was read is a whole tag of this kind
pub record IsWhole (read : TagState) (kind : TokenKind) : Type 0 where
  pub possible : can_go_on (left_of read) ≡ true
  pub cut : (rest : List ℕ) → tag (left_of read) rest ≡ cut_as kind 0

pub start-whole : IsWhole seen.Start kinds.Start
unfolding left_of
start-whole = record { possible = refl; cut = tag-is_start }

pub empty-whole : IsWhole seen.Empty kinds.Empty
unfolding left_of
empty-whole = record { possible = refl; cut = tag-is_empty }

pub end-whole : IsWhole seen.End kinds.End
unfolding left_of
end-whole = record { possible = refl; cut = tag-is_end }

-- what was read is no whole tag, and not lost
pub record IsOpen (read : TagState) : Type 0 where
  pub part : IsPart (left_of read)
  pub possible : can_go_on (left_of read) ≡ true

pub is_open : (read : TagState) → (read ≡ seen.Start → ⊥) → (read ≡ seen.Empty → ⊥) → (read ≡ seen.End → ⊥) → (read ≡ seen.Lost → ⊥) → IsOpen read
unfolding left_of
is_open seen.Open a b c d = record { part = record { end = refl; start = refl; empty = refl }; possible = refl }
is_open seen.Name a b c d = record { part = record { end = refl; start = refl; empty = refl }; possible = refl }
is_open seen.Gap a b c d = record { part = record { end = refl; start = refl; empty = refl }; possible = refl }
is_open seen.Attribute a b c d = record { part = record { end = refl; start = refl; empty = refl }; possible = refl }
is_open seen.AttributeGap a b c d = record { part = record { end = refl; start = refl; empty = refl }; possible = refl }
is_open seen.Equals a b c d = record { part = record { end = refl; start = refl; empty = refl }; possible = refl }
is_open seen.Double a b c d = record { part = record { end = refl; start = refl; empty = refl }; possible = refl }
is_open seen.Single a b c d = record { part = record { end = refl; start = refl; empty = refl }; possible = refl }
is_open seen.Value a b c d = record { part = record { end = refl; start = refl; empty = refl }; possible = refl }
is_open seen.Slash a b c d = record { part = record { end = refl; start = refl; empty = refl }; possible = refl }
is_open seen.EndOpen a b c d = record { part = record { end = refl; start = refl; empty = refl }; possible = refl }
is_open seen.EndName a b c d = record { part = record { end = refl; start = refl; empty = refl }; possible = refl }
is_open seen.EndGap a b c d = record { part = record { end = refl; start = refl; empty = refl }; possible = refl }
is_open seen.Start a b c d = absurd (a refl)
is_open seen.Empty a b c d = absurd (b refl)
is_open seen.End a b c d = absurd (c refl)
is_open seen.Lost a b c d = absurd (d refl)

pub lost_left : left_of seen.Lost ≡ in_end never
unfolding left_of
lost_left = refl

later-later : (p q r : ℕ) (cut : Cut) → p + q ≡ r → later p (later q cut) ≡ later r cut
later-later p q r cut e = ap (cut_as cut.kind) (omega arith)

-- a token that began earlier ends where its rest does
ends-later : (text : List ℕ) (at place : ℕ) (cut : Cut) (found : End) → at ≤ place → EndsAt text place cut found → EndsAt text at (later (place - at) cut) found
ends-later text at place cut found behind e = record { kind = e.kind; place = (let there = e.place in omega arith); border = e.border }

-- a part of a tag was read from `at` up to `place`, where the character c stands
module _ (text : List ℕ) (at place c : ℕ) (left : Tags) (utf8 : IsUtf8 text) (here : StandsAt text place c) (behind : at ≤ place) (part : IsPart left)
    (so_far : tag tags (drop at text) ≡ later (place - at) (tag left (drop place text))) where
  characters : chars (drop place text) ≡ c ∷ chars here.rest
  characters = chars_past_char (drop place text) here.rest c (IsUtf8-drop text place utf8 here.place) here.spelled

  pub next-border : IsPlace text (place + len_utf8 c)
  next-border = IsCharBoundary-past_char text here.rest place c here.place.0 (IsUtf8-drop text place utf8 here.place) here.spelled

  pub go-on : can_go_on (left_after left c) ≡ true →
      tag tags (drop at text) ≡ later (place + len_utf8 c - at) (tag (left_after left c) (drop (place + len_utf8 c) text))
  go-on h =
      so_far
      ∙ ap (later (place - at)) (tag-step left c (drop place text) here.rest part h characters here.spelled)
      ∙ later-later (place - at) (length (encode c)) (place + len_utf8 c - at) (tag (left_after left c) here.rest) (let k = length-encode c in omega arith)
      ∙ ap (λ rest. later (place + len_utf8 c - at) (tag (left_after left c) rest)) (sym (drop_past_char text here.rest place c here.spelled))

  pub step-on : (read : TagState) → left_of read ≡ left_after left c → IsOpen read → (behind_c : ℕ) → behind_c ≡ place + len_utf8 c →
      IsReadTo text at behind_c read
  step-on read next is_open behind_c is =
      record {
        border = subst (λ n. IsPlace text n) (sym is) next-border;
        behind = omega arith;
        part = is_open.part;
        so_far =
            go-on (sym (ap can_go_on next) ∙ is_open.possible)
            ∙ ap (λ (t : Tags). later (place + len_utf8 c - at) (tag t (drop (place + len_utf8 c) text))) (sym next)
            ∙ ap (λ n. later (n - at) (tag (left_of read) (drop n text))) (sym is);
      }

  pub is-lost : left_of seen.Lost ≡ left_after left c → (found : End) → EndsAt text place (cut_as kinds.Bad (bad_rest (drop place text))) found →
      EndsAt text at (tag tags (drop at text)) found
  is-lost next found e =
      let lost : left_after left c ≡ in_end never = sym next ∙ lost_left in
      subst (λ (cut : Cut). EndsAt text at cut found)
      (sym (so_far ∙ ap (later (place - at)) (tag-lost left c (drop place text) (chars here.rest) part lost characters)))
      (ends-later text at place (cut_as kinds.Bad (bad_rest (drop place text))) found behind e)

  pub is-whole : (read : TagState) (kind : TokenKind) → IsWhole read kind → left_of read ≡ left_after left c →
      (found : End) → found.kind ≡ kind → found.place ≡ place + len_utf8 c → EndsAt text at (tag tags (drop at text)) found
  is-whole read kind whole next found kind_is place_is =
      let cut : tag tags (drop at text) ≡ later (place + len_utf8 c - at) (cut_as kind 0) =
      go-on (sym (ap can_go_on next) ∙ whole.possible)
      ∙ ap (λ (t : Tags). later (place + len_utf8 c - at) (tag t (drop (place + len_utf8 c) text))) (sym next)
      ∙ ap (later (place + len_utf8 c - at)) (whole.cut (drop (place + len_utf8 c) text)) in
      record {
        kind = kind_is ∙ sym (ap (λ (x : Cut). x.kind) cut);
        place = (let len = ap (λ (x : Cut). x.len) cut in omega arith);
        border = subst (λ n. IsPlace text n) (sym place_is) next-border;
      }

-- or the text ended
pub is-ended : (text : List ℕ) (at place : ℕ) (left : Tags) → IsPlace text place → HasNoCharAt text place → at ≤ place → IsPart left →
    tag tags (drop at text) ≡ later (place - at) (tag left (drop place text)) → (found : End) →
    EndsAt text place (cut_as kinds.Bad (bad_rest (drop place text))) found → EndsAt text at (tag tags (drop at text)) found
is-ended text at place left border none behind part so_far found e =
    let ended : place ≡ length text = elim none [ inl x ↦ x | inr x ↦ absurd (x border) ] in
    let empty : drop place text ≡ [] = drop_all place text (omega arith) in
    subst (λ (cut : Cut). EndsAt text at cut found)
    (sym (so_far
    ∙ ap (later (place - at)) (ap (tag left) empty ∙ tag-end left part ∙ ap (λ rest. cut_as kinds.Bad (bad_rest rest)) (sym empty))))
    (ends-later text at place (cut_as kinds.Bad (bad_rest (drop place text))) found behind e)

-- a tag begins with `<`
opened : left_after tags 60 ≡ left_of seen.Open
unfolding left_after left_of
opened = refl

can_open : can_go_on (left_after tags 60) ≡ true
unfolding left_after
can_open = refl

tags_part : IsPart tags
tags_part = record { end = refl; start = refl; empty = refl }

pub begin-tag : (text : List ℕ) (at : ℕ) → IsUtf8 text → at < length text → get_or text at 0 ≡ 60 →
    tag tags (drop at text) ≡ later (at + 1 - at) (tag (left_of seen.Open) (drop (at + 1) text))
begin-tag text at utf8 within is =
    let border : IsPlace text at = IsCharBoundary-before_ascii text at within (omega (arith, is)) in
    let split : drop at text ≡ encode 60 ++ drop (at + 1) text =
    drop_more text at 0 within ∙ ap (λ b. b ∷ drop (at + 1) text) is ∙ sym (ap (λ bs. bs ++ drop (at + 1) text) (encode_ascii 60 (omega arith))) in
    let nothing_read : tag tags (drop at text) ≡ later (at - at) (tag tags (drop at text)) =
    (let cut = tag tags (drop at text) in ap (cut_as cut.kind) (let e : cut.len ≡ at - at + cut.len = omega arith in e)) in
    go-on text at at 60 tags utf8 (record { place = border; rest = drop (at + 1) text; spelled = split }) (omega arith) tags_part nothing_read can_open
    ∙ ap (λ left. later (at + 1 - at) (tag left (drop (at + 1) text))) opened

pub begin-place : (text : List ℕ) (at : ℕ) → IsUtf8 text → at < length text → get_or text at 0 ≡ 60 → IsPlace text (at + 1)
begin-place text at utf8 within is = IsCharBoundary-after_ascii text at utf8 within (omega (arith, is))

pub open-part : IsPart (left_of seen.Open)
unfolding left_of
open-part = record { end = refl; start = refl; empty = refl }
