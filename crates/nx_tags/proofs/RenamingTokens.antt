-- The tokens of a text in which the name in a tag is another.
use Rattle.std.proofs.Common.{◌≡◌, ℕ, zero, suc, ◌+◌, ◌-◌, ◌<◌, ◌≤◌, Bool, inl, inr, List, [], ◌∷◌, ◌++◌, length, map, take, drop, refl, sym, ◌∙◌, ap, subst, arith, append_assoc}
use Rattle.std.proofs.Common.{append-nil, length-append, length-take, length-drop, take-append-drop, codes}
use Rattle.std.specs.Prelude.{◌==◌}
use Rattle.std.specs.Str.{IsUtf8}
use lib.Utf8.{encode, encodes}
use Rattle.std.proofs.lemmas.Bool.{cases_lt, lt-ltb, le-ltb, le-leb}
use Rattle.std.proofs.lemmas.List.{drop-drop, drop_at, take_at, length-take-le}
use Rattle.std.proofs.lemmas.Str.{IsUtf8-append, IsUtf8-nil, IsUtf8-take, IsUtf8-drop, IsUtf8-past_char, IsCharBoundary-at_seam, IsCharBoundary-start}
use Rattle.nx_base.specs.Characters.{is_space}
use Rattle.nx_base.specs.Text.{IsPlace, edited}
use Rattle.nx_base.specs.Tokens.{Cut, cut_as, first_token, cut, end_of, tokens_from, tokens_of}
use Rattle.nx_base.specs.declared.change.Change.{Change}
use Rattle.nx_base.specs.declared.token.Token.{Token}
use Rattle.nx_base.specs.declared.token.TokenKind.TheVariants as kinds
use Rattle.nx_events.specs.SpelledTags.{IsName, IsSpelled, IsSpelledTag, IsSpelledEnd}
use Rattle.nx_events.specs.Spelling.{AreSpaces, AreBetween, spelled_all}
use Rattle.nx_events.specs.Tags.{is_between, start_name, end_name}
use Rattle.nx_events.proofs.FormWords.{all_pass-append}
use Rattle.nx_events.proofs.Spelling.{Headed, tags_are_read, name_read, spaces_between, between_head}
use Rattle.nx_events.proofs.TagKinds.{tags_are_spelled}
use Rattle.nx_events.proofs.TagPlaces.{name_bytes_of}
use Rattle.nx_scan.specs.Tag.{later}
use Rattle.nx_scan.proofs.Every.{cut-fits, cut-is_token, cut-length}
use Rattle.nx_scan.proofs.NameTags.{behind_name, behind_end_name, start_goes_on, end_goes_on}
use Rattle.nx_scan.proofs.Joined.{tokens-go_on, depends-on_rest}
use Rattle.nx_scan.proofs.OwnBytes.{cut-own}
use Rattle.nx_scan.proofs.Themselves.{cut-same}
use Rattle.nx_tags.specs.Changing.{replacing}
use Rattle.nx_tags.specs.Renamed.{moved_by}
use Rattle.nx_tags.proofs.Around.{tokens-none}
use Rattle.nx_tags.proofs.NameTags.{one_utf8}

-- ---- UTF-8 behind UTF-8

behind_chars : (cs ys : List ℕ) → IsUtf8 (encodes cs ++ ys) → IsUtf8 ys
behind_chars [] ys h = h
behind_chars (c ∷ cs) ys h =
    behind_chars cs ys (IsUtf8-past_char ((encode c ++ encodes cs) ++ ys) (encodes cs ++ ys) c h (append_assoc (encode c) (encodes cs) ys))

pub utf8_behind : (xs ys : List ℕ) → IsUtf8 xs → IsUtf8 (xs ++ ys) → IsUtf8 ys
utf8_behind xs ys u h = behind_chars u.0 ys (subst (λ zs. IsUtf8 (zs ++ ys)) (sym u.1.1) h)

-- ---- tokens that are read up to a tag

token_is : (a b : Token) → a.kind ≡ b.kind → a.from ≡ b.from → a.bytes ≡ b.bytes → a ≡ b
token_is a b k f e =
    ap (λ x. record { kind = x; from = a.from; bytes = a.bytes }) k ∙ ap (λ x. record { kind = b.kind; from = x; bytes = a.bytes }) f
    ∙ ap (λ x. record { kind = b.kind; from = b.from; bytes = x }) e

-- the tag is cut where it begins, and those behind it are cut from its end on
pub record Reached (text : List ℕ) (p : ℕ) (tag : Token) (behind : List Token) : Type 0 where
  pub further : p ≤ tag.from
  pub place : IsPlace text tag.from
  pub within : tag.from < length text
  pub is_cut : cut text tag.from ≡ tag
  pub rest : tokens_from text (end_of tag) ≡ behind

first_is : {t u : Token} {ts us : List Token} → t ∷ ts ≡ u ∷ us → t ≡ u
first_is e = cc

rest_is : {t u : Token} {ts us : List Token} → t ∷ ts ≡ u ∷ us → ts ≡ us
rest_is e = cc

none_is : {u : Token} {us : List Token} → [] ≡ u ∷ us → ⊥
none_is e = cc

pub reached : (before : List Token) (text : List ℕ) (p : ℕ) (tag : Token) (behind : List Token) → IsUtf8 text → IsPlace text p →
    tokens_from text p ≡ before ++ tag ∷ behind → Reached text p tag behind
reached [] text p tag behind utf8 place e =
    elim (cases_lt p (length text)) [
      | inl within ↦
          (let all = sym (tokens-go_on text p utf8 place within) ∙ e in
          let same : cut text p ≡ tag = first_is all in
          let from : p ≡ tag.from = sym (cut-is_token text p utf8 place within).from ∙ ap (λ (t : Token). t.from) same in
          record {
            further = omega (arith, from);
            place = subst (λ n. IsPlace text n) from place;
            within = omega (arith, from, within);
            is_cut = ap (cut text) (sym from) ∙ same;
            rest = ap (λ (t : Token). tokens_from text (end_of t)) (sym same) ∙ rest_is all;
          })
      | inr past ↦ absurd (none_is (sym (tokens-none text p past) ∙ e))
    ]
reached (t ∷ ts) text p tag behind utf8 place e =
    elim (cases_lt p (length text)) [
      | inl within ↦
          (let all = sym (tokens-go_on text p utf8 place within) ∙ e in
          let token = cut-is_token text p utf8 place within in
          let from = token.from in
          let r = reached ts text (end_of (cut text p)) tag behind utf8 token.border (rest_is all) in
          record { further = (let le = r.further in omega arith); place = r.place; within = r.within; is_cut = r.is_cut; rest = r.rest })
      | inr past ↦ absurd (none_is (sym (tokens-none text p past) ∙ e))
    ]

-- another text that is the same through the byte with which the tag begins has the same tokens in front of it
pub fronts_stay : (before : List Token) (text other : List ℕ) (p : ℕ) (tag : Token) (behind : List Token) → IsUtf8 text → IsUtf8 other →
    IsPlace text p → IsPlace other p → IsPlace text (tag.from + 1) → take (tag.from + 1) other ≡ take (tag.from + 1) text →
    tokens_from text p ≡ before ++ tag ∷ behind → tokens_from other p ≡ before ++ tokens_from other tag.from
fronts_stay [] text other p tag behind utf8 other_utf8 place there known same e =
    elim (cases_lt p (length text)) [
      | inl within ↦
          (let all = sym (tokens-go_on text p utf8 place within) ∙ e in
          let first : cut text p ≡ tag = first_is all in
          ap (tokens_from other) (sym (cut-is_token text p utf8 place within).from ∙ ap (λ (t : Token). t.from) first))
      | inr past ↦ absurd (none_is (sym (tokens-none text p past) ∙ e))
    ]
fronts_stay (t ∷ ts) text other p tag behind utf8 other_utf8 place there known same e =
    elim (cases_lt p (length text)) [
      | inl within ↦
          (let all = sym (tokens-go_on text p utf8 place within) ∙ e in
          let token = cut-is_token text p utf8 place within in
          let r = reached ts text (end_of (cut text p)) tag behind utf8 token.border (rest_is all) in
          let le = r.further in
          let some = token.some in
          let from = token.from in
          let fits = known.0 in
          let long : length (take (tag.from + 1) other) ≡ length (take (tag.from + 1) text) = ap length same in
          let sizes = length-take (tag.from + 1) other in
          let text_size = length-take-le (tag.from + 1) text fits in
          let other_within : p < length other = omega (arith, long, sizes, text_size, le, some, from) in
          let stays : cut other p ≡ cut text p = cut-same text other p (tag.from + 1) utf8 other_utf8 place within (omega (arith, le)) known same in
          let border : IsPlace other (end_of (cut text p)) =
          subst (λ (x : Token). IsPlace other (end_of x)) stays (cut-is_token other p other_utf8 there other_within).border in
          tokens-go_on other p other_utf8 there other_within
          ∙ ap (λ (x : Token). x ∷ tokens_from other (end_of x)) (stays ∙ first_is all)
          ∙ ap (λ (xs : List Token). t ∷ xs)
          (ap (λ (x : Token). tokens_from other (end_of x)) (sym (first_is all))
          ∙ fronts_stay ts text other (end_of (cut text p)) tag behind utf8 other_utf8 token.border border known same (rest_is all)))
      | inr past ↦ absurd (none_is (sym (tokens-none text p past) ∙ e))
    ]

-- ---- tokens behind an edit

-- the token elsewhere
abbrev pub set_off : (ℕ → ℕ) → Token → Token
set_off m token = record { kind = token.kind; from = m token.from; bytes = token.bytes }

pub all_set_off : (n : ℕ) (text other : List ℕ) (q r : ℕ) (m : ℕ → ℕ) → ((p : ℕ) → q ≤ p → m p + q ≡ p + r) → IsUtf8 text → IsUtf8 other →
    IsPlace text q → IsPlace other r → 0 < q → 0 < r → drop q text ≡ drop r other → length text - q ≤ n →
    tokens_from other r ≡ map (set_off m) (tokens_from text q)
all_set_off zero text other q r m moves utf8 other_utf8 place there some other_some same fuel =
    let len : length text - q ≡ length other - r = sym (length-drop q text) ∙ ap length same ∙ length-drop r other in
    tokens-none other r (omega arith) ∙ sym (ap (map (set_off m)) (tokens-none text q (omega arith)))
all_set_off (suc n) text other q r m moves utf8 other_utf8 place there some other_some same fuel =
    let len : length text - q ≡ length other - r = sym (length-drop q text) ∙ ap length same ∙ length-drop r other in
    elim (cases_lt q (length text)) [
      | inl within ↦
          (let t = cut text q in
          let token = cut-is_token text q utf8 place within in
          let other_within : r < length other = omega (arith, len, within) in
          let other_token = cut-is_token other r other_utf8 there other_within in
          let alike = depends-on_rest text other q r same (λ e. absurd (omega arith), λ e. absurd (omega arith)) in
          let from = token.from in
          let here : m q + q ≡ q + r = moves q (omega arith) in
          let to_there : r ≡ m t.from = (let e : r ≡ m q = omega (arith, here) in e ∙ ap m (sym from)) in
          let moved : cut other r ≡ set_off m t = token_is (cut other r) (set_off m t) (sym alike.0) (other_token.from ∙ to_there) (sym alike.1) in
          let some_bytes = token.some in
          let end : end_of (set_off m t) ≡ r + length t.bytes = ap (λ n. n + length t.bytes) (sym to_there) in
          let border : IsPlace other (r + length t.bytes) =
          subst (λ n. IsPlace other n) end (subst (λ (x : Token). IsPlace other (end_of x)) moved other_token.border) in
          let rest : drop (end_of t) text ≡ drop (r + length t.bytes) other =
          ap (λ n. drop (n + length t.bytes) text) from ∙ sym (drop-drop (length t.bytes) q text)
          ∙ ap (drop (length t.bytes)) same ∙ drop-drop (length t.bytes) r other in
          tokens-go_on other r other_utf8 there other_within
          ∙ ap (λ (x : Token). x ∷ tokens_from other (end_of x)) moved
          ∙ ap (λ n. set_off m t ∷ tokens_from other n) end
          ∙ ap (λ (xs : List Token). set_off m t ∷ xs)
          (all_set_off n text other (end_of t) (r + length t.bytes) m
          (λ p le. (let e = moves p (omega (arith, from, le)) in omega (arith, from, e)))
          utf8 other_utf8 token.border border (omega (arith, some)) (omega (arith, other_some)) rest (omega (arith, from, some_bytes, fuel)))
          ∙ sym (ap (map (set_off m)) (tokens-go_on text q utf8 place within)))
      | inr past ↦ tokens-none other r (omega (arith, len, past)) ∙ sym (ap (map (set_off m)) (tokens-none text q past))
    ]

pub moved_behind : (change : Change) (p : ℕ) → change.from ≤ change.to → change.to ≤ p →
    moved_by change p ≡ p - (change.to - change.from) + length change.text
moved_behind change p ordered le = rw (le-ltb p change.from (omega arith), le-leb change.to p le) refl

pub moved_front : (change : Change) (p : ℕ) → p < change.from → moved_by change p ≡ p
moved_front change p lt = rw (lt-ltb p change.from lt) refl

-- ---- a tag with another name

-- what stands behind the first byte of a tag's mark
pub record IsMark (mark rest : List ℕ) : Type 0 where
  pub begins : mark ≡ 60 ∷ rest
  pub utf8 : IsUtf8 mark
  pub rest_utf8 : IsUtf8 rest

-- the bytes of a tag: its mark, its name, and what follows
pub record IsNamedTag (mark name tail : List ℕ) (tag : Token) : Type 0 where
  pub is : IsName name
  pub bytes : tag.bytes ≡ mark ++ (name ++ tail)

-- the tag, named otherwise
abbrev pub named_tag : List ℕ → List ℕ → List ℕ → Token → Token
named_tag mark name tail tag = record { kind = tag.kind; from = tag.from; bytes = mark ++ (name ++ tail) }

-- the change of its name
abbrev pub name_change : List ℕ → List ℕ → List ℕ → Token → Change
name_change mark name other tag = replacing (tag.from + length mark) (tag.from + length mark + length name) other

pub record OneNamed (text mark name other tail : List ℕ) (before behind : List Token) (tag : Token) : Type 0 where
  pub utf8 : IsUtf8 (edited text (tag.from + length mark) (tag.from + length mark + length name) other)
  pub tokens : tokens_of (edited text (tag.from + length mark) (tag.from + length mark + length name) other)
      ≡ before ++ named_tag mark other tail tag ∷ map (set_off (moved_by (name_change mark name other tag))) behind
  pub whole : length tag.bytes ≡ length mark + (length name + length tail)
  pub long : length (edited text (tag.from + length mark) (tag.from + length mark + length name) other)
      ≡ moved_by (name_change mark name other tag) (length text)

module _ (text mark mark_rest name other tail : List ℕ) (before behind : List Token) (tag : Token) (read : List ℕ → Cut) (utf8 : IsUtf8 text)
    (split : tokens_of text ≡ before ++ tag ∷ behind) (is_mark : IsMark mark mark_rest) (named : IsNamedTag mark name tail tag) (is : IsName other)
    (reads : (s : Bool) (n more : List ℕ) → IsName n → IsUtf8 more → first_token s (mark ++ (n ++ more)) ≡ later (length mark + length n) (read more)) where
  abbrev at : ℕ
  at = tag.from

  abbrev more : List ℕ
  more = drop (end_of tag) text

  abbrev front : List ℕ
  front = take at text

  there : Reached text 0 tag behind
  there = reached before text 0 tag behind utf8 (IsCharBoundary-start text utf8) split

  front_len : length front ≡ at
  front_len = length-take-le tag.from text there.place.0

  end_place : IsPlace text (end_of tag)
  end_place = subst (λ (x : Token). IsPlace text (end_of x)) there.is_cut (cut-is_token text tag.from utf8 there.place there.within).border

  some_bytes : 0 < length tag.bytes
  some_bytes = subst (λ (x : Token). 0 < length x.bytes) there.is_cut (cut-is_token text tag.from utf8 there.place there.within).some

  -- the text in front of the tag, the tag, and what follows it
  here : drop at text ≡ tag.bytes ++ more
  unfolding cut
  here =
      let found = first_token (tag.from == 0) (drop tag.from text) in
      let bytes : tag.bytes ≡ take found.len (drop tag.from text) = ap (λ (x : Token). x.bytes) (sym there.is_cut) in
      let len : length tag.bytes ≡ found.len = ap (λ (x : Token). length x.bytes) (sym there.is_cut) ∙ cut-length text tag.from utf8 there.place there.within in
      sym (take-append-drop found.len (drop tag.from text))
      ∙ ap (λ xs. xs ++ drop found.len (drop tag.from text)) (sym bytes)
      ∙ ap (λ xs. tag.bytes ++ xs) (drop-drop found.len tag.from text ∙ ap (λ n. drop (tag.from + n) text) (sym len))

  spelled : drop at text ≡ mark ++ (name ++ (tail ++ more))
  spelled =
      here ∙ ap (λ xs. xs ++ more) named.bytes ∙ append_assoc mark (name ++ tail) more ∙ ap (λ xs. mark ++ xs) (append_assoc name tail more)

  rest_utf8 : IsUtf8 (tail ++ more)
  rest_utf8 =
      utf8_behind name (tail ++ more) named.is.utf8
      (utf8_behind mark (name ++ (tail ++ more)) is_mark.utf8 (subst (λ xs. IsUtf8 xs) spelled (IsUtf8-drop text tag.from utf8 there.place)))

  -- the text with another name there
  abbrev after : List ℕ
  after = edited text (tag.from + length mark) (tag.from + length mark + length name) other

  text_is : text ≡ front ++ (mark ++ (name ++ (tail ++ more)))
  text_is = sym (take-append-drop tag.from text) ∙ ap (λ xs. take tag.from text ++ xs) spelled

  after_is : after ≡ front ++ (mark ++ (other ++ (tail ++ more)))
  after_is =
      let rest = tail ++ more in
      let one : length (front ++ mark) ≡ tag.from + length mark = length-append front mark ∙ ap (λ n. n + length mark) front_len in
      let two : length ((front ++ mark) ++ name) ≡ tag.from + length mark + length name = length-append (front ++ mark) name ∙ ap (λ n. n + length name) one in
      let parts : text ≡ (front ++ mark) ++ (name ++ rest) = text_is ∙ sym (append_assoc front mark (name ++ rest)) in
      let begins : take (tag.from + length mark) text ≡ front ++ mark =
      ap (take (tag.from + length mark)) parts ∙ take_at (front ++ mark) (name ++ rest) (tag.from + length mark) one in
      let ends : drop (tag.from + length mark + length name) text ≡ rest =
      ap (drop (tag.from + length mark + length name)) (parts ∙ sym (append_assoc (front ++ mark) name rest))
      ∙ drop_at ((front ++ mark) ++ name) rest (tag.from + length mark + length name) two in
      ap (λ xs. (xs ++ other) ++ drop (tag.from + length mark + length name) text) begins
      ∙ ap (λ xs. ((front ++ mark) ++ other) ++ xs) ends
      ∙ append_assoc (front ++ mark) other rest ∙ append_assoc front mark (other ++ rest)

  behind_mark_utf8 : (n : List ℕ) → IsName n → IsUtf8 (mark ++ (n ++ (tail ++ more)))
  behind_mark_utf8 n n_is = IsUtf8-append mark (n ++ (tail ++ more)) is_mark.utf8 (IsUtf8-append n (tail ++ more) n_is.utf8 rest_utf8)

  front_utf8 : IsUtf8 front
  front_utf8 = IsUtf8-take text tag.from utf8 there.place

  after_utf8 : IsUtf8 after
  after_utf8 =
      subst (λ xs. IsUtf8 xs) (sym after_is) (IsUtf8-append front (mark ++ (other ++ (tail ++ more))) front_utf8 (behind_mark_utf8 other is))

  after_place : IsPlace after at
  after_place =
      subst (λ n. IsPlace after n) front_len (IsCharBoundary-at_seam after front (mark ++ (other ++ (tail ++ more))) after_is (behind_mark_utf8 other is))

  after_back : drop at after ≡ mark ++ (other ++ (tail ++ more))
  after_back = ap (drop at) after_is ∙ drop_at front (mark ++ (other ++ (tail ++ more))) at front_len

  -- both texts are the same through the first byte of the mark
  through : (n : List ℕ) → front ++ (mark ++ n) ≡ (front ++ 60 ∷ []) ++ (mark_rest ++ n)
  through n = ap (λ xs. front ++ (xs ++ n)) is_mark.begins ∙ sym (append_assoc front (60 ∷ []) (mark_rest ++ n))

  first_len : length (front ++ 60 ∷ []) ≡ at + 1
  first_len = length-append front (60 ∷ []) ∙ ap (λ n. n + 1) front_len

  known : IsPlace text (at + 1)
  known =
      subst (λ n. IsPlace text n) first_len
      (IsCharBoundary-at_seam text (front ++ 60 ∷ []) (mark_rest ++ (name ++ (tail ++ more))) (text_is ∙ through (name ++ (tail ++ more)))
      (IsUtf8-append mark_rest (name ++ (tail ++ more)) is_mark.rest_utf8 (IsUtf8-append name (tail ++ more) named.is.utf8 rest_utf8)))

  same : take (at + 1) after ≡ take (at + 1) text
  same =
      ap (take (at + 1)) (after_is ∙ through (other ++ (tail ++ more)))
      ∙ take_at (front ++ 60 ∷ []) (mark_rest ++ (other ++ (tail ++ more))) (at + 1) first_len
      ∙ sym (ap (take (at + 1)) (text_is ∙ through (name ++ (tail ++ more)))
      ∙ take_at (front ++ 60 ∷ []) (mark_rest ++ (name ++ (tail ++ more))) (at + 1) first_len)

  -- what is read behind the name makes the tag
  found : first_token (at == 0) (drop at text) ≡ later (length mark + length name) (read (tail ++ more))
  found = ap (first_token (at == 0)) spelled ∙ reads (at == 0) name (tail ++ more) named.is rest_utf8

  tag_len : length tag.bytes ≡ length mark + (length name + length tail)
  tag_len = ap length named.bytes ∙ length-append mark (name ++ tail) ∙ ap (λ n. length mark + n) (length-append name tail)

  read_len : (read (tail ++ more)).len ≡ length tail
  read_len =
      let len : length tag.bytes ≡ length mark + length name + (read (tail ++ more)).len =
      ap (λ (x : Token). length x.bytes) (sym there.is_cut) ∙ cut-length text tag.from utf8 there.place there.within ∙ ap (λ (c : Cut). c.len) found in
      let whole = tag_len in
      omega (arith, len, whole)

  read_kind : (read (tail ++ more)).kind ≡ tag.kind
  unfolding cut
  read_kind = ap (λ (c : Cut). c.kind) (sym found) ∙ ap (λ (x : Token). x.kind) there.is_cut

  found_there : first_token (at == 0) (drop at after) ≡ cut_as tag.kind (length (mark ++ (other ++ tail)))
  found_there =
      let whole : length mark + length other + (read (tail ++ more)).len ≡ length (mark ++ (other ++ tail)) =
      (let a = length-append mark (other ++ tail) in let b = length-append other tail in let c = read_len in omega (arith, a, b, c)) in
      ap (first_token (at == 0)) after_back ∙ reads (at == 0) other (tail ++ more) is rest_utf8
      ∙ ap (λ k. cut_as k (length mark + length other + (read (tail ++ more)).len)) read_kind ∙ ap (cut_as tag.kind) whole

  abbrev new_tag : Token
  new_tag = named_tag mark other tail tag

  grouped : (n : List ℕ) → mark ++ (n ++ (tail ++ more)) ≡ (mark ++ (n ++ tail)) ++ more
  grouped n = ap (λ xs. mark ++ xs) (sym (append_assoc n tail more)) ∙ sym (append_assoc mark (n ++ tail) more)

  cut_there : cut after at ≡ new_tag
  unfolding cut
  cut_there =
      token_is (cut after tag.from) (named_tag mark other tail tag) (ap (λ (c : Cut). c.kind) found_there) refl
      (ap (λ (c : Cut). take c.len (drop tag.from after)) found_there ∙ ap (take (length (mark ++ (other ++ tail)))) (after_back ∙ grouped other)
      ∙ take_at (mark ++ (other ++ tail)) more (length (mark ++ (other ++ tail))) refl)

  within_there : at < length after
  within_there =
      let left = length-drop tag.from after in
      let size : length (drop tag.from after) ≡ length (mark ++ (other ++ (tail ++ more))) = ap length after_back in
      let parts = length-append mark (other ++ (tail ++ more)) in
      let some : length mark ≡ suc (length mark_rest) = ap length is_mark.begins in
      omega (arith, left, size, parts, some)

  -- and behind it
  abbrev end_there : ℕ
  end_there = at + length (mark ++ (other ++ tail))

  border_there : IsPlace after end_there
  border_there = subst (λ (x : Token). IsPlace after (end_of x)) cut_there (cut-is_token after tag.from after_utf8 after_place within_there).border

  rest_there : drop (end_of tag) text ≡ drop end_there after
  rest_there =
      sym (sym (drop-drop (length (mark ++ (other ++ tail))) tag.from after)
      ∙ ap (drop (length (mark ++ (other ++ tail)))) (after_back ∙ grouped other)
      ∙ drop_at (mark ++ (other ++ tail)) (drop (end_of tag) text) (length (mark ++ (other ++ tail))) refl)

  moves : (p : ℕ) → end_of tag ≤ p → moved_by (name_change mark name other tag) p + end_of tag ≡ p + end_there
  moves p le =
      let whole = tag_len in
      let by = moved_behind (name_change mark name other tag) p (omega arith) (omega (arith, whole, le)) in
      let a = length-append mark (other ++ tail) in
      let b = length-append other tail in
      omega (arith, whole, by, a, b, le)

  -- how long it is
  after_long : length after ≡ moved_by (name_change mark name other tag) (length text)
  after_long =
      let fits = end_place.0 in
      let whole = tag_len in
      let by = moved_behind (name_change mark name other tag) (length text) (omega arith) (omega (arith, whole, fits)) in
      let a = ap length after_is ∙ length-append front (mark ++ (other ++ (tail ++ more))) in
      let b = length-append mark (other ++ (tail ++ more)) in
      let c = length-append other (tail ++ more) in
      let old = ap length text_is ∙ length-append front (mark ++ (name ++ (tail ++ more))) in
      let d = length-append mark (name ++ (tail ++ more)) in
      let e = length-append name (tail ++ more) in
      omega (arith, by, a, b, c, old, d, e)

  pub one_named : OneNamed text mark name other tail before behind tag
  one_named = record {
    utf8 = after_utf8;
    tokens =
        fronts_stay before text after 0 tag behind utf8 after_utf8 (IsCharBoundary-start text utf8) (IsCharBoundary-start after after_utf8) known same split
        ∙ ap (λ xs. before ++ xs)
        (tokens-go_on after tag.from after_utf8 after_place within_there
        ∙ ap (λ (x : Token). x ∷ tokens_from after (end_of x)) cut_there
        ∙ ap (λ xs. named_tag mark other tail tag ∷ xs)
        (all_set_off (length text - end_of tag) text after (end_of tag) end_there (moved_by (name_change mark name other tag)) moves utf8 after_utf8
        end_place border_there (let some = some_bytes in omega (arith, some)) (let l = length-append mark (other ++ tail) in
        let some : length mark ≡ suc (length mark_rest) = ap length is_mark.begins in omega (arith, l, some)) rest_there (omega arith)
        ∙ ap (map (set_off (moved_by (name_change mark name other tag)))) there.rest));
    whole = tag_len;
    long = after_long;
  }

-- ---- the tags of a text

start_mark : IsMark (60 ∷ []) []
start_mark = record { begins = refl; utf8 = one_utf8 60 (omega arith) refl; rest_utf8 = IsUtf8-nil }

end_mark : IsMark (60 ∷ 47 ∷ []) (47 ∷ [])
end_mark = record {
  begins = refl;
  utf8 = IsUtf8-append (60 ∷ []) (47 ∷ []) (one_utf8 60 (omega arith) refl) (one_utf8 47 (omega arith) refl);
  rest_utf8 = one_utf8 47 (omega arith) refl;
}

-- a start tag or an empty-element tag, and an end tag, by what is read in them
pub record IsStartTag (tag : Token) : Type 0 where
  pub tail : List ℕ
  pub tail_utf8 : IsUtf8 tail
  pub reads : (n : List ℕ) → IsName n → start_name (60 ∷ (n ++ tail)) ≡ n
  pub named : IsNamedTag (60 ∷ []) (start_name tag.bytes) tail tag

pub record IsEndTag (tag : Token) : Type 0 where
  pub tail : List ℕ
  pub reads : (n : List ℕ) → IsName n → end_name (60 ∷ 47 ∷ (n ++ tail)) ≡ n
  pub named : IsNamedTag (60 ∷ 47 ∷ []) (end_name tag.bytes) tail tag

start_by : (mark : List ℕ) (tag : Token) → IsUtf8 tag.bytes → IsSpelledTag mark tag.bytes → IsStartTag tag
start_by mark tag utf8 s = record {
  tail = spelled_all s.attributes (s.space ++ mark);
  tail_utf8 = utf8_behind s.name (spelled_all s.attributes (s.space ++ mark)) s.is_name.utf8
      (utf8_behind (60 ∷ []) (s.name ++ spelled_all s.attributes (s.space ++ mark)) (one_utf8 60 (omega arith) refl) (subst (λ xs. IsUtf8 xs) s.spelled utf8));
  reads = λ n is. (tags_are_read 0 n s.attributes (s.space ++ mark) (record {
    named = (name_bytes_of n is).bytes;
    written = s.is_tag.written;
    apart = s.is_tag.apart;
    closes = s.is_tag.closes;
    closed = s.is_tag.closed;
  })).0;
  named = record {
    is = subst (λ n. IsName n) (sym s.name_read) s.is_name;
    bytes = s.spelled ∙ ap (λ n. 60 ∷ (n ++ spelled_all s.attributes (s.space ++ mark))) (sym s.name_read);
  };
}

closing_head : (space : List ℕ) → AreSpaces space → Headed (space ++ codes ">")
unfolding is_space
closing_head space are =
    let between : AreBetween (space ++ codes ">") = all_pass-append is_between space (codes ">") (spaces_between space are) (refl, tt) in
    let size : 0 < length (space ++ codes ">") = omega (arith, length-append space (codes ">")) in
    subst (λ xs. Headed xs) (append-nil (space ++ codes ">")) (between_head (space ++ codes ">") [] between size)

end_by : (tag : Token) → IsSpelledEnd tag.bytes → IsEndTag tag
end_by tag s = record {
  tail = s.space ++ codes ">";
  reads = λ n is. name_read n (s.space ++ codes ">") (name_bytes_of n is).bytes (closing_head s.space s.are_spaces);
  named = record {
    is = subst (λ n. IsName n) (sym s.name_read) s.is_name;
    bytes = s.spelled ∙ ap (λ n. 60 ∷ 47 ∷ (n ++ (s.space ++ codes ">"))) (sym s.name_read);
  };
}

module _ (text : List ℕ) (before behind : List Token) (tag : Token) (utf8 : IsUtf8 text) (split : tokens_of text ≡ before ++ tag ∷ behind) where
  is_reached : Reached text 0 tag behind
  is_reached = reached before text 0 tag behind utf8 (IsCharBoundary-start text utf8) split

  cut_utf8 : IsUtf8 (cut text tag.from).bytes
  unfolding cut
  cut_utf8 =
      IsUtf8-take (drop tag.from text) (first_token (tag.from == 0) (drop tag.from text)).len (IsUtf8-drop text tag.from utf8 is_reached.place)
      (cut-fits text tag.from utf8 is_reached.place is_reached.within).border

  tag_utf8 : IsUtf8 tag.bytes
  tag_utf8 = subst (λ (x : Token). IsUtf8 x.bytes) is_reached.is_cut cut_utf8

  tag_spelled : IsSpelled tag.kind tag.bytes
  tag_spelled =
      subst (λ (x : Token). IsSpelled x.kind x.bytes) is_reached.is_cut
      (tags_are_spelled (cut text tag.from) cut_utf8 (cut-own text tag.from utf8 is_reached.place is_reached.within))

  pub start_is : tag.kind ≡ kinds.Start → IsStartTag tag
  start_is e = start_by (codes ">") tag tag_utf8 (subst (λ k. IsSpelled k tag.bytes) e tag_spelled)

  pub empty_is : tag.kind ≡ kinds.Empty → IsStartTag tag
  empty_is e = start_by (codes "/>") tag tag_utf8 (subst (λ k. IsSpelled k tag.bytes) e tag_spelled)

  pub end_is : tag.kind ≡ kinds.End → IsEndTag tag
  end_is e = end_by tag (subst (λ k. IsSpelled k tag.bytes) e tag_spelled)

  pub start_named_so : (other : List ℕ) (s : IsStartTag tag) → IsName other → OneNamed text (60 ∷ []) (start_name tag.bytes) other s.tail before behind tag
  start_named_so other s is =
      one_named text (60 ∷ []) [] (start_name tag.bytes) other s.tail before behind tag behind_name utf8 split start_mark s.named is
      (λ b n more n_is more_utf8. start_goes_on b n more n_is.utf8 n_is.spelled more_utf8)

  pub end_named_so : (other : List ℕ) (s : IsEndTag tag) → IsName other → OneNamed text (60 ∷ 47 ∷ []) (end_name tag.bytes) other s.tail before behind tag
  end_named_so other s is =
      one_named text (60 ∷ 47 ∷ []) (47 ∷ []) (end_name tag.bytes) other s.tail before behind tag behind_end_name utf8 split end_mark s.named is
      (λ b n more n_is more_utf8. end_goes_on b n more n_is.utf8 n_is.spelled more_utf8)
