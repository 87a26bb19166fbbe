-- A part of a tag that lies in one piece.
use Rattle.std.proofs.Common.{◌≡◌, ◌∙◌, ℕ, zero, suc, ◌+◌, ◌-◌, ◌<◌, ◌≤◌, Bool, true, false, List, ◌++◌, length, take, drop, get_or, refl, sym, ap, subst, arith, take_all, inl, inr, ⊎_elim}
use Rattle.std.specs.Prelude.{nat_lt, not, ◌&&◌, ◌==◌}
use Rattle.std.specs.List.{prefix_len}
use Rattle.std.proofs.lemmas.List.Sums.{prefix_len_passes}
use Rattle.std.proofs.lemmas.Bool.{and_parts, or_cases, ltb-true, eq-eqb, eqb-true, false≢true}
use Rattle.std.specs.Str.{IsUtf8}
use lib.Utf8.{encode}
use Rattle.std.proofs.lemmas.List.{drop-drop, drop_more, drop-append-le, length-drop, get_or-drop}
use Rattle.std.proofs.lemmas.Str.{length-encode, encode_ascii}
use Rattle.nx_base.specs.Characters.{is_name_start, is_name_char}
use Rattle.nx_base.specs.Text.{IsPlace}
use Rattle.nx_base.specs.Tokens.{tag, tags}
use Rattle.nx_base.specs.declared.token.TokenKind.{TokenKind}
use Rattle.nx_base.specs.declared.token.TokenKind.TheVariants as kinds
use Rattle.nx_text.specs.Reading.{StandsAt, StandFrom}
use Rattle.nx_scan.specs.Tag.{left_of, left_after, IsReadTo, IsClosedName, IsAttribute, Passes, Stays, is_name_byte, is_value_byte}
use Rattle.nx_scan.specs.declared.scan.End.{End}
use Rattle.nx_scan.specs.Ending.{EndsAt}
use Rattle.nx_scan.specs.declared.tag.TagState.{TagState}
use Rattle.nx_scan.specs.declared.tag.TagState.TheVariants as seen
use Rattle.nx_scan.proofs.Reading.{open-slash, open-start, end-start, name-name, name-other, value-close, end-name, end-other, end-close, gap-start, attribute-name, attribute-other, gap-equals, equals-double, equals-single, double-quote, double-other, single-quote, single-other}
use Rattle.nx_scan.proofs.TagEnds.{IsOpen, IsWhole, start-whole, end-whole, open-part, begin-place, begin-tag, step-on, is-whole}

-- a byte of a piece that stands in the text is a character of it
pub byte-stands : (text piece : List ℕ) (place i : ℕ) → StandFrom text place piece → i < length piece → IsPlace text (place + i) →
    get_or piece i 0 < 128 → StandsAt text (place + i) (get_or piece i 0)
byte-stands text piece place i is within border low =
    let b = get_or piece i 0 in
    record {
      place = border;
      rest = drop (i + 1) piece ++ is.rest;
      spelled =
          sym (drop-drop i place text) ∙ ap (drop i) is.whole ∙ drop-append-le i piece is.rest (omega arith)
          ∙ ap (λ bs. bs ++ is.rest) (drop_more piece i 0 within)
          ∙ sym (ap (λ bs. bs ++ (drop (i + 1) piece ++ is.rest)) (encode_ascii b low));
    }

-- the tag is read on by it
pub byte-on : (text piece : List ℕ) (at place i : ℕ) (before next : TagState) → IsUtf8 text → StandFrom text place piece → i < length piece →
    get_or piece i 0 < 128 → left_of next ≡ left_after (left_of before) (get_or piece i 0) → IsOpen next →
    IsReadTo text at (place + i) before → IsReadTo text at (place + (i + 1)) next
byte-on text piece at place i before next utf8 is within low reads open_next so_far =
    let b = get_or piece i 0 in
    let one : length (encode b) ≡ 1 = ap length (encode_ascii b low) in
    step-on text at (place + i) b (left_of before) utf8 (byte-stands text piece place i is within so_far.border low)
    so_far.behind so_far.part so_far.so_far next reads open_next (place + (i + 1)) (let k = length-encode b in omega (arith, one, k))

-- and by those that leave what was read as it was
pub stay-on : (n : ℕ) (text piece : List ℕ) (at place i : ℕ) (read : TagState) → IsUtf8 text → StandFrom text place piece →
    i + n ≤ length piece → ((k : ℕ) → k < n → Stays read (get_or piece (i + k) 0)) → IsOpen read →
    IsReadTo text at (place + i) read → IsReadTo text at (place + (i + n)) read
stay-on zero text piece at place i read utf8 is within stay open_read so_far =
    let none : i ≡ i + 0 = omega arith in
    subst (λ (k : ℕ). IsReadTo text at (place + k) read) none so_far
stay-on (suc n) text piece at place i read utf8 is within stay open_read so_far =
    let here : Stays read (get_or piece i 0) =
    (let none : i + 0 ≡ i = omega arith in subst (λ (k : ℕ). Stays read (get_or piece k 0)) none (stay 0 (omega arith))) in
    let sum : i + 1 + n ≡ i + suc n = omega arith in
    subst (λ (k : ℕ). IsReadTo text at (place + k) read) sum
    (stay-on n text piece at place (i + 1) read utf8 is (omega arith)
    (λ k less. (let next : i + suc k ≡ i + 1 + k = omega arith in
    subst (λ (j : ℕ). Stays read (get_or piece j 0)) next (stay (suc k) (omega arith))))
    open_read
    (byte-on text piece at place i read read utf8 is (omega arith) here.low here.same open_read so_far))

-- a part of a list, at an index
pub there : (from k : ℕ) (piece : List ℕ) → get_or (take (length piece - from) (drop from piece)) k 0 ≡ get_or piece (from + k) 0
there from k piece =
    ap (λ t. get_or t k 0) (take_all (length piece - from) (drop from piece) (let len = length-drop from piece in omega (arith, len)))
    ∙ get_or-drop from piece k 0

-- the bytes of a front that pass a test
pub each_passes : (p : ℕ → Bool) (piece : List ℕ) (from count : ℕ) → count ≡ prefix_len p (take (length piece - from) (drop from piece)) →
    (k : ℕ) → k < count → p (get_or piece (from + k) 0) ≡ true
each_passes p piece from count is k less =
    subst (λ (byte : ℕ). p byte ≡ true) (there from k piece)
    (prefix_len_passes p (take (length piece - from) (drop from piece)) k 0 (omega (arith, is, less)))

pub each_stays : (p : ℕ → Bool) (read : TagState) → ((byte : ℕ) → p byte ≡ true → Stays read byte) → (piece : List ℕ) (from count : ℕ) →
    count ≡ prefix_len p (take (length piece - from) (drop from piece)) → (k : ℕ) → k < count → Stays read (get_or piece (from + k) 0)
each_stays p read stay piece from count is k less = stay (get_or piece (from + k) 0) (each_passes p piece from count is k less)

-- bytes of names, and of values
low_byte : (byte : ℕ) (other : Bool) → (nat_lt byte 128 && other) ≡ true → byte < 128
low_byte byte other is = ltb-true byte 128 (and_parts (nat_lt byte 128) other is).0

pub in_name : (byte : ℕ) → is_name_byte byte ≡ true → Stays seen.Name byte
in_name byte is = record {
  low = low_byte byte (is_name_char byte) is;
  same = name-name byte (and_parts (nat_lt byte 128) (is_name_char byte) is).1;
}

pub in_attribute : (byte : ℕ) → is_name_byte byte ≡ true → Stays seen.Attribute byte
in_attribute byte is = record {
  low = low_byte byte (is_name_char byte) is;
  same = attribute-name byte (and_parts (nat_lt byte 128) (is_name_char byte) is).1;
}

pub in_end_name : (byte : ℕ) → is_name_byte byte ≡ true → Stays seen.EndName byte
in_end_name byte is = record {
  low = low_byte byte (is_name_char byte) is;
  same = end-name byte (and_parts (nat_lt byte 128) (is_name_char byte) is).1;
}

none_of : (b : Bool) → not b ≡ true → b ≡ true → ⊥
none_of true is yes_it_is = false≢true is
none_of false is yes_it_is = false≢true yes_it_is

differs_from : (byte other : ℕ) → not (byte == other) ≡ true → byte ≡ other → ⊥
differs_from byte other is same = none_of (byte == other) is (eq-eqb byte other same)

pub in_double : (byte : ℕ) → is_value_byte 34 byte ≡ true → Stays seen.Double byte
in_double byte is =
    let more = (and_parts (nat_lt byte 128) (not (byte == 34) && not (byte == 60)) is).1 in
    let both = and_parts (not (byte == 34)) (not (byte == 60)) more in
    record {
      low = low_byte byte (not (byte == 34) && not (byte == 60)) is;
      same = double-other byte (differs_from byte 34 both.0) (differs_from byte 60 both.1);
    }

pub in_single : (byte : ℕ) → is_value_byte 39 byte ≡ true → Stays seen.Single byte
in_single byte is =
    let more = (and_parts (nat_lt byte 128) (not (byte == 39) && not (byte == 60)) is).1 in
    let both = and_parts (not (byte == 39)) (not (byte == 60)) more in
    record {
      low = low_byte byte (not (byte == 39) && not (byte == 60)) is;
      same = single-other byte (differs_from byte 39 both.0) (differs_from byte 60 both.1);
    }

-- a tag is read on through an attribute
gap_open : IsOpen seen.Attribute
unfolding left_of
gap_open = record { part = record { end = refl; start = refl; empty = refl }; possible = refl }

equals_open : IsOpen seen.Equals
unfolding left_of
equals_open = record { part = record { end = refl; start = refl; empty = refl }; possible = refl }

double_open : IsOpen seen.Double
unfolding left_of
double_open = record { part = record { end = refl; start = refl; empty = refl }; possible = refl }

single_open : IsOpen seen.Single
unfolding left_of
single_open = record { part = record { end = refl; start = refl; empty = refl }; possible = refl }

value_open : IsOpen seen.Value
unfolding left_of
value_open = record { part = record { end = refl; start = refl; empty = refl }; possible = refl }

no_equals : is_name_char 61 ≡ false
unfolding is_name_char is_name_start
no_equals = refl

attribute-equals : (c : ℕ) → c ≡ 61 → left_of seen.Equals ≡ left_after (left_of seen.Attribute) c
attribute-equals c is =
    let P : ℕ → Type 0 = λ b. left_of seen.Equals ≡ left_after (left_of seen.Attribute) b in
    subst P (sym is) (gap-equals 61 refl ∙ sym (attribute-other 61 no_equals))

module _ (text piece : List ℕ) (at place from to : ℕ) (utf8 : IsUtf8 text) (is : StandFrom text place piece) (it : IsAttribute piece from to) where
  name-passed : IsReadTo text at (place + from) seen.Gap → IsReadTo text at (place + it.equals) seen.Attribute
  name-passed so_far =
      let sum : from + 1 + (it.equals - (from + 1)) ≡ it.equals = omega (arith, it.some) in
      subst (λ (k : ℕ). IsReadTo text at (place + k) seen.Attribute) sum
      (stay-on (it.equals - (from + 1)) text piece at place (from + 1) seen.Attribute utf8 is (omega (arith, it.some, it.behind, it.within))
      (λ k less. in_attribute (get_or piece (from + 1 + k) 0) (it.others k less)) gap_open
      (byte-on text piece at place from seen.Gap seen.Attribute utf8 is (omega (arith, it.some, it.behind, it.within)) it.low (gap-start (get_or piece from 0) it.first)
      gap_open so_far))

  equals-passed : IsReadTo text at (place + from) seen.Gap → IsReadTo text at (place + (it.equals + 1)) seen.Equals
  equals-passed so_far =
      byte-on text piece at place it.equals seen.Attribute seen.Equals utf8 is (omega (arith, it.behind, it.within)) (omega (arith, it.equals_there))
      (attribute-equals (get_or piece it.equals 0) it.equals_there) equals_open (name-passed so_far)

  -- the value in such quotes
  value-passed : (quoted : TagState) → it.quote < 128 → left_of quoted ≡ left_after (left_of seen.Equals) it.quote → left_of seen.Value ≡ left_after (left_of quoted) it.quote →
      ((byte : ℕ) → is_value_byte it.quote byte ≡ true → Stays quoted byte) → IsOpen quoted →
      IsReadTo text at (place + from) seen.Gap → IsReadTo text at (place + to) seen.Value
  value-passed quoted low opens closes stays open_quoted so_far =
      let first : get_or piece (it.equals + 1) 0 ≡ it.quote = it.opened in
      let last : get_or piece it.close 0 ≡ it.quote = it.closed in
      let next : it.equals + 1 + 1 ≡ it.equals + 2 = omega arith in
      let sum : it.equals + 2 + (it.close - (it.equals + 2)) ≡ it.close = omega (arith, it.behind) in
      let P : ℕ → Type 0 = λ k. IsReadTo text at (place + k) quoted in
      let Q : ℕ → Type 0 = λ k. IsReadTo text at (place + k) seen.Value in
      subst Q (sym it.ends)
      (byte-on text piece at place it.close quoted seen.Value utf8 is it.within (omega (arith, last, low)) (closes ∙ ap (left_after (left_of quoted)) (sym last)) value_open
      (subst P sum
      (stay-on (it.close - (it.equals + 2)) text piece at place (it.equals + 2) quoted utf8 is (omega (arith, it.behind, it.within))
      (λ k less. stays (get_or piece (it.equals + 2 + k) 0) (it.value k less)) open_quoted
      (subst P next
      (byte-on text piece at place (it.equals + 1) seen.Equals quoted utf8 is (omega (arith, it.behind, it.within)) (omega (arith, first, low))
      (opens ∙ ap (left_after (left_of seen.Equals)) (sym first)) open_quoted (equals-passed so_far))))))

  attribute-on : IsReadTo text at (place + from) seen.Gap → IsReadTo text at (place + to) seen.Value
  attribute-on so_far = elim (or_cases (it.quote == 34) (it.quote == 39) it.quoted) [
    | inl e ↦ let q = eqb-true it.quote 34 e in
        value-passed seen.Double (omega (arith, q)) (equals-double it.quote q) (double-quote it.quote q)
        (λ byte h. in_double byte (ap (λ (k : ℕ). is_value_byte k byte) (sym q) ∙ h)) double_open so_far
    | inr e ↦ let q = eqb-true it.quote 39 e in
        value-passed seen.Single (omega (arith, q)) (equals-single it.quote q) (single-quote it.quote q)
        (λ byte h. in_single byte (ap (λ (k : ℕ). is_value_byte k byte) (sym q) ∙ h)) single_open so_far
  ]

-- a tag is read on by what is passed at once
pub passed-on : (text piece : List ℕ) (at place from to : ℕ) (read behind : TagState) → IsUtf8 text → StandFrom text place piece → from ≤ to → to ≤ length piece →
    Passes read piece from to behind → IsOpen read → IsReadTo text at (place + from) read → IsReadTo text at (place + to) behind
passed-on text piece at place from to read behind utf8 is further within passes open_read so_far = ⊎_elim
    (λ (h : (behind ≡ read) × ((k : ℕ) → k < to - from → Stays read (get_or piece (from + k) 0))).
    let sum : from + (to - from) ≡ to = omega (arith, further) in
    let P : ℕ → Type 0 = λ k. IsReadTo text at (place + k) read in
    let R : TagState → Type 0 = λ s. IsReadTo text at (place + to) s in
    subst R (sym h.0) (subst P sum (stay-on (to - from) text piece at place from read utf8 is (omega (arith, further, within)) h.1 open_read so_far)))
    (λ (h : (read ≡ seen.Gap) × (behind ≡ seen.Value) × IsAttribute piece from to).
    let P : TagState → Type 0 = λ s. IsReadTo text at (place + from) s in
    let R : TagState → Type 0 = λ s. IsReadTo text at (place + to) s in
    subst R (sym h.1) (attribute-on text piece at place from to utf8 is h.2 (subst P h.0 so_far)))
    passes

-- a tag is read on through a name that is closed
pub name-on : (text piece : List ℕ) (at place from close : ℕ) (before read : TagState) → IsUtf8 text → StandFrom text place piece →
    IsClosedName piece from close → left_of read ≡ left_after (left_of before) (get_or piece from 0) →
    ((byte : ℕ) → is_name_byte byte ≡ true → Stays read byte) → IsOpen read →
    IsReadTo text at (place + from) before → IsReadTo text at (place + close) read
name-on text piece at place from close before read utf8 is named first stays open_read so_far =
    let some = named.some in let within = named.within in
    let sum : from + 1 + (close - (from + 1)) ≡ close = omega (arith, some) in
    subst (λ (k : ℕ). IsReadTo text at (place + k) read) sum
    (stay-on (close - (from + 1)) text piece at place (from + 1) read utf8 is (omega (arith, some, within))
    (λ k less. stays (get_or piece (from + 1 + k) 0) (named.others k less)) open_read
    (byte-on text piece at place from before read utf8 is (omega (arith, some, within)) named.low first open_read so_far))

-- and is whole behind the `>`
pub name-whole : (text piece : List ℕ) (at place from close : ℕ) (read whole : TagState) (kind : TokenKind) → IsUtf8 text →
    StandFrom text place piece → IsClosedName piece from close → IsWhole whole kind → left_of whole ≡ left_after (left_of read) 62 →
    IsReadTo text at (place + close) read → (found : End) → found.kind ≡ kind → found.place ≡ place + close + 1 →
    EndsAt text at (tag tags (drop at text)) found
name-whole text piece at place from close read whole kind utf8 is named is_whole next so_far found kind_is place_is =
    let low : get_or piece close 0 < 128 = (let closed = named.closed in omega (arith, closed)) in
    let here : StandsAt text (place + close) 62 =
    subst (λ c. StandsAt text (place + close) c) named.closed (byte-stands text piece place close is named.within so_far.border low) in
    let one : length (encode 62) ≡ 1 = ap length (encode_ascii 62 (omega arith)) in
    is-whole text at (place + close) 62 (left_of read) utf8 here so_far.behind so_far.part so_far.so_far whole kind is_whole next found kind_is
    (let k = length-encode 62 in omega (arith, place_is, one, k))

-- names are open, and whole behind `>`
name_open : IsOpen seen.Name
unfolding left_of
name_open = record { part = record { end = refl; start = refl; empty = refl }; possible = refl }

end_open : IsOpen seen.EndOpen
unfolding left_of
end_open = record { part = record { end = refl; start = refl; empty = refl }; possible = refl }

end_name_open : IsOpen seen.EndName
unfolding left_of
end_name_open = record { part = record { end = refl; start = refl; empty = refl }; possible = refl }

no_name : is_name_char 62 ≡ false
unfolding is_name_char is_name_start
no_name = refl

name-close : left_of seen.Start ≡ left_after (left_of seen.Name) 62
name-close = value-close 62 refl ∙ sym (name-other 62 no_name)

end_name-close : left_of seen.End ≡ left_after (left_of seen.EndName) 62
end_name-close = end-close 62 refl ∙ sym (end-other 62 no_name)

-- a tag that begins at `at` with `<`
module _ (text piece : List ℕ) (at : ℕ) where
  pub begun : IsUtf8 text → at < length text → get_or text at 0 ≡ 60 → IsReadTo text at (at + 1 + 0) seen.Open
  begun utf8 within is =
      let start : at + 1 ≡ at + 1 + 0 = omega arith in
      subst (λ (k : ℕ). IsReadTo text at k seen.Open) start
      (record { border = begin-place text at utf8 within is; behind = omega arith; part = open-part; so_far = begin-tag text at utf8 within is })

  pub start-named : (close : ℕ) → IsUtf8 text → at < length text → get_or text at 0 ≡ 60 → StandFrom text (at + 1) piece →
      IsClosedName piece 0 close → (found : End) → found.kind ≡ kinds.Start → found.place ≡ at + 1 + close + 1 →
      EndsAt text at (tag tags (drop at text)) found
  start-named close utf8 within is stand named found kind_is place_is =
      name-whole text piece at (at + 1) 0 close seen.Name seen.Start kinds.Start utf8 stand named start-whole name-close
      (name-on text piece at (at + 1) 0 close seen.Open seen.Name utf8 stand named (open-start (get_or piece 0 0) named.first) in_name name_open
      (begun utf8 within is)) found kind_is place_is

  pub end-named : (close : ℕ) → IsUtf8 text → at < length text → get_or text at 0 ≡ 60 → StandFrom text (at + 1) piece →
      0 < length piece → get_or piece 0 0 ≡ 47 → IsClosedName piece 1 close → (found : End) → found.kind ≡ kinds.End →
      found.place ≡ at + 1 + close + 1 → EndsAt text at (tag tags (drop at text)) found
  end-named close utf8 within is stand some slash named found kind_is place_is =
      name-whole text piece at (at + 1) 1 close seen.EndName seen.End kinds.End utf8 stand named end-whole end_name-close
      (name-on text piece at (at + 1) 1 close seen.EndOpen seen.EndName utf8 stand named (end-start (get_or piece 1 0) named.first) in_end_name
      end_name_open
      (byte-on text piece at (at + 1) 0 seen.Open seen.EndOpen utf8 stand some (omega (arith, slash)) (open-slash (get_or piece 0 0) slash) end_open
      (begun utf8 within is))) found kind_is place_is
