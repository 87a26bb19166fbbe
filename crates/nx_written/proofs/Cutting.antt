-- What is written is cut into the tokens that were written.
use Rattle.std.proofs.Common.{◌≡◌, ℕ, ◌+◌, ◌-◌, ◌<◌, Bool, true, false, List, [], ◌∷◌, ◌++◌, length, take, drop, refl, sym, ◌∙◌, ap, subst, arith, append_assoc, append-nil, codes, inl, inr, length-append}
use Rattle.std.specs.Prelude.{◌==◌, not}
use Rattle.std.specs.List.{AllByRecursion}
use Rattle.std.specs.Str.{IsUtf8, IsCharBoundary, chars}
use lib.Utf8.{encode, encodes, scalar, scalars, low_scalar}
use Rattle.std.proofs.lemmas.Bool.{cases_lt, or_cases, and_parts, and_from, not_from_false, eqb-true, eq-eqb, ne_eqb}
use Rattle.std.proofs.lemmas.List.{take_at, drop_at}
use Rattle.std.proofs.lemmas.Str.{IsUtf8-nil, IsUtf8-append, IsCharBoundary-at_seam, encode_ascii, encodes-append, encodes-chars, scalars-chars}
use Rattle.nx_base.specs.Characters.{is_space, is_quote}
use Rattle.nx_base.specs.Form.{Form, Set, space, only, other_than, has, one, seq, many, Spells}
use Rattle.nx_base.specs.Tags.{name_form, spaces, quoted_rest, value_form, attribute_rest, attribute, tag_rest, start_form, empty_form, end_form}
use Rattle.nx_base.specs.Tokens.{Cut, cut_as, first_token, cut, end_of, tokens_within, tokens_from}
use Rattle.nx_base.specs.Trees as trees
use Rattle.nx_base.specs.declared.name.Name.{Name}
use Rattle.nx_base.specs.declared.token.Token.{Token}
use Rattle.nx_base.specs.declared.token.TokenKind.{TokenKind}
use Rattle.nx_base.specs.declared.token.TokenKind.TheVariants as kinds
use Rattle.nx_events.specs.declared.scope.Binding.{Binding}
use Rattle.nx_events.specs.Spelling.{Written, AreSpaces, IsWritten, spelled_before, spelled_all}
use Rattle.nx_events.specs.SpelledTags.{IsName, HasNoLess, IsSpelledTag}
use Rattle.nx_events.proofs.FormWords.{AllPass, one-of_one, many-from}
use Rattle.nx_events.proofs.TagForms.{spaces_bytes}
use Rattle.nx_events.proofs.Texts.{space_small}
use Rattle.nx_scan.proofs.Joined.{tokens-go_on}
use Rattle.nx_written.proofs.SpelledTags.{spelled_tags_are_cut, texts_are_cut}
use Rattle.nx_written.specs.Documents.{Around, ArePlain, BeginsApart, end_tag, Writes, all_ended, a_string, a_start_tag, an_empty_tag, an_end_tag, WritesRoot, root_with_tags, root_alone}
use Rattle.nx_written.specs.Escaping.{escape, escaped, HasNone}
use Rattle.nx_written.specs.Reading.{token_at, tokens_of, root_tokens, WrittenTextsAreCut}
use Rattle.nx_written.specs.Tags.{WritesTag}
use Rattle.nx_events.specs.declared.reading.Reading.TheVariants.{Text}
use Rattle.nx_written.proofs.Escaping.{escaped_strings_are_read, written_some}
use Rattle.nx_written.proofs.Tags.{written_tags_are_read, start_mark, empty_mark}

-- ---- bytes of characters that a form spells

pub record HasSpelling (form : Form) (bytes : List ℕ) : Type 0 where
  pub cs : List ℕ
  pub ok : scalars cs ≡ true
  pub are : encodes cs ≡ bytes
  pub spelled : Spells form cs

scalars_both : (xs ys : List ℕ) → scalars xs ≡ true → scalars ys ≡ true → scalars (xs ++ ys) ≡ true
scalars_both [] ys h k = k
scalars_both (x ∷ xs) ys h k = let t = and_parts (scalar x) (scalars xs) h in and_from (scalar x) (scalars (xs ++ ys)) t.0 (scalars_both xs ys t.1 k)

both_spelled : {a b : Form} {xs ys : List ℕ} → HasSpelling a xs → HasSpelling b ys → HasSpelling (seq a b) (xs ++ ys)
unfolding Spells
both_spelled {a} {b} {xs} {ys} h k = record {
  cs = h.cs ++ k.cs;
  ok = scalars_both h.cs k.cs h.ok k.ok;
  are = encodes-append h.cs k.cs ∙ ap (λ zs. zs ++ encodes k.cs) h.are ∙ ap (λ zs. xs ++ zs) k.are;
  spelled = (h.cs, k.cs, h.spelled, k.spelled, refl);
}

one_spelled : (set : Set) (b : ℕ) → b < 128 → has set b ≡ true → HasSpelling (one set) (b ∷ [])
unfolding Spells
one_spelled set b low h = record {
  cs = b ∷ [];
  ok = and_from (scalar b) true (low_scalar b (omega arith)) refl;
  are = ap (λ xs. xs ++ []) (encode_ascii b low);
  spelled = (b, h, refl);
}

byte_spelled : (b : ℕ) → b < 128 → HasSpelling (one (only b)) (b ∷ [])
byte_spelled b low = one_spelled (only b) b low (eq-eqb b b refl)

spaces_ok : (xs : List ℕ) → AreSpaces xs → scalars xs ≡ true
spaces_ok [] h = refl
spaces_ok (x ∷ xs) h = and_from (scalar x) (scalars xs) (low_scalar x (let low = space_small x h.0 in omega arith)) (spaces_ok xs h.1)

spaces_spelled : (xs : List ℕ) → AreSpaces xs → HasSpelling spaces xs
spaces_spelled xs h = record { cs = xs; ok = spaces_ok xs h; are = spaces_bytes xs h; spelled = many-from (one space) is_space (one-of_one space) xs h }

name_spelled : (name : List ℕ) → IsName name → HasSpelling name_form name
name_spelled name is = record { cs = chars name; ok = scalars-chars name is.utf8; are = encodes-chars name is.utf8; spelled = is.spelled }

-- ---- values

none_front : (d : ℕ) (xs ys : List ℕ) → HasNone d (xs ++ ys) → HasNone d xs × HasNone d ys
none_front d [] ys h = (tt, h)
none_front d (x ∷ xs) ys h = let t = none_front d xs ys h.1 in ((h.0, t.0), t.1)

none_chars : (d : ℕ) (cs : List ℕ) → d < 128 → HasNone d (encodes cs) → HasNone d cs
none_chars d [] low h = tt
none_chars d (c ∷ cs) low h =
    let t = none_front d (encode c) (encodes cs) h in (
      elim (cases_lt c 128) [
        | inl small ↦ (subst (λ xs. HasNone d xs) (encode_ascii c small) t.0).0
        | inr high ↦ ne_eqb c d (λ e. absurd (omega arith))
      ],
      none_chars d cs low t.1,
    )

others_pass : (q : ℕ) (cs : List ℕ) → HasNone q cs → HasNone 60 cs → AllPass (has (other_than q 60)) cs
others_pass q [] h k = tt
others_pass q (c ∷ cs) h k =
    (and_from (not (c == q)) (not (c == 60)) (not_from_false (c == q) h.0) (not_from_false (c == 60) k.0), others_pass q cs h.1 k.1)

quoted_spelled : (q : ℕ) (value : List ℕ) → q < 128 → IsUtf8 value → HasNone q value → HasNone 60 value → HasSpelling (seq (one (only q)) (quoted_rest q)) (q ∷ (value ++ q ∷ []))
quoted_spelled q value low u h k =
    let whole : encodes (chars value) ≡ value = encodes-chars value u in
    let inner : HasSpelling (many (one (other_than q 60))) value = record {
      cs = chars value;
      ok = scalars-chars value u;
      are = whole;
      spelled = many-from (one (other_than q 60)) (has (other_than q 60)) (one-of_one (other_than q 60)) (chars value)
          (others_pass q (chars value) (none_chars q (chars value) low (subst (λ xs. HasNone q xs) (sym whole) h)) (none_chars 60 (chars value) (omega arith) (subst (λ xs. HasNone 60 xs) (sym whole) k)));
    } in
    both_spelled (byte_spelled q low) (both_spelled inner (byte_spelled q low))

value_spelled : (q : ℕ) (value : List ℕ) → is_quote q ≡ true → IsUtf8 value → HasNone q value → HasNone 60 value → HasSpelling value_form (q ∷ (value ++ q ∷ []))
unfolding Spells
value_spelled q value quote u h k = elim (or_cases (q == 34) (q == 39) quote) [
  | inl e ↦ (let s = quoted_spelled 34 value (omega arith) u (subst (λ d. HasNone d value) (eqb-true q 34 e) h) k in
      subst (λ d. HasSpelling value_form (d ∷ (value ++ d ∷ []))) (sym (eqb-true q 34 e)) (record { cs = s.cs; ok = s.ok; are = s.are; spelled = inl s.spelled }))
  | inr e ↦ (let s = quoted_spelled 39 value (omega arith) u (subst (λ d. HasNone d value) (eqb-true q 39 e) h) k in
      subst (λ d. HasSpelling value_form (d ∷ (value ++ d ∷ []))) (sym (eqb-true q 39 e)) (record { cs = s.cs; ok = s.ok; are = s.are; spelled = inr s.spelled }))
]

-- ---- attributes

attribute_spelled : (it : Written) → IsWritten it → 0 < length it.space → IsName it.name → HasNoLess it → IsUtf8 it.value → HasSpelling attribute (it.space ++ spelled_before it [])
attribute_spelled it w apart n less u = by_space it.space w.space apart
  where
    rest : HasSpelling (seq name_form attribute_rest) (it.name ++ (it.before ++ (61 ∷ [] ++ (it.behind ++ (it.quote ∷ (it.value ++ it.quote ∷ []))))))
    rest = both_spelled (name_spelled it.name n) (both_spelled (spaces_spelled it.before w.before) (both_spelled (byte_spelled 61 (omega arith))
        (both_spelled (spaces_spelled it.behind w.behind) (value_spelled it.quote it.value w.quote u w.value less))))

    regroup : (gap : List ℕ) (c : ℕ) → (c ∷ []) ++ (gap ++ (it.name ++ (it.before ++ (61 ∷ [] ++ (it.behind ++ (it.quote ∷ (it.value ++ it.quote ∷ []))))))) ≡ (c ∷ gap) ++ spelled_before it []
    regroup gap c = simp append_assoc

    by_space : (space_bytes : List ℕ) → AreSpaces space_bytes → 0 < length space_bytes → HasSpelling attribute (space_bytes ++ spelled_before it [])
    by_space [] h some = absurd (omega arith)
    by_space (c ∷ gap) h some =
        subst (λ xs. HasSpelling attribute xs) (regroup gap c) (both_spelled (one_spelled space c (space_small c h.0) h.0) (both_spelled (spaces_spelled gap h.1) rest))

one_more_spelled : {a : Form} {xs ys : List ℕ} → HasSpelling a xs → HasSpelling (many a) ys → HasSpelling (many a) (xs ++ ys)
unfolding Spells
one_more_spelled {a} {xs} {ys} h k = record {
  cs = h.cs ++ k.cs;
  ok = scalars_both h.cs k.cs h.ok k.ok;
  are = encodes-append h.cs k.cs ∙ ap (λ zs. zs ++ encodes k.cs) h.are ∙ ap (λ zs. xs ++ zs) k.are;
  spelled = (h.cs ∷ k.spelled.0, (h.spelled, k.spelled.1), ap (λ zs. h.cs ++ zs) k.spelled.2);
}

nothing_spelled : (a : Form) → HasSpelling (many a) []
unfolding Spells
nothing_spelled a = record { cs = []; ok = refl; are = refl; spelled = ([], tt, refl) }

-- attributes alone, and what follows them
all_apart : (its : List Written) (closing : List ℕ) → spelled_all its closing ≡ spelled_all its [] ++ closing
all_apart [] closing = refl
all_apart (it ∷ its) closing =
    ap (λ xs. it.space ++ spelled_before it xs) (all_apart its closing) ∙ further it (spelled_all its []) closing
  where
    further : (it : Written) (rest closing : List ℕ) → it.space ++ spelled_before it (rest ++ closing) ≡ (it.space ++ spelled_before it rest) ++ closing
    further it rest closing = simp append_assoc

attributes_spelled : (its : List Written) → AllByRecursion IsWritten its → AllByRecursion (λ (it : Written). 0 < length it.space) its → AllByRecursion (λ (it : Written). IsName it.name) its →
    AllByRecursion HasNoLess its → AllByRecursion (λ (it : Written). IsUtf8 it.value) its → HasSpelling (many attribute) (spelled_all its [])
attributes_spelled [] w a n l u = nothing_spelled attribute
attributes_spelled (it ∷ its) w a n l u =
    subst (λ xs. HasSpelling (many attribute) xs) (further it (spelled_all its []))
    (one_more_spelled (attribute_spelled it w.0 a.0 n.0 l.0 u.0) (attributes_spelled its w.1 a.1 n.1 l.1 u.1))
  where
    further : (it : Written) (rest : List ℕ) → (it.space ++ spelled_before it []) ++ rest ≡ it.space ++ spelled_before it rest
    further it rest = simp append_assoc

-- ---- tags

pub tag_spelled : (close : Form) (mark bytes : List ℕ) (tag : IsSpelledTag mark bytes) → AllByRecursion (λ (it : Written). IsUtf8 it.value) tag.attributes → HasSpelling close mark →
    HasSpelling (seq (one (only 60)) (seq name_form (tag_rest close))) bytes
tag_spelled close mark bytes tag values closes =
    let is = tag.is_tag in
    let whole : (60 ∷ []) ++ (tag.name ++ (spelled_all tag.attributes [] ++ (tag.space ++ mark))) ≡ bytes =
    ap (λ xs. 60 ∷ (tag.name ++ xs)) (sym (all_apart tag.attributes (tag.space ++ mark))) ∙ sym tag.spelled in
    subst (λ xs. HasSpelling (seq (one (only 60)) (seq name_form (tag_rest close))) xs) whole
    (both_spelled (byte_spelled 60 (omega arith)) (both_spelled (name_spelled tag.name tag.is_name)
    (both_spelled (attributes_spelled tag.attributes is.written is.apart tag.are_names tag.are_values values) (both_spelled (spaces_spelled tag.space tag.are_spaces) closes))))

pub start_closes : HasSpelling (one (only 62)) (codes ">")
start_closes = byte_spelled 62 (omega arith)

pub empty_closes : HasSpelling (seq (one (only 47)) (one (only 62))) (codes "/>")
empty_closes = both_spelled (byte_spelled 47 (omega arith)) (byte_spelled 62 (omega arith))

end_spelled : (written : List ℕ) → IsName written → HasSpelling end_form (end_tag written)
end_spelled written is =
    both_spelled (byte_spelled 60 (omega arith)) (both_spelled (byte_spelled 47 (omega arith)) (both_spelled (name_spelled written is) (both_spelled (spaces_spelled [] tt) (byte_spelled 62 (omega arith)))))

pub spelling_utf8 : {form : Form} {bytes : List ℕ} → HasSpelling form bytes → IsUtf8 bytes
spelling_utf8 h = (h.cs, (h.ok, h.are))

-- ---- cuts

-- a token in front of a rest
record IsCut (kind : TokenKind) (bytes rest : List ℕ) : Type 0 where
  some : 0 < length bytes
  cut_is : (at_start : Bool) → at_start ≡ false → first_token at_start (bytes ++ rest) ≡ cut_as kind (length bytes)

spelled_some : {form : Form} {bytes : List ℕ} → HasSpelling (seq (one (only 60)) form) bytes → 0 < length bytes
unfolding Spells
spelled_some {form} {bytes} h =
    let s = h.spelled in
    let is : bytes ≡ encodes (s.0 ++ s.1) = sym h.are ∙ ap encodes s.4 in
    let first : s.0 ++ s.1 ≡ s.2.0 ∷ s.1 = ap (λ xs. xs ++ s.1) s.2.2 in
    let size : length bytes ≡ length (encode s.2.0) + length (encodes s.1) = ap length is ∙ ap (λ xs. length (encodes xs)) first ∙ length-append (encode s.2.0) (encodes s.1) in
    let byte : length (encode s.2.0) ≡ 1 = ap (λ c. length (encode c)) (eqb-true s.2.0 60 s.2.1) ∙ ap length (encode_ascii 60 (omega arith)) in
    omega (arith, size, byte)

start_cut : (bytes rest : List ℕ) → HasSpelling start_form bytes → IsUtf8 rest → IsCut kinds.Start bytes rest
start_cut bytes rest h u = record {
  some = spelled_some h;
  cut_is = λ t e. subst (λ xs. first_token t (xs ++ rest) ≡ cut_as kinds.Start (length xs)) h.are ((spelled_tags_are_cut h.cs rest t h.ok).0 h.spelled);
}

empty_cut : (bytes rest : List ℕ) → HasSpelling empty_form bytes → IsUtf8 rest → IsCut kinds.Empty bytes rest
empty_cut bytes rest h u = record {
  some = spelled_some h;
  cut_is = λ t e. subst (λ xs. first_token t (xs ++ rest) ≡ cut_as kinds.Empty (length xs)) h.are ((spelled_tags_are_cut h.cs rest t h.ok).1 h.spelled);
}

end_cut : (bytes rest : List ℕ) → HasSpelling end_form bytes → IsUtf8 rest → IsCut kinds.End bytes rest
end_cut bytes rest h u = record {
  some = spelled_some h;
  cut_is = λ t e. subst (λ xs. first_token t (xs ++ rest) ≡ cut_as kinds.End (length xs)) h.are ((spelled_tags_are_cut h.cs rest t h.ok).2 h.spelled);
}

not_zero : (n : ℕ) → 0 < n → (n == 0) ≡ false
not_zero n h = ne_eqb n 0 (λ e. absurd (omega arith))

-- the token that stands at the end of a front of a text
cut_at : (kind : TokenKind) (front bytes rest : List ℕ) → first_token (length front == 0) (bytes ++ rest) ≡ cut_as kind (length bytes) →
    cut (front ++ (bytes ++ rest)) (length front) ≡ token_at kind (length front) bytes
unfolding cut
cut_at kind front bytes rest c =
    let text = front ++ (bytes ++ rest) in
    let left : drop (length front) text ≡ bytes ++ rest = drop_at front (bytes ++ rest) (length front) refl in
    let found : first_token (length front == 0) (drop (length front) text) ≡ cut_as kind (length bytes) = ap (first_token (length front == 0)) left ∙ c in
    let make : TokenKind → List ℕ → Token = λ k bs. record { kind = k; from = length front; bytes = bs } in
    ap (λ (x : Cut). make x.kind (take x.len (drop (length front) text))) found
    ∙ ap (λ (xs : List ℕ). make kind (take (length bytes) xs)) left
    ∙ ap (make kind) (take_at bytes rest (length bytes) refl)

token_first : (kind : TokenKind) (front bytes rest : List ℕ) → IsUtf8 front → IsUtf8 bytes → IsUtf8 rest → 0 < length bytes → first_token (length front == 0) (bytes ++ rest) ≡ cut_as kind (length bytes) →
    tokens_from (front ++ (bytes ++ rest)) (length front) ≡ token_at kind (length front) bytes ∷ tokens_from ((front ++ bytes) ++ rest) (length (front ++ bytes))
token_first kind front bytes rest f b r some c =
    let text = front ++ (bytes ++ rest) in
    let u : IsUtf8 text = IsUtf8-append front (bytes ++ rest) f (IsUtf8-append bytes rest b r) in
    let place : IsCharBoundary text (length front) = IsCharBoundary-at_seam text front (bytes ++ rest) refl (IsUtf8-append bytes rest b r) in
    let size : length text ≡ length front + (length bytes + length rest) = length-append front (bytes ++ rest) ∙ ap (λ n. length front + n) (length-append bytes rest) in
    let is : cut text (length front) ≡ token_at kind (length front) bytes = cut_at kind front bytes rest c in
    tokens-go_on text (length front) u place (omega arith)
    ∙ ap (λ (t : Token). t ∷ tokens_from text (end_of t)) is
    ∙ ap (λ (xs : List ℕ). token_at kind (length front) bytes ∷ tokens_from xs (length front + length bytes)) (sym (append_assoc front bytes rest))
    ∙ ap (λ n. token_at kind (length front) bytes ∷ tokens_from ((front ++ bytes) ++ rest) n) (sym (length-append front bytes))

one_token : (kind : TokenKind) (front bytes rest : List ℕ) → 0 < length front → IsUtf8 front → IsUtf8 bytes → IsUtf8 rest → IsCut kind bytes rest →
    tokens_from (front ++ (bytes ++ rest)) (length front) ≡ token_at kind (length front) bytes ∷ tokens_from ((front ++ bytes) ++ rest) (length (front ++ bytes))
one_token kind front bytes rest some f b r c = token_first kind front bytes rest f b r c.some (c.cut_is (length front == 0) (not_zero (length front) some))

no_token : (front : List ℕ) → tokens_from (front ++ []) (length front) ≡ []
unfolding tokens_within
no_token front =
    let size : length (front ++ []) ≡ length front = ap length (append-nil front) in
    let none : length (front ++ []) - length front ≡ 0 = omega arith in
    ap (λ n. tokens_within n (front ++ []) (length front)) none

-- ---- what is written is text, and begins with `<` where no string stands in front

pub written_utf8 : {around : List Around} {events : List trees.Event} {bytes : List ℕ} → Writes around events bytes → IsUtf8 bytes
written_utf8 all_ended = IsUtf8-nil
written_utf8 (a_string {bytes} text some chars_of apart more) = IsUtf8-append (escaped text) bytes (escaped_strings_are_read Text text refl chars_of).utf8 (written_utf8 more)
written_utf8 (a_start_tag {bytes} name attributes tag written own plain content writes more) = IsUtf8-append tag bytes (written_tags_are_read start_mark plain writes).utf8 (written_utf8 more)
written_utf8 (an_empty_tag {bytes} name attributes tag written own plain writes more) = IsUtf8-append tag bytes (written_tags_are_read empty_mark plain writes).utf8 (written_utf8 more)
written_utf8 (an_end_tag {element} {bytes} is more) = IsUtf8-append (end_tag element.written) bytes (spelling_utf8 (end_spelled element.written is)) (written_utf8 more)

-- the first byte of a tag
pub record BeginsTag (bytes : List ℕ) : Type 0 where
  pub rest : List ℕ
  pub is : bytes ≡ 60 ∷ rest

pub begins_by : {form : Form} (bytes : List ℕ) → HasSpelling (seq (one (only 60)) form) bytes → BeginsTag bytes
unfolding Spells
begins_by bytes h =
    let s = h.spelled in
    record {
      rest = encodes s.1;
      is = sym h.are ∙ ap encodes s.4 ∙ ap (λ xs. encodes (xs ++ s.1)) s.2.2 ∙ ap (λ c. encode c ++ encodes s.1) (eqb-true s.2.0 60 s.2.1) ∙ ap (λ xs. xs ++ encodes s.1) (encode_ascii 60 (omega arith));
    }

pub begins_more : (tag bytes : List ℕ) → BeginsTag tag → BeginsTag (tag ++ bytes)
begins_more tag bytes b = record { rest = b.rest ++ bytes; is = ap (λ xs. xs ++ bytes) b.is }

start_of : {scope : List Binding} {name : Name} {attributes : List trees.Attribute} {tag written : List ℕ} {own : List Binding} →
    ArePlain attributes → WritesTag scope name attributes (codes ">") tag written own → HasSpelling start_form tag
start_of plain writes = let t = written_tags_are_read start_mark plain writes in tag_spelled (one (only 62)) (codes ">") _ t.tag t.values start_closes

empty_of : {scope : List Binding} {name : Name} {attributes : List trees.Attribute} {tag written : List ℕ} {own : List Binding} →
    ArePlain attributes → WritesTag scope name attributes (codes "/>") tag written own → HasSpelling empty_form tag
empty_of plain writes = let t = written_tags_are_read empty_mark plain writes in tag_spelled (seq (one (only 47)) (one (only 62))) (codes "/>") _ t.tag t.values empty_closes

-- behind a string stands a tag
pub begins_apart : {element : Around} {outer : List Around} {events : List trees.Event} {bytes : List ℕ} → Writes (element ∷ outer) events bytes → BeginsApart events → BeginsTag bytes
begins_apart (a_string text some chars_of apart more) none = absurd none
begins_apart (a_start_tag {element} {outer} {bytes} name attributes tag written own plain content writes more) a = begins_more tag bytes (begins_by tag (start_of plain writes))
begins_apart (an_empty_tag {element} {outer} {bytes} name attributes tag written own plain writes more) a = begins_more tag bytes (begins_by tag (empty_of plain writes))
begins_apart (an_end_tag {element} {bytes} is more) a = begins_more (end_tag element.written) bytes (begins_by (end_tag element.written) (end_spelled element.written is))

text_cut : (bytes rest : List ℕ) → 0 < length bytes → HasNone 60 bytes → BeginsTag rest → IsCut kinds.Text bytes rest
text_cut bytes rest some none b = record {
  some = some;
  cut_is = λ t e. subst (λ xs. first_token t (bytes ++ xs) ≡ cut_as kinds.Text (length bytes)) (sym b.is)
      (subst (λ s. first_token s (bytes ++ 60 ∷ b.rest) ≡ cut_as kinds.Text (length bytes)) (sym e) (texts_are_cut bytes b.rest some none));
}

-- a string that isn't empty is written in some bytes
escaped_some : (text : List ℕ) → 0 < length text → 0 < length (escaped text)
escaped_some [] h = absurd (omega arith)
escaped_some (b ∷ text) h = let some = written_some b in let size = length-append (escape b) (escaped text) in omega arith

-- ---- all of it

-- a token, and what is written behind it
further_token : {around : List Around} {events : List trees.Event} (front first bytes : List ℕ) (kind : TokenKind) → 0 < length front → IsUtf8 front → IsUtf8 first → IsUtf8 bytes → IsCut kind first bytes →
    (more : Writes around events bytes) → ((other : List ℕ) → 0 < length other → IsUtf8 other → tokens_from (other ++ bytes) (length other) ≡ tokens_of (length other) more) →
    tokens_from (front ++ (first ++ bytes)) (length front) ≡ token_at kind (length front) first ∷ tokens_of (length front + length first) more
further_token front first bytes kind some u v w c more behind =
    one_token kind front first bytes some u v w c
    ∙ ap (λ (ts : List Token). token_at kind (length front) first ∷ ts) (behind (front ++ first) (let size = length-append front first in omega arith) (IsUtf8-append front first u v))
    ∙ ap (λ n. token_at kind (length front) first ∷ tokens_of n more) (length-append front first)

pub texts_cut : {around : List Around} {events : List trees.Event} {bytes : List ℕ} (front : List ℕ) (writes : Writes around events bytes) → 0 < length front → IsUtf8 front →
    tokens_from (front ++ bytes) (length front) ≡ tokens_of (length front) writes
texts_cut front all_ended some u = no_token front
texts_cut front (a_string {events} {bytes} text text_some chars_of apart more) some u =
    let read = escaped_strings_are_read Text text refl chars_of in
    further_token front (escaped text) bytes kinds.Text some u read.utf8 (written_utf8 more) (text_cut (escaped text) bytes (escaped_some text text_some) read.no_less (begins_apart more apart)) more (λ other size text. texts_cut other more size text)
texts_cut front (a_start_tag {element} {outer} {bytes} name attributes tag written own plain content writes more) some u =
    let s = start_of plain writes in
    further_token front tag bytes kinds.Start some u (spelling_utf8 s) (written_utf8 more) (start_cut tag bytes s (written_utf8 more)) more (λ other size text. texts_cut other more size text)
texts_cut front (an_empty_tag {element} {outer} {bytes} name attributes tag written own plain writes more) some u =
    let s = empty_of plain writes in
    further_token front tag bytes kinds.Empty some u (spelling_utf8 s) (written_utf8 more) (empty_cut tag bytes s (written_utf8 more)) more (λ other size text. texts_cut other more size text)
texts_cut front (an_end_tag {element} {bytes} is more) some u =
    let s = end_spelled element.written is in
    further_token front (end_tag element.written) bytes kinds.End some u (spelling_utf8 s) (written_utf8 more) (end_cut (end_tag element.written) bytes s (written_utf8 more)) more (λ other size text. texts_cut other more size text)

pub written_texts_are_cut : WrittenTextsAreCut
written_texts_are_cut around events front bytes writes some u = texts_cut front writes some u

-- ---- in front of the root, also where the text is empty

pub root_tag_cut : (front tag rest : List ℕ) → IsUtf8 front → IsUtf8 rest → HasSpelling start_form tag →
    tokens_from (front ++ (tag ++ rest)) (length front) ≡ token_at kinds.Start (length front) tag ∷ tokens_from ((front ++ tag) ++ rest) (length (front ++ tag))
root_tag_cut front tag rest u v h =
    let at_start = length front == 0 in
    token_first kinds.Start front tag rest u (spelling_utf8 h) v (spelled_some h)
    (subst (λ xs. first_token at_start (xs ++ rest) ≡ cut_as kinds.Start (length xs)) h.are ((spelled_tags_are_cut h.cs rest at_start h.ok).0 h.spelled))

pub empty_tag_cut : (front tag rest : List ℕ) → IsUtf8 front → IsUtf8 rest → HasSpelling empty_form tag →
    tokens_from (front ++ (tag ++ rest)) (length front) ≡ token_at kinds.Empty (length front) tag ∷ tokens_from ((front ++ tag) ++ rest) (length (front ++ tag))
empty_tag_cut front tag rest u v h =
    let at_start = length front == 0 in
    token_first kinds.Empty front tag rest u (spelling_utf8 h) v (spelled_some h)
    (subst (λ xs. first_token at_start (xs ++ rest) ≡ cut_as kinds.Empty (length xs)) h.are ((spelled_tags_are_cut h.cs rest at_start h.ok).1 h.spelled))

pub spelling_some : {form : Form} {bytes : List ℕ} → HasSpelling (seq (one (only 60)) form) bytes → 0 < length bytes
spelling_some h = spelled_some h

root_alone_cut : (front tag : List ℕ) → IsUtf8 front → HasSpelling empty_form tag →
    tokens_from (front ++ tag) (length front) ≡ token_at kinds.Empty (length front) tag ∷ []
root_alone_cut front tag u h =
    let at_start = length front == 0 in
    ap (λ (xs : List ℕ). tokens_from (front ++ xs) (length front)) (sym (append-nil tag))
    ∙ token_first kinds.Empty front tag [] u (spelling_utf8 h) IsUtf8-nil (spelled_some h)
    (subst (λ xs. first_token at_start (xs ++ []) ≡ cut_as kinds.Empty (length xs)) h.are ((spelled_tags_are_cut h.cs [] at_start h.ok).1 h.spelled))
    ∙ ap (λ (ts : List Token). token_at kinds.Empty (length front) tag ∷ ts) (no_token (front ++ tag))

pub root_utf8 : {events : List trees.Event} {bytes : List ℕ} → WritesRoot events bytes → IsUtf8 bytes
root_utf8 (root_with_tags {bytes} name attributes tag written own plain content writes more) = IsUtf8-append tag bytes (written_tags_are_read start_mark plain writes).utf8 (written_utf8 more)
root_utf8 (root_alone name attributes tag written own plain writes) = (written_tags_are_read empty_mark plain writes).utf8

pub root_begins : {events : List trees.Event} {bytes : List ℕ} → WritesRoot events bytes → BeginsTag bytes
root_begins (root_with_tags {bytes} name attributes tag written own plain content writes more) = begins_more tag bytes (begins_by tag (start_of plain writes))
root_begins (root_alone name attributes tag written own plain writes) = begins_by tag (empty_of plain writes)

pub root_cut : {events : List trees.Event} {bytes : List ℕ} (front : List ℕ) (writes : WritesRoot events bytes) → IsUtf8 front →
    tokens_from (front ++ bytes) (length front) ≡ root_tokens (length front) writes
root_cut front (root_with_tags {bytes} name attributes tag written own plain content writes more) u =
    let s = start_of plain writes in
    let some = spelled_some s in
    let size = length-append front tag in
    root_tag_cut front tag bytes u (written_utf8 more) s
    ∙ ap (λ (ts : List Token). token_at kinds.Start (length front) tag ∷ ts) (texts_cut (front ++ tag) more (omega arith) (IsUtf8-append front tag u (spelling_utf8 s)))
    ∙ ap (λ n. token_at kinds.Start (length front) tag ∷ tokens_of n more) size
root_cut front (root_alone name attributes tag written own plain writes) u = root_alone_cut front tag u (empty_of plain writes)
