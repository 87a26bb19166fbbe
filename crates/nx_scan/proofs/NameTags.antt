-- A tag is told by what follows its Name; and the tags of a Name without attributes are tokens, whatever follows them.
use Rattle.std.proofs.Common.{◌≡◌, ℕ, ◌+◌, ◌<◌, Bool, true, false, inl, inr, List, [], ◌∷◌, ◌++◌, length, drop, refl, sym, ◌∙◌, ap, subst, arith, length-append, append_assoc, codes}
use Rattle.std.specs.Prelude.{◌==◌, ◌&&◌}
use Rattle.std.specs.List.{AllByRecursion}
use Rattle.std.specs.Str.{IsUtf8, chars}
use lib.Utf8.{encode, encodes, scalar, scalars}
use Rattle.std.proofs.lemmas.Bool.{cases_Bool, and_parts, and_from, true≢false}
use Rattle.std.proofs.lemmas.Str.{encode_ascii, encodes-chars, scalars-chars, chars_past_char, encode_same, IsUtf8-append}
use Rattle.nx_base.specs.Characters.{is_name_start, is_name_char}
use Rattle.nx_base.specs.Tokens.{Cut, cut_as, begins_with, order_mark, first_token, tag}
use Rattle.nx_base.specs.declared.token.TokenKind.{TokenKind}
use Rattle.nx_base.specs.declared.token.TokenKind.TheVariants as kinds
use Rattle.nx_base.specs.Form.{Spells, one, name_char, joined}
use Rattle.nx_base.specs.Tags.{name_form}
use Rattle.nx_scan.specs.Tag.{left_of, later}
use Rattle.nx_scan.specs.declared.tag.TagState.{TagState}
use Rattle.nx_scan.specs.declared.tag.TagState.TheVariants as seen
use Rattle.nx_scan.proofs.Reading.{Reads, open-start, open-slash, name-name, name-other, value-close, end-start, end-name, end-other, end-close}
use Rattle.nx_scan.proofs.Marks.{begins_with-split}
use Rattle.nx_scan.proofs.Rows.{behind_mark}
use Rattle.nx_scan.proofs.SameMarkup.{row-tag, behind-less}
use Rattle.nx_scan.proofs.TagEnds.{IsOpen, IsWhole, can_go_on, start-whole, end-whole, tag-step, begin-tag}
use Rattle.nx_scan.proofs.Themselves.{row-markup}

abbrev AreNameChars : List ℕ → Type 0
AreNameChars cs = AllByRecursion (λ (c : ℕ). is_name_char c ≡ true) cs

one_utf8 : (b : ℕ) → b < 128 → scalars (b ∷ []) ≡ true → IsUtf8 (b ∷ [])
one_utf8 b low ok = (b ∷ [], (ok, ap (λ xs. xs ++ []) (encode_ascii b low)))

-- the states that are passed
open_open : IsOpen seen.Open
unfolding left_of
open_open = record { part = record { end = refl; start = refl; empty = refl }; possible = refl }

name_open : IsOpen seen.Name
unfolding left_of
name_open = record { part = record { end = refl; start = refl; empty = refl }; possible = refl }

end_open : IsOpen seen.EndOpen
unfolding left_of
end_open = record { part = record { end = refl; start = refl; empty = refl }; possible = refl }

end_name_open : IsOpen seen.EndName
unfolding left_of
end_name_open = record { part = record { end = refl; start = refl; empty = refl }; possible = refl }

no_name : is_name_char 62 ≡ false
unfolding is_name_char is_name_start
no_name = refl

name_closes : Reads seen.Name 62 seen.Start
name_closes = value-close 62 refl ∙ sym (name-other 62 no_name)

end_closes : Reads seen.EndName 62 seen.End
end_closes = end-close 62 refl ∙ sym (end-other 62 no_name)

-- one character on
step : (read behind : TagState) (c : ℕ) (more : List ℕ) → IsOpen read → Reads read c behind → can_go_on (left_of behind) ≡ true → IsUtf8 (encode c ++ more) →
    tag (left_of read) (encode c ++ more) ≡ later (length (encode c)) (tag (left_of behind) more)
step read behind c more o reads possible utf8 =
    tag-step (left_of read) c (encode c ++ more) more o.part (sym (ap can_go_on reads) ∙ possible) (chars_past_char (encode c ++ more) more c utf8 refl) refl
    ∙ ap (λ left. later (length (encode c)) (tag left more)) (sym reads)

-- one of one byte
step_ascii : (read behind : TagState) (b : ℕ) (more : List ℕ) → IsOpen read → Reads read b behind → can_go_on (left_of behind) ≡ true → b < 128 → IsUtf8 (b ∷ more) →
    tag (left_of read) (b ∷ more) ≡ later 1 (tag (left_of behind) more)
step_ascii read behind b more o reads possible low utf8 =
    let one : encode b ≡ b ∷ [] = encode_ascii b low in
    ap (λ xs. tag (left_of read) (xs ++ more)) (sym one)
    ∙ step read behind b more o reads possible (subst (λ xs. IsUtf8 (xs ++ more)) (sym one) utf8)
    ∙ ap (λ xs. later (length xs) (tag (left_of behind) more)) one

-- `>` behind a name
closes : (read whole : TagState) (kind : TokenKind) → IsOpen read → Reads read 62 whole → IsWhole whole kind → (more : List ℕ) → IsUtf8 more →
    tag (left_of read) (62 ∷ more) ≡ cut_as kind 1
closes read whole kind o reads is_whole more utf8 =
    step_ascii read whole 62 more o reads is_whole.possible (omega arith) (IsUtf8-append (62 ∷ []) more (one_utf8 62 (omega arith) refl) utf8)
    ∙ ap (later 1) (is_whole.cut more)

not_later : (c : Cut) → c ≡ later 0 c
not_later c = ap (cut_as c.kind) (let e : c.len ≡ 0 + c.len = omega arith in e)

later_twice : (j k n : ℕ) (c : Cut) → j + k ≡ n → later j (later k c) ≡ later n c
later_twice j k n c e = ap (cut_as c.kind) (let sum : j + (k + c.len) ≡ n + c.len = omega (arith, e) in sum)

begun_utf8 : (c : ℕ) (more : List ℕ) → scalar c ≡ true → IsUtf8 more → IsUtf8 (encode c ++ more)
begun_utf8 c more ok utf8 = (c ∷ utf8.0, (and_from (scalar c) (scalars utf8.0) ok utf8.1.0, ap (λ xs. encode c ++ xs) utf8.1.1))

-- the rest of a name is passed
passed : (read : TagState) → IsOpen read → ((c : ℕ) → is_name_char c ≡ true → Reads read c read) → (cs more : List ℕ) → scalars cs ≡ true →
    AreNameChars cs → IsUtf8 more → tag (left_of read) (encodes cs ++ more) ≡ later (length (encodes cs)) (tag (left_of read) more)
passed read o stays [] more u all utf8 = not_later (tag (left_of read) more)
passed read o stays (c ∷ cs) more u all utf8 =
    let parts = and_parts (scalar c) (scalars cs) u in
    let rest_utf8 : IsUtf8 (encodes cs ++ more) = IsUtf8-append (encodes cs) more (cs, (parts.1, refl)) utf8 in
    ap (tag (left_of read)) (append_assoc (encode c) (encodes cs) more)
    ∙ step read read c (encodes cs ++ more) o (stays c all.0) o.possible (begun_utf8 c (encodes cs ++ more) parts.0 rest_utf8)
    ∙ ap (later (length (encode c))) (passed read o stays cs more parts.1 all.1 utf8)
    ∙ later_twice (length (encode c)) (length (encodes cs)) (length (encode c ++ encodes cs)) (tag (left_of read) more)
    (sym (length-append (encode c) (encodes cs)))

-- a name's first character, and its others
record NameParts (name : List ℕ) : Type 0 where
  first : ℕ
  others : List ℕ
  starts : is_name_start first ≡ true
  goes_on : AreNameChars others
  first_scalar : scalar first ≡ true
  scalars : scalars others ≡ true
  spelled : name ≡ encode first ++ encodes others

parts_chars : (parts : List (List ℕ)) → AllByRecursion (Spells (one name_char)) parts → AreNameChars (joined parts)
unfolding Spells
parts_chars [] h = tt
parts_chars (part ∷ parts) h = subst (λ xs. AreNameChars (xs ++ joined parts)) (sym h.0.2) (h.0.1, parts_chars parts h.1)

name_all : (cs : List ℕ) → Spells name_form cs → (c : ℕ) × (ds : List ℕ) × (is_name_start c ≡ true) × AreNameChars ds × (cs ≡ c ∷ ds)
unfolding Spells
name_all cs s = (s.2.0, s.1, s.2.1, subst (λ xs. AreNameChars xs) (sym s.3.2) (parts_chars s.3.0 s.3.1), s.4 ∙ ap (λ xs. xs ++ s.1) s.2.2)

parts_of : (name : List ℕ) → IsUtf8 name → Spells name_form (chars name) → NameParts name
parts_of name utf8 spelled =
    let t = name_all (chars name) spelled in
    let ok : scalars (t.0 ∷ t.1) ≡ true = ap scalars (sym t.4) ∙ scalars-chars name utf8 in
    let parts = and_parts (scalar t.0) (scalars t.1) ok in
    record {
      first = t.0;
      others = t.1;
      starts = t.2;
      goes_on = t.3;
      first_scalar = parts.0;
      scalars = parts.1;
      spelled = sym (encodes-chars name utf8) ∙ ap encodes t.4;
    }

-- and so is a whole name
whole_name : (before read : TagState) → IsOpen before → IsOpen read → ((c : ℕ) → is_name_start c ≡ true → Reads before c read) →
    ((c : ℕ) → is_name_char c ≡ true → Reads read c read) → (name more : List ℕ) → NameParts name → IsUtf8 more →
    tag (left_of before) (name ++ more) ≡ later (length name) (tag (left_of read) more)
whole_name before read b o starts stays name more n utf8 =
    let rest_utf8 : IsUtf8 (encodes n.others ++ more) = IsUtf8-append (encodes n.others) more (n.others, (n.scalars, refl)) utf8 in
    let len : length name ≡ length (encode n.first) + length (encodes n.others) = ap length n.spelled ∙ length-append (encode n.first) (encodes n.others) in
    ap (λ xs. tag (left_of before) (xs ++ more)) n.spelled
    ∙ ap (tag (left_of before)) (append_assoc (encode n.first) (encodes n.others) more)
    ∙ step before read n.first (encodes n.others ++ more) b (starts n.first n.starts) o.possible
    (begun_utf8 n.first (encodes n.others ++ more) n.first_scalar rest_utf8)
    ∙ ap (later (length (encode n.first))) (passed read o stays n.others more n.scalars n.goes_on utf8)
    ∙ later_twice (length (encode n.first)) (length (encodes n.others)) (length name) (tag (left_of read) more) (sym len)

-- no comment, CDATA section, document type or instruction begins with a name
not_byte : (b c : ℕ) (more : List ℕ) → b < 128 → is_name_start c ≡ true → is_name_start b ≡ false → begins_with (b ∷ []) (encode c ++ more) ≡ false
not_byte b c more low starts none =
    elim (cases_Bool (begins_with (b ∷ []) (encode c ++ more))) [
      | inl is ↦
          (let marked : encode c ++ more ≡ encode b ++ drop 1 (encode c ++ more) =
          behind_mark (b ∷ []) (encode c ++ more) is ∙ ap (λ xs. xs ++ drop 1 (encode c ++ more)) (sym (encode_ascii b low)) in
          let same : c ≡ b = (encode_same c b more (drop 1 (encode c ++ more)) marked).0 in
          absurd (true≢false (sym starts ∙ ap is_name_start same ∙ none)))
      | inr is ↦ is
    ]

no_33 : is_name_start 33 ≡ false
unfolding is_name_start
no_33 = refl

no_63 : is_name_start 63 ≡ false
unfolding is_name_start
no_63 = refl

less_here : (xs : List ℕ) → begins_with (codes "<") (60 ∷ xs) ≡ true
unfolding begins_with
less_here xs = refl

no_order_mark : (s : Bool) (xs : List ℕ) → (s && begins_with order_mark (60 ∷ xs)) ≡ false
unfolding begins_with
no_order_mark true xs = refl
no_order_mark false xs = refl

-- a token that begins with `<` and neither `!` nor `?` is a tag
is_tag : (s : Bool) (xs : List ℕ) → IsUtf8 (60 ∷ xs) → begins_with (33 ∷ []) xs ≡ false → begins_with (63 ∷ []) xs ≡ false →
    first_token s (60 ∷ xs) ≡ later 1 (tag (left_of seen.Open) xs)
is_tag s xs utf8 a b =
    row-markup s (60 ∷ xs) (no_order_mark s xs) (less_here xs)
    ∙ row-tag (60 ∷ xs) (marked (codes "--")) (marked (codes "[CDATA[")) (marked (codes "DOCTYPE")) (behind-less (codes "?") (60 ∷ xs) (less_here xs) ∙ b)
    ∙ begin-tag (60 ∷ xs) 0 utf8 (omega arith) refl
  where
    marked : (tail : List ℕ) → begins_with (60 ∷ 33 ∷ tail) (60 ∷ xs) ≡ false
    marked tail = behind-less (33 ∷ tail) (60 ∷ xs) (less_here xs) ∙ begins_with-split 33 tail xs ∙ ap (λ t. t && begins_with tail (drop 1 xs)) a

slash_no : (b : ℕ) (xs : List ℕ) → (47 == b) ≡ false → begins_with (b ∷ []) (47 ∷ xs) ≡ false
unfolding begins_with
slash_no b xs h = rw h refl

-- what is read behind the name of a start tag or an empty-element tag, and behind that of an end tag
pub behind_name : List ℕ → Cut
behind_name more = tag (left_of seen.Name) more

pub behind_end_name : List ℕ → Cut
behind_end_name more = tag (left_of seen.EndName) more

module _ (s : Bool) (name more : List ℕ) (name_utf8 : IsUtf8 name) (spelled_name : Spells name_form (chars name)) (utf8 : IsUtf8 more) where
  named_utf8 : IsUtf8 (name ++ more)
  named_utf8 = IsUtf8-append name more name_utf8 utf8

  slashed_utf8 : IsUtf8 (47 ∷ (name ++ more))
  slashed_utf8 = IsUtf8-append (47 ∷ []) (name ++ more) (one_utf8 47 (omega arith) refl) named_utf8

  -- a tag is told by what follows its name
  pub start_goes_on : first_token s (60 ∷ (name ++ more)) ≡ later (1 + length name) (behind_name more)
  unfolding behind_name
  start_goes_on =
      let n = parts_of name name_utf8 spelled_name in
      let spelled : name ++ more ≡ encode n.first ++ (encodes n.others ++ more) =
      ap (λ xs. xs ++ more) n.spelled ∙ append_assoc (encode n.first) (encodes n.others) more in
      is_tag s (name ++ more) (IsUtf8-append (60 ∷ []) (name ++ more) (one_utf8 60 (omega arith) refl) named_utf8)
      (ap (begins_with (33 ∷ [])) spelled ∙ not_byte 33 n.first (encodes n.others ++ more) (omega arith) n.starts no_33)
      (ap (begins_with (63 ∷ [])) spelled ∙ not_byte 63 n.first (encodes n.others ++ more) (omega arith) n.starts no_63)
      ∙ ap (later 1) (whole_name seen.Open seen.Name open_open name_open open-start name-name name more n utf8)
      ∙ later_twice 1 (length name) (1 + length name) (tag (left_of seen.Name) more) refl

  pub end_goes_on : first_token s (60 ∷ 47 ∷ (name ++ more)) ≡ later (2 + length name) (behind_end_name more)
  unfolding behind_end_name
  end_goes_on =
      is_tag s (47 ∷ (name ++ more)) (IsUtf8-append (60 ∷ []) (47 ∷ (name ++ more)) (one_utf8 60 (omega arith) refl) slashed_utf8)
      (slash_no 33 (name ++ more) refl) (slash_no 63 (name ++ more) refl)
      ∙ ap (later 1)
      (step_ascii seen.Open seen.EndOpen 47 (name ++ more) open_open (open-slash 47 refl) end_open.possible (omega arith) slashed_utf8
      ∙ ap (later 1)
      (whole_name seen.EndOpen seen.EndName end_open end_name_open end-start end-name name more (parts_of name name_utf8 spelled_name) utf8))
      ∙ ap (later 1) (later_twice 1 (length name) (1 + length name) (tag (left_of seen.EndName) more) refl)
      ∙ later_twice 1 (1 + length name) (2 + length name) (tag (left_of seen.EndName) more) (omega arith)

-- the tags of a name alone are tokens, whatever follows them
module _ (s : Bool) (name more : List ℕ) (name_utf8 : IsUtf8 name) (spelled_name : Spells name_form (chars name)) (utf8 : IsUtf8 more) where
  closed_utf8 : IsUtf8 (62 ∷ more)
  closed_utf8 = IsUtf8-append (62 ∷ []) more (one_utf8 62 (omega arith) refl) utf8

  pub start_is_token : first_token s (60 ∷ (name ++ 62 ∷ more)) ≡ cut_as kinds.Start (length name + 2)
  unfolding behind_name
  start_is_token =
      start_goes_on s name (62 ∷ more) name_utf8 spelled_name closed_utf8
      ∙ ap (later (1 + length name)) (closes seen.Name seen.Start kinds.Start name_open name_closes start-whole more utf8)
      ∙ ap (cut_as kinds.Start) (let e : 1 + length name + 1 ≡ length name + 2 = omega arith in e)

  pub end_is_token : first_token s (60 ∷ 47 ∷ (name ++ 62 ∷ more)) ≡ cut_as kinds.End (length name + 3)
  unfolding behind_end_name
  end_is_token =
      end_goes_on s name (62 ∷ more) name_utf8 spelled_name closed_utf8
      ∙ ap (later (2 + length name)) (closes seen.EndName seen.End kinds.End end_name_open end_closes end-whole more utf8)
      ∙ ap (cut_as kinds.End) (let e : 2 + length name + 1 ≡ length name + 3 = omega arith in e)
