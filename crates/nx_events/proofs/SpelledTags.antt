-- Tags as their forms spell them are tags as they are read.
use Rattle.std.proofs.Common.{◌≡◌, ℕ, ◌<◌, append_assoc, append-nil, Bool, true, false, inl, inr, List, [], ◌∷◌, ◌++◌, length, refl, ap, subst, sym, ◌∙◌, arith, codes}
use Rattle.std.specs.Prelude.{◌&&◌, ◌==◌, not}
use Rattle.std.specs.List.{AllByRecursion}
use lib.Utf8.{encodes, scalar, scalars}
use Rattle.std.proofs.lemmas.Bool.{and_parts, eqb-true}
use Rattle.std.proofs.lemmas.List.{length-append}
use Rattle.std.proofs.lemmas.Str.{encode_ascii, encodes-append}
use Rattle.nx_base.specs.Characters.{is_space, is_quote}
use Rattle.nx_base.specs.Form.{Form, space, only, other_than, has, one, seq, joined, Spells}
use Rattle.nx_base.specs.Tags.{name_form, spaces, quoted_rest, value_form, attribute, tag_rest, end_form}
use Rattle.nx_events.specs.Tags.{is_between, start_name, end_name, written_name, tag_attributes}
use Rattle.nx_events.specs.Spelling.{Written, AreSpaces, IsNameByte, IsWritten, spelled_before, spelled_all, AreBetween, IsTag, spelled_tag}
use Rattle.nx_events.specs.SpelledTags.{IsName, HasNoLess, IsSpelledTag, IsSpelledEnd}
use Rattle.nx_events.proofs.Spelling.{Headed, tags_are_read, name_read, spaces_between, between_head}
use Rattle.nx_events.proofs.FormWords.{AllPass, one-of_one, many-to, all_pass-append}
use Rattle.nx_events.proofs.TagForms.{NonePass, bytes_none, spaces_bytes, name_is}

seq_bytes : (cs front back : List ℕ) → cs ≡ front ++ back → encodes cs ≡ encodes front ++ encodes back
seq_bytes cs front back e = ap encodes e ∙ encodes-append front back

scalars_front : (xs ys : List ℕ) → scalars (xs ++ ys) ≡ true → scalars xs ≡ true
scalars_front [] ys h = refl
scalars_front (x ∷ xs) ys h = let t = and_parts (scalar x) (scalars (xs ++ ys)) h in ap (λ (b : Bool). b && scalars xs) t.0 ∙ scalars_front xs ys t.1

scalars_back : (xs ys : List ℕ) → scalars (xs ++ ys) ≡ true → scalars ys ≡ true
scalars_back [] ys h = h
scalars_back (x ∷ xs) ys h = scalars_back xs ys (and_parts (scalar x) (scalars (xs ++ ys)) h).1

-- one character of ASCII, and white space
pub only_bytes : (c : ℕ) (cs : List ℕ) → c < 128 → Spells (one (only c)) cs → encodes cs ≡ c ∷ []
unfolding Spells
only_bytes c cs low s = ap encodes (s.2 ∙ ap (λ x. x ∷ []) (eqb-true s.0 c s.1)) ∙ ap (λ xs. xs ++ []) (encode_ascii c low)

spaces_all : (cs : List ℕ) → Spells spaces cs → AreSpaces cs
spaces_all cs s = many-to (one space) is_space (one-of_one space) cs s

-- a value
pub record ValueBytes (cs : List ℕ) : Type 0 where
  pub quote : ℕ
  pub value : List ℕ
  pub is_one : is_quote quote ≡ true
  pub unquoted : NonePass (λ b. b == quote) value
  pub no_less : NonePass (λ b. b == 60) value
  pub is : encodes cs ≡ quote ∷ (value ++ quote ∷ [])

others : (q : ℕ) (cs : List ℕ) → AllPass (has (other_than q 60)) cs → NonePass (λ b. b == q) cs × NonePass (λ b. b == 60) cs
others q [] h = (tt, tt)
others q (c ∷ cs) h =
    let parts = and_parts (not (c == q)) (not (c == 60)) h.0 in
    let rest = others q cs h.1 in
    ((not_true (c == q) parts.0, rest.0), (not_true (c == 60) parts.1, rest.1))
  where
    not_true : (t : Bool) → not t ≡ true → t ≡ false
    not_true true e = sym e
    not_true false e = refl

same_small : (d b : ℕ) → d < 128 → (b == d) ≡ true → b < 128
same_small d b h e = let k = eqb-true b d e in omega arith

quoted_is : (q : ℕ) (cs : List ℕ) → q < 128 → is_quote q ≡ true → Spells (seq (one (only q)) (quoted_rest q)) cs → ValueBytes cs
unfolding Spells
quoted_is q cs low h s =
    let first : encodes s.0 ≡ q ∷ [] = only_bytes q s.0 low s.2 in
    let last : encodes s.3.1 ≡ q ∷ [] = only_bytes q s.3.1 low s.3.3 in
    let plain = others q s.3.0 (many-to (one (other_than q 60)) (has (other_than q 60)) (one-of_one (other_than q 60)) s.3.0 s.3.2) in
    record {
      quote = q;
      value = encodes s.3.0;
      is_one = h;
      unquoted = bytes_none (λ b. b == q) s.3.0 (λ b e. same_small q b low e) plain.0;
      no_less = bytes_none (λ b. b == 60) s.3.0 (λ b e. same_small 60 b (omega arith) e) plain.1;
      is = seq_bytes cs s.0 s.1 s.4 ∙ ap (λ xs. xs ++ encodes s.1) first ∙ ap (λ xs. q ∷ xs) (seq_bytes s.1 s.3.0 s.3.1 s.3.4 ∙ ap (λ xs. encodes s.3.0 ++ xs) last);
    }

value_is : (cs : List ℕ) → Spells value_form cs → ValueBytes cs
unfolding Spells
value_is cs s = elim s [ inl t ↦ quoted_is 34 cs (omega arith) refl t | inr t ↦ quoted_is 39 cs (omega arith) refl t ]

-- an attribute
pub record AttributeBytes (cs : List ℕ) : Type 0 where
  pub it : Written
  pub written : IsWritten it
  pub apart : 0 < length it.space
  pub is_name : IsName it.name
  pub no_less : HasNoLess it
  pub spelled : (rest : List ℕ) → encodes cs ++ rest ≡ it.space ++ spelled_before it rest

attribute_is : (cs : List ℕ) → scalars cs ≡ true → Spells attribute cs → AttributeBytes cs
unfolding Spells
attribute_is cs ok s =
    let c = s.2.0 in
    let gap = s.3.0 in
    let behind_gap = s.3.1 in
    let named = s.3.3 in
    let behind_name = named.1 in
    let before = named.3.0 in
    let behind_before = named.3.1 in
    let valued = named.3.3.3 in
    let ok_name : scalars named.0 ≡ true = scalars_front named.0 named.1 (ap scalars (sym named.4) ∙ scalars_back gap behind_gap (ap scalars (sym s.3.4) ∙ scalars_back s.0 s.1 (ap scalars (sym s.4) ∙ ok))) in
    let name = name_is named.0 ok_name named.2 in
    let spaced : AreSpaces (c ∷ gap) = (s.2.1, spaces_all gap s.3.2) in
    let value = value_is valued.1 valued.3 in
    let first : encodes cs ≡ c ∷ (gap ++ encodes behind_gap) =
    seq_bytes cs s.0 s.1 s.4 ∙ ap (λ xs. encodes xs ++ encodes s.1) s.2.2 ∙ ap (λ xs. xs ++ encodes s.1) (spaces_bytes (c ∷ []) (s.2.1, tt))
    ∙ ap (λ xs. c ∷ xs) (seq_bytes s.1 gap behind_gap s.3.4 ∙ ap (λ xs. xs ++ encodes behind_gap) (spaces_bytes gap (spaces_all gap s.3.2))) in
    let second : encodes behind_gap ≡ encodes named.0 ++ (before ++ encodes behind_before) =
    seq_bytes behind_gap named.0 behind_name named.4
    ∙ ap (λ xs. encodes named.0 ++ xs) (seq_bytes behind_name before behind_before named.3.4 ∙ ap (λ xs. xs ++ encodes behind_before) (spaces_bytes before (spaces_all before named.3.2))) in
    let third : encodes behind_before ≡ 61 ∷ (valued.0 ++ (value.quote ∷ (value.value ++ value.quote ∷ []))) =
    seq_bytes behind_before named.3.3.0 named.3.3.1 named.3.3.4
    ∙ ap (λ xs. xs ++ encodes named.3.3.1) (only_bytes 61 named.3.3.0 (omega arith) named.3.3.2)
    ∙ ap (λ xs. 61 ∷ xs) (seq_bytes named.3.3.1 valued.0 valued.1 valued.4 ∙ ap (λ xs. xs ++ encodes valued.1) (spaces_bytes valued.0 (spaces_all valued.0 valued.2)) ∙ ap (λ xs. valued.0 ++ xs) value.is) in
    let whole : encodes cs ≡ c ∷ (gap ++ (encodes named.0 ++ (before ++ 61 ∷ (valued.0 ++ (value.quote ∷ (value.value ++ value.quote ∷ [])))))) =
    first ∙ ap (λ xs. c ∷ (gap ++ xs)) (second ∙ ap (λ xs. encodes named.0 ++ (before ++ xs)) third) in
    record {
      it = record { space = c ∷ gap; name = encodes named.0; before = before; behind = valued.0; quote = value.quote; value = value.value };
      written = record {
        space = spaced;
        some_name = name.some;
        name = name.bytes;
        before = spaces_all before named.3.2;
        behind = spaces_all valued.0 valued.2;
        quote = value.is_one;
        value = value.unquoted;
      };
      apart = omega arith;
      is_name = name.is_name;
      no_less = value.no_less;
      spelled = λ rest. ap (λ xs. xs ++ rest) whole ∙ regroup c gap (encodes named.0) before valued.0 value.quote value.value rest;
    }
  where
    regroup : (c : ℕ) (gap name before behind : List ℕ) (q : ℕ) (value rest : List ℕ) →
        (c ∷ (gap ++ (name ++ (before ++ 61 ∷ (behind ++ (q ∷ (value ++ q ∷ []))))))) ++ rest ≡ (c ∷ gap) ++ ((name ++ (before ++ 61 ∷ behind)) ++ q ∷ (value ++ q ∷ rest))
    regroup c gap name before behind q value rest = simp append_assoc

-- attributes in a row
pub record ListBytes (cs : List ℕ) : Type 0 where
  pub its : List Written
  pub written : AllByRecursion IsWritten its
  pub apart : AllByRecursion (λ (it : Written). 0 < length it.space) its
  pub are_names : AllByRecursion (λ (it : Written). IsName it.name) its
  pub no_less : AllByRecursion HasNoLess its
  pub spelled : (rest : List ℕ) → encodes cs ++ rest ≡ spelled_all its rest

attributes_are : (parts : List (List ℕ)) → scalars (joined parts) ≡ true → AllByRecursion (Spells attribute) parts → ListBytes (joined parts)
attributes_are [] ok all = record { its = []; written = tt; apart = tt; are_names = tt; no_less = tt; spelled = λ rest. refl }
attributes_are (part ∷ parts) ok all =
    let first = attribute_is part (scalars_front part (joined parts) ok) all.0 in
    let rest = attributes_are parts (scalars_back part (joined parts) ok) all.1 in
    record {
      its = first.it ∷ rest.its;
      written = (first.written, rest.written);
      apart = (first.apart, rest.apart);
      are_names = (first.is_name, rest.are_names);
      no_less = (first.no_less, rest.no_less);
      spelled = λ more. ap (λ xs. xs ++ more) (encodes-append part (joined parts)) ∙ append_assoc (encodes part) (encodes (joined parts)) more
          ∙ ap (λ xs. encodes part ++ xs) (rest.spelled more) ∙ first.spelled (spelled_all rest.its more);
    }

-- what closes a tag
pub record Closes (close : Form) (mark : List ℕ) : Type 0 where
  pub is_mark : (cs : List ℕ) → Spells close cs → encodes cs ≡ mark
  pub between : AreBetween mark
  pub some : 0 < length mark

between_append : (xs ys : List ℕ) → AreBetween xs → AreBetween ys → AreBetween (xs ++ ys)
between_append xs ys h k = all_pass-append is_between xs ys h k

pub tag_is : (close : Form) (mark : List ℕ) → Closes close mark → (cs : List ℕ) → scalars cs ≡ true → Spells (seq (one (only 60)) (seq name_form (tag_rest close))) cs → IsSpelledTag mark (encodes cs)
unfolding Spells
tag_is close mark closes cs ok s =
    let named = s.3 in
    let rest = named.3 in
    let closing = rest.3 in
    let ok_named : scalars s.1 ≡ true = scalars_back s.0 s.1 (ap scalars (sym s.4) ∙ ok) in
    let ok_name : scalars named.0 ≡ true = scalars_front named.0 named.1 (ap scalars (sym named.4) ∙ ok_named) in
    let ok_rest : scalars named.1 ≡ true = scalars_back named.0 named.1 (ap scalars (sym named.4) ∙ ok_named) in
    let ok_attributes : scalars (joined rest.2.0) ≡ true = ap scalars (sym rest.2.2) ∙ scalars_front rest.0 rest.1 (ap scalars (sym rest.4) ∙ ok_rest) in
    let name = name_is named.0 ok_name named.2 in
    let list = attributes_are rest.2.0 ok_attributes rest.2.1 in
    let spaced = spaces_all closing.0 closing.2 in
    let last : encodes rest.1 ≡ closing.0 ++ mark =
    seq_bytes rest.1 closing.0 closing.1 closing.4 ∙ ap (λ xs. xs ++ encodes closing.1) (spaces_bytes closing.0 spaced) ∙ ap (λ xs. closing.0 ++ xs) (closes.is_mark closing.1 closing.3) in
    let whole : encodes cs ≡ spelled_tag (encodes named.0) list.its (closing.0 ++ mark) =
    seq_bytes cs s.0 s.1 s.4 ∙ ap (λ xs. xs ++ encodes s.1) (only_bytes 60 s.0 (omega arith) s.2)
    ∙ ap (λ xs. 60 ∷ xs) (seq_bytes s.1 named.0 named.1 named.4
    ∙ ap (λ xs. encodes named.0 ++ xs) (seq_bytes named.1 rest.0 rest.1 rest.4 ∙ ap (λ xs. encodes xs ++ encodes rest.1) rest.2.2 ∙ ap (λ xs. encodes (joined rest.2.0) ++ xs) last ∙ list.spelled (closing.0 ++ mark))) in
    let tag : IsTag (encodes named.0) list.its (closing.0 ++ mark) = record {
      named = name.bytes;
      written = list.written;
      apart = list.apart;
      closes = between_append closing.0 mark (spaces_between closing.0 spaced) closes.between;
      closed = (let k = length-append closing.0 mark in let some = closes.some in omega arith);
    } in
    record {
      name = encodes named.0;
      attributes = list.its;
      space = closing.0;
      is_name = name.is_name;
      are_names = list.are_names;
      are_values = list.no_less;
      are_spaces = spaced;
      is_tag = tag;
      spelled = whole;
      name_read = ap start_name whole ∙ (tags_are_read 0 (encodes named.0) list.its (closing.0 ++ mark) tag).0;
      attributes_read = λ at. ap (tag_attributes at) whole ∙ (tags_are_read at (encodes named.0) list.its (closing.0 ++ mark) tag).1;
    }

pub end_is : (cs : List ℕ) → scalars cs ≡ true → Spells end_form cs → IsSpelledEnd (encodes cs)
unfolding Spells is_space
end_is cs ok s =
    let slash = s.3 in
    let named = slash.3 in
    let closing = named.3 in
    let ok_named : scalars slash.1 ≡ true = scalars_back slash.0 slash.1 (ap scalars (sym slash.4) ∙ scalars_back s.0 s.1 (ap scalars (sym s.4) ∙ ok)) in
    let ok_name : scalars named.0 ≡ true = scalars_front named.0 named.1 (ap scalars (sym named.4) ∙ ok_named) in
    let name = name_is named.0 ok_name named.2 in
    let spaced = spaces_all closing.0 closing.2 in
    let last : encodes named.1 ≡ closing.0 ++ codes ">" =
    seq_bytes named.1 closing.0 closing.1 closing.4 ∙ ap (λ xs. xs ++ encodes closing.1) (spaces_bytes closing.0 spaced) ∙ ap (λ xs. closing.0 ++ xs) (only_bytes 62 closing.1 (omega arith) closing.3) in
    let whole : encodes cs ≡ 60 ∷ 47 ∷ (encodes named.0 ++ (closing.0 ++ codes ">")) =
    seq_bytes cs s.0 s.1 s.4 ∙ ap (λ xs. xs ++ encodes s.1) (only_bytes 60 s.0 (omega arith) s.2)
    ∙ ap (λ xs. 60 ∷ xs) (seq_bytes s.1 slash.0 slash.1 slash.4 ∙ ap (λ xs. xs ++ encodes slash.1) (only_bytes 47 slash.0 (omega arith) slash.2)
    ∙ ap (λ xs. 47 ∷ xs) (seq_bytes slash.1 named.0 named.1 named.4 ∙ ap (λ xs. encodes named.0 ++ xs) last)) in
    let between : AreBetween (closing.0 ++ codes ">") = between_append closing.0 (codes ">") (spaces_between closing.0 spaced) (refl, tt) in
    let size : 0 < length (closing.0 ++ codes ">") = (let k = length-append closing.0 (codes ">") in omega arith) in
    record {
      name = encodes named.0;
      space = closing.0;
      is_name = name.is_name;
      are_spaces = spaced;
      spelled = whole;
      name_read = ap end_name whole ∙ read_by (encodes named.0) (closing.0 ++ codes ">") name.bytes between size;
    }
  where
    read_by : (name rest : List ℕ) → AllByRecursion IsNameByte name → AreBetween rest → 0 < length rest → written_name (name ++ rest) ≡ name
    read_by name rest h between lt = name_read name rest h (subst (λ xs. Headed xs) (append-nil rest) (between_head rest [] between lt))
