-- What is read in the tags of a name: the name, no attribute and no fault.
use Rattle.std.proofs.Common.{◌≡◌, ◌≢◌, ℕ, suc, ◌+◌, Bool, true, false, inl, inr, List, [], ◌∷◌, ◌++◌, length}
use Rattle.std.proofs.Common.{refl, sym, ◌∙◌, ap, subst, arith, append_assoc, length-append, codes}
use Rattle.std.specs.Prelude.{◌&&◌, ◌||◌, nat_le, None}
use Rattle.std.specs.List.{AllByRecursion, list_all}
use Rattle.std.specs.Str.{IsUtf8, chars}
use lib.Utf8.{encode, encodes, scalar, scalars}
use Rattle.std.proofs.lemmas.Bool.{or_cases, or_left, or_right, and_parts, and_from}
use Rattle.std.proofs.lemmas.Bool.Decides.{nat_tests}
use Rattle.std.proofs.lemmas.Str.{encode_ascii, encodes-append, encodes-chars, scalars-chars, IsUtf8-append}
use Rattle.nx_base.specs.Characters.{is_char, is_space, is_in, char_ranges, name_start_ranges, further_name_ranges, is_name_start, is_name_char}
use Rattle.nx_base.specs.declared.fault.Fault.{Fault}
use Rattle.nx_events.specs.CharacterFaults.{character_faults}
use Rattle.nx_events.specs.SpelledTags.{IsName}
use Rattle.nx_events.specs.Spelling.{IsNameByte, IsTag}
use Rattle.nx_events.specs.Strings.{string_of}
use Rattle.nx_events.specs.StringsRead.{IsPart, character, flaw_of, character_in, IsReadInParts, finished, goes_on, none}
use Rattle.nx_events.specs.Tags.{start_name, end_name, tag_attributes}
use Rattle.nx_events.specs.declared.reading.Reading.TheVariants.{Value}
use Rattle.nx_events.proofs.FormWords.{AllPass}
use Rattle.nx_events.proofs.ReferenceForms.{name_all, start_is_name}
use Rattle.nx_events.proofs.Spelling.{Headed, tags_are_read, name_read, between_head}
use Rattle.nx_events.proofs.TagForms.{name_is}
use Rattle.nx_events.proofs.ToldOnce.{strings_are_read}
use Rattle.nx_tags.specs.Changing.{start_tag, end_tag}

-- ---- the name

name_bytes : (name : List ℕ) → IsName name → AllByRecursion IsNameByte name
name_bytes name is = subst (λ xs. AllByRecursion IsNameByte xs) (encodes-chars name is.utf8) (name_is (chars name) (scalars-chars name is.utf8) is.spelled).bytes

tag_is : (name : List ℕ) → IsName name → IsTag name [] (codes ">")
unfolding is_space
tag_is name is = record { named = name_bytes name is; written = tt; apart = tt; closes = (refl, tt); closed = (omega arith) }

pub start_named : (name : List ℕ) → IsName name → start_name (start_tag name) ≡ name
start_named name is = (tags_are_read 0 name [] (codes ">") (tag_is name is)).0

pub start_alone : (at : ℕ) (name : List ℕ) → IsName name → tag_attributes at (start_tag name) ≡ []
start_alone at name is = (tags_are_read at name [] (codes ">") (tag_is name is)).1

closing_head : Headed (codes ">")
unfolding is_space
closing_head = between_head (codes ">") [] (refl, tt) (omega arith)

pub end_named : (name : List ℕ) → IsName name → end_name (end_tag name) ≡ name
end_named name is = name_read name (codes ">") (name_bytes name is) closing_head

-- ---- characters that say nothing but themselves

covers : List (ℕ × ℕ) → ℕ × ℕ → Bool
covers [] r = false
covers (s ∷ ss) r = (nat_le s.0 r.0 && nat_le r.1 s.1) || covers ss r

within_one : (a b x y c : ℕ) → (nat_le x a && nat_le b y) ≡ true → (nat_le a c && nat_le c b) ≡ true → (nat_le x c && nat_le c y) ≡ true
within_one a b x y c h k = grind (arith, nat_tests)

in_covering : (ss : List (ℕ × ℕ)) (r : ℕ × ℕ) (c : ℕ) → covers ss r ≡ true → (nat_le r.0 c && nat_le c r.1) ≡ true → is_in ss c ≡ true
unfolding covers
in_covering [] r c h k = h
in_covering (s ∷ ss) r c h k =
    elim (or_cases (nat_le s.0 r.0 && nat_le r.1 s.1) (covers ss r) h) [
      | inl e ↦ or_left (nat_le s.0 c && nat_le c s.1) (is_in ss c) (within_one r.0 r.1 s.0 s.1 c e k)
      | inr e ↦ or_right (nat_le s.0 c && nat_le c s.1) (is_in ss c) (in_covering ss r c e k)
    ]

in_all : (ss rs : List (ℕ × ℕ)) (c : ℕ) → list_all (covers ss) rs ≡ true → is_in rs c ≡ true → is_in ss c ≡ true
in_all ss [] c h k = let bad : false ≡ true = k in absurd (cc)
in_all ss (r ∷ rs) c h k =
    let t = and_parts (covers ss r) (list_all (covers ss) rs) h in
    elim (or_cases (nat_le r.0 c && nat_le c r.1) (is_in rs c) k) [ inl e ↦ in_covering ss r c t.0 e | inr e ↦ in_all ss rs c t.1 e ]

starts_covered : list_all (covers char_ranges) name_start_ranges ≡ true
unfolding covers
starts_covered = refl

further_covered : list_all (covers char_ranges) further_name_ranges ≡ true
unfolding covers
further_covered = refl

name_is_char : (c : ℕ) → is_name_char c ≡ true → is_char c ≡ true
unfolding is_name_char is_name_start is_char
name_is_char c h =
    elim (or_cases (is_in name_start_ranges c) (is_in further_name_ranges c) h) [
      | inl e ↦ in_all char_ranges name_start_ranges c starts_covered e
      | inr e ↦ in_all char_ranges further_name_ranges c further_covered e
    ]

-- a Char that is neither a carriage return nor `&`
record IsFine (c : ℕ) : Type 0 where
  allowed : is_char c ≡ true
  no_return : c ≢ 13
  no_ampersand : c ≢ 38

no_13 : is_name_char 13 ≡ false
unfolding is_name_char is_name_start
no_13 = refl

no_38 : is_name_char 38 ≡ false
unfolding is_name_char is_name_start
no_38 = refl

name_fine : (c : ℕ) → is_name_char c ≡ true → IsFine c
name_fine c h = record {
  allowed = name_is_char c h;
  no_return = λ e. (let bad : false ≡ true = sym no_13 ∙ ap is_name_char (sym e) ∙ h in cc);
  no_ampersand = λ e. (let bad : false ≡ true = sym no_38 ∙ ap is_name_char (sym e) ∙ h in cc);
}

names_fine : (cs : List ℕ) → AllPass is_name_char cs → AllByRecursion IsFine cs
names_fine [] h = tt
names_fine (c ∷ cs) h = (name_fine c h.0, names_fine cs h.1)

less_fine : IsFine 60
unfolding is_char
less_fine = record { allowed = refl; no_return = λ e. (omega arith); no_ampersand = λ e. (omega arith) }

greater_fine : IsFine 62
unfolding is_char
greater_fine = record { allowed = refl; no_return = λ e. (omega arith); no_ampersand = λ e. (omega arith) }

fine_joined : (cs ds : List ℕ) → AllByRecursion IsFine cs → AllByRecursion IsFine ds → AllByRecursion IsFine (cs ++ ds)
fine_joined [] ds h k = k
fine_joined (c ∷ cs) ds h k = (h.0, fine_joined cs ds h.1 k)

-- they are read one by one, and nothing is wrong
record IsReadFine (at : ℕ) (bytes : List ℕ) : Type 0 where
  string : List ℕ
  reads : IsReadInParts Value at bytes string []

no_flaw : (c : ℕ) → is_char c ≡ true → flaw_of c ≡ None
no_flaw c h = rw h refl

read_fine : (cs : List ℕ) (at : ℕ) → scalars cs ≡ true → AllByRecursion IsFine cs → IsReadFine at (encodes cs)
read_fine [] at u h = record { string = []; reads = finished at [] [] [] refl refl refl }
read_fine (c ∷ cs) at u h =
    let parts = and_parts (scalar c) (scalars cs) u in
    let rest = read_fine cs (at + length (encode c)) parts.1 h.1 in
    let part : IsPart Value (encodes cs) (encode c) (character_in Value c) None =
    character c (and_from (scalar c) true parts.0 refl) refl
    (record { no_return = h.0.no_return; no_ampersand = λ e. h.0.no_ampersand; no_brackets = λ e. absurd (cc) })
    refl (sym (no_flaw c h.0.allowed)) in
    record {
      string = character_in Value c ++ rest.string;
      reads = goes_on at (encode c ++ encodes cs) (character_in Value c ++ rest.string) [] (encode c) (encodes cs) (character_in Value c) rest.string
          None [] part rest.reads refl refl refl;
    }

fine_faultless : (cs : List ℕ) (at : ℕ) → scalars cs ≡ true → AllByRecursion IsFine cs → character_faults Value at (encodes cs) ≡ []
fine_faultless cs at u h =
    let r = read_fine cs at u h in
    sym ((strings_are_read Value at (encodes cs) r.string [] (cs, (u, refl))).0 (record { all = []; reads = r.reads; told = none [] [] [] refl refl })).1

pub start_faultless : (at : ℕ) (name : List ℕ) → IsName name → character_faults Value at (start_tag name) ≡ []
start_faultless at name is =
    let t = name_all (chars name) is.spelled in
    let all : AllPass is_name_char (chars name) = subst (λ xs. AllPass is_name_char xs) (sym t.4) (start_is_name t.0 t.2, t.3) in
    let ok = scalars-chars name is.utf8 in
    let spelled : encodes (60 ∷ (chars name ++ 62 ∷ [])) ≡ start_tag name =
    ap (λ xs. xs ++ encodes (chars name ++ 62 ∷ [])) (encode_ascii 60 (omega arith))
    ∙ ap (λ xs. 60 ∷ xs)
    (encodes-append (chars name) (62 ∷ []) ∙ ap (λ xs. xs ++ encodes (62 ∷ [])) (encodes-chars name is.utf8)
    ∙ ap (λ xs. name ++ (xs ++ [])) (encode_ascii 62 (omega arith))) in
    ap (character_faults Value at) (sym spelled)
    ∙ fine_faultless (60 ∷ (chars name ++ 62 ∷ [])) at (joined_ok (chars name) ok)
    (less_fine, fine_joined (chars name) (62 ∷ []) (names_fine (chars name) all) (greater_fine, tt))
  where
    joined_ok : (cs : List ℕ) → scalars cs ≡ true → scalars (cs ++ 62 ∷ []) ≡ true
    joined_ok [] u = refl
    joined_ok (c ∷ cs) u = let parts = and_parts (scalar c) (scalars cs) u in and_from (scalar c) (scalars (cs ++ 62 ∷ [])) parts.0 (joined_ok cs parts.1)

-- ---- a name in front of what else a tag says

-- such characters in front of others
fine_before : (cs rest string : List ℕ) (faults : List Fault) (at : ℕ) → scalars cs ≡ true → AllByRecursion IsFine cs →
    IsReadInParts Value (at + length (encodes cs)) rest string faults → (whole : List ℕ) × IsReadInParts Value at (encodes cs ++ rest) whole faults
fine_before [] rest string faults at u h r = (string, subst (λ n. IsReadInParts Value n rest string faults) (let e : at + 0 ≡ at = omega arith in e) r)
fine_before (c ∷ cs) rest string faults at u h r =
    let parts = and_parts (scalar c) (scalars cs) u in
    let on : at + length (encode c ++ encodes cs) ≡ at + length (encode c) + length (encodes cs) = (let k = length-append (encode c) (encodes cs) in omega arith) in
    let more = fine_before cs rest string faults (at + length (encode c)) parts.1 h.1 (subst (λ n. IsReadInParts Value n rest string faults) on r) in
    let part : IsPart Value (encodes cs ++ rest) (encode c) (character_in Value c) None =
    character c (and_from (scalar c) true parts.0 refl) refl
    (record { no_return = h.0.no_return; no_ampersand = λ e. h.0.no_ampersand; no_brackets = λ e. absurd (cc) })
    refl (sym (no_flaw c h.0.allowed)) in (
      character_in Value c ++ more.0,
      goes_on at ((encode c ++ encodes cs) ++ rest) (character_in Value c ++ more.0) faults (encode c) (encodes cs ++ rest) (character_in Value c) more.0 None faults
          part more.1 (append_assoc (encode c) (encodes cs) rest) refl refl,
    )

pub faults_behind_name : (at : ℕ) (name tail : List ℕ) → IsName name → IsUtf8 tail →
    character_faults Value at (60 ∷ (name ++ tail)) ≡ character_faults Value (at + (1 + length name)) tail
faults_behind_name at name tail is utf8 =
    let t = name_all (chars name) is.spelled in
    let all : AllPass is_name_char (chars name) = subst (λ xs. AllPass is_name_char xs) (sym t.4) (start_is_name t.0 t.2, t.3) in
    let ok = scalars-chars name is.utf8 in
    let spelled : encodes (60 ∷ chars name) ≡ 60 ∷ name =
    ap (λ xs. xs ++ encodes (chars name)) (encode_ascii 60 (omega arith)) ∙ ap (λ xs. 60 ∷ xs) (encodes-chars name is.utf8) in
    let tag_utf8 : IsUtf8 (60 ∷ name) = (60 ∷ chars name, (ok, spelled)) in
    let behind = at + (1 + length name) in
    let read = (strings_are_read Value behind tail (string_of Value tail) (character_faults Value behind tail) utf8).1 (refl, refl) in
    let size : behind ≡ at + length (encodes (60 ∷ chars name)) =
    (let len : length (encodes (60 ∷ chars name)) ≡ suc (length name) = ap length spelled in omega (arith, len)) in
    let whole = fine_before (60 ∷ chars name) tail (string_of Value tail) read.all at ok (less_fine, names_fine (chars name) all)
    (subst (λ n. IsReadInParts Value n tail (string_of Value tail) read.all) size read.reads) in
    let there : IsReadInParts Value at ((60 ∷ name) ++ tail) whole.0 read.all = subst (λ xs. IsReadInParts Value at (xs ++ tail) whole.0 read.all) spelled whole.1 in
    sym ((strings_are_read Value at ((60 ∷ name) ++ tail) whole.0 (character_faults Value behind tail) (IsUtf8-append (60 ∷ name) tail tag_utf8 utf8)).0
    (record { all = read.all; reads = there; told = read.told })).1
