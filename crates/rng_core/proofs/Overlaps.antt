-- Two classes share a name exactly where they share one of those that are tried.
use Rattle.std.specs.Prelude.{◌≡◌, ℕ, zero, suc, ◌<◌, max, Bool, true, false, not, ◌&&◌, ◌||◌, List, length, replicate, ◌==◌}
use Rattle.std.proofs.Common.{refl, sym, ap, ◌∙◌, subst, arith, inl, inr}
use Rattle.std.proofs.lemmas.Bool.{false≢true, cases_Bool, and_parts, and_from, or_left, or_right, or_cases, or_parts, false_from_ne_true, not_from_false, and_left, and_right, or_from}
use Rattle.std.proofs.lemmas.Slice.Eq.{bytes_eq-Decides}
use Rattle.std.proofs.lemmas.Str.{is_utf8-from_IsUtf8, IsUtf8-from_ascii, chars-IsAscii}
use Rattle.std.proofs.lemmas.Str.Ascii.{IsAscii-nil, IsAscii-cons}
use Rattle.std.proofs.lemmas.List.{length-replicate}
use Rattle.std.specs.List.{list_all}
use Rattle.std.specs.Str.{chars, bytes_eq, is_utf8, IsAscii}
use Rattle.nx_base.specs.Characters.{is_char, is_name_start, is_name_char, is_of_chars, is_nc_name}
use Rattle.nx_base.specs.declared.name.Name.{Name}
use Rattle.nx_base.specs.Names.{xmlns_namespace, is_namespace, is_local, is_xml_name, same_name}
use Rattle.rng_core.specs.Names.{Class, any_name, ns_name, the_name, either, without, covers, has_name, Overlap}
use Rattle.rng_core.specs.Unmentioned.{covers_others_in, covers_others, share_others_in, meets_at, overlaps}

-- whether a class mentions a name, and whether it mentions a namespace
abbrev mentions : Class → Name → Bool
mentions any_name n = false
mentions (ns_name of) n = false
mentions (the_name m) n = same_name n m
mentions (either c d) n = mentions c n || mentions d n
mentions (without c d) n = mentions c n || mentions d n

abbrev mentions_ns : Class → List ℕ → Bool
mentions_ns any_name ns = false
mentions_ns (ns_name of) ns = bytes_eq ns of
mentions_ns (the_name m) ns = bytes_eq ns m.ns
mentions_ns (either c d) ns = mentions_ns c ns || mentions_ns d ns
mentions_ns (without c d) ns = mentions_ns c ns || mentions_ns d ns

pub both_or : (a b c d : Bool) → a ≡ c → b ≡ d → (a || b) ≡ (c || d)
both_or a b c d p q = rw (p, q) refl

both_but : (a b c d : Bool) → a ≡ c → b ≡ d → (a && not b) ≡ (c && not d)
both_but a b c d p q = rw (p, q) refl

-- a name that isn't mentioned is covered as the other names of its namespace are
covers-unmentioned : (c : Class) (n : Name) → mentions c n ≡ false → covers c n ≡ covers_others_in c n.ns
covers-unmentioned any_name n other = refl
covers-unmentioned (ns_name of) n other = refl
covers-unmentioned (the_name m) n other = other
covers-unmentioned (either c d) n other =
    let parts = or_parts (mentions c n) (mentions d n) other in
    both_or _ _ _ _ (covers-unmentioned c n parts.0) (covers-unmentioned d n parts.1)
covers-unmentioned (without c d) n other =
    let parts = or_parts (mentions c n) (mentions d n) other in
    both_but _ _ _ _ (covers-unmentioned c n parts.0) (covers-unmentioned d n parts.1)

-- and one of a namespace that isn't mentioned as those of other namespaces are
covers-other_namespace : (c : Class) (n : Name) → mentions_ns c n.ns ≡ false → covers c n ≡ covers_others c
covers-other_namespace any_name n other = refl
covers-other_namespace (ns_name of) n other = other
covers-other_namespace (the_name m) n other = and_left _ _ other
covers-other_namespace (either c d) n other =
    let parts = or_parts (mentions_ns c n.ns) (mentions_ns d n.ns) other in
    both_or _ _ _ _ (covers-other_namespace c n parts.0) (covers-other_namespace d n parts.1)
covers-other_namespace (without c d) n other =
    let parts = or_parts (mentions_ns c n.ns) (mentions_ns d n.ns) other in
    both_but _ _ _ _ (covers-other_namespace c n parts.0) (covers-other_namespace d n parts.1)

pub same_bytes : (a b : List ℕ) → bytes_eq a b ≡ true → a ≡ b
same_bytes a b same = (bytes_eq-Decides a b).0 same

pub same_fields : (n m : Name) → n.ns ≡ m.ns → n.local ≡ m.local → n ≡ m
same_fields n m ns local = λ i. record { ns = ns i; local = local i }

-- a mentioned name that is in both is found
found_by_name : (x c d : Class) (n : Name) → mentions x n ≡ true → has_name c n ≡ true → has_name d n ≡ true → meets_at x c d ≡ true
found_by_name any_name c d n mentioned in_c in_d = absurd (false≢true mentioned)
found_by_name (ns_name of) c d n mentioned in_c in_d = absurd (false≢true mentioned)
found_by_name (the_name m) c d n mentioned in_c in_d =
    let parts = and_parts (bytes_eq n.ns m.ns) (bytes_eq n.local m.local) mentioned in
    let ns : n.ns ≡ m.ns = same_bytes n.ns m.ns parts.0 in
    let local : n.local ≡ m.local = same_bytes n.local m.local parts.1 in
    let same : n ≡ m = same_fields n m ns local in
    let P : Name → Type 0 = λ k. (has_name c k && has_name d k) ≡ true in
    or_left _ (share_others_in c d m.ns) (subst P same (and_from _ _ in_c in_d))
found_by_name (either x y) c d n mentioned in_c in_d = elim (or_cases (mentions x n) (mentions y n) mentioned) [
  | inl first ↦ or_left _ _ (found_by_name x c d n first in_c in_d)
  | inr second ↦ or_right (meets_at x c d) _ (found_by_name y c d n second in_c in_d)
]
found_by_name (without x y) c d n mentioned in_c in_d = elim (or_cases (mentions x n) (mentions y n) mentioned) [
  | inl first ↦ or_left _ _ (found_by_name x c d n first in_c in_d)
  | inr second ↦ or_right (meets_at x c d) _ (found_by_name y c d n second in_c in_d)
]

-- and so are other names of a mentioned namespace
found_by_namespace : (x c d : Class) (ns : List ℕ) → mentions_ns x ns ≡ true → share_others_in c d ns ≡ true → meets_at x c d ≡ true
found_by_namespace any_name c d ns mentioned share = absurd (false≢true mentioned)
found_by_namespace (ns_name of) c d ns mentioned share =
    let P : List ℕ → Type 0 = λ k. share_others_in c d k ≡ true in
    subst P (same_bytes ns of mentioned) share
found_by_namespace (the_name m) c d ns mentioned share =
    let P : List ℕ → Type 0 = λ k. share_others_in c d k ≡ true in
    or_right (has_name c m && has_name d m) _ (subst P (same_bytes ns m.ns mentioned) share)
found_by_namespace (either x y) c d ns mentioned share = elim (or_cases (mentions_ns x ns) (mentions_ns y ns) mentioned) [
  | inl first ↦ or_left _ _ (found_by_namespace x c d ns first share)
  | inr second ↦ or_right (meets_at x c d) _ (found_by_namespace y c d ns second share)
]
found_by_namespace (without x y) c d ns mentioned share = elim (or_cases (mentions_ns x ns) (mentions_ns y ns) mentioned) [
  | inl first ↦ or_left _ _ (found_by_namespace x c d ns first share)
  | inr second ↦ or_right (meets_at x c d) _ (found_by_namespace y c d ns second share)
]

by_others : (c d : Class) (n : Name) → has_name c n ≡ true → has_name d n ≡ true → mentions_ns c n.ns ≡ false → mentions_ns d n.ns ≡ false → overlaps c d ≡ true
by_others c d n in_c in_d other_c other_d =
    let first = (and_parts (is_xml_name n) (covers c n) in_c).1 in
    let second = (and_parts (is_xml_name n) (covers d n) in_d).1 in
    or_left _ _ (and_from _ _ (sym (covers-other_namespace c n other_c) ∙ first) (sym (covers-other_namespace d n other_d) ∙ second))

shared : (c d : Class) (n : Name) → has_name c n ≡ true → has_name d n ≡ true → mentions c n ≡ false → mentions d n ≡ false → share_others_in c d n.ns ≡ true
shared c d n in_c in_d other_c other_d =
    let first = and_parts (is_xml_name n) (covers c n) in_c in
    let second = and_parts (is_xml_name n) (covers d n) in_d in
    let ns = (and_parts (is_namespace n.ns) (is_local n.local) first.0).0 in
    and_from _ _ ns (and_from _ _ (sym (covers-unmentioned c n other_c) ∙ first.1) (sym (covers-unmentioned d n other_d) ∙ second.1))

by_namespace : (c d : Class) (n : Name) → has_name c n ≡ true → has_name d n ≡ true → mentions c n ≡ false → mentions d n ≡ false → overlaps c d ≡ true
by_namespace c d n in_c in_d other_c other_d =
    let share = shared c d n in_c in_d other_c other_d in
    let others : Bool = covers_others c && covers_others d in
    elim (cases_Bool (mentions_ns c n.ns)) [
      | inl first ↦ or_right others _ (or_left _ _ (found_by_namespace c c d n.ns first share))
      | inr none ↦ elim (cases_Bool (mentions_ns d n.ns)) [
        | inl second ↦ or_right others _ (or_right (meets_at c c d) _ (found_by_namespace d c d n.ns second share))
        | inr neither ↦ by_others c d n in_c in_d none neither
      ]
    ]

-- a name in both is found
pub overlap_is_found : (c d : Class) → Overlap c d → overlaps c d ≡ true
overlap_is_found c d o =
    let others : Bool = covers_others c && covers_others d in
    elim (cases_Bool (mentions c o.name)) [
      | inl first ↦ or_right others _ (or_left _ _ (found_by_name c c d o.name first o.first o.second))
      | inr none ↦ elim (cases_Bool (mentions d o.name)) [
        | inl second ↦ or_right others _ (or_right (meets_at c c d) _ (found_by_name d c d o.name second o.first o.second))
        | inr neither ↦ by_namespace c d o.name o.first o.second none neither
      ]
    ]

-- so many letters `a`, which no class with shorter names and namespaces mentions
abbrev letters : ℕ → List ℕ
letters n = replicate n 97

letters_are_ascii : (n : ℕ) → IsAscii (letters n)
letters_are_ascii zero = IsAscii-nil
letters_are_ascii (suc n) = IsAscii-cons 97 (letters n) (omega arith) (letters_are_ascii n)

chars-letters : (n : ℕ) → chars (letters n) ≡ letters n
chars-letters n = chars-IsAscii (letters n) (letters_are_ascii n)

letters_are_utf8 : (n : ℕ) → is_utf8 (letters n) ≡ true
letters_are_utf8 n = is_utf8-from_IsUtf8 (letters n) (IsUtf8-from_ascii (letters n) (letters_are_ascii n))

letters_are_chars : (n : ℕ) → list_all is_char (letters n) ≡ true
unfolding is_char
letters_are_chars zero = refl
letters_are_chars (suc n) = letters_are_chars n

letters_are_name_chars : (n : ℕ) → list_all is_name_char (letters n) ≡ true
unfolding is_name_char is_name_start
letters_are_name_chars zero = refl
letters_are_name_chars (suc n) = letters_are_name_chars n

letters_are_no_colons : (n : ℕ) → list_all (λ c. not (c == 58)) (letters n) ≡ true
letters_are_no_colons zero = refl
letters_are_no_colons (suc n) = letters_are_no_colons n

a_begins_names : is_name_start 97 ≡ true
unfolding is_name_start
a_begins_names = refl

not_xmlns : (n : ℕ) → bytes_eq (letters n) xmlns_namespace ≡ false
not_xmlns zero = refl
not_xmlns (suc n) = refl

letters_are_namespace : (n : ℕ) → is_namespace (letters n) ≡ true
letters_are_namespace n =
    let of_chars : is_of_chars (letters n) ≡ true = and_from _ _ (letters_are_utf8 n) (ap (list_all is_char) (chars-letters n) ∙ letters_are_chars n) in
    and_from _ _ of_chars (not_from_false _ (not_xmlns n))

letters_are_local : (n : ℕ) → is_local (letters (suc n)) ≡ true
letters_are_local n =
    let name : is_nc_name (letters (suc n)) ≡ true =
    and_from _ _ (and_from _ _ a_begins_names (letters_are_name_chars n)) (letters_are_no_colons (suc n)) in
    and_from _ _ (letters_are_utf8 (suc n)) (ap is_nc_name (chars-letters (suc n)) ∙ name)

abbrev longest_ns : Class → ℕ
longest_ns any_name = 0
longest_ns (ns_name of) = length of
longest_ns (the_name m) = length m.ns
longest_ns (either c d) = max (longest_ns c) (longest_ns d)
longest_ns (without c d) = max (longest_ns c) (longest_ns d)

abbrev longest_local : Class → ℕ
longest_local any_name = 0
longest_local (ns_name of) = 0
longest_local (the_name m) = length m.local
longest_local (either c d) = max (longest_local c) (longest_local d)
longest_local (without c d) = max (longest_local c) (longest_local d)

longer_differs : (a b : List ℕ) → length b < length a → bytes_eq a b ≡ false
longer_differs a b longer = false_from_ne_true _ (λ same. absurd (omega (arith, ap length (same_bytes a b same), longer)))

unmentioned_ns : (c : Class) (ns : List ℕ) → longest_ns c < length ns → mentions_ns c ns ≡ false
unmentioned_ns any_name ns longer = refl
unmentioned_ns (ns_name of) ns longer = longer_differs ns of longer
unmentioned_ns (the_name m) ns longer = longer_differs ns m.ns longer
unmentioned_ns (either c d) ns longer = or_from _ _ (unmentioned_ns c ns (omega arith)) (unmentioned_ns d ns (omega arith))
unmentioned_ns (without c d) ns longer = or_from _ _ (unmentioned_ns c ns (omega arith)) (unmentioned_ns d ns (omega arith))

unmentioned : (c : Class) (n : Name) → longest_local c < length n.local → mentions c n ≡ false
unmentioned any_name n longer = refl
unmentioned (ns_name of) n longer = refl
unmentioned (the_name m) n longer = and_right _ _ (longer_differs n.local m.local longer)
unmentioned (either c d) n longer = or_from _ _ (unmentioned c n (omega arith)) (unmentioned d n (omega arith))
unmentioned (without c d) n longer = or_from _ _ (unmentioned c n (omega arith)) (unmentioned d n (omega arith))

-- classes that share other names share one
others_overlap : (c d : Class) → (covers_others c && covers_others d) ≡ true → Overlap c d
others_overlap c d both =
    let parts = and_parts (covers_others c) (covers_others d) both in
    let size : ℕ = suc (max (longest_ns c) (longest_ns d)) in
    let name : Name = record { ns = letters size; local = letters 1 } in
    let long : length (letters size) ≡ size = length-replicate size 97 in
    let is_name : is_xml_name name ≡ true = and_from _ _ (letters_are_namespace size) (letters_are_local 0) in
    record {
      name = name;
      first = and_from _ _ is_name (covers-other_namespace c name (unmentioned_ns c (letters size) (omega arith)) ∙ parts.0);
      second = and_from _ _ is_name (covers-other_namespace d name (unmentioned_ns d (letters size) (omega arith)) ∙ parts.1);
    }

shared_overlap : (c d : Class) (ns : List ℕ) → share_others_in c d ns ≡ true → Overlap c d
shared_overlap c d ns share =
    let parts = and_parts (is_namespace ns) (covers_others_in c ns && covers_others_in d ns) share in
    let both = and_parts (covers_others_in c ns) (covers_others_in d ns) parts.1 in
    let size : ℕ = max (longest_local c) (longest_local d) in
    let name : Name = record { ns = ns; local = letters (suc size) } in
    let long : length (letters (suc size)) ≡ suc size = length-replicate (suc size) 97 in
    let is_name : is_xml_name name ≡ true = and_from _ _ parts.0 (letters_are_local size) in
    record {
      name = name;
      first = and_from _ _ is_name (covers-unmentioned c name (unmentioned c name (omega arith)) ∙ both.0);
      second = and_from _ _ is_name (covers-unmentioned d name (unmentioned d name (omega arith)) ∙ both.1);
    }

met_overlap : (x c d : Class) → meets_at x c d ≡ true → Overlap c d
met_overlap any_name c d met = absurd (false≢true met)
met_overlap (ns_name ns) c d met = shared_overlap c d ns met
met_overlap (the_name m) c d met = elim (or_cases (has_name c m && has_name d m) (share_others_in c d m.ns) met) [
  | inl both ↦ let parts = and_parts (has_name c m) (has_name d m) both in record { name = m; first = parts.0; second = parts.1 }
  | inr share ↦ shared_overlap c d m.ns share
]
met_overlap (either x y) c d met = elim (or_cases (meets_at x c d) (meets_at y c d) met) [
  | inl first ↦ met_overlap x c d first
  | inr second ↦ met_overlap y c d second
]
met_overlap (without x y) c d met = elim (or_cases (meets_at x c d) (meets_at y c d) met) [
  | inl first ↦ met_overlap x c d first
  | inr second ↦ met_overlap y c d second
]

-- what is found is an overlap
pub overlap_is_there : (c d : Class) → overlaps c d ≡ true → Overlap c d
overlap_is_there c d found = elim (or_cases (covers_others c && covers_others d) (meets_at c c d || meets_at d c d) found) [
  | inl others ↦ others_overlap c d others
  | inr met ↦ elim (or_cases (meets_at c c d) (meets_at d c d) met) [
    | inl first ↦ met_overlap c c d first
    | inr second ↦ met_overlap d c d second
  ]
]
