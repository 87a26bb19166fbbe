-- Comments and processing instructions, by their grammar and as they are judged.
use Rattle.std.proofs.Common.{◌≡◌, ℕ, ◌-◌, ◌<◌, IsUtf8, Bool, true, false, inl, inr, ◌⊎◌, List, [], ◌∷◌, ◌++◌, length, take, drop, refl, ap, sym, ◌∙◌, arith, codes}
use Rattle.std.specs.Prelude.{◌&&◌, ◌||◌, ◌==◌, not, nat_eq, slice_index, slice_index_or}
use Rattle.std.specs.List.{AllByRecursion, starts_with, list_any}
use Rattle.std.specs.Str.{chars, str_eq_ignore_ascii_case}
use Rattle.std.proofs.lemmas.Bool.{and_parts, and_from, or_cases, or_left, or_right, eqb-true, ne_eqb, or_parts, or_from, eqb-false}
use Rattle.std.proofs.lemmas.Bool.Decides.{Decides-eqb}
use Rattle.std.proofs.lemmas.Slice.Eq.{starts_is}
use Rattle.std.proofs.lemmas.List.{take_at, drop_at, length-append}
use Rattle.nx_base.specs.Characters.{is_space, is_name_start, is_name_char}
use Rattle.nx_events.specs.Utf8.{front_char}
use Rattle.nx_events.specs.References.{name_chars_len, name_len}
use Rattle.nx_events.specs.Markup.{has_loose_hyphen, is_bad_comment, ends_target, is_target_of_length, is_bad_pi}
use Rattle.nx_events.specs.StringsRead.{Begins}
use Rattle.nx_events.specs.MarkupForm.{HasTwoHyphens, EndsWithHyphen, CommentsAreJudged, IsTarget, InstructionsAreJudged}
use Rattle.nx_events.proofs.References.{name_stops}
use Rattle.nx_events.proofs.ReferenceForms.{name_all, name_measured, name_found}
use Rattle.nx_events.proofs.Spelling.{space_between}
use Rattle.nx_events.proofs.TagForms.{no_name_char}
use Rattle.nx_events.proofs.Texts.{space_small}
use Rattle.nx_events.proofs.FrontChars.{front_is}
use Rattle.std.proofs.lemmas.Str.{encode_ascii, chars-nil}
use lib.Utf8.{low_scalar}
use Rattle.nx_base.specs.Form.{Spells}
use Rattle.nx_base.specs.Tags.{name_form}

-- a hyphen that is the last or has another behind it
hyphen_found : (content : List ℕ) → has_loose_hyphen content ≡ true → HasTwoHyphens content ⊎ EndsWithHyphen content
unfolding has_loose_hyphen
hyphen_found [] h = absurd (let bad : false ≡ true = h in cc)
hyphen_found (b ∷ content) h =
    elim (or_cases ((b == 45) && (slice_index_or content 0 45 == 45)) (has_loose_hyphen content) h) [
      | inl e ↦ (let parts = and_parts (b == 45) (slice_index_or content 0 45 == 45) e in by_next content (eqb-true b 45 parts.0) parts.1)
      | inr e ↦ further (hyphen_found content e)
    ]
  where
    by_next : (content : List ℕ) → b ≡ 45 → (slice_index_or content 0 45 == 45) ≡ true → HasTwoHyphens (b ∷ content) ⊎ EndsWithHyphen (b ∷ content)
    by_next [] e k = inr ([], ap (λ x. x ∷ []) e)
    by_next (c ∷ content) e k = inl ([], content, ap (λ x. x ∷ c ∷ content) e ∙ ap (λ x. 45 ∷ x ∷ content) (eqb-true c 45 k))

    further : HasTwoHyphens content ⊎ EndsWithHyphen content → HasTwoHyphens (b ∷ content) ⊎ EndsWithHyphen (b ∷ content)
    further (inl t) = inl (b ∷ t.0, t.1, ap (λ xs. b ∷ xs) t.2)
    further (inr t) = inr (b ∷ t.0, ap (λ xs. b ∷ xs) t.1)

two_are_loose : (front back : List ℕ) → has_loose_hyphen (front ++ (45 ∷ 45 ∷ back)) ≡ true
unfolding has_loose_hyphen
two_are_loose [] back = refl
two_are_loose (b ∷ front) back = or_right _ (has_loose_hyphen (front ++ (45 ∷ 45 ∷ back))) (two_are_loose front back)

last_is_loose : (front : List ℕ) → has_loose_hyphen (front ++ 45 ∷ []) ≡ true
unfolding has_loose_hyphen
last_is_loose [] = refl
last_is_loose (b ∷ front) = or_right _ (has_loose_hyphen (front ++ 45 ∷ [])) (last_is_loose front)

content_is : (content : List ℕ) → is_bad_comment (codes "<!--" ++ (content ++ codes "-->")) ≡ has_loose_hyphen content
unfolding is_bad_comment
content_is content =
    let size : length (codes "<!--" ++ (content ++ codes "-->")) - 7 ≡ length content = (let k = length-append content (codes "-->") in omega arith) in
    ap (λ n. has_loose_hyphen (take n (content ++ codes "-->"))) size ∙ ap has_loose_hyphen (take_at content (codes "-->") (length content) refl)

pub comments_are_judged : CommentsAreJudged
comments_are_judged content = (
  λ h. hyphen_found content (sym (content_is content) ∙ h),
  λ h. content_is content ∙ elim h [ inl t ↦ ap has_loose_hyphen t.2 ∙ two_are_loose t.0 t.1 | inr t ↦ ap has_loose_hyphen t.1 ∙ last_is_loose t.0 ],
)

-- no name goes on with white space or with `?`
space_stops : (rest : List ℕ) → is_space (slice_index rest 0) ≡ true → name_chars_len 0 rest ≡ 0
unfolding is_space
space_stops [] h = name_stops [] (absurd (let bad : false ≡ true = sym no_space ∙ h in cc))
  where
    no_space : is_space 0 ≡ false
    no_space = refl
space_stops (b ∷ rest) h =
    let low = space_small b h in
    name_stops (b ∷ rest) (ap is_name_char (first_is b rest low) ∙ no_name_char b (ap (λ (t : Bool). t || (b == 61)) (space_between b h)))
  where
    first_is : (b : ℕ) (rest : List ℕ) → b < 128 → front_char (b ∷ rest) ≡ b
    first_is b rest low = ap (λ xs. front_char (xs ++ rest)) (sym (encode_ascii b low)) ∙ front_is b rest (low_scalar b (omega arith))

mark_stops : (rest : List ℕ) → Begins (codes "?>") rest → name_chars_len 0 rest ≡ 0
unfolding front_char is_name_char is_name_start
mark_stops rest h = ap (name_chars_len 0) h.1 ∙ name_stops (63 ∷ 62 ∷ h.0) refl

target_stops : (target rest : List ℕ) → IsTarget target rest → name_chars_len 0 rest ≡ 0
target_stops target rest t = elim t.ends [ inl e ↦ space_stops rest e | inr e ↦ mark_stops rest e ]

-- colons
no_colons : (xs : List ℕ) → list_any (λ b. b == 58) xs ≡ false → AllByRecursion (λ (b : ℕ). (b == 58) ≡ false) xs
no_colons [] h = tt
no_colons (x ∷ xs) h = let t = or_parts (x == 58) (list_any (λ b. b == 58) xs) h in (t.0, no_colons xs t.1)

none_colon : (xs : List ℕ) → AllByRecursion (λ (b : ℕ). (b == 58) ≡ false) xs → list_any (λ b. b == 58) xs ≡ false
none_colon [] h = refl
none_colon (x ∷ xs) h = or_from (x == 58) (list_any (λ b. b == 58) xs) h.0 (none_colon xs h.1)

not_not : (t : Bool) → not t ≡ false → t ≡ true
not_not true h = refl
not_not false h = sym h

not_true : (t : Bool) → not t ≡ true → t ≡ false
not_true true h = sym h
not_true false h = refl

marked : (rest : List ℕ) → starts_with nat_eq rest (codes "?>") ≡ true → Begins (codes "?>") rest
marked rest h = (drop 2 rest, (starts_is Decides-eqb rest (codes "?>") (starts_with nat_eq rest (codes "?>")) refl).0 h)

target_found : (content : List ℕ) → IsUtf8 content → is_target_of_length (name_len content) content ≡ true → (target rest : List ℕ) × (content ≡ target ++ rest) × IsTarget target rest
target_found content u h =
    let n = name_len content in
    let a = and_parts (not (n == 0) && not (list_any (λ b. b == 58) (take n content)) && not (str_eq_ignore_ascii_case (take n content) (codes "xml"))) (ends_target (drop n content)) h in
    let b = and_parts (not (n == 0) && not (list_any (λ b. b == 58) (take n content))) (not (str_eq_ignore_ascii_case (take n content) (codes "xml"))) a.0 in
    let c = and_parts (not (n == 0)) (not (list_any (λ b. b == 58) (take n content))) b.0 in
    let some : 0 < n = (let k = eqb-false n 0 (not_true (n == 0) c.0) in omega arith) in
    let r = name_found content u some in
    let front : take n content ≡ r.body = ap (take n) r.is ∙ take_at r.body r.rest n r.size in
    let back : drop n content ≡ r.rest = ap (drop n) r.is ∙ drop_at r.body r.rest n r.size in (
      r.body,
      r.rest,
      r.is,
      record {
        is_name = record { utf8 = r.utf8; spelled = r.spelled };
        no_colon = no_colons r.body (ap (list_any (λ b. b == 58)) (sym front) ∙ not_true (list_any (λ b. b == 58) (take n content)) c.1);
        no_xml = ap (λ xs. str_eq_ignore_ascii_case xs (codes "xml")) (sym front) ∙ not_true (str_eq_ignore_ascii_case (take n content) (codes "xml")) b.1;
        ends = elim (or_cases (is_space (slice_index r.rest 0)) (starts_with nat_eq r.rest (codes "?>")) (ap ends_target (sym back) ∙ a.1)) [ inl e ↦ inl e | inr e ↦ inr (marked r.rest e) ];
      },
    )

target_judged : (content target rest : List ℕ) → content ≡ target ++ rest → IsTarget target rest → is_target_of_length (name_len content) content ≡ true
target_judged content target rest e t =
    let size : name_len content ≡ length target = ap name_len e ∙ name_measured target rest t.is_name.utf8 t.is_name.spelled (target_stops target rest t) in
    let front : take (length target) content ≡ target = ap (take (length target)) e ∙ take_at target rest (length target) refl in
    let back : drop (length target) content ≡ rest = ap (drop (length target)) e ∙ drop_at target rest (length target) refl in
    let some : (length target == 0) ≡ false = ne_eqb (length target) 0 (named_some target t.is_name.spelled) in
    let ends : ends_target rest ≡ true = elim t.ends [
      | inl k ↦ or_left (is_space (slice_index rest 0)) (starts_with nat_eq rest (codes "?>")) k
      | inr k ↦ or_right (is_space (slice_index rest 0)) (starts_with nat_eq rest (codes "?>")) ((starts_is Decides-eqb rest (codes "?>") (starts_with nat_eq rest (codes "?>")) refl).1 k.0 k.1)
    ] in
    ap (λ n. is_target_of_length n content) size
    ∙ and_from _ _ (and_from _ _ (and_from _ _ (ap not some) (ap (λ xs. not (list_any (λ b. b == 58) xs)) front ∙ ap not (none_colon target t.no_colon)))
    (ap (λ xs. not (str_eq_ignore_ascii_case xs (codes "xml"))) front ∙ ap not t.no_xml)) (ap ends_target back ∙ ends)
  where
    named_some : (target : List ℕ) → Spells name_form (chars target) → length target ≡ 0 → ⊥
    named_some [] s k = let t = name_all (chars []) s in (let bad : [] ≡ t.0 ∷ t.1 = sym chars-nil ∙ t.4 in cc)
    named_some (b ∷ target) s k = omega arith

pub instructions_are_judged : InstructionsAreJudged
unfolding is_bad_pi
instructions_are_judged content u = (
  λ h. target_found content u (not_not (is_target_of_length (name_len content) content) h),
  λ t. ap not (target_judged content t.0 t.1 t.2 t.3),
)
