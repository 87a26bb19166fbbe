-- Qualified names, by their grammar and as they are judged.
use Rattle.std.proofs.Common.{◌≡◌, ℕ, suc, ◌+◌, ◌<◌, ◌≤◌, IsUtf8, Bool, true, false, cond, inl, inr, List, [], ◌∷◌, ◌++◌, length, take, drop, get_or, refl, ap, subst, sym, ◌∙◌, arith}
use Rattle.std.specs.Prelude.{◌&&◌, ◌||◌, not, nat_lt}
use Rattle.std.specs.List.{list_all, position_or_len, before_first, after_first}
use Rattle.std.specs.Str.{chars}
use lib.Utf8.{encode, encodes}
use Rattle.std.proofs.lemmas.Bool.{cases_Bool, cases_lt, and_parts, and_from, eqb-true, lt-ltb, ltb-true, not_from_false}
use Rattle.std.proofs.lemmas.List.{take_at, length-append}
use Rattle.std.proofs.lemmas.List.Sums.{passes_at_first, split_at_first}
use Rattle.std.proofs.lemmas.Str.{encode_ascii, encodes-chars}
use Rattle.std.proofs.Math.Seq.{drop-append-add}
use Rattle.nx_base.specs.Characters.{is_name_start, is_name_char}
use Rattle.nx_base.specs.Form.{Spells}
use Rattle.nx_base.specs.Tags.{name_form}
use Rattle.nx_events.specs.Names.{is_colon, begins_unprefixed, goes_on_unprefixed, is_unprefixed, is_ncname, has_colon, prefix_of, local_of, is_qname}
use Rattle.nx_events.specs.QualifiedNames.{IsNcName, IsQName, unprefixed, prefixed, QNamesAreSpelled}
use Rattle.nx_events.proofs.FormWords.{AllPass}
use Rattle.nx_events.proofs.ReferenceForms.{name_all, name_spells}
use Rattle.nx_events.proofs.Spelling.{first_at}
use Rattle.nx_events.proofs.TagForms.{NonePass, bytes_none}
use Rattle.nx_events.proofs.Texts.{before_text, after_text}

colon_small : (b : ℕ) → is_colon b ≡ true → b < 128
colon_small b h = let e = eqb-true b 58 h in omega arith

-- where no byte passes a test of ASCII, no character does
none_front : (p : ℕ → Bool) (xs ys : List ℕ) → NonePass p (xs ++ ys) → NonePass p xs × NonePass p ys
none_front p [] ys h = (tt, h)
none_front p (x ∷ xs) ys h = let t = none_front p xs ys h.1 in ((h.0, t.0), t.1)

chars_none : (p : ℕ → Bool) (cs : List ℕ) → ((b : ℕ) → p b ≡ true → b < 128) → NonePass p (encodes cs) → NonePass p cs
chars_none p [] small h = tt
chars_none p (c ∷ cs) small h =
    let t = none_front p (encode c) (encodes cs) h in (
      elim (cases_lt c 128) [
        | inl low ↦ (subst (λ xs. NonePass p xs) (encode_ascii c low) t.0).0
        | inr high ↦ by_test high (p c) refl
      ],
      chars_none p cs small t.1,
    )
  where
    by_test : 128 ≤ c → (t : Bool) → p c ≡ t → t ≡ false
    by_test high true e = absurd (let low = small c e in omega arith)
    by_test high false e = refl

-- names without a colon
not_true : (t : Bool) → not t ≡ true → t ≡ false
not_true true h = sym h
not_true false h = refl

goes_on : (cs : List ℕ) → list_all goes_on_unprefixed cs ≡ true → AllPass is_name_char cs × NonePass is_colon cs
unfolding goes_on_unprefixed
goes_on [] h = (tt, tt)
goes_on (c ∷ cs) h =
    let t = and_parts (is_name_char c && not (is_colon c)) (list_all goes_on_unprefixed cs) h in
    let u = and_parts (is_name_char c) (not (is_colon c)) t.0 in
    let rest = goes_on cs t.1 in
    ((u.0, rest.0), (not_true (is_colon c) u.1, rest.1))

all_go_on : (cs : List ℕ) → AllPass is_name_char cs → NonePass is_colon cs → list_all goes_on_unprefixed cs ≡ true
unfolding goes_on_unprefixed
all_go_on [] h k = refl
all_go_on (c ∷ cs) h k =
    and_from (is_name_char c && not (is_colon c)) (list_all goes_on_unprefixed cs) (and_from (is_name_char c) (not (is_colon c)) h.0 (not_from_false (is_colon c) k.0)) (all_go_on cs h.1 k.1)

ncname_is : (name : List ℕ) → IsUtf8 name → is_ncname name ≡ true → IsNcName name
unfolding is_ncname begins_unprefixed
ncname_is name u h = on (chars name) refl h
  where
    on : (cs : List ℕ) → chars name ≡ cs → is_unprefixed cs ≡ true → IsNcName name
    on [] e k = absurd (let bad : false ≡ true = k in cc)
    on (c ∷ cs) e k =
        let t = and_parts (is_name_start c && not (is_colon c)) (list_all goes_on_unprefixed cs) k in
        let first = and_parts (is_name_start c) (not (is_colon c)) t.0 in
        let rest = goes_on cs t.1 in
        let whole : encodes (c ∷ cs) ≡ name = ap encodes (sym e) ∙ encodes-chars name u in
        record {
          is_name = record { utf8 = u; spelled = subst (λ xs. Spells name_form xs) (sym e) (name_spells c cs first.0 rest.0) };
          no_colon = subst (λ xs. NonePass is_colon xs) whole (bytes_none is_colon (c ∷ cs) colon_small (not_true (is_colon c) first.1, rest.1));
        }

is_ncname_of : (name : List ℕ) → IsNcName name → is_ncname name ≡ true
unfolding is_ncname begins_unprefixed
is_ncname_of name h =
    let t = name_all (chars name) h.is_name.spelled in
    let whole : encodes (t.0 ∷ t.1) ≡ name = ap encodes (sym t.4) ∙ encodes-chars name h.is_name.utf8 in
    let none = chars_none is_colon (t.0 ∷ t.1) colon_small (subst (λ xs. NonePass is_colon xs) (sym whole) h.no_colon) in
    ap is_unprefixed t.4
    ∙ and_from (is_name_start t.0 && not (is_colon t.0)) (list_all goes_on_unprefixed t.1) (and_from (is_name_start t.0) (not (is_colon t.0)) t.2 (not_from_false (is_colon t.0) none.0)) (all_go_on t.1 t.3 none.1)

-- where the first colon stands
none_at : (p : ℕ → Bool) (xs : List ℕ) → NonePass p xs → position_or_len p xs ≡ length xs
none_at p [] h = refl
none_at p (x ∷ xs) h =
    let next : 1 + length xs ≡ suc (length xs) = omega arith in
    ap (λ (t : Bool). cond (not t) (1 + position_or_len p xs) 0) h.0 ∙ ap (λ n. 1 + n) (none_at p xs h.1) ∙ next

no_colon_in : (name : List ℕ) → NonePass is_colon name → has_colon name ≡ false
no_colon_in name h = ap (λ n. nat_lt n (length name)) (none_at is_colon name h) ∙ not_below (length name)
  where
    not_below : (n : ℕ) → nat_lt n n ≡ false
    not_below n = elim (cases_Bool (nat_lt n n)) [ inl e ↦ absurd (let k = ltb-true n n e in omega arith) | inr e ↦ e ]

colon_in : (prefix local : List ℕ) → NonePass is_colon prefix →
    (position_or_len is_colon (prefix ++ 58 ∷ local) ≡ length prefix) × (has_colon (prefix ++ 58 ∷ local) ≡ true)
colon_in prefix local h =
    let place = first_at is_colon prefix local 58 h refl in
    let size = length-append prefix (58 ∷ local) in
    (place, ap (λ n. nat_lt n (length (prefix ++ 58 ∷ local))) place ∙ lt-ltb (length prefix) (length (prefix ++ 58 ∷ local)) (omega arith))

abbrev Judged : List ℕ → List ℕ → List ℕ → Type 0
Judged name prefix local = (is_qname name ≡ true) × (prefix ≡ prefix_of name) × (local ≡ local_of name)

qname_judged : (name prefix local : List ℕ) → IsQName name prefix local → Judged name prefix local
unfolding is_qname prefix_of local_of
qname_judged name prefix local (unprefixed h e f) =
    let none = no_colon_in name h.no_colon in
    let whole : local_of name ≡ name = ap (λ (t : Bool). cond t (after_first is_colon name) name) none in (
      and_from (not (has_colon name) || is_ncname (prefix_of name)) (is_ncname (local_of name)) (ap (λ (t : Bool). not t || is_ncname (prefix_of name)) none) (ap is_ncname whole ∙ is_ncname_of name h),
      e ∙ sym (ap (λ (t : Bool). cond t (before_first is_colon name) []) none),
      f ∙ sym whole,
    )
qname_judged name prefix local (prefixed h k e) =
    let t = colon_in prefix local h.no_colon in
    let front : prefix_of (prefix ++ 58 ∷ local) ≡ prefix =
    ap (λ (b : Bool). cond b (before_first is_colon (prefix ++ 58 ∷ local)) []) t.1 ∙ ap (λ n. take n (prefix ++ 58 ∷ local)) t.0 ∙ take_at prefix (58 ∷ local) (length prefix) refl in
    let back : local_of (prefix ++ 58 ∷ local) ≡ local =
    ap (λ (b : Bool). cond b (after_first is_colon (prefix ++ 58 ∷ local)) (prefix ++ 58 ∷ local)) t.1 ∙ ap (λ n. drop (n + 1) (prefix ++ 58 ∷ local)) t.0 ∙ drop-append-add prefix (58 ∷ local) 1 in
    subst (λ xs. Judged xs prefix local) (sym e) (
      and_from (not (has_colon (prefix ++ 58 ∷ local)) || is_ncname (prefix_of (prefix ++ 58 ∷ local))) (is_ncname (local_of (prefix ++ 58 ∷ local)))
          (ap (λ (b : Bool). not b || is_ncname (prefix_of (prefix ++ 58 ∷ local))) t.1 ∙ ap is_ncname front ∙ is_ncname_of prefix h) (ap is_ncname back ∙ is_ncname_of local k),
      sym front,
      sym back,
    )

qname_found : (name : List ℕ) → IsUtf8 name → is_qname name ≡ true → IsQName name (prefix_of name) (local_of name)
unfolding is_qname prefix_of local_of
qname_found name u h =
    let parts = and_parts (not (has_colon name) || is_ncname (prefix_of name)) (is_ncname (local_of name)) h in
    elim (cases_Bool (has_colon name)) [
      | inl e ↦ (let front : prefix_of name ≡ before_first is_colon name = ap (λ (t : Bool). cond t (before_first is_colon name) []) e in
          let back : local_of name ≡ after_first is_colon name = ap (λ (t : Bool). cond t (after_first is_colon name) name) e in
          let inside = ltb-true (position_or_len is_colon name) (length name) e in
          let split = split_at_first is_colon name 0 inside in
          let colon : get_or name (position_or_len is_colon name) 0 ≡ 58 = eqb-true (get_or name (position_or_len is_colon name) 0) 58 (passes_at_first is_colon name 0 inside) in
          let first : is_ncname (prefix_of name) ≡ true = sym (ap (λ (t : Bool). not t || is_ncname (prefix_of name)) e) ∙ parts.0 in
          prefixed
          (subst (λ xs. IsNcName xs) (sym front) (ncname_is (before_first is_colon name) (before_text is_colon name colon_small u) (ap is_ncname (sym front) ∙ first)))
          (subst (λ xs. IsNcName xs) (sym back) (ncname_is (after_first is_colon name) (after_text is_colon name colon_small u) (ap is_ncname (sym back) ∙ parts.1)))
          (split ∙ ap (λ c. before_first is_colon name ++ c ∷ after_first is_colon name) colon ∙ ap (λ xs. xs ++ 58 ∷ after_first is_colon name) (sym front) ∙ ap (λ xs. prefix_of name ++ 58 ∷ xs) (sym back)))
      | inr e ↦ (let whole : local_of name ≡ name = ap (λ (t : Bool). cond t (after_first is_colon name) name) e in
          unprefixed (ncname_is name u (ap is_ncname (sym whole) ∙ parts.1)) (ap (λ (t : Bool). cond t (before_first is_colon name) []) e) whole)
    ]

pub qnames_are_spelled : QNamesAreSpelled
qnames_are_spelled name prefix local u = (
  λ h. qname_judged name prefix local h,
  λ t. subst (λ xs. IsQName name xs local) (sym t.1) (subst (λ xs. IsQName name (prefix_of name) xs) (sym t.2) (qname_found name u t.0)),
)
