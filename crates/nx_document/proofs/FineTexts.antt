-- What stands in tags beside values: characters that XML allows, without a `&`.
use Rattle.std.proofs.Common.{◌≡◌, ◌≢◌, ℕ, ◌<◌, append_assoc, Bool, true, false, inl, inr, List, [], ◌∷◌, ◌++◌, length, refl, ap, sym, subst, ◌∙◌, arith}
use Rattle.std.specs.Prelude.{◌==◌, ◌&&◌, ◌||◌, nat_le}
use Rattle.std.specs.List.{AllByRecursion, list_all}
use Rattle.std.specs.Str.{chars}
use lib.Utf8.{encode, encodes}
use Rattle.std.proofs.lemmas.Bool.{or_cases, or_left, or_right, and_parts, eqb-true}
use Rattle.std.proofs.lemmas.Bool.Decides.{nat_tests}
use Rattle.std.proofs.lemmas.List.{length-append}
use Rattle.std.proofs.lemmas.Str.{encode_ascii, encode_same, encodes-append, encodes-chars}
use Rattle.nx_base.specs.Characters.{is_char, is_space, is_in, char_ranges, name_start_ranges, further_name_ranges, is_name_start, is_name_char, is_quote}
use Rattle.nx_events.specs.SpelledTags.{IsName}
use Rattle.nx_events.specs.Spelling.{AreBetween}
use Rattle.nx_events.specs.Tags.{is_between}
use Rattle.nx_events.proofs.FormWords.{AllPass}
use Rattle.nx_events.proofs.ReferenceForms.{name_all, start_is_name}
use Rattle.nx_events.proofs.StringParts.{encode_some}
use Rattle.nx_events.proofs.TextTags.{quote_small}
use Rattle.nx_events.proofs.Texts.{space_small}
use Rattle.nx_document.proofs.CleanTexts.{IsFine, IsClean, empty, one_char, one_reference}

-- bytes that are such characters alone
pub record AreFine (xs : List ℕ) : Type 0 where
  pub cs : List ℕ
  pub each : AllByRecursion IsFine cs
  pub is : encodes cs ≡ xs

pub fine_nothing : AreFine []
fine_nothing = record { cs = []; each = tt; is = refl }

each_both : (cs ds : List ℕ) → AllByRecursion IsFine cs → AllByRecursion IsFine ds → AllByRecursion IsFine (cs ++ ds)
each_both [] ds h k = k
each_both (c ∷ cs) ds h k = (h.0, each_both cs ds h.1 k)

pub fine_append : (xs ys : List ℕ) → AreFine xs → AreFine ys → AreFine (xs ++ ys)
fine_append xs ys f g = record {
  cs = f.cs ++ g.cs;
  each = each_both f.cs g.cs f.each g.each;
  is = encodes-append f.cs g.cs ∙ ap (λ zs. zs ++ encodes g.cs) f.is ∙ ap (λ zs. xs ++ zs) g.is;
}

pub fine_byte : (b : ℕ) → b < 128 → IsFine b → AreFine (b ∷ [])
fine_byte b small f = record { cs = b ∷ []; each = (f, tt); is = ap (λ xs. xs ++ []) (encode_ascii b small) }

fine_clean_by : (cs : List ℕ) → AllByRecursion IsFine cs → IsClean (encodes cs)
fine_clean_by [] h = empty [] refl
fine_clean_by (c ∷ cs) h = one_char (encodes (c ∷ cs)) c (encodes cs) h.0 (fine_clean_by cs h.1) refl

pub fine_clean : (xs : List ℕ) → AreFine xs → IsClean xs
fine_clean xs f = subst (λ ys. IsClean ys) f.is (fine_clean_by f.cs f.each)

-- white space, and what closes a tag
space_fine : (b : ℕ) → is_space b ≡ true → IsFine b
unfolding is_space is_char
space_fine b h = record { allowed = grind (arith, nat_tests); no_ampersand = λ e. (let bad : is_space 38 ≡ true = ap is_space (sym e) ∙ h in let worse : false ≡ true = bad in cc) }

known : (b d : ℕ) → is_char d ≡ true → d ≢ 38 → (b == d) ≡ true → IsFine b
known b d h n e = subst (λ c. IsFine c) (sym (eqb-true b d e)) (record { allowed = h; no_ampersand = n })

between_fine : (b : ℕ) → is_between b ≡ true → IsFine b × (b < 128)
unfolding is_char
between_fine b h =
    elim (or_cases (is_space b || b == 47) (b == 62) h) [
      | inl f ↦ elim (or_cases (is_space b) (b == 47) f) [
        | inl e ↦ (space_fine b e, space_small b e)
        | inr e ↦ (known b 47 refl (λ k. cc) e, (let same = eqb-true b 47 e in omega arith))
      ]
      | inr e ↦ (known b 62 refl (λ k. cc) e, (let same = eqb-true b 62 e in omega arith))
    ]

pub fine_between : (xs : List ℕ) → AreBetween xs → AreFine xs
fine_between [] h = fine_nothing
fine_between (x ∷ xs) h = let one = between_fine x h.0 in fine_append (x ∷ []) xs (fine_byte x one.1 one.0) (fine_between xs h.1)

pub quote_fine : (b : ℕ) → is_quote b ≡ true → AreFine (b ∷ [])
unfolding is_char
quote_fine b h =
    fine_byte b (quote_small b h)
    (elim (or_cases (b == 34) (b == 39) h) [ inl e ↦ known b 34 refl (λ k. cc) e | inr e ↦ known b 39 refl (λ k. cc) e ])

pub less_fine : AreFine (60 ∷ [])
unfolding is_char
less_fine = fine_byte 60 (omega arith) (record { allowed = refl; no_ampersand = λ e. cc })

pub equals_fine : AreFine (61 ∷ [])
unfolding is_char
equals_fine = fine_byte 61 (omega arith) (record { allowed = refl; no_ampersand = λ e. cc })

-- characters of names: each range lies in one of those of Char
covers : List (ℕ × ℕ) → ℕ × ℕ → Bool
covers [] r = false
covers (s ∷ ss) r = (nat_le s.0 r.0 && nat_le r.1 s.1) || covers ss r

within_one : (a b x y c : ℕ) → (nat_le x a && nat_le b y) ≡ true → (nat_le a c && nat_le c b) ≡ true → (nat_le x c && nat_le c y) ≡ true
within_one a b x y c h k = grind (arith, nat_tests)

in_covering : (ss : List (ℕ × ℕ)) (r : ℕ × ℕ) (c : ℕ) → covers ss r ≡ true → (nat_le r.0 c && nat_le c r.1) ≡ true → is_in ss c ≡ true
unfolding covers
in_covering [] r c h k = h
in_covering (s ∷ ss) r c h k =
    elim (or_cases (nat_le s.0 r.0 && nat_le r.1 s.1) (covers ss r) h) [
      | inl e ↦ or_left (nat_le s.0 c && nat_le c s.1) (is_in ss c) (within_one r.0 r.1 s.0 s.1 c e k)
      | inr e ↦ or_right (nat_le s.0 c && nat_le c s.1) (is_in ss c) (in_covering ss r c e k)
    ]

in_all : (ss rs : List (ℕ × ℕ)) (c : ℕ) → list_all (covers ss) rs ≡ true → is_in rs c ≡ true → is_in ss c ≡ true
in_all ss [] c h k = let bad : false ≡ true = k in absurd (cc)
in_all ss (r ∷ rs) c h k =
    let t = and_parts (covers ss r) (list_all (covers ss) rs) h in
    elim (or_cases (nat_le r.0 c && nat_le c r.1) (is_in rs c) k) [ inl e ↦ in_covering ss r c t.0 e | inr e ↦ in_all ss rs c t.1 e ]

starts_covered : list_all (covers char_ranges) name_start_ranges ≡ true
unfolding covers
starts_covered = refl

further_covered : list_all (covers char_ranges) further_name_ranges ≡ true
unfolding covers
further_covered = refl

name_is_char : (c : ℕ) → is_name_char c ≡ true → is_char c ≡ true
unfolding is_name_char is_name_start is_char
name_is_char c h =
    elim (or_cases (is_in name_start_ranges c) (is_in further_name_ranges c) h) [
      | inl e ↦ in_all char_ranges name_start_ranges c starts_covered e
      | inr e ↦ in_all char_ranges further_name_ranges c further_covered e
    ]

no_name_ampersand : is_name_char 38 ≡ false
unfolding is_name_char is_name_start
no_name_ampersand = refl

name_fine : (c : ℕ) → is_name_char c ≡ true → IsFine c
name_fine c h = record { allowed = name_is_char c h; no_ampersand = λ e. (let bad : false ≡ true = sym no_name_ampersand ∙ ap is_name_char (sym e) ∙ h in cc) }

names_fine : (cs : List ℕ) → AllPass is_name_char cs → AllByRecursion IsFine cs
names_fine [] h = tt
names_fine (c ∷ cs) h = (name_fine c h.0, names_fine cs h.1)

pub fine_name : (name : List ℕ) → IsName name → AreFine name
fine_name name is =
    let t = name_all (chars name) is.spelled in
    let all : AllPass is_name_char (chars name) = subst (λ xs. AllPass is_name_char xs) (sym t.4) (start_is_name t.0 t.2, t.3) in
    record { cs = chars name; each = names_fine (chars name) all; is = encodes-chars name is.utf8 }

-- behind such characters
behind_one : (xs : List ℕ) → IsClean xs → (c : ℕ) (rest : List ℕ) → c ≢ 38 → xs ≡ encode c ++ rest → IsClean rest
behind_one xs (empty _ e) c rest n g = absurd (let size = ap length (sym e ∙ g) in let more = length-append (encode c) rest in let some = encode_some c in omega arith)
behind_one xs (one_char _ d more f k e) c rest n g = let same = encode_same d c more rest (sym e ∙ g) in subst (λ ys. IsClean ys) same.1 k
behind_one xs (one_reference _ body d more h k e) c rest n g =
    let begins : encode 38 ++ ((body ++ 59 ∷ []) ++ more) ≡ encode c ++ rest = ap (λ ys. ys ++ ((body ++ 59 ∷ []) ++ more)) (encode_ascii 38 (omega arith)) ∙ sym e ∙ g in
    absurd (n (sym (encode_same 38 c ((body ++ 59 ∷ []) ++ more) rest begins).0))

behind_all : (cs rest : List ℕ) → AllByRecursion IsFine cs → IsClean (encodes cs ++ rest) → IsClean rest
behind_all [] rest h k = k
behind_all (c ∷ cs) rest h k = behind_all cs rest h.1 (behind_one _ k c (encodes cs ++ rest) h.0.no_ampersand (append_assoc (encode c) (encodes cs) rest))

pub behind_fine : (xs rest : List ℕ) → AreFine xs → IsClean (xs ++ rest) → IsClean rest
behind_fine xs rest f k = behind_all f.cs rest f.each (subst (λ ys. IsClean (ys ++ rest)) (sym f.is) k)
