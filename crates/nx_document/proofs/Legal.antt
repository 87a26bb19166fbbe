-- Legal bytes are characters that XML allows.
use Rattle.std.proofs.Common.{◌≡◌, ℕ, zero, suc, ◌+◌, ◌-◌, ◌<◌, Bool, true, false, cond, Option, Some, None, List, [], ◌∷◌, ◌++◌, length, take, drop, get_or, refl, ap, sym, subst, ◌∙◌, arith, take-append-drop}
use Rattle.std.specs.Prelude.{◌==◌, ◌&&◌, nat_lt, nat_eq, slice_index, codes, is_some}
use Rattle.std.specs.Char.{is_ascii_digit, is_ascii_hexdigit}
use Rattle.std.specs.List.{AllByRecursion, list_all, starts_with, prefix_len}
use Rattle.std.specs.Str.{IsUtf8, bytes_eq, chars, continuation_len}
use Rattle.std.proofs.lemmas.Bool.{and_parts, and_from, eqb-true, both_ways}
use Rattle.std.proofs.lemmas.Bool.Decides.{nat_tests}
use Rattle.std.proofs.lemmas.Grind.{common_steps}
use Rattle.std.proofs.lemmas.List.{drop_all, length-take-le, take_more}
use Rattle.std.proofs.lemmas.Slice.Eq.{bytes_eq-Decides}
use Rattle.std.proofs.lemmas.Str.{IsUtf8-take, IsUtf8-drop, chars-nil}
use Rattle.nx_base.specs.Characters.{is_char}
use Rattle.nx_base.specs.declared.fault.Kind.{Kind}
use Rattle.nx_base.specs.declared.fault.Kind.TheVariants.{BadChar, BadReference, BadText}
use Rattle.nx_events.specs.CharacterFaults.{character_flaw, tag_flaw, text_flaw, piece_flaw}
use Rattle.nx_events.specs.References.{behind_mark, name_len, reference_body_len, reference_len, numbered, character_named, referenced}
use Rattle.nx_base.specs.CharacterCodes.{char_of_code}
use Rattle.std.specs.Str.Parse.{digits_value}
use Rattle.nx_events.specs.Strings.{Piece, cut_by, line_piece_len, text_piece_len, piece_len}
use Rattle.nx_events.specs.Utf8.{front_char}
use Rattle.nx_events.specs.declared.reading.Reading.{Reading}
use Rattle.nx_events.specs.declared.reading.Reading.TheVariants.{Plain, Text, Value}
use Rattle.nx_events.proofs.Characters.{chars_whole}
use Rattle.nx_events.proofs.Pieces.{piece_positive}
use Rattle.nx_events.proofs.Texts.{test_is}
use Rattle.nx_document.specs.Constraints.{IsLegal}
use Rattle.nx_document.proofs.OfChars.{OfChars, of_nothing, of_both, IsPlain, of_plain}
use Rattle.nx_document.proofs.Places.{lead_border, read_within, begins_so, piece_border}

-- bytes of ASCII that stand in references
hexdigit_plain : (b : ℕ) → is_ascii_hexdigit b ≡ true → IsPlain b
unfolding is_char
hexdigit_plain b h = (grind (arith, nat_tests), grind (arith, nat_tests))

digit_plain : (b : ℕ) → is_ascii_digit b ≡ true → IsPlain b
unfolding is_char
digit_plain b h = (grind (arith, nat_tests), grind (arith, nat_tests))

plain_word : (bs word : List ℕ) → AllByRecursion IsPlain word → bs ≡ word → AllByRecursion IsPlain bs
plain_word bs word h e = subst (λ (xs : List ℕ). AllByRecursion IsPlain xs) (sym e) h

plain_both : (xs ys : List ℕ) → AllByRecursion IsPlain xs → AllByRecursion IsPlain ys → AllByRecursion IsPlain (xs ++ ys)
plain_both [] ys h k = k
plain_both (x ∷ xs) ys h k = (h.0, plain_both xs ys h.1 k)

plain_prefix : (p : ℕ → Bool) (bs : List ℕ) → ((b : ℕ) → p b ≡ true → IsPlain b) → AllByRecursion IsPlain (take (prefix_len p bs) bs)
plain_prefix p [] h = tt
plain_prefix p (b ∷ bs) h = by_test (p b) (h b) (plain_prefix p bs h)
  where
    by_test : (t : Bool) → (t ≡ true → IsPlain b) → AllByRecursion IsPlain (take (prefix_len p bs) bs) → AllByRecursion IsPlain (take (cond t (1 + prefix_len p bs) 0) (b ∷ bs))
    by_test true f more = subst (λ n. AllByRecursion IsPlain (take n (b ∷ bs))) (let e : suc (prefix_len p bs) ≡ 1 + prefix_len p bs = omega arith in e) (f refl, more)
    by_test false f more = tt

known : (b : ℕ) → is_char b ≡ true → nat_lt b 128 ≡ true → IsPlain b
known b h k = (h, grind (arith, nat_tests))

ampersand : IsPlain 38
unfolding is_char
ampersand = known 38 refl refl

semicolon : IsPlain 59
unfolding is_char
semicolon = known 59 refl refl

hash : IsPlain 35
unfolding is_char
hash = known 35 refl refl

ex : IsPlain 120
unfolding is_char
ex = known 120 refl refl

lt_plain : AllByRecursion IsPlain (codes "lt")
unfolding is_char
lt_plain = (known 108 refl refl, (known 116 refl refl, tt))

gt_plain : AllByRecursion IsPlain (codes "gt")
unfolding is_char
gt_plain = (known 103 refl refl, (known 116 refl refl, tt))

amp_plain : AllByRecursion IsPlain (codes "amp")
unfolding is_char
amp_plain = (known 97 refl refl, (known 109 refl refl, (known 112 refl refl, tt)))

apos_plain : AllByRecursion IsPlain (codes "apos")
unfolding is_char
apos_plain = (known 97 refl refl, (known 112 refl refl, (known 111 refl refl, (known 115 refl refl, tt))))

quot_plain : AllByRecursion IsPlain (codes "quot")
unfolding is_char
quot_plain = (known 113 refl refl, (known 117 refl refl, (known 111 refl refl, (known 116 refl refl, tt))))

brackets_plain : AllByRecursion IsPlain (codes "]]>")
unfolding is_char
brackets_plain = (known 93 refl refl, (known 93 refl refl, (known 62 refl refl, tt)))

line_end_plain : AllByRecursion IsPlain (13 ∷ 10 ∷ [])
unfolding is_char
line_end_plain = (known 13 refl refl, (known 10 refl refl, tt))

-- a number's digits
none_taken : (n : ℕ) → take {A = ℕ} n [] ≡ []
none_taken zero = refl
none_taken (suc n) = refl

take_both : (m n : ℕ) (bs : List ℕ) → take (m + n) bs ≡ take m bs ++ take n (drop m bs)
take_both zero n bs = ap (λ k. take k bs) (let e : 0 + n ≡ n = omega arith in e)
take_both (suc m) n [] = none_taken (suc m + n) ∙ sym (none_taken n)
take_both (suc m) n (b ∷ bs) = ap (λ k. take k (b ∷ bs)) (let e : suc m + n ≡ suc (m + n) = omega arith in e) ∙ ap (λ (xs : List ℕ). b ∷ xs) (take_both m n bs)

number_plain : (mark bs : List ℕ) (p : ℕ → Bool) → AllByRecursion IsPlain mark → starts_with nat_eq bs mark ≡ true → ((b : ℕ) → p b ≡ true → IsPlain b) →
    AllByRecursion IsPlain (take (behind_mark (length mark) (prefix_len p (drop (length mark) bs))) bs)
number_plain mark bs p m e h = by_test (prefix_len p (drop (length mark) bs) == 0)
  where
    by_test : (t : Bool) → AllByRecursion IsPlain (take (cond t 0 (length mark + prefix_len p (drop (length mark) bs))) bs)
    by_test true = tt
    by_test false =
        subst (λ (xs : List ℕ). AllByRecursion IsPlain xs) (sym (take_both (length mark) (prefix_len p (drop (length mark) bs)) bs))
        (plain_both (take (length mark) bs) (take (prefix_len p (drop (length mark) bs)) (drop (length mark) bs))
        (plain_word (take (length mark) bs) mark m (sym (begins_so bs mark e))) (plain_prefix p (drop (length mark) bs) h))

-- a name that stands for a character is one of five
front_one : (n b : ℕ) (bs : List ℕ) → starts_with nat_eq (take n bs) (b ∷ []) ≡ true → starts_with nat_eq bs (b ∷ []) ≡ true
front_one zero b bs h = let bad : b ∷ [] ≡ take 1 (take zero bs) = begins_so (take zero bs) (b ∷ []) h in let none : b ∷ [] ≡ [] = bad in absurd (cc)
front_one (suc n) b [] h = h
front_one (suc n) b (c ∷ bs) h = h

front_two : (n b c : ℕ) (bs : List ℕ) → starts_with nat_eq (take n bs) (b ∷ c ∷ []) ≡ true → starts_with nat_eq bs (b ∷ []) ≡ true
front_two zero b c bs h = let bad : b ∷ c ∷ [] ≡ take 2 (take zero bs) = begins_so (take zero bs) (b ∷ c ∷ []) h in let none : b ∷ c ∷ [] ≡ [] = bad in absurd (cc)
front_two (suc n) b c [] h = let bad : b ∷ c ∷ [] ≡ [] = begins_so [] (b ∷ c ∷ []) h in absurd (cc)
front_two (suc n) b c (d ∷ bs) h = and_from (nat_eq b d) true (and_parts (nat_eq b d) _ h).0 refl

named_plain : (n : ℕ) (bs : List ℕ) → starts_with nat_eq bs (codes "#") ≡ false → is_some (character_named (take n bs)) ≡ true → AllByRecursion IsPlain (take n bs)
unfolding character_named numbered
named_plain n bs unmarked h =
    let body = take n bs in
    let P : Option ℕ → Type 0 = λ o. is_some o ≡ true → AllByRecursion IsPlain body in
    test_is P (bytes_eq body (codes "lt")) (Some 60) _ (λ e _. plain_word body _ lt_plain ((bytes_eq-Decides body _).0 e))
    (λ _. test_is P (bytes_eq body (codes "gt")) (Some 62) _ (λ e _. plain_word body _ gt_plain ((bytes_eq-Decides body _).0 e))
    (λ _. test_is P (bytes_eq body (codes "amp")) (Some 38) _ (λ e _. plain_word body _ amp_plain ((bytes_eq-Decides body _).0 e))
    (λ _. test_is P (bytes_eq body (codes "apos")) (Some 39) _ (λ e _. plain_word body _ apos_plain ((bytes_eq-Decides body _).0 e))
    (λ _. test_is P (bytes_eq body (codes "quot")) (Some 34) _ (λ e _. plain_word body _ quot_plain ((bytes_eq-Decides body _).0 e))
    (λ _. test_is P (starts_with nat_eq body (codes "#x")) (char_of_code (digits_value 16 (drop 2 body))) _
    (λ e _. absurd (both_ways (starts_with nat_eq bs (codes "#")) unmarked (front_two n 35 120 bs e)))
    (λ _. test_is P (starts_with nat_eq body (codes "#")) (char_of_code (digits_value 10 (drop 1 body))) None
    (λ e _. absurd (both_ways (starts_with nat_eq bs (codes "#")) unmarked (front_one n 35 bs e)))
    (λ _ k. let bad : false ≡ true = k in absurd (cc)))))))) h

body_plain : (bs : List ℕ) → is_some (character_named (take (reference_body_len bs) bs)) ≡ true → AllByRecursion IsPlain (take (reference_body_len bs) bs)
unfolding reference_body_len
body_plain bs h =
    let P : ℕ → Type 0 = λ n. is_some (character_named (take n bs)) ≡ true → AllByRecursion IsPlain (take n bs) in
    test_is P (starts_with nat_eq bs (codes "#x")) (behind_mark 2 (prefix_len is_ascii_hexdigit (drop 2 bs))) _
    (λ e _. number_plain (codes "#x") bs is_ascii_hexdigit (hash, (ex, tt)) e hexdigit_plain)
    (λ _. test_is P (starts_with nat_eq bs (codes "#")) (behind_mark 1 (prefix_len is_ascii_digit (drop 1 bs))) (name_len bs)
    (λ e _. number_plain (codes "#") bs is_ascii_digit (hash, tt) e digit_plain)
    (λ e k. named_plain (name_len bs) bs e k)) h

-- a reference that stands for a character
reference_body : (n : ℕ) (bs : List ℕ) → n < length bs → take (length (38 ∷ take (n + 1) bs) - 2) (drop 1 (38 ∷ take (n + 1) bs)) ≡ take n bs
reference_body n bs lt =
    let size : length (take (n + 1) bs) ≡ n + 1 = length-take-le (n + 1) bs (omega arith) in
    let less : suc (length (take (n + 1) bs)) - 2 ≡ n = omega (arith, size) in
    ap (λ k. take k (take (n + 1) bs)) less ∙ grind (arith, common_steps)

reference_plain : (bs : List ℕ) → is_some (referenced (38 ∷ take (reference_len bs) bs)) ≡ true → AllByRecursion IsPlain (38 ∷ take (reference_len bs) bs)
unfolding reference_len referenced
reference_plain bs h =
    let n = reference_body_len bs in
    let P : ℕ → Type 0 = λ k. is_some (character_named (take (length (38 ∷ take k bs) - 2) (drop 1 (38 ∷ take k bs)))) ≡ true → AllByRecursion IsPlain (38 ∷ take k bs) in
    test_is P (nat_lt 0 n && slice_index bs n == 59) (n + 1) 0
    (λ e k.
    let r = read_within bs n 58 (and_parts (nat_lt 0 n) (slice_index bs n == 59) e).1 in
    let body = body_plain bs (subst (λ (xs : List ℕ). is_some (character_named xs) ≡ true) (reference_body n bs r.0) k) in (
      ampersand,
      subst (λ (xs : List ℕ). AllByRecursion IsPlain xs) (sym (take_more bs n 59 r.0 ∙ ap (λ b. take n bs ++ b ∷ []) (get_is bs n 59 r.0 r.1)))
          (plain_both (take n bs) (59 ∷ []) body (semicolon, tt)),
    ))
    (λ _ _. (ampersand, tt)) h
  where
    get_is : (bs : List ℕ) (n d : ℕ) → n < length bs → get_or bs n 0 ≡ d → get_or bs n d ≡ d
    get_is [] n d lt e = absurd (omega (arith, lt))
    get_is (b ∷ bs) zero d lt e = e
    get_is (b ∷ bs) (suc n) d lt e = get_is bs n d (omega (arith, lt)) e

-- one character
flaw_is_char : (t : Bool) → cond t None (Some BadChar) ≡ None → t ≡ true
flaw_is_char true e = refl
flaw_is_char false e = let bad : Some BadChar ≡ None = e in absurd (cc)

single_char : (b : ℕ) (bs : List ℕ) → IsUtf8 (b ∷ bs) → character_flaw (take (suc (continuation_len b)) (b ∷ bs)) ≡ None → OfChars (take (suc (continuation_len b)) (b ∷ bs))
unfolding character_flaw
single_char b bs u e =
    let k = continuation_len b in
    let p : List ℕ = b ∷ take k bs in
    let border = lead_border b bs u in
    let size : length (take k bs) ≡ k = length-take-le k bs (omega (arith, border.0)) in
    let whole = chars_whole p k (omega arith) refl (omega (arith, size)) in
    let none : drop (k + 1) p ≡ [] = drop_all (k + 1) p (omega (arith, size)) in
    let one : is_char (front_char p) ≡ true = flaw_is_char (is_char (front_char p)) e in
    record {
      utf8 = IsUtf8-take (b ∷ bs) (suc k) u border;
      each = ap (list_all is_char) (whole ∙ ap (λ (xs : List ℕ). front_char p ∷ xs) (ap chars none ∙ chars-nil)) ∙ and_from (is_char (front_char p)) true one refl;
    }

-- a piece
module _ (flaw : List ℕ → Option Kind) (b : ℕ) (bs : List ℕ) (u : IsUtf8 (b ∷ bs)) (weaker : (more : List ℕ) → flaw (b ∷ more) ≡ None → character_flaw (b ∷ more) ≡ None) where
  line_piece : flaw (take (line_piece_len (b ∷ bs)) (b ∷ bs)) ≡ None → OfChars (take (line_piece_len (b ∷ bs)) (b ∷ bs))
  unfolding line_piece_len
  line_piece h =
      let P : ℕ → Type 0 = λ n. flaw (take n (b ∷ bs)) ≡ None → OfChars (take n (b ∷ bs)) in
      test_is P (b == 13 && slice_index bs 0 == 10) 2 (suc (continuation_len b))
      (λ e _. let parts = and_parts (b == 13) (slice_index bs 0 == 10) e in
      of_plain (take 2 (b ∷ bs)) (plain_word (take 2 (b ∷ bs)) (13 ∷ 10 ∷ []) line_end_plain (two_are (eqb-true b 13 parts.0) bs (read_within bs 0 9 parts.1))))
      (λ _ k. single_char b bs u (weaker (take (continuation_len b) bs) k)) h
    where
      two_are : b ≡ 13 → (xs : List ℕ) → (0 < length xs) × (get_or xs 0 0 ≡ 10) → take 2 (b ∷ xs) ≡ 13 ∷ 10 ∷ []
      two_are e [] r = absurd (omega (arith, r.0))
      two_are e (x ∷ xs) r = ap (λ y. y ∷ x ∷ []) e ∙ ap (λ y. 13 ∷ y ∷ []) r.1

  pub text_piece : ((more : List ℕ) → b ≡ 38 → flaw (b ∷ more) ≡ None → is_some (referenced (b ∷ more)) ≡ true) →
      flaw (take (text_piece_len (b ∷ bs)) (b ∷ bs)) ≡ None → OfChars (take (text_piece_len (b ∷ bs)) (b ∷ bs))
  unfolding text_piece_len
  text_piece known h =
      let P : ℕ → Type 0 = λ n. flaw (take n (b ∷ bs)) ≡ None → OfChars (take n (b ∷ bs)) in
      test_is P (b == 38) (suc (reference_len bs)) _
      (λ e k. let amp = eqb-true b 38 e in
      of_plain (b ∷ take (reference_len bs) bs) (subst (λ c. AllByRecursion IsPlain (c ∷ take (reference_len bs) bs)) (sym amp)
      (reference_plain bs (subst (λ c. is_some (referenced (c ∷ take (reference_len bs) bs)) ≡ true) amp (known (take (reference_len bs) bs) amp k)))))
      (λ _. test_is P (starts_with nat_eq (b ∷ bs) (codes "]]>")) 3 (line_piece_len (b ∷ bs))
      (λ e _. of_plain (take 3 (b ∷ bs)) (plain_word (take 3 (b ∷ bs)) (codes "]]>") brackets_plain (sym (begins_so (b ∷ bs) (codes "]]>") e))))
      (λ _ k. line_piece k)) h

-- what the flaws of a piece say of its characters and references
module _ (b : ℕ) (more : List ℕ) where
  tag_character : tag_flaw (b ∷ more) ≡ None → b ≡ 38 → is_some (referenced (b ∷ more)) ≡ true
  unfolding tag_flaw
  tag_character e amp = by_test (b == 38) (eq_is amp) (is_some (referenced (b ∷ more))) e
    where
      eq_is : b ≡ 38 → (b == 38) ≡ true
      eq_is same = rw same refl

      by_test : (t : Bool) → t ≡ true → (s : Bool) → cond t (cond s None (Some BadReference)) (character_flaw (b ∷ more)) ≡ None → s ≡ true
      by_test true h true e = refl
      by_test true h false e = let bad : Some BadReference ≡ None = e in absurd (cc)
      by_test false h s e = let bad : false ≡ true = h in absurd (cc)

  text_tag : text_flaw (b ∷ more) ≡ None → tag_flaw (b ∷ more) ≡ None
  unfolding text_flaw
  text_tag e = by_test (b == 93 && suc (length more) == 3) e
    where
      by_test : (t : Bool) → cond t (Some BadText) (tag_flaw (b ∷ more)) ≡ None → tag_flaw (b ∷ more) ≡ None
      by_test true e = let bad : Some BadText ≡ None = e in absurd (cc)
      by_test false e = e

-- an ampersand is a character, whatever follows it
ampersand_character : (more : List ℕ) → character_flaw (38 ∷ more) ≡ None
unfolding character_flaw front_char is_char
ampersand_character more = refl

tag_weaker : (b : ℕ) (more : List ℕ) → tag_flaw (b ∷ more) ≡ None → character_flaw (b ∷ more) ≡ None
unfolding tag_flaw
tag_weaker b more e = by_test (b == 38) (eqb-true b 38) e
  where
    by_test : (t : Bool) → (t ≡ true → b ≡ 38) → cond t (cond (is_some (referenced (b ∷ more))) None (Some BadReference)) (character_flaw (b ∷ more)) ≡ None → character_flaw (b ∷ more) ≡ None
    by_test true same e = subst (λ c. character_flaw (c ∷ more) ≡ None) (sym (same refl)) (ampersand_character more)
    by_test false same e = e

legal_piece : (reading : Reading) (b : ℕ) (bs : List ℕ) → IsUtf8 (b ∷ bs) → piece_flaw reading (take (piece_len reading (b ∷ bs)) (b ∷ bs)) ≡ None → OfChars (take (piece_len reading (b ∷ bs)) (b ∷ bs))
legal_piece Plain b bs u e = line_piece character_flaw b bs u (λ more h. h) e
legal_piece Text b bs u e = text_piece text_flaw b bs u (λ more h. tag_weaker b more (text_tag b more h)) (λ more amp h. tag_character b more (text_tag b more h) amp) e
legal_piece Value b bs u e = text_piece tag_flaw b bs u (λ more h. tag_weaker b more h) (λ more amp h. tag_character b more h amp) e

legal_pieces : (reading : Reading) (n at : ℕ) (xs : List ℕ) → IsUtf8 (drop n xs) →
    AllByRecursion (λ (piece : Piece). piece_flaw reading piece.bytes ≡ None) (cut_by (piece_len reading) n at xs) → OfChars (drop n xs)
unfolding cut_by
legal_pieces reading zero at [] u h = of_nothing
legal_pieces reading (suc n) at [] u h = of_nothing
legal_pieces reading (suc n) at (b ∷ bs) u h = legal_pieces reading n (at + 1) bs u h
legal_pieces reading zero at (b ∷ bs) u h =
    let len = piece_len reading (b ∷ bs) in
    let some = piece_positive reading (b ∷ bs) (omega arith) in
    let border = piece_border reading b bs u in
    let next : len ≡ suc (len - 1) = omega (arith, some) in
    let rest : OfChars (drop (len - 1) bs) = legal_pieces reading (len - 1) (at + 1) bs (subst (λ n. IsUtf8 (drop n (b ∷ bs))) next (IsUtf8-drop (b ∷ bs) len u border)) h.1 in
    subst (λ (xs : List ℕ). OfChars xs) (take-append-drop len (b ∷ bs))
    (of_both (take len (b ∷ bs)) (drop len (b ∷ bs)) (legal_piece reading b bs u h.0) (subst (λ n. OfChars (drop n (b ∷ bs))) (sym next) rest))

pub legal_of_chars : (reading : Reading) (bytes : List ℕ) → IsUtf8 bytes → IsLegal reading bytes → OfChars bytes
legal_of_chars reading bytes u h = legal_pieces reading 0 0 bytes u h
