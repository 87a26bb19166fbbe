-- Names, values and attributes at the end of a tag's text: what is read stands there, and what stands there is read.
use Rattle.std.proofs.Common.{◌≡◌, ℕ, suc, ◌+◌, ◌-◌, ◌<◌, ◌≤◌, Bool, true, false, cond, Option, Some, None, option_and_then, List, [], ◌∷◌, ◌++◌, length, take, drop, get_or, refl, ap, sym, subst, ◌∙◌, arith, append_assoc, append-nil, codes, IsUtf8}
use Rattle.std.specs.Prelude.{◌&&◌, ◌||◌, ◌==◌, not, nat_lt, nat_eq, slice_index}
use Rattle.std.specs.List.{prefix_len, position_or_len, before_first, after_first, starts_with}
use Rattle.std.specs.Str.{chars}
use Rattle.std.proofs.Math.Seq.{drop-append-add}
use lib.Utf8.{low_scalar}
use Rattle.std.proofs.lemmas.Bool.{and_parts, and_from, or_left, eqb-true, eq-eqb, ltb-true, lt-ltb}
use Rattle.std.proofs.lemmas.Bool.Decides.{Decides-eqb, nat_tests}
use Rattle.std.proofs.lemmas.Slice.Eq.{starts_is}
use Rattle.std.proofs.lemmas.List.{length-append, length-drop, drop_at, take_at, nil_from_length}
use Rattle.std.proofs.lemmas.List.Sums.{split_at_first}
use Rattle.std.proofs.lemmas.Str.{IsUtf8-append, encode_ascii, encodes-chars, scalars-chars}
use Rattle.nx_base.specs.Characters.{is_space, is_quote, is_name_start, is_name_char}
use Rattle.nx_base.specs.Form.{Spells}
use Rattle.nx_base.specs.Tags.{name_form}
use Rattle.nx_events.specs.Utf8.{front_char}
use Rattle.nx_events.specs.References.{name_chars_len, name_len}
use Rattle.nx_events.specs.Tags.{ends_name}
use Rattle.nx_events.specs.Spelling.{Written, AreSpaces, middle, spelled_before}
use Rattle.nx_events.specs.SpelledTags.{IsName}
use Rattle.nx_events.specs.XmlDeclaration.{after_spaces, after_some_spaces, after_word, after_equals}
use Rattle.nx_events.specs.Prefixes.{AreNameChars, IsAttribute, IsSpaced}
use Rattle.nx_events.specs.TagPlaces.{are_name_chars, after_name, unquoted_len, after_quoted, is_open_value, after_attribute, opens_value, begins_value}
use Rattle.nx_events.proofs.Characters.{chars_whole}
use Rattle.nx_events.proofs.References.{front_goes_on, name_stops}
use Rattle.nx_events.proofs.FormWords.{AllPass}
use Rattle.nx_events.proofs.ReferenceForms.{name_all, name_spells, name_measured, name_found}
use Rattle.nx_events.proofs.FrontChars.{front_is}
use Rattle.nx_events.proofs.Texts.{ascii_one, space_small, behind}
use Rattle.nx_events.proofs.TextTags.{name_small, quote_small}
use Rattle.nx_events.proofs.Spelling.{first_at, space_ends}
use Rattle.nx_events.proofs.TagForms.{NonePass, NameBytes, name_is, no_name_char}
use Rattle.nx_events.proofs.DeclarationReads.{bound, chosen, space_on, split_spaces}

-- ---- names

-- characters of names behind a letter are a name
letter_len : (bs : List ℕ) → name_len (97 ∷ bs) ≡ suc (name_chars_len 0 bs)
unfolding name_len front_char is_name_start is_name_char
letter_len bs =
    let next : 1 + name_chars_len 0 bs ≡ suc (name_chars_len 0 bs) = omega arith in
    front_goes_on (97 ∷ bs) 1 refl (omega arith) (omega arith) ∙ next

letter_chars : (bs : List ℕ) → chars (97 ∷ bs) ≡ 97 ∷ chars bs
unfolding front_char
letter_chars bs = chars_whole (97 ∷ bs) 0 (omega arith) refl (omega arith)

letter_text : (bs : List ℕ) → IsUtf8 bs → IsUtf8 (97 ∷ bs)
letter_text bs u = IsUtf8-append (97 ∷ []) bs (ascii_one 97 (omega arith)) u

letter_starts : is_name_start 97 ≡ true
unfolding is_name_start
letter_starts = refl

nothing_counted : name_chars_len 0 [] ≡ 0
unfolding name_chars_len
nothing_counted = refl

pub chars_measured : (bs : List ℕ) → AreNameChars bs → name_chars_len 0 bs ≡ length bs
chars_measured bs h =
    let spelled : Spells name_form (chars (97 ∷ bs)) = subst (λ cs. Spells name_form cs) (sym (letter_chars bs)) (name_spells 97 (chars bs) letter_starts h.each) in
    let whole : name_len (97 ∷ bs) ≡ suc (length bs) = ap name_len (sym (append-nil (97 ∷ bs))) ∙ name_measured (97 ∷ bs) [] (letter_text bs h.utf8) spelled nothing_counted in
    omega (arith, letter_len bs, whole)

letter_rest : (bs : List ℕ) → Spells name_form (97 ∷ chars bs) → AllPass is_name_char (chars bs)
letter_rest bs spelled =
    let t = name_all (97 ∷ chars bs) spelled in
    let whole : 97 ∷ chars bs ≡ t.0 ∷ t.1 = t.4 in
    let rest : t.1 ≡ chars bs = cc in
    subst (λ xs. AllPass is_name_char xs) rest t.3

pub chars_found : (bs : List ℕ) → IsUtf8 bs → name_chars_len 0 bs ≡ length bs → AreNameChars bs
chars_found bs u e =
    let size : name_len (97 ∷ bs) ≡ suc (length bs) = letter_len bs ∙ ap suc e in
    let s = name_found (97 ∷ bs) (letter_text bs u) (omega arith) in
    let lengths : suc (length bs) ≡ length s.body + length s.rest = ap length s.is ∙ length-append s.body s.rest in
    let body_size = s.size in
    let none : s.rest ≡ [] = nil_from_length s.rest (omega arith) in
    let body : s.body ≡ 97 ∷ bs = sym (append-nil s.body) ∙ ap (λ xs. s.body ++ xs) (sym none) ∙ sym s.is in
    record { utf8 = u; each = letter_rest bs (subst (λ xs. Spells name_form xs) (ap chars body ∙ letter_chars bs) s.spelled) }

-- what ends a name ends its characters
pub ends_stop : (b : ℕ) (rest : List ℕ) → ends_name b ≡ true → name_chars_len 0 (b ∷ rest) ≡ 0
ends_stop b rest h =
    let low = name_small b h in
    name_stops (b ∷ rest) (ap is_name_char (first_is b rest low) ∙ no_name_char b h)
  where
    first_is : (b : ℕ) (rest : List ℕ) → b < 128 → front_char (b ∷ rest) ≡ b
    first_is b rest low = ap (λ xs. front_char (xs ++ rest)) (sym (encode_ascii b low)) ∙ front_is b rest (low_scalar b (omega arith))

-- ---- white space

abbrev pub NoSpace : List ℕ → Type 0
NoSpace xs = is_space (slice_index xs 0) ≡ false

pub nothing_no_space : NoSpace []
unfolding is_space
nothing_no_space = refl

-- what begins with a character of a name begins with no space
pub name_no_space : (xs : List ℕ) → 0 < name_chars_len 0 xs → NoSpace xs
name_no_space [] h = nothing_no_space
name_no_space (x ∷ xs) h = by_test (is_space x) refl
  where
    by_test : (t : Bool) → is_space x ≡ t → t ≡ false
    by_test true e = absurd (let none = ends_stop x xs (space_ends x e) in omega arith)
    by_test false e = refl

pub chars_no_space : (xs : List ℕ) → AreNameChars xs → NoSpace xs
chars_no_space [] h = nothing_no_space
chars_no_space (x ∷ xs) h = name_no_space (x ∷ xs) (let all = chars_measured (x ∷ xs) h in omega arith)

-- how many spaces there are
pub spaces_counted : (space rest : List ℕ) → AreSpaces space → NoSpace rest → prefix_len is_space (space ++ rest) ≡ length space
spaces_counted [] [] h k = refl
spaces_counted [] (x ∷ rest) h k = ap (λ (t : Bool). cond t (1 + prefix_len is_space rest) 0) k
spaces_counted (x ∷ space) rest h k =
    let next : 1 + length space ≡ suc (length space) = omega arith in
    ap (λ (t : Bool). cond t (1 + prefix_len is_space (space ++ rest)) 0) h.0 ∙ ap (λ (n : ℕ). 1 + n) (spaces_counted space rest h.1 k) ∙ next

spaces_passed : (space rest : List ℕ) → AreSpaces space → NoSpace rest → after_spaces (space ++ rest) ≡ rest
spaces_passed space rest h k = ap (λ n. drop n (space ++ rest)) (spaces_counted space rest h k) ∙ drop_at space rest (length space) refl

pub some_spaces_passed : (space rest : List ℕ) → AreSpaces space → 0 < length space → NoSpace rest → after_some_spaces (space ++ rest) ≡ Some rest
unfolding after_some_spaces
some_spaces_passed [] rest h l k = absurd (omega arith)
some_spaces_passed (x ∷ space) rest h l k =
    ap (λ (t : Bool). cond t (Some (after_spaces (x ∷ (space ++ rest)))) None) h.0 ∙ ap (λ xs. Some xs) (spaces_passed (x ∷ space) rest h k)

-- S+ at the front
pub record Spaced (xs rest : List ℕ) : Type 0 where
  pub space : List ℕ
  pub are_spaces : AreSpaces space
  pub some : 0 < length space
  pub is : xs ≡ space ++ rest

pub some_spaces_found : (xs rest : List ℕ) → after_some_spaces xs ≡ Some rest → Spaced xs rest
unfolding after_some_spaces is_space
some_spaces_found [] rest e = absurd (cc)
some_spaces_found (x ∷ xs) rest e =
    let t = chosen (is_space x) (after_spaces (x ∷ xs)) rest e in
    let left : after_spaces xs ≡ rest = sym (space_on x xs t.0) ∙ t.1 in
    let s = split_spaces xs in
    record { space = x ∷ s.0; are_spaces = (t.0, s.1); some = omega arith; is = ap (λ ys. x ∷ ys) (s.2 ∙ ap (λ ys. s.0 ++ ys) left) }

-- what stands behind a byte of ASCII, and behind white space, is UTF-8
pub text_behind : (front rest : List ℕ) (b : ℕ) → b < 128 → IsUtf8 (front ++ b ∷ rest) → IsUtf8 rest
text_behind front rest b low u =
    let xs = front ++ b ∷ rest in
    let long : length xs ≡ length front + suc (length rest) = length-append front (b ∷ rest) in
    let at : get_or xs (length front) 0 ≡ b = byte_at front rest b in
    subst (λ ys. IsUtf8 ys) (drop-append-add front (b ∷ rest) 1) (behind xs (length front) u (omega arith) (omega arith))
  where
    byte_at : (ys zs : List ℕ) (b : ℕ) → get_or (ys ++ b ∷ zs) (length ys) 0 ≡ b
    byte_at [] zs b = refl
    byte_at (y ∷ ys) zs b = byte_at ys zs b

pub text_behind_spaces : (space rest : List ℕ) → AreSpaces space → IsUtf8 (space ++ rest) → IsUtf8 rest
text_behind_spaces [] rest h u = u
text_behind_spaces (x ∷ space) rest h u = text_behind_spaces space rest h.1 (text_behind [] (space ++ rest) x (space_small x h.0) u)

-- ---- Eq

pub equals_passed : (before at_end rest : List ℕ) → AreSpaces before → AreSpaces at_end → NoSpace rest → after_equals (before ++ 61 ∷ (at_end ++ rest)) ≡ Some rest
unfolding after_equals after_word is_space
equals_passed before at_end rest h k n =
    ap (λ xs. option_and_then (λ left. Some (after_spaces left)) (after_word (codes "=") xs)) (spaces_passed before (61 ∷ (at_end ++ rest)) h refl)
    ∙ ap (λ xs. Some xs) (spaces_passed at_end rest k n)

pub record Equalled (xs rest : List ℕ) : Type 0 where
  pub before : List ℕ
  pub at_end : List ℕ
  pub are_before : AreSpaces before
  pub are_behind : AreSpaces at_end
  pub is : xs ≡ before ++ 61 ∷ (at_end ++ rest)

pub equals_found : (xs rest : List ℕ) → after_equals xs ≡ Some rest → Equalled xs rest
unfolding after_equals after_word
equals_found xs rest e =
    let t = bound (after_word (codes "=") (after_spaces xs)) _ rest e in
    let both : Some (after_spaces t.0) ≡ Some rest = t.2 in
    let left : after_spaces t.0 ≡ rest = cc in
    let w = chosen (starts_with nat_eq (after_spaces xs) (codes "=")) (drop 1 (after_spaces xs)) t.0 t.1 in
    let sign : after_spaces xs ≡ codes "=" ++ drop 1 (after_spaces xs) =
    (starts_is Decides-eqb (after_spaces xs) (codes "=") (starts_with nat_eq (after_spaces xs) (codes "=")) refl).0 w.0 in
    let front = split_spaces xs in
    let back = split_spaces t.0 in
    record {
      before = front.0;
      at_end = back.0;
      are_before = front.1;
      are_behind = back.1;
      is = front.2 ∙ ap (λ ys. front.0 ++ ys) (sign ∙ ap (λ ys. 61 ∷ ys) (w.1 ∙ back.2 ∙ ap (λ ys. back.0 ++ ys) left));
    }

-- ---- values

abbrev ends_value : ℕ → ℕ → Bool
ends_value quote b = b == quote || b == 60

before_none : (p : ℕ → Bool) (xs : List ℕ) → NonePass p (before_first p xs)
before_none p [] = tt
before_none p (x ∷ xs) = by_test (before_none p xs) (p x) refl
  where
    by_test : NonePass p (before_first p xs) → (t : Bool) → p x ≡ t → NonePass p (take (cond (not t) (1 + position_or_len p xs) 0) (x ∷ xs))
    by_test rest true e = tt
    by_test rest false e =
        let next : 1 + position_or_len p xs ≡ suc (position_or_len p xs) = omega arith in
        subst (λ n. NonePass p (take n (x ∷ xs))) (sym next) (e, rest)

none_first : (p : ℕ → Bool) (xs : List ℕ) → NonePass p xs → position_or_len p xs ≡ length xs
none_first p [] h = refl
none_first p (x ∷ xs) h =
    let next : 1 + length xs ≡ suc (length xs) = omega arith in
    ap (λ (t : Bool). cond (not t) (1 + position_or_len p xs) 0) h.0 ∙ ap (λ (n : ℕ). 1 + n) (none_first p xs h.1) ∙ next

both_none : (quote : ℕ) (xs : List ℕ) → NonePass (λ b. b == quote) xs → NonePass (λ b. b == 60) xs → NonePass (ends_value quote) xs
both_none quote [] h k = tt
both_none quote (x ∷ xs) h k = (ap (λ (t : Bool). t || x == 60) h.0 ∙ k.0, both_none quote xs h.1 k.1)

each_none : (quote : ℕ) (xs : List ℕ) → NonePass (ends_value quote) xs → NonePass (λ b. b == quote) xs × NonePass (λ b. b == 60) xs
each_none quote [] h = (tt, tt)
each_none quote (x ∷ xs) h =
    let rest = each_none quote xs h.1 in
    let parts = neither (x == quote) (x == 60) h.0 in
    ((parts.0, rest.0), (parts.1, rest.1))
  where
    neither : (t u : Bool) → (t || u) ≡ false → (t ≡ false) × (u ≡ false)
    neither true u e = absurd (cc)
    neither false u e = (refl, e)

-- a value in quotes, and a part of one
pub value_passed : (quote : ℕ) (value rest : List ℕ) → is_quote quote ≡ true → NonePass (λ b. b == quote) value → NonePass (λ b. b == 60) value →
    after_quoted (quote ∷ (value ++ quote ∷ rest)) ≡ Some rest
unfolding after_quoted
value_passed quote value rest h u l =
    let ys = value ++ quote ∷ rest in
    let same : (quote == quote) ≡ true = eq-eqb quote quote refl in
    let place : unquoted_len quote ys ≡ length value = first_at (ends_value quote) value rest quote (both_none quote value u l) (or_left (quote == quote) (quote == 60) same) in
    let size : length ys ≡ length value + suc (length rest) = length-append value (quote ∷ rest) in
    let inside : nat_lt (length value) (length ys) ≡ true = lt-ltb (length value) (length ys) (omega arith) in
    let closing : (slice_index ys (length value) == quote) ≡ true = ap (λ b. b == quote) (byte_at value rest quote) ∙ same in
    let tests : (is_quote quote && (nat_lt (length value) (length ys) && slice_index ys (length value) == quote)) ≡ true = and_from _ _ h (and_from _ _ inside closing) in
    ap (λ n. cond (is_quote quote && (nat_lt n (length ys) && slice_index ys n == quote)) (Some (drop (n + 1) ys)) None) place
    ∙ ap (λ (t : Bool). cond t (Some (drop (length value + 1) ys)) None) tests
    ∙ ap (λ xs. Some xs) (drop-append-add value (quote ∷ rest) 1)
  where
    byte_at : (ys zs : List ℕ) (b : ℕ) → slice_index (ys ++ b ∷ zs) (length ys) ≡ b
    byte_at [] zs b = refl
    byte_at (y ∷ ys) zs b = byte_at ys zs b

pub record Quoted (xs rest : List ℕ) : Type 0 where
  pub quote : ℕ
  pub value : List ℕ
  pub is_one : is_quote quote ≡ true
  pub unquoted : NonePass (λ b. b == quote) value
  pub no_less : NonePass (λ b. b == 60) value
  pub is : xs ≡ quote ∷ (value ++ quote ∷ rest)

pub value_found : (xs rest : List ℕ) → after_quoted xs ≡ Some rest → Quoted xs rest
unfolding after_quoted
value_found [] rest e = absurd (cc)
value_found (q ∷ ys) rest e =
    let p : ℕ → Bool = ends_value q in
    let n = position_or_len p ys in
    let t = chosen (is_quote q && (nat_lt n (length ys) && slice_index ys n == q)) (drop (n + 1) ys) rest e in
    let a = and_parts (is_quote q) (nat_lt n (length ys) && slice_index ys n == q) t.0 in
    let b = and_parts (nat_lt n (length ys)) (slice_index ys n == q) a.1 in
    let inside : n < length ys = ltb-true n (length ys) b.0 in
    let closing : get_or ys n 0 ≡ q = eqb-true (get_or ys n 0) q b.1 in
    let none = each_none q (before_first p ys) (before_none p ys) in
    let tail : after_first p ys ≡ rest = t.1 in
    record {
      quote = q;
      value = before_first p ys;
      is_one = a.0;
      unquoted = none.0;
      no_less = none.1;
      is = ap (λ zs. q ∷ zs) (split_at_first p ys 0 inside ∙ ap (λ c. before_first p ys ++ c ∷ after_first p ys) closing ∙ ap (λ zs. before_first p ys ++ q ∷ zs) tail);
    }

pub open_value : (quote : ℕ) (value : List ℕ) → is_quote quote ≡ true → NonePass (λ b. b == quote) value → NonePass (λ b. b == 60) value →
    (is_open_value (quote ∷ value) ≡ true) × (after_quoted (quote ∷ value) ≡ None)
unfolding is_open_value after_quoted
open_value quote value h u l =
    let place : unquoted_len quote value ≡ length value = none_first (ends_value quote) value (both_none quote value u l) in
    let whole : (unquoted_len quote value == length value) ≡ true = eq-eqb (unquoted_len quote value) (length value) place in
    let past : nat_lt (unquoted_len quote value) (length value) ≡ false = no_less (unquoted_len quote value) (length value) (omega arith) in (
      and_from _ _ h whole,
      ap (λ (t : Bool). cond (is_quote quote && (t && slice_index value (unquoted_len quote value) == quote)) (Some (drop (unquoted_len quote value + 1) value)) None) past
          ∙ ap (λ (t : Bool). cond (t && false) (Some (drop (unquoted_len quote value + 1) value)) None) h,
    )
  where
    no_less : (m n : ℕ) → n ≤ m → nat_lt m n ≡ false
    no_less m n h = grind (arith, nat_tests)

pub record OpenQuoted (xs : List ℕ) : Type 0 where
  pub quote : ℕ
  pub value : List ℕ
  pub is_one : is_quote quote ≡ true
  pub unquoted : NonePass (λ b. b == quote) value
  pub no_less : NonePass (λ b. b == 60) value
  pub is : xs ≡ quote ∷ value

pub open_value_found : (xs : List ℕ) → is_open_value xs ≡ true → OpenQuoted xs
unfolding is_open_value
open_value_found [] e = absurd (cc)
open_value_found (q ∷ ys) e =
    let p : ℕ → Bool = ends_value q in
    let a = and_parts (is_quote q) (unquoted_len q ys == length ys) e in
    let whole : position_or_len p ys ≡ length ys = eqb-true (position_or_len p ys) (length ys) a.1 in
    let all : before_first p ys ≡ ys = ap (λ n. take n ys) whole ∙ ap (take (length ys)) (sym (append-nil ys)) ∙ take_at ys [] (length ys) refl in
    let none = each_none q ys (subst (λ zs. NonePass p zs) all (before_none p ys)) in
    record { quote = q; value = ys; is_one = a.0; unquoted = none.0; no_less = none.1; is = refl }

-- ---- a name, Eq, and what follows

pub record Named (xs rest : List ℕ) : Type 0 where
  pub name : List ℕ
  pub bytes : NameBytes name
  pub size : length name ≡ name_len xs
  pub is : xs ≡ name ++ rest

pub name_bytes_of : (name : List ℕ) → IsName name → NameBytes name
name_bytes_of name h =
    subst (λ xs. NameBytes xs) (encodes-chars name h.utf8) (name_is (chars name) (scalars-chars name h.utf8) h.spelled)

otherwise : (t : Bool) {A : Type 0} (x y : A) → cond t None (Some x) ≡ Some y → (t ≡ false) × (x ≡ y)
otherwise true x y e = absurd (cc)
otherwise false x y e = (refl, cc)

pub name_read_at : (xs rest : List ℕ) → IsUtf8 xs → after_name xs ≡ Some rest → Named xs rest
unfolding after_name
name_read_at xs rest u e =
    let t = otherwise (name_len xs == 0) (drop (name_len xs) xs) rest e in
    let s = name_found xs u (some (name_len xs) t.0) in
    let left : s.rest ≡ rest = sym (ap (drop (name_len xs)) s.is ∙ drop_at s.body s.rest (name_len xs) s.size) ∙ t.1 in
    record { name = s.body; bytes = name_bytes_of s.body (record { utf8 = s.utf8; spelled = s.spelled }); size = s.size; is = s.is ∙ ap (λ ys. s.body ++ ys) left }
  where
    some : (n : ℕ) → (n == 0) ≡ false → 0 < n
    some n h = grind (arith, nat_tests)

pub not_zero : (n : ℕ) → 0 < n → (n == 0) ≡ false
not_zero n h = grind (arith, nat_tests)

pub name_passed : (name rest : List ℕ) → IsName name → name_chars_len 0 rest ≡ 0 → (after_name (name ++ rest) ≡ Some rest) × (name_len (name ++ rest) ≡ length name)
unfolding after_name
name_passed name rest h k =
    let len : name_len (name ++ rest) ≡ length name = name_measured name rest h.utf8 h.spelled k in
    let few = (name_bytes_of name h).some in
    let none : (length name == 0) ≡ false = not_zero (length name) few in (
      ap (λ n. cond (n == 0) None (Some (drop n (name ++ rest)))) len
          ∙ ap (λ (t : Bool). cond t None (Some (drop (length name) (name ++ rest)))) none
          ∙ ap (λ xs. Some xs) (drop_at name rest (length name) refl),
      len,
    )

-- what stands behind a Name goes on with white space or with `=`
tail_stops : (before rest : List ℕ) → AreSpaces before → name_chars_len 0 (before ++ 61 ∷ rest) ≡ 0
unfolding is_space
tail_stops [] rest h = ends_stop 61 rest refl
tail_stops (x ∷ before) rest h = ends_stop x (before ++ 61 ∷ rest) (space_ends x h.0)

pub spaces_stop : (space rest : List ℕ) → AreSpaces space → 0 < length space → name_chars_len 0 (space ++ rest) ≡ 0
spaces_stop [] rest h l = absurd (omega arith)
spaces_stop (x ∷ space) rest h l = ends_stop x (space ++ rest) (space_ends x h.0)

quote_no_space : (quote : ℕ) (rest : List ℕ) → is_quote quote ≡ true → NoSpace (quote ∷ rest)
unfolding is_space
quote_no_space quote rest h = grind (arith, nat_tests)

-- a Name and Eq
pub record Begun (xs rest : List ℕ) : Type 0 where
  pub name : List ℕ
  pub before : List ℕ
  pub at_end : List ℕ
  pub bytes : NameBytes name
  pub size : length name ≡ name_len xs
  pub are_before : AreSpaces before
  pub are_behind : AreSpaces at_end
  pub is : xs ≡ name ++ (before ++ 61 ∷ (at_end ++ rest))

begun_at : (xs named rest : List ℕ) → IsUtf8 xs → after_name xs ≡ Some named → after_equals named ≡ Some rest → Begun xs rest
begun_at xs named rest u e f =
    let n = name_read_at xs named u e in
    let q = equals_found named rest f in
    record {
      name = n.name;
      before = q.before;
      at_end = q.at_end;
      bytes = n.bytes;
      size = n.size;
      are_before = q.are_before;
      are_behind = q.are_behind;
      is = n.is ∙ ap (λ ys. n.name ++ ys) q.is;
    }

begun_passed : (name before at_end rest : List ℕ) → IsName name → AreSpaces before → AreSpaces at_end → NoSpace rest →
    (after_name (name ++ (before ++ 61 ∷ (at_end ++ rest))) ≡ Some (before ++ 61 ∷ (at_end ++ rest))) × (after_equals (before ++ 61 ∷ (at_end ++ rest)) ≡ Some rest)
begun_passed name before at_end rest h b a n =
    ((name_passed name (before ++ 61 ∷ (at_end ++ rest)) h (tail_stops before (at_end ++ rest) b)).0, equals_passed before at_end rest b a n)

regrouped : (name before at_end rest : List ℕ) → (name ++ (before ++ 61 ∷ at_end)) ++ rest ≡ name ++ (before ++ 61 ∷ (at_end ++ rest))
regrouped name before at_end rest = simp append_assoc

-- an attribute with white space before it
pub record Attributed (xs rest : List ℕ) : Type 0 where
  pub it : Written
  pub is_spaced : IsSpaced it
  pub utf8 : IsUtf8 rest
  pub is : xs ≡ it.space ++ spelled_before it rest

attribute_of : (xs begun named valued rest : List ℕ) → IsUtf8 xs → after_some_spaces xs ≡ Some begun → after_name begun ≡ Some named → after_equals named ≡ Some valued →
    after_quoted valued ≡ Some rest → Attributed xs rest
attribute_of xs begun named valued rest u e f g h =
    let s = some_spaces_found xs begun e in
    let begun_text : IsUtf8 begun = text_behind_spaces s.space begun s.are_spaces (subst (λ ys. IsUtf8 ys) s.is u) in
    let b = begun_at begun named valued begun_text f g in
    let v = value_found valued rest h in
    let it : Written = record { space = s.space; name = b.name; before = b.before; behind = b.at_end; quote = v.quote; value = v.value } in
    let front = s.space ++ (b.name ++ (b.before ++ 61 ∷ b.at_end)) in
    let inner : begun ≡ spelled_before it rest =
    b.is ∙ ap (λ ys. b.name ++ (b.before ++ 61 ∷ (b.at_end ++ ys))) v.is ∙ sym (regrouped b.name b.before b.at_end (v.quote ∷ (v.value ++ v.quote ∷ rest))) in
    let whole : xs ≡ s.space ++ spelled_before it rest = s.is ∙ ap (λ ys. s.space ++ ys) inner in
    let closed : s.space ++ spelled_before it rest ≡ (front ++ v.quote ∷ v.value) ++ v.quote ∷ rest = closing s.space (b.name ++ (b.before ++ 61 ∷ b.at_end)) v.value v.quote rest in
    record {
      it = it;
      is_spaced = (
        record {
          written = record {
            space = s.are_spaces;
            some_name = b.bytes.some;
            name = b.bytes.bytes;
            before = b.are_before;
            behind = b.are_behind;
            quote = v.is_one;
            value = v.unquoted;
          };
          is_name = b.bytes.is_name;
          no_less = v.no_less;
        },
        s.some,
      );
      utf8 = text_behind (front ++ v.quote ∷ v.value) rest v.quote (quote_small v.quote v.is_one) (subst (λ ys. IsUtf8 ys) (whole ∙ closed) u);
      is = whole;
    }
  where
    closing : (space name value : List ℕ) (quote : ℕ) (rest : List ℕ) →
        space ++ (name ++ quote ∷ (value ++ quote ∷ rest)) ≡ ((space ++ name) ++ quote ∷ value) ++ quote ∷ rest
    closing space name value quote rest = simp append_assoc

pub attribute_found : (xs rest : List ℕ) → IsUtf8 xs → after_attribute xs ≡ Some rest → Attributed xs rest
unfolding after_attribute
attribute_found xs rest u e =
    let begun = bound (after_some_spaces xs) _ rest e in
    let named = bound (after_name begun.0) _ rest begun.2 in
    let valued = bound (after_equals named.0) _ rest named.2 in
    attribute_of xs begun.0 named.0 valued.0 rest u begun.1 named.1 valued.1 valued.2

name_head_no_space : (name rest : List ℕ) → IsName name → name_chars_len 0 rest ≡ 0 → NoSpace (name ++ rest)
name_head_no_space name rest h k = by_bytes name (name_bytes_of name h)
  where
    left : (t u v w : Bool) → (((t || u) || v) || w) ≡ false → t ≡ false
    left true u v w e = absurd (cc)
    left false u v w e = refl

    by_bytes : (xs : List ℕ) → NameBytes xs → NoSpace (xs ++ rest)
    by_bytes [] b = absurd (let few = b.some in omega arith)
    by_bytes (x ∷ xs) b = left (is_space x) (x == 47) (x == 62) (x == 61) b.bytes.0.goes_on

pub attribute_passed : (it : Written) (rest : List ℕ) → IsSpaced it → after_attribute (it.space ++ spelled_before it rest) ≡ Some rest
unfolding after_attribute
attribute_passed it rest h =
    let w = h.0.written in
    let tail = it.quote ∷ (it.value ++ it.quote ∷ rest) in
    let same : spelled_before it rest ≡ it.name ++ (it.before ++ 61 ∷ (it.behind ++ tail)) = regrouped it.name it.before it.behind tail in
    let inner = it.before ++ 61 ∷ (it.behind ++ tail) in
    let named = begun_passed it.name it.before it.behind tail h.0.is_name w.before w.behind (quote_no_space it.quote (it.value ++ it.quote ∷ rest) w.quote) in
    let spaced = some_spaces_passed it.space (it.name ++ inner) w.space h.1 (name_head_no_space it.name inner h.0.is_name (tail_stops it.before (it.behind ++ tail) w.before)) in
    ap (λ ys. after_attribute (it.space ++ ys)) same
    ∙ ap (option_and_then _) spaced
    ∙ ap (option_and_then _) named.0
    ∙ ap (option_and_then _) named.1
    ∙ value_passed it.quote it.value rest w.quote w.value h.0.no_less

-- a begun value
pub record ValueBegun (xs : List ℕ) : Type 0 where
  pub begun : Written
  pub is_attribute : IsAttribute begun
  pub size : length begun.name ≡ name_len xs
  pub is : xs ≡ (begun.name ++ middle begun) ++ begun.quote ∷ begun.value

value_of : (xs named valued : List ℕ) → IsUtf8 xs → after_name xs ≡ Some named → after_equals named ≡ Some valued → is_open_value valued ≡ true → ValueBegun xs
value_of xs named valued u e f h =
    let b = begun_at xs named valued u e f in
    let v = open_value_found valued h in
    record {
      begun = record { space = []; name = b.name; before = b.before; behind = b.at_end; quote = v.quote; value = v.value };
      is_attribute = record {
        written = record {
          space = tt;
          some_name = b.bytes.some;
          name = b.bytes.bytes;
          before = b.are_before;
          behind = b.are_behind;
          quote = v.is_one;
          value = v.unquoted;
        };
        is_name = b.bytes.is_name;
        no_less = v.no_less;
      };
      size = b.size;
      is = b.is ∙ ap (λ ys. b.name ++ (b.before ++ 61 ∷ (b.at_end ++ ys))) v.is ∙ sym (regrouped b.name b.before b.at_end (v.quote ∷ v.value));
    }

pub value_begun : (xs : List ℕ) → IsUtf8 xs → begins_value xs ≡ true → ValueBegun xs
unfolding begins_value
value_begun xs u h = by_name (after_name xs) refl h
  where
    by_equals : (named : List ℕ) → after_name xs ≡ Some named → (o : Option (List ℕ)) → after_equals named ≡ o → opens_value o ≡ true → ValueBegun xs
    by_equals named e None f k = absurd (cc)
    by_equals named e (Some valued) f k = value_of xs named valued u e f k

    by_name : (o : Option (List ℕ)) → after_name xs ≡ o → opens_value (option_and_then after_equals o) ≡ true → ValueBegun xs
    by_name None e k = absurd (cc)
    by_name (Some named) e k = by_equals named e (after_equals named) refl k

-- a Name's characters are counted
pub names_counted : (xs : List ℕ) (n : ℕ) → name_len xs ≡ n → 0 < n → name_chars_len 0 xs ≡ n
unfolding name_len
names_counted xs n e h = by_test (is_name_start (front_char xs)) e
  where
    by_test : (t : Bool) → cond t (name_chars_len 0 xs) 0 ≡ n → name_chars_len 0 xs ≡ n
    by_test true e = e
    by_test false e = absurd (omega arith)

-- what stands at an attribute whose value is begun
pub record AtValue (begun : Written) (xs : List ℕ) : Type 0 where
  pub no_chars : are_name_chars xs ≡ false
  pub begins : begins_value xs ≡ true
  pub size : name_len xs ≡ length begun.name
  pub no_space : NoSpace xs
  pub open_ended : (space : List ℕ) → AreSpaces space → 0 < length space → after_attribute (space ++ xs) ≡ None

pub at_value : (begun : Written) → IsAttribute begun → AtValue begun ((begun.name ++ middle begun) ++ begun.quote ∷ begun.value)
unfolding after_attribute begins_value
at_value it h =
    let w = h.written in
    let tail = it.quote ∷ it.value in
    let inner = it.before ++ 61 ∷ (it.behind ++ tail) in
    let xs = (it.name ++ middle it) ++ tail in
    let same : xs ≡ it.name ++ inner = regrouped it.name it.before it.behind tail in
    let stops = tail_stops it.before (it.behind ++ tail) w.before in
    let named = begun_passed it.name it.before it.behind tail h.is_name w.before w.behind (quote_no_space it.quote it.value w.quote) in
    let open_ = open_value it.quote it.value w.quote w.value h.no_less in
    let len : name_len (it.name ++ inner) ≡ length it.name = (name_passed it.name inner h.is_name stops).1 in
    let no_space = name_head_no_space it.name inner h.is_name stops in
    let few : length (it.name ++ inner) ≡ length it.name + length inner = length-append it.name inner in
    let more : length inner ≡ length it.before + suc (length (it.behind ++ tail)) = length-append it.before (61 ∷ (it.behind ++ tail)) in
    let counted : name_chars_len 0 (it.name ++ inner) ≡ length it.name = names_counted (it.name ++ inner) (length it.name) len w.some_name in
    record {
      no_chars = ap are_name_chars same ∙ not_all (name_chars_len 0 (it.name ++ inner)) (length (it.name ++ inner)) (omega arith);
      begins = ap begins_value same ∙ ap (λ o. opens_value (option_and_then after_equals o)) named.0 ∙ ap opens_value named.1 ∙ open_.0;
      size = ap name_len same ∙ len;
      no_space = ap (λ ys. is_space (slice_index ys 0)) same ∙ no_space;
      open_ended = λ space s l. ap (λ ys. after_attribute (space ++ ys)) same
          ∙ ap (option_and_then _) (some_spaces_passed space (it.name ++ inner) s l no_space)
          ∙ ap (option_and_then _) named.0
          ∙ ap (option_and_then _) named.1
          ∙ open_.1;
    }
  where
    not_all : (m n : ℕ) → m < n → (m == n) ≡ false
    not_all m n h = grind (arith, nat_tests)

nothing_behind : option_and_then after_quoted (after_equals []) ≡ None
unfolding after_equals after_word
nothing_behind = refl

-- and at an attribute's name
pub record AtName (xs : List ℕ) : Type 0 where
  pub all_chars : are_name_chars xs ≡ true
  pub no_space : NoSpace xs
  pub open_ended : (space : List ℕ) → AreSpaces space → 0 < length space → after_attribute (space ++ xs) ≡ None

pub at_name : (xs : List ℕ) → AreNameChars xs → AtName xs
unfolding after_attribute after_name name_len
at_name xs h =
    let all = chars_measured xs h in
    let no_space = chars_no_space xs h in
    record {
      all_chars = eq-eqb (name_chars_len 0 xs) (length xs) all;
      no_space = no_space;
      open_ended = λ space s l. ap (option_and_then _) (some_spaces_passed space xs s l no_space) ∙ by_start all (is_name_start (front_char xs));
    }
  where
    none_left : drop (length xs) xs ≡ []
    none_left = nil_from_length (drop (length xs) xs) (let e = length-drop (length xs) xs in omega arith)

    by_zero : (t : Bool) → option_and_then (λ named. option_and_then after_quoted (after_equals named)) (cond t None (Some (drop (length xs) xs))) ≡ None
    by_zero true = refl
    by_zero false = ap (λ ys. option_and_then after_quoted (after_equals ys)) none_left ∙ nothing_behind

    by_start : name_chars_len 0 xs ≡ length xs → (t : Bool) →
        option_and_then (λ named. option_and_then after_quoted (after_equals named)) (cond (cond t (name_chars_len 0 xs) 0 == 0) None (Some (drop (cond t (name_chars_len 0 xs) 0) xs))) ≡ None
    by_start all true = ap (λ n. option_and_then (λ named. option_and_then after_quoted (after_equals named)) (cond (n == 0) None (Some (drop n xs)))) all ∙ by_zero (length xs == 0)
    by_start all false = refl

-- ---- shorter rests, which the loop over attributes ends by

pub after_attribute_shorter : (xs rest : List ℕ) → after_attribute xs ≡ Some rest → length rest < length xs
unfolding after_attribute after_name
after_attribute_shorter xs rest e =
    let begun = bound (after_some_spaces xs) _ rest e in
    let named = bound (after_name begun.0) _ rest begun.2 in
    let valued = bound (after_equals named.0) _ rest named.2 in
    let s = some_spaces_found xs begun.0 begun.1 in
    let n = otherwise (name_len begun.0 == 0) (drop (name_len begun.0) begun.0) named.0 named.1 in
    let q = equals_found named.0 valued.0 valued.1 in
    let v = value_found valued.0 rest valued.2 in
    let one : length xs ≡ length s.space + length begun.0 = ap length s.is ∙ length-append s.space begun.0 in
    let two : length named.0 ≡ length begun.0 - name_len begun.0 = sym (ap length n.1) ∙ length-drop (name_len begun.0) begun.0 in
    let three : length named.0 ≡ length q.before + suc (length (q.at_end ++ valued.0)) = ap length q.is ∙ length-append q.before (61 ∷ (q.at_end ++ valued.0)) in
    let four : length (q.at_end ++ valued.0) ≡ length q.at_end + length valued.0 = length-append q.at_end valued.0 in
    let five : length valued.0 ≡ suc (length (v.value ++ v.quote ∷ rest)) = ap length v.is in
    let six : length (v.value ++ v.quote ∷ rest) ≡ length v.value + suc (length rest) = length-append v.value (v.quote ∷ rest) in
    let some = s.some in
    omega arith
