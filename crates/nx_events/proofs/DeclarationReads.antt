-- What is read of an XML declaration is what the grammar spells.
use Rattle.std.proofs.Common.{◌≡◌, ℕ, suc, ◌+◌, ◌<◌, Bool, true, false, cond, inl, inr, Option, Some, None, option_and_then, List, [], ◌∷◌, ◌++◌, length, drop, get_or, refl, ap, sym, subst, ◌∙◌, arith, append_assoc, append-nil, codes}
use Rattle.std.specs.Prelude.{◌&&◌, ◌==◌, nat_eq, nat_lt, is_some}
use Rattle.std.specs.List.{prefix_len, position_or_len, before_first, after_first, starts_with, list_all}
use Rattle.std.specs.Str.{bytes_eq, str_eq_ignore_ascii_case}
use Rattle.std.specs.Char.{is_ascii_digit}
use Rattle.std.proofs.lemmas.Bool.{cases_Bool, and_parts, or_cases, eqb-true, ltb-true, eq-eqb}
use Rattle.std.proofs.lemmas.Bool.Decides.{Decides-eqb}
use Rattle.std.proofs.lemmas.Slice.Eq.{starts_is, bytes_eq-Decides}
use Rattle.std.proofs.lemmas.List.{length-take-le}
use Rattle.std.proofs.lemmas.List.Sums.{passes_at_first, split_at_first}
use Rattle.nx_base.specs.Characters.{is_space, is_quote}
use Rattle.nx_base.specs.Form.{Form, space, nothing, one, seq, alt, Spells}
use Rattle.nx_base.specs.Tags.{spaces}
use Rattle.nx_events.specs.Words.{word, optional, some, digit}
use Rattle.nx_events.specs.DeclarationForm.{equals, within, quoted, setting, version_number, encoding_name, yes_or_no, version_setting, encoding_setting, standalone_setting, declaration_form}
use Rattle.nx_events.specs.XmlDeclaration.{after_spaces, after_some_spaces, after_word, after_equals, is_version, is_encoding, is_yes_or_no, word_of, may_be, after_value, after_spaced_word, after_setting, after_optional_setting, after_settings, is_end_of_declaration, is_xml_declaration}
use Rattle.nx_events.specs.declared.declaration.Setting.{Setting}
use Rattle.nx_events.specs.declared.declaration.Setting.TheVariants.{Version, Encoding, Standalone}
use Rattle.nx_events.proofs.Texts.{place_fits}
use Rattle.nx_events.proofs.FormWords.{AllPass, one-of_one, many-from, word-from, any_case-from, digit-of_one}

-- the grammar of a setting's value, and of the setting
abbrev pub value_form : Setting → Form
value_form Version = version_number
value_form Encoding = encoding_name
value_form Standalone = yes_or_no

abbrev pub setting_form : Setting → Form
setting_form k = setting (word_of k) (value_form k)

-- the form spells a front of the bytes, and this is the rest
pub record Read (form : Form) (xs rest : List ℕ) : Type 0 where
  pub front : List ℕ
  pub spelled : Spells form front
  pub is : xs ≡ front ++ rest

read_seq : (a b : Form) (xs mid rest : List ℕ) → Read a xs mid → Read b mid rest → Read (seq a b) xs rest
unfolding Spells
read_seq a b xs mid rest r s = record {
  front = r.front ++ s.front;
  spelled = (r.front, s.front, r.spelled, s.spelled, refl);
  is = r.is ∙ ap (λ ys. r.front ++ ys) s.is ∙ sym (append_assoc r.front s.front rest);
}

read_left : (a b : Form) (xs rest : List ℕ) → Read a xs rest → Read (alt a b) xs rest
unfolding Spells
read_left a b xs rest r = record { front = r.front; spelled = inl r.spelled; is = r.is }

read_right : (a b : Form) (xs rest : List ℕ) → Read b xs rest → Read (alt a b) xs rest
unfolding Spells
read_right a b xs rest r = record { front = r.front; spelled = inr r.spelled; is = r.is }

-- one step behind another
pub bound : {A B : Type 0} (o : Option A) (f : A → Option B) (y : B) → option_and_then f o ≡ Some y → (x : A) × (o ≡ Some x) × (f x ≡ Some y)
bound None f y e = absurd (cc)
bound (Some x) f y e = (x, refl, e)

pub chosen : (t : Bool) {A : Type 0} (x y : A) → cond t (Some x) None ≡ Some y → (t ≡ true) × (x ≡ y)
chosen true x y e = (refl, cc)
chosen false x y e = absurd (cc)

-- white space
pub space_on : (x : ℕ) (xs : List ℕ) → is_space x ≡ true → after_spaces (x ∷ xs) ≡ after_spaces xs
space_on x xs h =
    let next : 1 + prefix_len is_space xs ≡ suc (prefix_len is_space xs) = omega arith in
    ap (λ (t : Bool). drop (cond t (1 + prefix_len is_space xs) 0) (x ∷ xs)) h ∙ ap (λ (n : ℕ). drop n (x ∷ xs)) next

pub space_off : (x : ℕ) (xs : List ℕ) → is_space x ≡ false → after_spaces (x ∷ xs) ≡ x ∷ xs
space_off x xs h = ap (λ (t : Bool). drop (cond t (1 + prefix_len is_space xs) 0) (x ∷ xs)) h

pub split_spaces : (xs : List ℕ) → (front : List ℕ) × AllPass is_space front × (xs ≡ front ++ after_spaces xs)
split_spaces [] = ([], tt, refl)
split_spaces (x ∷ xs) =
    let rest = split_spaces xs in
    elim (cases_Bool (is_space x)) [
      | inl h ↦ (x ∷ rest.0, (h, rest.1), ap (λ ys. x ∷ ys) rest.2 ∙ ap (λ ys. x ∷ (rest.0 ++ ys)) (sym (space_on x xs h)))
      | inr h ↦ ([], tt, sym (space_off x xs h))
    ]

spaces_read : (xs : List ℕ) → Read spaces xs (after_spaces xs)
spaces_read xs =
    let t = split_spaces xs in
    record { front = t.0; spelled = many-from (one space) is_space (one-of_one space) t.0 t.1; is = t.2 }

some_spaces_read : (xs rest : List ℕ) → after_some_spaces xs ≡ Some rest → Read (some (one space)) xs rest
unfolding after_some_spaces Spells is_space
some_spaces_read [] rest e = absurd (cc)
some_spaces_read (x ∷ xs) rest e =
    let t = chosen (is_space x) (after_spaces (x ∷ xs)) rest e in
    let left : after_spaces xs ≡ rest = sym (space_on x xs t.0) ∙ t.1 in
    let first : Read (one space) (x ∷ xs) xs = record { front = x ∷ []; spelled = (x, t.0, refl); is = refl } in
    read_seq (one space) spaces (x ∷ xs) xs rest first (subst (λ ys. Read spaces xs ys) left (spaces_read xs))

-- a word
word_read : (w xs rest : List ℕ) → after_word w xs ≡ Some rest → Read (word w) xs rest
unfolding after_word
word_read w xs rest e =
    let t = chosen (starts_with nat_eq xs w) (drop (length w) xs) rest e in
    let whole : xs ≡ w ++ drop (length w) xs = (starts_is Decides-eqb xs w (starts_with nat_eq xs w) refl).0 t.0 in
    record { front = w; spelled = word-from w; is = whole ∙ ap (λ ys. w ++ ys) t.1 }

equals_read : (xs rest : List ℕ) → after_equals xs ≡ Some rest → Read equals xs rest
unfolding after_equals
equals_read xs rest e =
    let t = bound (after_word (codes "=") (after_spaces xs)) _ rest e in
    let both : Some (after_spaces t.0) ≡ Some rest = t.2 in
    let left : after_spaces t.0 ≡ rest = cc in
    read_seq spaces (seq (word (codes "=")) spaces) xs (after_spaces xs) rest (spaces_read xs)
    (read_seq (word (codes "=")) spaces (after_spaces xs) t.0 rest (word_read (codes "=") (after_spaces xs) t.0 t.1)
    (subst (λ ys. Read spaces t.0 ys) left (spaces_read t.0)))

-- values
digits_pass : (cs : List ℕ) → list_all is_ascii_digit cs ≡ true → AllPass is_ascii_digit cs
digits_pass [] h = tt
digits_pass (c ∷ cs) h = let t = and_parts (is_ascii_digit c) (list_all is_ascii_digit cs) h in (t.0, digits_pass cs t.1)

version_is : (value : List ℕ) → is_version value ≡ true → Spells version_number value
unfolding is_version Spells
version_is value h =
    let a = and_parts (starts_with nat_eq value (codes "1.") && nat_lt 2 (length value)) (list_all is_ascii_digit (drop 2 value)) h in
    let b = and_parts (starts_with nat_eq value (codes "1.")) (nat_lt 2 (length value)) a.0 in
    let whole : value ≡ codes "1." ++ drop 2 value = (starts_is Decides-eqb value (codes "1.") (starts_with nat_eq value (codes "1.")) refl).0 b.0 in
    (codes "1.", drop 2 value, word-from (codes "1."), digits (drop 2 value) (some_left value (ltb-true 2 (length value) b.1)) (digits_pass (drop 2 value) a.1), whole)
  where
    some_left : (value : List ℕ) → 2 < length value → 0 < length (drop 2 value)
    some_left [] h = absurd (omega arith)
    some_left (a ∷ []) h = absurd (omega arith)
    some_left (a ∷ b ∷ value) h = omega arith

    digits : (cs : List ℕ) → 0 < length cs → AllPass is_ascii_digit cs → Spells (some digit) cs
    digits [] h all = absurd (omega arith)
    digits (c ∷ cs) h all = (c ∷ [], cs, digit-of_one.from c all.0, many-from digit is_ascii_digit digit-of_one cs all.1, refl)

pub value_is : (k : Setting) (value : List ℕ) → may_be k value ≡ true → Spells (value_form k) value
unfolding is_encoding is_yes_or_no Spells
value_is Version value h = version_is value h
value_is Encoding value h =
    elim (or_cases (str_eq_ignore_ascii_case value (codes "UTF-8")) (str_eq_ignore_ascii_case value (codes "US-ASCII")) h)
    [ inl e ↦ inl (any_case-from (codes "UTF-8") value e) | inr e ↦ inr (any_case-from (codes "US-ASCII") value e) ]
value_is Standalone value h =
    elim (or_cases (bytes_eq value (codes "yes")) (bytes_eq value (codes "no")) h) [
      | inl e ↦ inl (subst (λ xs. Spells (word (codes "yes")) xs) (sym ((bytes_eq-Decides value (codes "yes")).0 e)) (word-from (codes "yes")))
      | inr e ↦ inr (subst (λ xs. Spells (word (codes "no")) xs) (sym ((bytes_eq-Decides value (codes "no")).0 e)) (word-from (codes "no")))
    ]

-- a value in quotes
within_spells : (q : ℕ) (form : Form) (value : List ℕ) → Spells form value → Spells (within q form) (q ∷ (value ++ q ∷ []))
unfolding Spells
within_spells q form value s =
    let one_quote : (c : ℕ) × ((c == q) ≡ true) × (q ∷ [] ≡ c ∷ []) = (q, eq-eqb q q refl, refl) in
    (q ∷ [], value ++ q ∷ [], one_quote, (value, q ∷ [], s, one_quote, refl), refl)

pub quoted_spells : (q : ℕ) (form : Form) (value : List ℕ) → is_quote q ≡ true → Spells form value → Spells (quoted form) (q ∷ (value ++ q ∷ []))
unfolding Spells
quoted_spells q form value h s =
    elim (or_cases (q == 34) (q == 39) h) [
      | inl e ↦ inr (subst (λ x. Spells (within x form) (q ∷ (value ++ q ∷ []))) (eqb-true q 34 e) (within_spells q form value s))
      | inr e ↦ inl (subst (λ x. Spells (within x form) (q ∷ (value ++ q ∷ []))) (eqb-true q 39 e) (within_spells q form value s))
    ]

value_read : (k : Setting) (xs rest : List ℕ) → after_value k xs ≡ Some rest → Read (quoted (value_form k)) xs rest
unfolding after_value
value_read k [] rest e = absurd (cc)
value_read k (q ∷ ys) rest e =
    let p : ℕ → Bool = λ b. b == q in
    let value = before_first p ys in
    let t = chosen (is_quote q && nat_lt (length value + 1) (suc (length ys)) && may_be k value) (drop (length value + 2) (q ∷ ys)) rest e in
    let a = and_parts (is_quote q && nat_lt (length value + 1) (suc (length ys))) (may_be k value) t.0 in
    let b = and_parts (is_quote q) (nat_lt (length value + 1) (suc (length ys))) a.0 in
    let small : length value + 1 < suc (length ys) = ltb-true (length value + 1) (suc (length ys)) b.1 in
    let size : length value ≡ position_or_len p ys = length-take-le (position_or_len p ys) ys (place_fits p ys) in
    let inside : position_or_len p ys < length ys = omega arith in
    let found = split_at_first p ys 0 inside in
    let closing : get_or ys (position_or_len p ys) 0 ≡ q = eqb-true (get_or ys (position_or_len p ys) 0) q (passes_at_first p ys 0 inside) in
    let count : length value + 2 ≡ suc (position_or_len p ys + 1) = omega arith in
    let tail : after_first p ys ≡ rest = ap (λ n. drop n (q ∷ ys)) (sym count) ∙ t.1 in
    let whole : ys ≡ value ++ q ∷ rest = found ∙ ap (λ c. value ++ c ∷ after_first p ys) closing ∙ ap (λ zs. value ++ q ∷ zs) tail in
    record {
      front = q ∷ (value ++ q ∷ []);
      spelled = quoted_spells q (value_form k) value b.0 (value_is k value a.1);
      is = ap (λ zs. q ∷ zs) (whole ∙ sym (append_assoc value (q ∷ []) rest));
    }

-- settings
spaced_word_read : (k : Setting) (xs rest : List ℕ) → after_spaced_word k xs ≡ Some rest → Read (seq (some (one space)) (word (word_of k))) xs rest
unfolding after_spaced_word
spaced_word_read k xs rest e =
    let t = bound (after_some_spaces xs) (after_word (word_of k)) rest e in
    read_seq (some (one space)) (word (word_of k)) xs t.0 rest (some_spaces_read xs t.0 t.1) (word_read (word_of k) t.0 rest t.2)

read_regroup : (a b c : Form) (xs rest : List ℕ) → Read (seq (seq a b) c) xs rest → Read (seq a (seq b c)) xs rest
unfolding Spells
read_regroup a b c xs rest r =
    let s = r.spelled in
    record {
      front = r.front;
      spelled = (s.2.0, s.2.1 ++ s.1, s.2.2, (s.2.1, s.1, s.2.3, s.3, refl), s.4 ∙ ap (λ ys. ys ++ s.1) s.2.4 ∙ append_assoc s.2.0 s.2.1 s.1);
      is = r.is;
    }

setting_read : (k : Setting) (xs rest : List ℕ) → after_setting k xs ≡ Some rest → Read (setting_form k) xs rest
unfolding after_setting
setting_read k xs rest e =
    let t = bound (after_spaced_word k xs) _ rest e in
    let u = bound (after_equals t.0) (after_value k) rest t.2 in
    read_regroup (some (one space)) (word (word_of k)) (seq equals (quoted (value_form k))) xs rest
    (read_seq (seq (some (one space)) (word (word_of k))) (seq equals (quoted (value_form k))) xs t.0 rest (spaced_word_read k xs t.0 t.1)
    (read_seq equals (quoted (value_form k)) t.0 u.0 rest (equals_read t.0 u.0 u.1) (value_read k u.0 rest u.2)))

nothing_read : (form : Form) (xs : List ℕ) → Read (optional form) xs xs
unfolding Spells
nothing_read form xs = record { front = []; spelled = inr refl; is = refl }

optional_read : (k : Setting) (xs rest : List ℕ) → after_optional_setting k xs ≡ Some rest → Read (optional (setting_form k)) xs rest
unfolding after_optional_setting
optional_read k xs rest e = by_test (is_some (after_spaced_word k xs)) e
  where
    by_test : (t : Bool) → cond t (after_setting k xs) (Some xs) ≡ Some rest → Read (optional (setting_form k)) xs rest
    by_test true f = read_left (setting_form k) nothing xs rest (setting_read k xs rest f)
    by_test false f = let same : xs ≡ rest = cc in subst (λ ys. Read (optional (setting_form k)) xs ys) same (nothing_read (setting_form k) xs)

-- the whole declaration
settings_read : (tail : Form) (xs rest end : List ℕ) → after_settings xs ≡ Some rest → Read tail rest end →
    Read (seq (word (codes "<?xml")) (seq version_setting (seq (optional encoding_setting) (seq (optional standalone_setting) tail)))) xs end
unfolding after_settings
settings_read tail xs rest end e r =
    let a = bound (after_word (codes "<?xml") xs) _ rest e in
    let b = bound (after_setting Version a.0) _ rest a.2 in
    let c = bound (after_optional_setting Encoding b.0) (after_optional_setting Standalone) rest b.2 in
    read_seq _ _ xs a.0 end (word_read (codes "<?xml") xs a.0 a.1)
    (read_seq _ _ a.0 b.0 end (setting_read Version a.0 b.0 b.1)
    (read_seq _ _ b.0 c.0 end (optional_read Encoding b.0 c.0 c.1)
    (read_seq _ _ c.0 rest end (optional_read Standalone c.0 rest c.2) r)))

pub declaration_read : (xs : List ℕ) → is_xml_declaration xs ≡ true → Spells declaration_form xs
unfolding is_xml_declaration
declaration_read xs h = by_rest (after_settings xs) refl h
  where
    by_rest : (found : Option (List ℕ)) → after_settings xs ≡ found → is_end_of_declaration found ≡ true → Spells declaration_form xs
    by_rest None e k = absurd (cc)
    by_rest (Some rest) e k =
        let closing : after_spaces rest ≡ codes "?>" = (bytes_eq-Decides (after_spaces rest) (codes "?>")).0 k in
        let last : Read (word (codes "?>")) (after_spaces rest) [] = record { front = codes "?>"; spelled = word-from (codes "?>"); is = closing } in
        let r = settings_read (seq spaces (word (codes "?>"))) xs rest [] e (read_seq spaces (word (codes "?>")) rest (after_spaces rest) [] (spaces_read rest) last) in
        let whole : xs ≡ r.front = r.is ∙ append-nil r.front in
        subst (λ ys. Spells declaration_form ys) (sym whole) r.spelled
