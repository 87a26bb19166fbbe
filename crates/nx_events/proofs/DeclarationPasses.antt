-- What the grammar of an XML declaration spells is read.
use Rattle.std.proofs.Common.{◌≡◌, ℕ, suc, ◌+◌, Bool, true, false, cond, inl, inr, Some, None, option_and_then, List, [], ◌∷◌, ◌++◌, length, take, drop, refl, ap, sym, subst, ◌∙◌, arith, append_assoc, codes}
use Rattle.std.specs.Prelude.{◌&&◌, ◌==◌, not, nat_eq, nat_lt, slice_index, is_some}
use Rattle.std.specs.List.{AllByRecursion, position_or_len, before_first, starts_with, list_all}
use Rattle.std.specs.Str.{chars, bytes_eq, str_eq_ignore_ascii_case}
use Rattle.std.specs.Char.{is_ascii_digit}
use Rattle.std.proofs.lemmas.Bool.{cases_Bool, and_from, or_left, or_right, eqb-true, lt-ltb, eq-eqb}
use Rattle.std.proofs.lemmas.Bool.Decides.{Decides-eqb, nat_tests}
use Rattle.std.proofs.lemmas.Slice.Eq.{starts_is, bytes_eq-Decides}
use Rattle.std.proofs.lemmas.List.{drop_at, take_at, length-append}
use Rattle.std.proofs.lemmas.Str.{chars-IsAscii, encodes-IsAscii, encodes-chars}
use Rattle.nx_base.specs.Characters.{is_space, is_quote}
use Rattle.nx_base.specs.Form.{Form, space, one, seq, Spells}
use Rattle.nx_base.specs.Tags.{spaces}
use Rattle.nx_events.specs.Words.{word, one_of, in_any_case, optional, some, digit}
use Rattle.nx_events.specs.DeclarationForm.{equals, within, quoted, version_number, encoding_name, yes_or_no, declaration_form, DeclarationsAreSpelled}
use Rattle.nx_events.specs.XmlDeclaration.{after_spaces, after_some_spaces, after_word, after_equals, is_version, is_encoding, is_yes_or_no, word_of, may_be, after_value, after_spaced_word, after_setting, after_optional_setting, after_settings, is_end_of_declaration, is_xml_declaration}
use Rattle.nx_events.specs.declared.declaration.Setting.{Setting}
use Rattle.nx_events.specs.declared.declaration.Setting.TheVariants.{Version, Encoding, Standalone}
use Rattle.nx_events.proofs.Spelling.{first_at}
use Rattle.nx_events.proofs.FormWords.{AllPass, one-of_one, many-to, word-to, any_case-to, digit-of_one, form_passes, form_pass, is_small, small_ascii}
use Rattle.nx_events.proofs.DeclarationReads.{value_form, setting_form, space_on, space_off, declaration_read}

-- what follows doesn't begin with white space
abbrev NoSpace : List ℕ → Type 0
NoSpace rest = is_space (slice_index rest 0) ≡ false

-- white space is passed
spaces_pass : (s rest : List ℕ) → AllPass is_space s → NoSpace rest → after_spaces (s ++ rest) ≡ rest
spaces_pass [] [] h k = refl
spaces_pass [] (c ∷ rest) h k = space_off c rest k
spaces_pass (x ∷ s) rest h k = space_on x (s ++ rest) h.0 ∙ spaces_pass s rest h.1 k

spaces_all : (s : List ℕ) → Spells spaces s → AllPass is_space s
spaces_all s h = many-to (one space) is_space (one-of_one space) s h

some_spaces_all : (s : List ℕ) → Spells (some (one space)) s → (c : ℕ) × (t : List ℕ) × (is_space c ≡ true) × AllPass is_space t × (s ≡ c ∷ t)
unfolding Spells
some_spaces_all s h = (h.2.0, h.1, h.2.1, spaces_all h.1 h.3, h.4 ∙ ap (λ xs. xs ++ h.1) h.2.2)

some_spaces_pass : (s rest : List ℕ) → Spells (some (one space)) s → NoSpace rest → after_some_spaces (s ++ rest) ≡ Some rest
unfolding after_some_spaces
some_spaces_pass s rest h k =
    let t = some_spaces_all s h in
    let passed : after_spaces (t.0 ∷ (t.1 ++ rest)) ≡ rest = space_on t.0 (t.1 ++ rest) t.2 ∙ spaces_pass t.1 rest t.3 k in
    ap (λ xs. after_some_spaces (xs ++ rest)) t.4
    ∙ ap (λ (b : Bool). cond b (Some (after_spaces (t.0 ∷ (t.1 ++ rest)))) None) t.2
    ∙ ap (λ xs. Some xs) passed

-- a word
word_pass : (w rest : List ℕ) → after_word w (w ++ rest) ≡ Some rest
unfolding after_word
word_pass w rest =
    let found : starts_with nat_eq (w ++ rest) w ≡ true = (starts_is Decides-eqb (w ++ rest) w (starts_with nat_eq (w ++ rest) w) refl).1 rest refl in
    ap (λ (b : Bool). cond b (Some (drop (length w) (w ++ rest))) None) found ∙ ap (λ xs. Some xs) (drop_at w rest (length w) refl)

equals_pass : (s rest : List ℕ) → Spells equals s → NoSpace rest → after_equals (s ++ rest) ≡ Some rest
unfolding Spells after_equals is_space
equals_pass s rest h k =
    let front = h.0 in
    let behind = h.3.1 in
    let sign : h.3.0 ≡ codes "=" = word-to (codes "=") h.3.0 h.3.2 in
    let whole : s ++ rest ≡ front ++ (61 ∷ (behind ++ rest)) =
    ap (λ xs. xs ++ rest) (h.4 ∙ ap (λ xs. front ++ xs) (h.3.4 ∙ ap (λ xs. xs ++ behind) sign)) ∙ append_assoc front (61 ∷ behind) rest in
    let first : after_spaces (front ++ (61 ∷ (behind ++ rest))) ≡ 61 ∷ (behind ++ rest) = spaces_pass front (61 ∷ (behind ++ rest)) (spaces_all front h.2) refl in
    let second : after_spaces (behind ++ rest) ≡ rest = spaces_pass behind rest (spaces_all behind h.3.3) k in
    ap after_equals whole
    ∙ ap (λ xs. option_and_then (λ left. Some (after_spaces left)) (after_word (codes "=") xs)) first
    ∙ ap (option_and_then (λ left. Some (after_spaces left))) (word_pass (codes "=") (behind ++ rest))
    ∙ ap (λ xs. Some xs) second

-- values
digits_all : (cs : List ℕ) → AllPass is_ascii_digit cs → list_all is_ascii_digit cs ≡ true
digits_all [] h = refl
digits_all (c ∷ cs) h = and_from (is_ascii_digit c) (list_all is_ascii_digit cs) h.0 (digits_all cs h.1)

version_may : (value : List ℕ) → Spells version_number value → is_version value ≡ true
unfolding Spells is_version
version_may value h =
    let mark : h.0 ≡ codes "1." = word-to (codes "1.") h.0 h.2 in
    let first = digit-of_one.to h.3.0 h.3.2 in
    let others = many-to digit is_ascii_digit digit-of_one h.3.1 h.3.3 in
    let digits : h.1 ≡ first.0 ∷ h.3.1 = h.3.4 ∙ ap (λ xs. xs ++ h.3.1) first.2 in
    let whole : value ≡ 49 ∷ 46 ∷ first.0 ∷ h.3.1 = h.4 ∙ ap (λ xs. xs ++ h.1) mark ∙ ap (λ xs. 49 ∷ 46 ∷ xs) digits in
    ap is_version whole ∙ checked first.0 h.3.1 first.1 others
  where
    checked : (c : ℕ) (cs : List ℕ) → is_ascii_digit c ≡ true → AllPass is_ascii_digit cs → is_version (49 ∷ 46 ∷ c ∷ cs) ≡ true
    checked c cs h all =
        and_from _ _ (let long : nat_lt 2 (length (49 ∷ 46 ∷ c ∷ cs)) ≡ true = lt-ltb 2 (length (49 ∷ 46 ∷ c ∷ cs)) (omega arith) in long)
        (and_from (is_ascii_digit c) (list_all is_ascii_digit cs) h (digits_all cs all))

value_may : (k : Setting) (value : List ℕ) → Spells (value_form k) value → may_be k value ≡ true
unfolding Spells is_encoding is_yes_or_no
value_may Version value h = version_may value h
value_may Encoding value h =
    elim h [
      | inl t ↦ or_left (str_eq_ignore_ascii_case value (codes "UTF-8")) (str_eq_ignore_ascii_case value (codes "US-ASCII")) (any_case-to (codes "UTF-8") value t)
      | inr t ↦ or_right (str_eq_ignore_ascii_case value (codes "UTF-8")) (str_eq_ignore_ascii_case value (codes "US-ASCII")) (any_case-to (codes "US-ASCII") value t)
    ]
value_may Standalone value h =
    elim h [
      | inl t ↦ or_left (bytes_eq value (codes "yes")) (bytes_eq value (codes "no")) ((bytes_eq-Decides value (codes "yes")).1 (word-to (codes "yes") value t))
      | inr t ↦ or_right (bytes_eq value (codes "yes")) (bytes_eq value (codes "no")) ((bytes_eq-Decides value (codes "no")).1 (word-to (codes "no") value t))
    ]

-- no value has a quote in it
abbrev unquoted : ℕ → Bool
unquoted c = not (is_quote c)

value_unquoted : (k : Setting) (value : List ℕ) → Spells (value_form k) value → AllPass unquoted value
unfolding form_passes word one_of in_any_case
value_unquoted Version value h = form_pass unquoted version_number value refl h
value_unquoted Encoding value h = form_pass unquoted encoding_name value refl h
value_unquoted Standalone value h = form_pass unquoted yes_or_no value refl h

other_byte : (q c : ℕ) → is_quote q ≡ true → unquoted c ≡ true → (c == q) ≡ false
other_byte q c h k =
    elim (cases_Bool (c == q)) [
      | inl e ↦ absurd (let same : c ≡ q = eqb-true c q e in let bad : false ≡ true = sym (ap (λ (b : Bool). not b) h) ∙ ap unquoted (sym same) ∙ k in cc)
      | inr e ↦ e
    ]

others : (q : ℕ) (cs : List ℕ) → is_quote q ≡ true → AllPass unquoted cs → AllByRecursion (λ (c : ℕ). (c == q) ≡ false) cs
others q [] h all = tt
others q (c ∷ cs) h all = (other_byte q c h all.0, others q cs h all.1)

within_pass : (k : Setting) (q : ℕ) (value rest : List ℕ) → is_quote q ≡ true → Spells (value_form k) value → after_value k (q ∷ (value ++ q ∷ rest)) ≡ Some rest
unfolding after_value
within_pass k q value rest h s =
    let p : ℕ → Bool = λ b. b == q in
    let ys = value ++ q ∷ rest in
    let place : position_or_len p ys ≡ length value = first_at p value rest q (others q value h (value_unquoted k value s)) (eq-eqb q q refl) in
    let found : before_first p ys ≡ value = ap (λ n. take n ys) place ∙ take_at value (q ∷ rest) (length value) refl in
    let size : length ys ≡ length value + suc (length rest) = length-append value (q ∷ rest) in
    let fits : nat_lt (length value + 1) (suc (length ys)) ≡ true = lt-ltb (length value + 1) (suc (length ys)) (omega arith) in
    let tests : (is_quote q && nat_lt (length value + 1) (suc (length ys)) && may_be k value) ≡ true = and_from _ _ (and_from _ _ h fits) (value_may k value s) in
    let count : length value + 2 ≡ suc (length value + 1) = omega arith in
    let left : drop (length value + 2) (q ∷ ys) ≡ rest = ap (λ n. drop n (q ∷ ys)) count ∙ behind value rest in
    ap (λ v. cond (is_quote q && nat_lt (length v + 1) (suc (length ys)) && may_be k v) (Some (drop (length v + 2) (q ∷ ys))) None) found
    ∙ ap (λ (b : Bool). cond b (Some (drop (length value + 2) (q ∷ ys))) None) tests
    ∙ ap (λ xs. Some xs) left
  where
    behind : (value rest : List ℕ) → drop (length value + 1) (value ++ q ∷ rest) ≡ rest
    behind [] rest = refl
    behind (v ∷ value) rest = (let e : suc (length value) + 1 ≡ suc (length value + 1) = omega arith in ap (λ n. drop n (v ∷ (value ++ q ∷ rest))) e) ∙ behind value rest

-- a value in quotes: the quote, and what is left
pub record InQuotes (k : Setting) (s : List ℕ) : Type 0 where
  pub quote : ℕ
  pub value : List ℕ
  pub is_one : is_quote quote ≡ true
  pub spelled : Spells (value_form k) value
  pub is : s ≡ quote ∷ (value ++ quote ∷ [])

in_quotes : (k : Setting) (s : List ℕ) → Spells (quoted (value_form k)) s → InQuotes k s
unfolding Spells
in_quotes k s h = elim h [ inl t ↦ by_quote 39 refl t | inr t ↦ by_quote 34 refl t ]
  where
    by_quote : (q : ℕ) → is_quote q ≡ true → Spells (within q (value_form k)) s → InQuotes k s
    by_quote q is t =
        let first : t.0 ≡ q ∷ [] = t.2.2 ∙ ap (λ x. x ∷ []) (eqb-true t.2.0 q t.2.1) in
        let last : t.3.1 ≡ q ∷ [] = t.3.3.2 ∙ ap (λ x. x ∷ []) (eqb-true t.3.3.0 q t.3.3.1) in
        record {
          quote = q;
          value = t.3.0;
          is_one = is;
          spelled = t.3.2;
          is = t.4 ∙ ap (λ xs. xs ++ t.1) first ∙ ap (λ xs. q ∷ xs) (t.3.4 ∙ ap (λ xs. t.3.0 ++ xs) last);
        }

quoted_pass : (k : Setting) (s rest : List ℕ) → Spells (quoted (value_form k)) s → after_value k (s ++ rest) ≡ Some rest
quoted_pass k s rest h =
    let t = in_quotes k s h in
    ap (λ xs. after_value k (xs ++ rest)) t.is
    ∙ ap (λ xs. after_value k (t.quote ∷ xs)) (append_assoc t.value (t.quote ∷ []) rest)
    ∙ within_pass k t.quote t.value rest t.is_one t.spelled

quote_no_space : (q : ℕ) (rest : List ℕ) → is_quote q ≡ true → NoSpace (q ∷ rest)
unfolding is_space
quote_no_space q rest h = grind (arith, nat_tests)

quoted_no_space : (k : Setting) (s rest : List ℕ) → Spells (quoted (value_form k)) s → NoSpace (s ++ rest)
quoted_no_space k s rest h =
    let t = in_quotes k s h in
    subst (λ xs. NoSpace (xs ++ rest)) (sym t.is) (quote_no_space t.quote ((t.value ++ t.quote ∷ []) ++ rest) t.is_one)

-- settings
word_no_space : (k : Setting) (rest : List ℕ) → NoSpace (word_of k ++ rest)
unfolding is_space
word_no_space Version rest = refl
word_no_space Encoding rest = refl
word_no_space Standalone rest = refl

spaced_word_pass : (k : Setting) (s rest : List ℕ) → Spells (some (one space)) s → after_spaced_word k (s ++ (word_of k ++ rest)) ≡ Some rest
unfolding after_spaced_word
spaced_word_pass k s rest h =
    ap (option_and_then (after_word (word_of k))) (some_spaces_pass s (word_of k ++ rest) h (word_no_space k rest)) ∙ word_pass (word_of k) rest

-- the parts of a setting
record Parts (k : Setting) (s rest : List ℕ) : Type 0 where
  before : List ℕ
  sign : List ℕ
  value : List ℕ
  before_spelled : Spells (some (one space)) before
  sign_spelled : Spells equals sign
  value_spelled : Spells (quoted (value_form k)) value
  is : s ++ rest ≡ before ++ (word_of k ++ (sign ++ (value ++ rest)))

parts_of : (k : Setting) (s rest : List ℕ) → Spells (setting_form k) s → Parts k s rest
unfolding Spells
parts_of k s rest h =
    let name : h.3.0 ≡ word_of k = word-to (word_of k) h.3.0 h.3.2 in
    let sign = h.3.3.0 in
    let value = h.3.3.1 in
    let behind : h.3.1 ++ rest ≡ sign ++ (value ++ rest) = ap (λ xs. xs ++ rest) h.3.3.4 ∙ append_assoc sign value rest in
    record {
      before = h.0;
      sign = sign;
      value = value;
      before_spelled = h.2;
      sign_spelled = h.3.3.2;
      value_spelled = h.3.3.3;
      is = ap (λ xs. xs ++ rest) (h.4 ∙ ap (λ xs. h.0 ++ xs) (h.3.4 ∙ ap (λ xs. xs ++ h.3.1) name))
          ∙ append_assoc h.0 (word_of k ++ h.3.1) rest
          ∙ ap (λ xs. h.0 ++ xs) (append_assoc (word_of k) h.3.1 rest ∙ ap (λ xs. word_of k ++ xs) behind);
    }

setting_named : (k : Setting) (s rest : List ℕ) → Spells (setting_form k) s → is_some (after_spaced_word k (s ++ rest)) ≡ true
setting_named k s rest h =
    let t = parts_of k s rest h in
    ap (λ xs. is_some (after_spaced_word k xs)) t.is
    ∙ ap is_some (spaced_word_pass k t.before (t.sign ++ (t.value ++ rest)) t.before_spelled)

setting_pass : (k : Setting) (s rest : List ℕ) → Spells (setting_form k) s → after_setting k (s ++ rest) ≡ Some rest
unfolding after_setting
setting_pass k s rest h =
    let t = parts_of k s rest h in
    ap (after_setting k) t.is
    ∙ ap (option_and_then (λ named. option_and_then (after_value k) (after_equals named))) (spaced_word_pass k t.before (t.sign ++ (t.value ++ rest)) t.before_spelled)
    ∙ ap (option_and_then (after_value k)) (equals_pass t.sign (t.value ++ rest) t.sign_spelled (quoted_no_space k t.value rest t.value_spelled))
    ∙ quoted_pass k t.value rest t.value_spelled

-- where another word, or none, stands behind white space, a setting is left out
word_absent : (k : Setting) (s tail : List ℕ) → AllPass is_space s → NoSpace tail → after_word (word_of k) tail ≡ None → after_spaced_word k (s ++ tail) ≡ None
unfolding after_spaced_word after_some_spaces
word_absent k [] tail h n e = ap (λ (b : Bool). option_and_then (after_word (word_of k)) (cond b (Some (after_spaces tail)) None)) n
word_absent k (x ∷ s) tail h n e =
    ap (λ (b : Bool). option_and_then (after_word (word_of k)) (cond b (Some (after_spaces (x ∷ (s ++ tail)))) None)) h.0
    ∙ ap (after_word (word_of k)) (space_on x (s ++ tail) h.0 ∙ spaces_pass s tail h.1 n) ∙ e

optional_pass : (k : Setting) (s rest : List ℕ) → Spells (optional (setting_form k)) s → after_spaced_word k rest ≡ None → after_optional_setting k (s ++ rest) ≡ Some rest
unfolding Spells after_optional_setting
optional_pass k s rest h e =
    elim h [
      | inl t ↦ ap (λ (b : Bool). cond b (after_setting k (s ++ rest)) (Some (s ++ rest))) (setting_named k s rest t) ∙ setting_pass k s rest t
      | inr t ↦ ap (λ xs. after_optional_setting k (xs ++ rest)) t ∙ ap (λ o. cond (is_some o) (after_setting k rest) (Some rest)) e
    ]

-- what closes the declaration
abbrev closing : Form
closing = seq spaces (word (codes "?>"))

closing_is : (s : List ℕ) → Spells closing s → (t : List ℕ) × AllPass is_space t × (s ≡ t ++ codes "?>")
unfolding Spells
closing_is s h = (h.0, spaces_all h.0 h.2, h.4 ∙ ap (λ xs. h.0 ++ xs) (word-to (codes "?>") h.1 h.3))

closing_absent : (k : Setting) (s : List ℕ) → Spells closing s → after_spaced_word k s ≡ None
unfolding is_space after_word
closing_absent k s h =
    let t = closing_is s h in
    ap (after_spaced_word k) t.2 ∙ word_absent k t.0 (codes "?>") t.1 refl (none k)
  where
    none : (k : Setting) → after_word (word_of k) (codes "?>") ≡ None
    none Version = refl
    none Encoding = refl
    none Standalone = refl

-- no encoding stands where `standalone` does
later_absent : (s rest : List ℕ) → Spells (optional (setting_form Standalone)) s → after_spaced_word Encoding rest ≡ None → after_spaced_word Encoding (s ++ rest) ≡ None
unfolding Spells after_word
later_absent s rest h e =
    elim h [
      | inl t ↦ (let p = parts_of Standalone s rest t in
          let w = some_spaces_all p.before p.before_spelled in
          ap (after_spaced_word Encoding) (p.is ∙ ap (λ xs. xs ++ (word_of Standalone ++ (p.sign ++ (p.value ++ rest)))) w.4)
          ∙ word_absent Encoding (w.0 ∷ w.1) (word_of Standalone ++ (p.sign ++ (p.value ++ rest))) (w.2, w.3) (word_no_space Standalone (p.sign ++ (p.value ++ rest))) refl)
      | inr t ↦ ap (λ xs. after_spaced_word Encoding (xs ++ rest)) t ∙ e
    ]

closing_passes : (s : List ℕ) → Spells closing s → is_end_of_declaration (Some s) ≡ true
unfolding is_space
closing_passes s h =
    let t = closing_is s h in
    ap (λ xs. is_end_of_declaration (Some xs)) t.2
    ∙ ap (λ xs. bytes_eq xs (codes "?>")) (spaces_pass t.0 (codes "?>") t.1 refl)

declaration_pass : (xs : List ℕ) → Spells declaration_form xs → is_xml_declaration xs ≡ true
unfolding Spells is_xml_declaration after_settings
declaration_pass xs h =
    let version = h.3.0 in
    let encoding = h.3.3.0 in
    let standalone = h.3.3.3.0 in
    let end = h.3.3.3.1 in
    let end_spelled : Spells closing end = h.3.3.3.3 in
    let mark : h.0 ≡ codes "<?xml" = word-to (codes "<?xml") h.0 h.2 in
    let last : h.3.3.1 ≡ standalone ++ end = h.3.3.3.4 in
    let middle : h.3.1 ≡ encoding ++ (standalone ++ end) = h.3.3.4 ∙ ap (λ ys. encoding ++ ys) last in
    let whole : xs ≡ codes "<?xml" ++ (version ++ (encoding ++ (standalone ++ end))) =
    h.4 ∙ ap (λ ys. ys ++ h.1) mark ∙ ap (λ ys. codes "<?xml" ++ ys) (h.3.4 ∙ ap (λ ys. version ++ ys) middle) in
    ap is_xml_declaration whole
    ∙ ap (λ o. is_end_of_declaration (option_and_then (λ a. option_and_then (λ b. option_and_then (after_optional_setting Standalone) (after_optional_setting Encoding b)) (after_setting Version a)) o))
    (word_pass (codes "<?xml") (version ++ (encoding ++ (standalone ++ end))))
    ∙ ap (λ o. is_end_of_declaration (option_and_then (λ b. option_and_then (after_optional_setting Standalone) (after_optional_setting Encoding b)) o))
    (setting_pass Version version (encoding ++ (standalone ++ end)) h.3.2)
    ∙ ap (λ o. is_end_of_declaration (option_and_then (after_optional_setting Standalone) o))
    (optional_pass Encoding encoding (standalone ++ end) h.3.3.2 (later_absent standalone end h.3.3.3.2 (closing_absent Encoding end end_spelled)))
    ∙ ap is_end_of_declaration (optional_pass Standalone standalone end h.3.3.3.2 (closing_absent Standalone end end_spelled))
    ∙ closing_passes end end_spelled

-- every character is one byte
declaration_small : (cs : List ℕ) → Spells declaration_form cs → AllPass is_small cs
unfolding form_passes word one_of in_any_case
declaration_small cs h = form_pass is_small declaration_form cs refl h

pub declarations_are_spelled : DeclarationsAreSpelled
declarations_are_spelled bytes u = (
  λ h. (let s = declaration_read bytes h in
      subst (λ xs. Spells declaration_form xs) (sym (chars-IsAscii bytes (small_ascii bytes (declaration_small bytes s)))) s),
  λ s. (let same : chars bytes ≡ bytes = sym (encodes-IsAscii (chars bytes) (small_ascii (chars bytes) (declaration_small (chars bytes) s))) ∙ encodes-chars bytes u in
      declaration_pass bytes (subst (λ xs. Spells declaration_form xs) same s)),
)
