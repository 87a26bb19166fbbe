-- Strings of a kind, in parts and in what is put together.
use Rattle.std.proofs.Common.{◌≡◌, ℕ, List, [], ◌∷◌, length, take, drop, refl, sym, subst, ⊎_elim, arith}
use Rattle.std.specs.Prelude.{IsTrue}
use Rattle.std.specs.Str.{is_utf8, IsAscii}
use Rattle.std.specs.List.{AllByRecursion, prefix_len, position_or_len}
use Rattle.std.proofs.lemmas.Bool.{cases_eq}
use Rattle.rng_types.specs.Spaces.{words}
use Rattle.rng_types.proofs.SplitWords.{words-found, no_words, utf8-leading, cut_before_space}
use Rattle.std.proofs.Common.{IsUtf8, ◌∙◌}
use Rattle.std.proofs.lemmas.Str.{IsUtf8-take, IsUtf8-drop, IsUtf8-from_is_utf8, IsUtf8-from_ascii, is_utf8-from_IsUtf8, chars-IsAscii}
use Rattle.nx_base.specs.Characters.{is_of_chars, is_blank, is_space}
use Rattle.nx_base.specs.Trees.{Attribute, Children, string, strings, without_blanks}
use Rattle.rng_core.specs.Matching.{Split, no_attribute, to_first, to_second, InOrder, then_second, string_of_first, element_of_first, Shuffle, no_child, string_to_first, string_to_second, element_to_first, element_to_second, Weakly, as_they_stand, with_blanks_left_out, as_one_empty_string}
use Rattle.rng_residual.proofs.SmallPatterns.{and_true, by_test}
use Rattle.rng_residual.proofs.Nullable.{true_and}
use Rattle.rng_residual.proofs.Joining.{cat, app}
use Rattle.rng_live.specs.Dead.{IsOfUtf8, ValuesAre, no_values, one_value, StringsAre, no_strings, one_string, one_element}

module _ {Ok : List ℕ → Type 0} where
  pub values_left : {a x y : List Attribute} → Split a x y → ValuesAre Ok a → ValuesAre Ok x
  values_left no_attribute v = v
  values_left (to_first s) (one_value o v) = one_value o (values_left s v)
  values_left (to_second s) (one_value o v) = values_left s v

  pub values_right : {a x y : List Attribute} → Split a x y → ValuesAre Ok a → ValuesAre Ok y
  values_right no_attribute v = v
  values_right (to_first s) (one_value o v) = values_right s v
  values_right (to_second s) (one_value o v) = one_value o (values_right s v)

  pub strings_front : {c x y : Children} → InOrder c x y → StringsAre Ok c → StringsAre Ok x
  strings_front then_second s = no_strings
  strings_front (string_of_first o) (one_string t s) = one_string t (strings_front o s)
  strings_front (element_of_first o) (one_element a k s) = one_element a k (strings_front o s)

  pub strings_back : {c x y : Children} → InOrder c x y → StringsAre Ok c → StringsAre Ok y
  strings_back then_second s = s
  strings_back (string_of_first o) (one_string t s) = strings_back o s
  strings_back (element_of_first o) (one_element a k s) = strings_back o s

  pub strings_left : {c x y : Children} → Shuffle c x y → StringsAre Ok c → StringsAre Ok x
  strings_left no_child s = s
  strings_left (string_to_first o) (one_string t s) = one_string t (strings_left o s)
  strings_left (string_to_second o) (one_string t s) = strings_left o s
  strings_left (element_to_first o) (one_element a k s) = one_element a k (strings_left o s)
  strings_left (element_to_second o) (one_element a k s) = strings_left o s

  pub strings_right : {c x y : Children} → Shuffle c x y → StringsAre Ok c → StringsAre Ok y
  strings_right no_child s = s
  strings_right (string_to_first o) (one_string t s) = strings_right o s
  strings_right (string_to_second o) (one_string t s) = one_string t (strings_right o s)
  strings_right (element_to_first o) (one_element a k s) = strings_right o s
  strings_right (element_to_second o) (one_element a k s) = one_element a k (strings_right o s)

  pub values_joined : {a y : List Attribute} → ValuesAre Ok a → ValuesAre Ok y → ValuesAre Ok (app a y)
  unfolding app
  values_joined no_values w = w
  values_joined (one_value o v) w = one_value o (values_joined v w)

  pub strings_joined : {x y : Children} → StringsAre Ok x → StringsAre Ok y → StringsAre Ok (cat x y)
  unfolding cat
  strings_joined no_strings w = w
  strings_joined (one_string t s) w = one_string t (strings_joined s w)
  strings_joined (one_element a k s) w = one_element a k (strings_joined s w)

  strings_without : {k : Children} → StringsAre Ok k → StringsAre Ok (without_blanks k)
  strings_without no_strings = no_strings
  strings_without (one_string {text = t} {rest = r} o s) =
      by_test (λ x. StringsAre Ok x) (is_blank t) (without_blanks r) (string t (without_blanks r)) (λ _. strings_without s) (λ _. one_string o (strings_without s))
  strings_without (one_element a k s) = one_element a k (strings_without s)

  pub strings_weakly : {k k' : Children} → Ok [] → Weakly k k' → StringsAre Ok k → StringsAre Ok k'
  strings_weakly none as_they_stand s = s
  strings_weakly none with_blanks_left_out s = strings_without s
  strings_weakly none as_one_empty_string s = one_string none no_strings

pub nothing_of_chars : IsTrue (is_of_chars [])
nothing_of_chars = let u : IsUtf8 [] = IsUtf8-from_ascii [] none in true_and _ _ (is_utf8-from_IsUtf8 [] u) (rw (chars-IsAscii [] none) refl)
  where
    none : IsAscii []
    none i = omega arith

pub nothing_of_utf8 : IsOfUtf8 []
nothing_of_utf8 = record { of_utf8 = (and_true _ _ nothing_of_chars).0 }

-- ---- the words of a text are text

words_text : (ws : List (List ℕ)) (text : List ℕ) → words text ≡ ws → IsUtf8 text → AllByRecursion (λ w. IsUtf8 w) ws
words_text [] text e u = tt
words_text (w ∷ more) text e u =
    let rest : List ℕ = drop (prefix_len is_space text) text in
    let k : ℕ = position_or_len is_space rest in
    ⊎_elim
    (λ blank. absurd (let none : w ∷ more ≡ [] = sym e ∙ no_words text blank in cc))
    (λ some.
    let found : words text ≡ take k rest ∷ words (drop k rest) = words-found text rest refl some in
    let same : w ≡ take k rest = cc in
    let behind : words (drop k rest) ≡ more = cc in
    let v : IsUtf8 rest = utf8-leading text u in
    (subst (λ x. IsUtf8 x) (sym same) (IsUtf8-take rest k v (cut_before_space rest)), words_text more (drop k rest) behind (IsUtf8-drop rest k v (cut_before_space rest))))
    (cases_eq (prefix_len is_space text) (length text))

strings_text : (ws : List (List ℕ)) → AllByRecursion (λ w. IsUtf8 w) ws → StringsAre IsOfUtf8 (strings ws)
strings_text [] u = no_strings
strings_text (w ∷ ws) u = one_string (record { of_utf8 = is_utf8-from_IsUtf8 w u.0 }) (strings_text ws u.1)

pub words_are_text : (t : List ℕ) → IsTrue (is_utf8 t) → StringsAre IsOfUtf8 (strings (words t))
words_are_text t u = strings_text (words t) (words_text (words t) t refl (IsUtf8-from_is_utf8 t u))
