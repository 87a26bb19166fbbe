-- The test from below is exact.
use Rattle.std.proofs.Common.{◌≡◌, ℕ, List, [], ◌∷◌, Bool, true, false, not, ◌&&◌, ◌||◌, Some, refl, sym, subst, ⊎_elim, ◌∙◌, true≢false, length, ◌≤◌, arith}
use Rattle.std.specs.Prelude.{IsTrue, slice_get}
use Rattle.std.specs.Str.{is_utf8}
use Rattle.nx_base.specs.declared.name.Name.{Name}
use Rattle.nx_base.specs.Characters.{is_of_chars, is_blank}
use Rattle.nx_base.specs.Trees.{Attribute, Children, nil, string, element, strings}
use Rattle.rng_types.specs.Spaces.{words}
use Rattle.rng_types.proofs.Collapsed.{words-blank}
use Rattle.rng_types.specs.declared.datatype.Datatype.{Datatype}
use Rattle.rng_types.specs.declared.datatype.Except.{Except}
use Rattle.rng_core.specs.Names.{Class, has_name, has_attribute_name}
use Rattle.rng_core.specs.Patterns.{Pattern, Definition, typed, literal, listed, attribute, ref}
use Rattle.rng_core.specs.Matching.{no_attribute, then_second, string_of_first, no_child, string_to_first, string_to_second, no_string, one_string as a_string, as_they_stand, Matches, by_first, by_second, by_group, by_empty, by_text, by_one, by_more, by_interleave, by_element, by_attribute, by_blank_attribute, by_data, by_value, by_list}
use Rattle.rng_core.specs.Soundness.{IsSoundPattern, sound_data, sound_value, sound_list}
use Rattle.rng_core.specs.declared.name_class.Bearer.TheVariants.{Element as AnElement, Attribute as AnAttribute}
use Rattle.rng_core.proofs.Borne.{overlap_found, overlap_there}
use Rattle.rng_types.specs.Types.{Accepts, TakesAway}
use Rattle.rng_types.specs.WellMade.{is_well_made}
use Rattle.rng_types.specs.MemberTest.{has_member, most_excepts}
use Rattle.rng_types.proofs.Exist.{members_exist, texts_give_members}
use Rattle.std.specs.List.{AllByRecursion}
use Rattle.rng_kept.specs.Nullable.{nullable}
use Rattle.rng_kept.specs.Lists.{has_no_list}
use Rattle.rng_residual.proofs.SmallPatterns.{and_true, or_true, order_all, shuffle_all, shuffle_none}
use Rattle.rng_residual.proofs.Nullable.{nullable_in, nullable_out, true_and, true_or_left, true_or_right}
use Rattle.rng_kept.specs.SolidStrings.{has_words}
use Rattle.rng_residual.proofs.Members.{solid}
use Rattle.rng_residual.proofs.Cleaning.{own_text}
use Rattle.rng_residual.proofs.Joining.{cat, cat_order, cat_shuffle, app, app_split}
use Rattle.rng_live.specs.Dead.{IsOfUtf8, ValuesAre, no_values, one_value, StringsAre, no_strings, one_string, one_element, IsOfChars, Lives, IsDead}
use Rattle.rng_live.proofs.Fitting.{Fits, fits_not_allowed, fits_empty, fits_text, fits_data, fits_value, fits_list, fits_attribute, fits_ref, fits_one_or_more, fits_choice, fits_group, fits_interleave, AllFit, AreDerived, AreClosed}
use Rattle.rng_live.specs.Living.{has_some_name, has_some_attribute_name, has_string, lives_with, definition_lives_with}
use Rattle.rng_live.specs.Conditions.{is_marked}
use Rattle.rng_live.proofs.Claims.{IsDeadDefinition, MarksAreExact, DefinitionsAreExact}
use Rattle.rng_live.proofs.Texts.{words_are_text, values_left, values_right, strings_front, strings_back, strings_left, strings_right, values_joined, strings_joined, strings_weakly, nothing_of_chars, nothing_of_utf8}

-- ---- names of classes

pub name_in : (c : Class) (n : Name) → IsTrue (has_name c n) → has_some_name c ≡ true
name_in c n h = overlap_found AnElement c c (record { name = n; first = h; second = h })

pub name_out : (c : Class) → has_some_name c ≡ true → (n : Name) × IsTrue (has_name c n)
name_out c h = let w = overlap_there AnElement c c h in (w.name, w.first)

pub attribute_name_in : (c : Class) (n : Name) → IsTrue (has_attribute_name c n) → has_some_attribute_name c ≡ true
attribute_name_in c n h = overlap_found AnAttribute c c (record { name = n; first = h; second = h })

pub attribute_name_out : (c : Class) → has_some_attribute_name c ≡ true → (n : Name) × IsTrue (has_attribute_name c n)
attribute_name_out c h = let w = overlap_there AnAttribute c c h in (w.name, w.first)

-- ---- members of types

few_excepts : {count : ℕ} {type : Datatype} {es : List Except} → IsSoundPattern count (typed type es) → IsTrue (is_well_made type) × (length es ≤ most_excepts)
few_excepts {es = es} (sound_data made few e) = (made, omega (arith, few))

pub member_in : {count : ℕ} {type : Datatype} {es : List Except} {t : List ℕ} → IsSoundPattern count (typed type es) → IsTrue (is_utf8 t) → Accepts type t → AllByRecursion (λ except. TakesAway type t except → ⊥) es → has_member type es false ≡ true
member_in {type = type} {es = es} {t = t} s u a d =
    let m = few_excepts s in
    (members_exist type es false m.0 m.1).1 (texts_give_members type es false t m.0 m.1 u (record { accepted = a; left = d; token = λ f. absurd (true≢false (sym f)) }))

pub sound_literal : {count : ℕ} {type : Datatype} {t : List ℕ} → IsSoundPattern count (literal type t) → Accepts type t × IsTrue (is_of_chars t)
sound_literal (sound_value made a c) = (a, c)

-- ---- strings

-- some string of Chars is matched
pub record AString (g : List Definition) (p : Pattern) : Type 0 where
  pub text : List ℕ
  pub of_chars : IsTrue (is_of_chars text)
  pub matched : Matches g p [] (string text nil)

module _ {g : List Definition} where
  listed_in : {count : ℕ} {p : Pattern} (t : List ℕ) → IsSoundPattern count p → has_no_list p ≡ true → IsTrue (is_utf8 t) → Matches g p [] (strings (words t)) → (has_words p || nullable p) ≡ true
  listed_in {count = count} {p = p} t s f u m = go (is_blank t) refl
    where
      go : (b : Bool) → is_blank t ≡ b → (has_words p || nullable p) ≡ true
      go true e = true_or_right (has_words p) (nullable p) (nullable_in (subst (λ ws. Matches g p [] (strings ws)) (words-blank t e) m))
      go false e = true_or_left (has_words p) (nullable p) (((solid {g = g}).all.passes t u e).list_in p (record { count = count; sound = sound_list s; flat = f }) (by_list m))

  pub string_in : {named : ℕ → Bool} {p : Pattern} {t : List ℕ} → Fits named p → IsTrue (is_utf8 t) → Matches g p [] (string t nil) → has_string p ≡ true
  string_in f u (by_text s) = refl
  string_in f u (by_value a s) = refl
  string_in (fits_data s) u (by_data a d) = member_in s u a d
  string_in {t = t} (fits_list s h z f) u (by_list m) = listed_in t s h u m
  string_in (fits_choice f e) u (by_first {p = p} {q = q} m) = true_or_left (has_string p) (has_string q) (string_in f u m)
  string_in (fits_choice f e) u (by_second {p = p} {q = q} m) = true_or_right (has_string p) (has_string q) (string_in e u m)
  string_in (fits_group f e) u (by_group {p = p} {q = q} no_attribute then_second m n) =
      true_or_right (has_string p && nullable q) (nullable p && has_string q) (true_and _ _ (nullable_in m) (string_in e u n))
  string_in (fits_group f e) u (by_group {p = p} {q = q} no_attribute (string_of_first then_second) m n) =
      true_or_left (has_string p && nullable q) (nullable p && has_string q) (true_and _ _ (string_in f u m) (nullable_in n))
  string_in (fits_interleave f e) u (by_interleave {p = p} {q = q} no_attribute (string_to_second no_child) m n) =
      true_or_right (has_string p && nullable q) (nullable p && has_string q) (true_and _ _ (nullable_in m) (string_in e u n))
  string_in (fits_interleave f e) u (by_interleave {p = p} {q = q} no_attribute (string_to_first no_child) m n) =
      true_or_left (has_string p && nullable q) (nullable p && has_string q) (true_and _ _ (string_in f u m) (nullable_in n))
  string_in (fits_one_or_more f) u (by_one m) = string_in f u m
  string_in (fits_one_or_more f) u (by_more no_attribute then_second m n) = string_in (fits_one_or_more f) u n
  string_in (fits_one_or_more f) u (by_more no_attribute (string_of_first then_second) m n) = string_in f u m

  pub listed_out : {count : ℕ} {p : Pattern} → IsSoundPattern count p → has_no_list p ≡ true → (has_words p || nullable p) ≡ true → AString g (listed p)
  listed_out {count = count} {p = p} s f h =
      ⊎_elim
      (λ e. let w = (solid {g = g}).none_else.list_out count p s f e in record { text = w.text; of_chars = w.of_chars; matched = w.matched })
      (λ e. record { text = []; of_chars = nothing_of_chars; matched = by_list (subst (λ ws. Matches g p [] (strings ws)) (sym (words-blank [] refl)) (nullable_out p e)) })
      (or_true (has_words p) (nullable p) h)

  pub data_out : {count : ℕ} {type : Datatype} {es : List Except} → IsSoundPattern count (typed type es) → has_member type es false ≡ true → AString g (typed type es)
  data_out {type = type} {es = es} s h =
      let m = few_excepts s in
      let w = (members_exist type es false m.0 m.1).0 h in
      record { text = w.text; of_chars = w.characters; matched = by_data w.member.accepted w.member.left }

  pub string_out : {named : ℕ → Bool} {p : Pattern} → Fits named p → has_string p ≡ true → AString g p
  string_out fits_text h = record { text = []; of_chars = nothing_of_chars; matched = by_text (a_string no_string) }
  string_out (fits_data s) h = data_out s h
  string_out (fits_value {text = t} s) h = let w = sound_literal s in record { text = t; of_chars = w.1; matched = own_text w.0 }
  string_out (fits_list s f z e) h = listed_out s f h
  string_out (fits_one_or_more f) h = let w = string_out f h in record { text = w.text; of_chars = w.of_chars; matched = by_one w.matched }
  string_out (fits_choice {p = p} {q = q} f e) h =
      ⊎_elim
      (λ i. let w = string_out f i in record { text = w.text; of_chars = w.of_chars; matched = by_first w.matched })
      (λ i. let w = string_out e i in record { text = w.text; of_chars = w.of_chars; matched = by_second w.matched })
      (or_true (has_string p) (has_string q) h)
  string_out (fits_group {p = p} {q = q} f e) h =
      ⊎_elim
      (λ i.
      let d = and_true (has_string p) (nullable q) i in
      let w = string_out f d.0 in
      record { text = w.text; of_chars = w.of_chars; matched = by_group no_attribute (order_all _) w.matched (nullable_out q d.1) })
      (λ i.
      let d = and_true (nullable p) (has_string q) i in
      let w = string_out e d.1 in
      record { text = w.text; of_chars = w.of_chars; matched = by_group no_attribute then_second (nullable_out p d.0) w.matched })
      (or_true (has_string p && nullable q) (nullable p && has_string q) h)
  string_out (fits_interleave {p = p} {q = q} f e) h =
      ⊎_elim
      (λ i.
      let d = and_true (has_string p) (nullable q) i in
      let w = string_out f d.0 in
      record { text = w.text; of_chars = w.of_chars; matched = by_interleave no_attribute (shuffle_all _) w.matched (nullable_out q d.1) })
      (λ i.
      let d = and_true (nullable p) (has_string q) i in
      let w = string_out e d.1 in
      record { text = w.text; of_chars = w.of_chars; matched = by_interleave no_attribute (shuffle_none _) (nullable_out p d.0) w.matched })
      (or_true (has_string p && nullable q) (nullable p && has_string q) h)
  string_out fits_not_allowed h = cc
  string_out fits_empty h = cc
  string_out (fits_attribute l z f) h = cc
  string_out (fits_ref n) h = cc

-- ---- what is matched lives by closed marks

module _ {g : List Definition} {named : ℕ → Bool} (fit : AllFit named g) (marks : List Bool) (are : AreClosed g marks) where
  pub lives_in : {p : Pattern} {a : List Attribute} {c : Children} → Fits named p → ValuesAre IsOfUtf8 a → StringsAre IsOfUtf8 c → Matches g p a c → lives_with marks p ≡ true
  lives_in f v s by_empty = refl
  lives_in f v s (by_text t) = refl
  lives_in (fits_data r) v (one_string u s) (by_data a d) = member_in r u.of_utf8 a d
  lives_in f v s (by_value a e) = refl
  lives_in (fits_list {p = p} r h z f) v (one_string u s) (by_list {text = t} m) = true_and (has_words p || nullable p) (lives_with marks p) (listed_in t r h u.of_utf8 m) (lives_in f no_values (words_are_text t u.of_utf8) m)
  lives_in (fits_choice f e) v s (by_first {p = p} {q = q} m) = true_or_left (lives_with marks p) (lives_with marks q) (lives_in f v s m)
  lives_in (fits_choice f e) v s (by_second {p = p} {q = q} m) = true_or_right (lives_with marks p) (lives_with marks q) (lives_in e v s m)
  lives_in (fits_group f e) v s (by_group {p = p} {q = q} x o m n) =
      true_and (lives_with marks p) (lives_with marks q) (lives_in f (values_left x v) (strings_front o s) m) (lives_in e (values_right x v) (strings_back o s) n)
  lives_in (fits_interleave f e) v s (by_interleave {p = p} {q = q} x o m n) =
      true_and (lives_with marks p) (lives_with marks q) (lives_in f (values_left x v) (strings_left o s) m) (lives_in e (values_right x v) (strings_right o s) n)
  lives_in (fits_one_or_more f) v s (by_one m) = lives_in f v s m
  lives_in (fits_one_or_more f) v s (by_more x o m n) = lives_in f (values_left x v) (strings_front o s) m
  lives_in (fits_ref r) v (one_element w k s) (by_element {i = i} {d = d} {n = n} h c y m) =
      are.closed i d h (true_and (has_some_name d.class) (lives_with marks d.content) (name_in d.class n c) (lives_in (fit.content i d r h) w (strings_weakly nothing_of_utf8 y k) m))
  lives_in (fits_attribute l z f) (one_value u v) s (by_attribute {class = c} {p = p} {a = a} h m) =
      true_and (has_some_attribute_name c && (has_string p || nullable p)) (lives_with marks p)
      (true_and (has_some_attribute_name c) (has_string p || nullable p) (attribute_name_in c a.name h) (true_or_left (has_string p) (nullable p) (string_in f u.of_utf8 m))) (lives_in f no_values (one_string u no_strings) m)
  lives_in (fits_attribute l z f) v s (by_blank_attribute {class = c} {p = p} {a = a} h b m) =
      true_and (has_some_attribute_name c && (has_string p || nullable p)) (lives_with marks p)
      (true_and (has_some_attribute_name c) (has_string p || nullable p) (attribute_name_in c a.name h) (true_or_right (has_string p) (nullable p) (nullable_in m))) (lives_in f no_values no_strings m)

-- ---- what lives by derived marks lives

lives_string : {g : List Definition} {p : Pattern} → AString g p → Lives g p
lives_string w = record { attributes = []; children = string w.text nil; values = no_values; strings_are = one_string (record { of_chars = w.of_chars }) no_strings; matched = w.matched }

module _ {g : List Definition} {named : ℕ → Bool} (marks : List Bool) (are : AreDerived named g marks) where
  attribute_lives : (c : Class) {p : Pattern} → Fits named p → has_some_attribute_name c ≡ true → (has_string p || nullable p) ≡ true → Lives g (attribute c p)
  attribute_lives c {p = p} f h k =
      let n = attribute_name_out c h in
      ⊎_elim
      (λ e.
      let w : AString g p = string_out f e in
      record {
        attributes = record { name = n.0; value = w.text } ∷ [];
        children = nil;
        values = one_value (record { of_chars = w.of_chars }) no_values;
        strings_are = no_strings;
        matched = by_attribute n.1 w.matched;
      })
      (λ e. record {
        attributes = record { name = n.0; value = [] } ∷ [];
        children = nil;
        values = one_value (record { of_chars = nothing_of_chars }) no_values;
        strings_are = no_strings;
        matched = by_blank_attribute n.1 refl (nullable_out p e);
      })
      (or_true (has_string p) (nullable p) k)

  pub lives_out : {p : Pattern} → Fits named p → lives_with marks p ≡ true → Lives g p
  lives_out fits_not_allowed h = cc
  lives_out fits_empty h = record { attributes = []; children = nil; values = no_values; strings_are = no_strings; matched = by_empty }
  lives_out fits_text h = record { attributes = []; children = nil; values = no_values; strings_are = no_strings; matched = by_text no_string }
  lives_out (fits_data s) h = lives_string (data_out s h)
  lives_out (fits_value {text = t} s) h = let w = sound_literal s in lives_string (record { text = t; of_chars = w.1; matched = own_text w.0 })
  lives_out (fits_list {p = p} s f z e) h = lives_string (listed_out s f (and_true (has_words p || nullable p) (lives_with marks p) h).0)
  lives_out (fits_attribute {class = c} {p = p} l z f) h = let d = and_true (has_some_attribute_name c) (has_string p || nullable p) (and_true (has_some_attribute_name c && (has_string p || nullable p)) (lives_with marks p) h).0 in attribute_lives c f d.0 d.1
  lives_out (fits_ref {i = i} n) h = are.derived i n h
  lives_out (fits_one_or_more f) h = let w = lives_out f h in record { attributes = w.attributes; children = w.children; values = w.values; strings_are = w.strings_are; matched = by_one w.matched }
  lives_out (fits_choice {p = p} {q = q} f e) h =
      ⊎_elim
      (λ i. let w = lives_out f i in record { attributes = w.attributes; children = w.children; values = w.values; strings_are = w.strings_are; matched = by_first w.matched })
      (λ i. let w = lives_out e i in record { attributes = w.attributes; children = w.children; values = w.values; strings_are = w.strings_are; matched = by_second w.matched })
      (or_true (lives_with marks p) (lives_with marks q) h)
  lives_out (fits_group {p = p} {q = q} f e) h =
      let d = and_true (lives_with marks p) (lives_with marks q) h in
      let w = lives_out f d.0 in
      let v = lives_out e d.1 in
      record {
        attributes = app w.attributes v.attributes;
        children = cat w.children v.children;
        values = values_joined w.values v.values;
        strings_are = strings_joined w.strings_are v.strings_are;
        matched = by_group (app_split w.attributes v.attributes) (cat_order w.children v.children) w.matched v.matched;
      }
  lives_out (fits_interleave {p = p} {q = q} f e) h =
      let d = and_true (lives_with marks p) (lives_with marks q) h in
      let w = lives_out f d.0 in
      let v = lives_out e d.1 in
      record {
        attributes = app w.attributes v.attributes;
        children = cat w.children v.children;
        values = values_joined w.values v.values;
        strings_are = strings_joined w.strings_are v.strings_are;
        matched = by_interleave (app_split w.attributes v.attributes) (cat_shuffle w.children v.children) w.matched v.matched;
      }

  -- one more mark
  pub definition_lives_out : (i : ℕ) (d : Definition) → slice_get g i ≡ Some d → Fits named d.content → definition_lives_with marks d ≡ true → Lives g (ref i)
  definition_lives_out i d is f h =
      let e = and_true (has_some_name d.class) (lives_with marks d.content) h in
      let n = name_out d.class e.0 in
      let w = lives_out f e.1 in
      record {
        attributes = [];
        children = element n.0 w.attributes w.children nil;
        values = no_values;
        strings_are = one_element w.values w.strings_are no_strings;
        matched = by_element is n.1 as_they_stand w.matched;
      }

-- ---- both

chars_are_utf8 : {t : List ℕ} → IsOfChars t → IsOfUtf8 t
chars_are_utf8 o = record { of_utf8 = (and_true _ _ o.of_chars).0 }

pub values_utf8 : {a : List Attribute} → ValuesAre IsOfChars a → ValuesAre IsOfUtf8 a
values_utf8 no_values = no_values
values_utf8 (one_value o v) = one_value (chars_are_utf8 o) (values_utf8 v)

pub strings_utf8 : {c : Children} → StringsAre IsOfChars c → StringsAre IsOfUtf8 c
strings_utf8 no_strings = no_strings
strings_utf8 (one_string o s) = one_string (chars_are_utf8 o) (strings_utf8 s)
strings_utf8 (one_element v k s) = one_element (values_utf8 v) (strings_utf8 k) (strings_utf8 s)

pub marks_are_exact : MarksAreExact
marks_are_exact named g fit marks derived closed p f =
    (λ dead. not_true (lives_with marks p) refl dead, λ no w. true≢false (sym (lives_in fit marks closed f (values_utf8 w.values) (strings_utf8 w.strings_are) w.matched) ∙ no))
  where
    not_true : (b : Bool) → lives_with marks p ≡ b → IsDead g p → lives_with marks p ≡ false
    not_true true e dead = absurd (dead (lives_out marks derived f e))
    not_true false e dead = e

module _ {g : List Definition} {i : ℕ} (d : Definition) (there : slice_get g i ≡ Some d) where
  not_dead : {a : List Attribute} {c : Children} → StringsAre IsOfChars c → Matches g (ref i) a c → IsDeadDefinition g d → ⊥
  not_dead (one_element {a = a} v k s) (by_element {d = e} {n = n} {k' = k'} h c y m) dead =
      let same : e ≡ d = cc in
      dead n (subst (λ (x : Definition). IsTrue (has_name x.class n)) same c)
      (record {
        attributes = a;
        children = k';
        values = v;
        strings_are = strings_weakly (record { of_chars = nothing_of_chars }) y k;
        matched = subst (λ (x : Definition). Matches g x.content a k') same m;
      })
  not_dead no_strings m dead = elim m [ ]
  not_dead (one_string t s) m dead = elim m [ ]

pub definitions_are_exact : DefinitionsAreExact
definitions_are_exact named g fit marks derived closed i d k there = (
  λ dead. is_false (is_marked marks i) refl dead,
  λ no n h w.
      let e = true_and (has_some_name d.class) (lives_with marks d.content) (name_in d.class n h) (lives_in fit marks closed (fit.content i d k there) (values_utf8 w.values) (strings_utf8 w.strings_are) w.matched) in
      true≢false (sym (closed.closed i d there e) ∙ no),
)
  where
    is_false : (b : Bool) → is_marked marks i ≡ b → IsDeadDefinition g d → is_marked marks i ≡ false
    is_false true e dead = absurd (let w = derived.derived i k e in not_dead d there w.strings_are w.matched dead)
    is_false false e dead = e
