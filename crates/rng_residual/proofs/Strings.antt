-- What is left behind a string matches exactly the rest.
use Rattle.std.proofs.Common.{◌≡◌, ℕ, List, [], ◌∷◌, Bool, true, false, refl, ⊎_elim}
use Rattle.std.specs.Prelude.{if◌then◌else◌}
use Rattle.nx_base.specs.Trees.{Attribute, Children, nil, string, strings}
use Rattle.rng_types.specs.Spaces.{words}
use Rattle.rng_types.specs.declared.datatype.Datatype.{Datatype}
use Rattle.rng_types.specs.declared.datatype.Except.{Except}
use Rattle.rng_core.specs.Patterns.{Pattern, Definition, not_allowed, empty, any_text, typed, literal, listed, attribute, ref, one_or_more, choice, group, interleave}
use Rattle.rng_core.specs.Matching.{no_attribute, then_second, string_of_first, string_to_first, string_to_second, AreStrings, one_string, Matches, by_first, by_second, by_group, by_empty, by_text, by_one, by_more, by_interleave, by_data, by_value, by_list}
use Rattle.rng_kept.specs.SmallPatterns.{group_of, interleave_of, star}
use Rattle.rng_kept.specs.Nullable.{nullable}
use Rattle.rng_kept.specs.Lists.{has_no_list, has_flat_lists}
use Rattle.rng_residual.proofs.SmallPatterns.{or_same, seq_same, mix_same, or_sides, never_no, nothing_inv, order_all}
use Rattle.rng_residual.proofs.Nullable.{nullable_in, nullable_out, star_in, star_none, star_out, group_parts, interleave_parts, go_on}
use Rattle.rng_residual.specs.Solid.{TestsIn}
use Rattle.rng_kept.specs.Strings.{is_data, is_value, Tests, after_by, word_tests, after_word, after_words, string_tests, after}
use Rattle.rng_residual.specs.Derivatives.{DerivesStrings}
use Rattle.rng_residual.proofs.Deciding.{is_data-Decides, is_value-Decides}
use Rattle.rng_residual.proofs.Keeping.{Keeps, after_keeps, lists_keep}

on_null : {g : List Definition} (p q : Pattern) {c : Children} → Matches g p [] nil → Matches g q [] c → Matches g (if nullable p then q else not_allowed) [] c
on_null p q m1 m2 = rw (nullable_in m1) m2

pub when_true : {g : List Definition} {q : Pattern} {a : List Attribute} {c : Children} (b : Bool) → Matches g (if b then q else not_allowed) a c → (b ≡ true) × Matches g q a c
when_true true m = (refl, m)
when_true false m = never_no m

text_of : {g : List Definition} {c : Children} → Matches g any_text [] c → AreStrings c
text_of (by_text s) = s

-- some such string is matched, and then the rest
pub record OneString (g : List Definition) (ok : List ℕ → Type 0) (p : Pattern) (c : Children) : Type 0 where
  pub text : List ℕ
  pub is_ok : ok text
  pub matched : Matches g p [] (string text c)

-- each leaf that the tests pass takes such a string
pub record TestsOut (g : List Definition) (ok : List ℕ → Type 0) (tests : Tests) : Type 0 where
  pub some_text : List ℕ
  pub some_ok : ok some_text
  pub data_out : (type : Datatype) (excepts : List Except) → tests.of_data type excepts ≡ true → OneString g ok (typed type excepts) nil
  pub value_out : (type : Datatype) (wanted : List ℕ) → tests.of_value type wanted ≡ true → OneString g ok (literal type wanted) nil
  pub list_out : (p : Pattern) → tests.of_list p ≡ true → OneString g ok (listed p) nil

module _ {g : List Definition} {C : Pattern → Type 0} {tests : Tests} where
  pub by_in : {p : Pattern} {t : List ℕ} {c : Children} → Keeps C → TestsIn g C tests t → C p → Matches g p [] (string t c) → Matches g (after_by tests p) [] c
  by_in k l f (by_text (one_string s)) = by_text s
  by_in k l f (by_value {type = type} {wanted = v} accepted same) = rw (l.value_in type v f (by_value accepted same)) by_empty
  by_in k l f (by_data {type = type} {excepts = es} accepted differs) = rw (l.data_in type es f (by_data accepted differs)) by_empty
  by_in k l f (by_list {p = p} m) = rw (l.list_in p f (by_list m)) by_empty
  by_in k l f (by_first {p = p} {q = q} m) = (or_same g (after_by tests p) (after_by tests q)).from (by_first (by_in k l (k.from_choice p q f).0 m))
  by_in k l f (by_second {p = p} {q = q} m) = (or_same g (after_by tests p) (after_by tests q)).from (by_second (by_in k l (k.from_choice p q f).1 m))
  by_in k l f (by_group {p = p} {q = q} no_attribute then_second m1 m2) =
      (or_same g (group_of (after_by tests p) q) (if nullable p then after_by tests q else not_allowed)).from (by_second (on_null p _ m1 (by_in k l (k.from_group p q f).1 m2)))
  by_in k l f (by_group {p = p} {q = q} no_attribute (string_of_first o) m1 m2) =
      (or_same g (group_of (after_by tests p) q) (if nullable p then after_by tests q else not_allowed)).from (by_first ((seq_same g (after_by tests p) q).from (by_group no_attribute o (by_in k l (k.from_group p q f).0 m1) m2)))
  by_in k l f (by_interleave {p = p} {q = q} no_attribute (string_to_first o) m1 m2) =
      (or_same g (interleave_of (after_by tests p) q) (interleave_of p (after_by tests q))).from (by_first ((mix_same g (after_by tests p) q).from (by_interleave no_attribute o (by_in k l (k.from_interleave p q f).0 m1) m2)))
  by_in k l f (by_interleave {p = p} {q = q} no_attribute (string_to_second o) m1 m2) =
      (or_same g (interleave_of (after_by tests p) q) (interleave_of p (after_by tests q))).from (by_second ((mix_same g p (after_by tests q)).from (by_interleave no_attribute o m1 (by_in k l (k.from_interleave p q f).1 m2))))
  by_in k l f (by_one {p = p} m) =
      (seq_same g (after_by tests p) (star p)).from (by_group no_attribute (order_all _) (by_in k l (k.from_more p f) m) (star_none p))
  by_in k l f (by_more no_attribute then_second m1 m2) = by_in k l f m2
  by_in k l f (by_more {p = p} no_attribute (string_of_first o) m1 m2) =
      (seq_same g (after_by tests p) (star p)).from (by_group no_attribute o (by_in k l (k.from_more p f) m1) (star_in m2))

pub one_of : {g : List Definition} {ok : List ℕ → Type 0} {p q : Pattern} {c d : Children} → ((t : List ℕ) → Matches g p [] (string t c) → Matches g q [] (string t d)) → OneString g ok p c → OneString g ok q d
one_of f w = record { text = w.text; is_ok = w.is_ok; matched = f w.text w.matched }

-- a leaf takes nothing else
pub leaf_alone : {g : List Definition} {ok : List ℕ → Type 0} {p : Pattern} {c : Children} → c ≡ nil → OneString g ok p nil → OneString g ok p c
leaf_alone {g = g} {ok = ok} {p = p} e w = rw e w

module _ {g : List Definition} {ok : List ℕ → Type 0} {tests : Tests} where
  pub by_out : TestsOut g ok tests → (p : Pattern) {c : Children} → Matches g (after_by tests p) [] c → OneString g ok p c
  by_out l any_text m = record { text = l.some_text; is_ok = l.some_ok; matched = by_text (one_string (text_of m)) }
  by_out l (literal type v) m =
      let w = when_true (tests.of_value type v) m in leaf_alone (nothing_inv w.1).1 (l.value_out type v w.0)
  by_out l (typed type es) m =
      let w = when_true (tests.of_data type es) m in leaf_alone (nothing_inv w.1).1 (l.data_out type es w.0)
  by_out l (listed p) m =
      let w = when_true (tests.of_list p) m in leaf_alone (nothing_inv w.1).1 (l.list_out p w.0)
  by_out l (one_or_more p) m =
      let w = group_parts ((seq_same g (after_by tests p) (star p)).to m) in
      one_of (λ t n. go_on (string_of_first w.order) n (star_out w.right)) (by_out l p w.left)
  by_out l (choice p q) m =
      ⊎_elim (λ x. one_of (λ t n. by_first n) (by_out l p x)) (λ x. one_of (λ t n. by_second n) (by_out l q x)) (or_sides ((or_same g (after_by tests p) (after_by tests q)).to m))
  by_out l (group p q) m =
      ⊎_elim
      (λ x. let w = group_parts ((seq_same g (after_by tests p) q).to x) in one_of (λ t n. by_group no_attribute (string_of_first w.order) n w.right) (by_out l p w.left))
      (λ x. let w = when_true (nullable p) x in one_of (λ t n. by_group no_attribute then_second (nullable_out p w.0) n) (by_out l q w.1))
      (or_sides ((or_same g (group_of (after_by tests p) q) (if nullable p then after_by tests q else not_allowed)).to m))
  by_out l (interleave p q) m =
      ⊎_elim
      (λ x. let w = interleave_parts ((mix_same g (after_by tests p) q).to x) in one_of (λ t n. by_interleave no_attribute (string_to_first w.shuffle) n w.right) (by_out l p w.left))
      (λ x. let w = interleave_parts ((mix_same g p (after_by tests q)).to x) in one_of (λ t n. by_interleave no_attribute (string_to_second w.shuffle) w.left n) (by_out l q w.right))
      (or_sides ((or_same g (interleave_of (after_by tests p) q) (interleave_of p (after_by tests q))).to m))
  by_out l not_allowed m = never_no m
  by_out l empty m = never_no m
  by_out l (attribute c p) m = never_no m
  by_out l (ref i) m = never_no m

-- ---- this string

data_of : {g : List Definition} {type : Datatype} {excepts : List Except} {t : List ℕ} → Matches g (typed type excepts) [] (string t nil) → is_data type excepts t ≡ true
data_of (by_data {type = type} {excepts = es} {text = t} accepted differs) = (is_data-Decides type es t).1 (accepted, differs)

value_of : {g : List Definition} {type : Datatype} {wanted t : List ℕ} → Matches g (literal type wanted) [] (string t nil) → is_value type wanted t ≡ true
value_of (by_value {type = type} {text = t} {wanted = v} accepted same) = (is_value-Decides type v t).1 (accepted, same)

pub list_of : {g : List Definition} {p : Pattern} {t : List ℕ} → Matches g (listed p) [] (string t nil) → Matches g p [] (strings (words t))
list_of (by_list m) = m

data_match : {g : List Definition} (type : Datatype) (excepts : List Except) (t : List ℕ) → is_data type excepts t ≡ true → Matches g (typed type excepts) [] (string t nil)
data_match type es t h = let f = (is_data-Decides type es t).0 h in by_data f.0 f.1

value_match : {g : List Definition} (type : Datatype) (wanted t : List ℕ) → is_value type wanted t ≡ true → Matches g (literal type wanted) [] (string t nil)
value_match type v t h = let f = (is_value-Decides type v t).0 h in by_value f.0 f.1

this_one : {g : List Definition} {p : Pattern} {c : Children} (t : List ℕ) → Matches g p [] (string t c) → OneString g (λ u. t ≡ u) p c
this_one t m = record { text = t; is_ok = refl; matched = m }

-- of one string alone
that_one : {g : List Definition} {p : Pattern} {c : Children} (t : List ℕ) → OneString g (λ u. t ≡ u) p c → Matches g p [] (string t c)
that_one {g = g} {p = p} {c = c} t w = rw w.is_ok w.matched

-- ---- words of a list

words_test_in : (g : List Definition) (t : List ℕ) → TestsIn g (λ p. has_no_list p ≡ true) (word_tests t) t
words_test_in g t = record { data_in = λ type es f m. data_of m; value_in = λ type v f m. value_of m; list_in = λ p f m. cc }

words_test_out : (g : List Definition) (t : List ℕ) → TestsOut g (λ u. t ≡ u) (word_tests t)
words_test_out g t = record {
  some_text = t;
  some_ok = refl;
  data_out = λ type es h. this_one t (data_match type es t h);
  value_out = λ type v h. this_one t (value_match type v t h);
  list_out = λ p h. cc;
}

words_in : {g : List Definition} (ws : List (List ℕ)) (p : Pattern) → has_no_list p ≡ true → Matches g p [] (strings ws) → nullable (after_words ws p) ≡ true
words_in [] p f m = nullable_in m
words_in {g = g} (w ∷ ws) p f m = words_in ws (after_word w p) (after_keeps (lists_keep (λ q. false)) (word_tests w) p f) (by_in (lists_keep (λ q. false)) (words_test_in g w) f m)

words_out : {g : List Definition} (ws : List (List ℕ)) (p : Pattern) → nullable (after_words ws p) ≡ true → Matches g p [] (strings ws)
words_out [] p h = nullable_out p h
words_out {g = g} (w ∷ ws) p h = that_one w (by_out (words_test_out g w) p (words_out ws (after_word w p) h))

string_test_in : (g : List Definition) (t : List ℕ) → TestsIn g (λ p. has_flat_lists p ≡ true) (string_tests t) t
string_test_in g t = record { data_in = λ type es f m. data_of m; value_in = λ type v f m. value_of m; list_in = λ p f m. words_in (words t) p f (list_of m) }

string_test_out : (g : List Definition) (t : List ℕ) → TestsOut g (λ u. t ≡ u) (string_tests t)
string_test_out g t = record {
  some_text = t;
  some_ok = refl;
  data_out = λ type es h. this_one t (data_match type es t h);
  value_out = λ type v h. this_one t (value_match type v t h);
  list_out = λ p h. this_one t (by_list (words_out (words t) p h));
}

pub after_in : {g : List Definition} {p : Pattern} {t : List ℕ} {c : Children} → has_flat_lists p ≡ true → Matches g p [] (string t c) → Matches g (after t p) [] c
after_in {g = g} {t = t} f m = by_in (lists_keep has_no_list) (string_test_in g t) f m

pub after_out : {g : List Definition} {t : List ℕ} (p : Pattern) {c : Children} → Matches g (after t p) [] c → Matches g p [] (string t c)
after_out {g = g} {t = t} p m = that_one t (by_out (string_test_out g t) p m)

pub derives_strings : DerivesStrings
derives_strings g p t c = (λ f m. after_in f m, λ m. after_out p m)
