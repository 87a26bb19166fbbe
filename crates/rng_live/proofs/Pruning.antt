-- A pruned pattern matches what it matched.
use Rattle.std.proofs.Common.{◌≡◌, ℕ, List, [], ◌∷◌, Bool, true, false, Option, Some, None, length, take, drop, refl, sym, ap, subst, ⊎_elim, ◌∙◌, true≢false, IsUtf8}
use Rattle.std.specs.Prelude.{IsTrue, slice_get, option_map}
use Rattle.std.specs.List.{AllByRecursion, prefix_len, position_or_len}
use Rattle.std.specs.Str.{is_utf8}
use Rattle.std.proofs.lemmas.Str.{IsUtf8-take, IsUtf8-drop, IsUtf8-from_is_utf8, is_utf8-from_IsUtf8}
use Rattle.std.proofs.lemmas.Bool.{cases_eq}
use Rattle.std.proofs.lemmas.Option.{slice_get-map}
use Rattle.nx_base.specs.Characters.{is_space}
use Rattle.nx_base.specs.Trees.{Attribute, Children, strings}
use Rattle.rng_types.specs.Spaces.{words}
use Rattle.rng_types.proofs.SplitWords.{words-found, no_words, utf8-leading, cut_before_space}
use Rattle.rng_core.specs.Names.{Class, has_name}
use Rattle.rng_core.specs.Patterns.{Pattern, Definition, not_allowed, empty, any_text, typed, literal, listed, attribute, ref, one_or_more, choice, group, interleave}
use Rattle.rng_core.specs.Matching.{Matches, by_first, by_second, by_group, by_empty, by_text, by_one, by_more, by_interleave, by_element, by_attribute, by_blank_attribute, by_data, by_value, by_list}
use Rattle.rng_residual.proofs.SmallPatterns.{or_sides}
use Rattle.rng_live.specs.Dead.{IsOfUtf8, ValuesAre, no_values, one_value, StringsAre, no_strings, one_string, one_element}
use Rattle.rng_live.proofs.Fitting.{Fits, fits_not_allowed, fits_empty, fits_text, fits_data, fits_value, fits_list, fits_attribute, fits_ref, fits_one_or_more, fits_choice, fits_group, fits_interleave, AllFit, AreClosed}
use Rattle.rng_live.specs.Living.{lives_with}
use Rattle.rng_live.specs.Left.{sides, prune, prune_definition, prune_all}
use Rattle.rng_live.proofs.Claims.{PruningKeepsTrees}
use Rattle.rng_live.proofs.Texts.{words_are_text, values_left, values_right, strings_front, strings_back, strings_left, strings_right, strings_weakly, nothing_of_utf8}
use Rattle.rng_live.proofs.Exact.{lives_in}

-- ---- a pattern by parts, over any definitions

-- what two patterns match goes over, of text
record Goes (g : List Definition) (p q : Pattern) : Type 0 where
  goes : {a : List Attribute} {c : Children} → ValuesAre IsOfUtf8 a → StringsAre IsOfUtf8 c → Matches g p a c → Matches g q a c

-- and of all children
pub record AllGoes (g : List Definition) (p q : Pattern) : Type 0 where
  pub all : {a : List Attribute} {c : Children} → Matches g p a c → Matches g q a c

module _ {g : List Definition} where
  more_goes : {p q : Pattern} → Goes g p q → {a : List Attribute} {c : Children} → ValuesAre IsOfUtf8 a → StringsAre IsOfUtf8 c → Matches g (one_or_more p) a c → Matches g (one_or_more q) a c
  more_goes f v s (by_one m) = by_one (f.goes v s m)
  more_goes f v s (by_more x o m n) = by_more x o (f.goes (values_left x v) (strings_front o s) m) (more_goes f (values_right x v) (strings_back o s) n)

  more_all : {p q : Pattern} → AllGoes g p q → {a : List Attribute} {c : Children} → Matches g (one_or_more p) a c → Matches g (one_or_more q) a c
  more_all f (by_one m) = by_one (f.all m)
  more_all f (by_more x o m n) = by_more x o (f.all m) (more_all f n)

  group_all : {p q r t : Pattern} → AllGoes g p r → AllGoes g q t → {a : List Attribute} {c : Children} → Matches g (group p q) a c → Matches g (group r t) a c
  group_all f h (by_group x o m n) = by_group x o (f.all m) (h.all n)

  interleave_all : {p q r t : Pattern} → AllGoes g p r → AllGoes g q t → {a : List Attribute} {c : Children} → Matches g (interleave p q) a c → Matches g (interleave r t) a c
  interleave_all f h (by_interleave x o m n) = by_interleave x o (f.all m) (h.all n)

  list_all_goes : {p q : Pattern} → AllGoes g p q → {a : List Attribute} {c : Children} → Matches g (listed p) a c → Matches g (listed q) a c
  list_all_goes f (by_list m) = by_list (f.all m)

  attribute_all : {p q : Pattern} {class : Class} → AllGoes g p q → {a : List Attribute} {c : Children} → Matches g (attribute class p) a c → Matches g (attribute class q) a c
  attribute_all f (by_attribute h m) = by_attribute h (f.all m)
  attribute_all f (by_blank_attribute h b m) = by_blank_attribute h b (f.all m)

  sides_out : (x y : Bool) {p q r t : Pattern} → AllGoes g p r → AllGoes g q t → {a : List Attribute} {c : Children} → Matches g (sides x y p q) a c → Matches g (choice r t) a c
  sides_out true true f h m = ⊎_elim (λ n. by_first (f.all n)) (λ n. by_second (h.all n)) (or_sides m)
  sides_out true false f h m = by_first (f.all m)
  sides_out false y f h m = by_second (h.all m)

  sides_first : (x y : Bool) (p q : Pattern) {a : List Attribute} {c : Children} → x ≡ true → Matches g p a c → Matches g (sides x y p q) a c
  sides_first true true p q e m = by_first m
  sides_first true false p q e m = m
  sides_first false y p q e m = absurd (true≢false (sym e))

  sides_second : (x y : Bool) (p q : Pattern) {a : List Attribute} {c : Children} → y ≡ true → Matches g q a c → Matches g (sides x y p q) a c
  sides_second true true p q e m = by_second m
  sides_second true false p q e m = absurd (true≢false (sym e))
  sides_second false y p q e m = m

  pub prune_out : (marks : List Bool) (p : Pattern) → AllGoes g (prune marks p) p
  prune_out marks not_allowed = record { all = λ m. m }
  prune_out marks empty = record { all = λ m. m }
  prune_out marks any_text = record { all = λ m. m }
  prune_out marks (typed type es) = record { all = λ m. m }
  prune_out marks (literal type t) = record { all = λ m. m }
  prune_out marks (ref i) = record { all = λ m. m }
  prune_out marks (listed p) = record { all = list_all_goes (prune_out marks p) }
  prune_out marks (attribute class p) = record { all = attribute_all (prune_out marks p) }
  prune_out marks (one_or_more p) = record { all = more_all (prune_out marks p) }
  prune_out marks (choice p q) = record { all = sides_out (lives_with marks p) (lives_with marks q) (prune_out marks p) (prune_out marks q) }
  prune_out marks (group p q) = record { all = group_all (prune_out marks p) (prune_out marks q) }
  prune_out marks (interleave p q) = record { all = interleave_all (prune_out marks p) (prune_out marks q) }

-- ---- from pruned definitions to all

pub record Pruned (marks : List Bool) (g : List Definition) (i : ℕ) (d : Definition) : Type 0 where
  pub before : Definition
  pub is : slice_get g i ≡ Some before
  pub pruned : prune_definition marks before ≡ d

pub unpruned : (marks : List Bool) (g : List Definition) (i : ℕ) (d : Definition) → slice_get (prune_all marks g) i ≡ Some d → Pruned marks g i d
unpruned marks g i d e = go (slice_get g i) refl (sym (slice_get-map (prune_definition marks) g i) ∙ e)
  where
    go : (o : Option Definition) → slice_get g i ≡ o → option_map (prune_definition marks) o ≡ Some d → Pruned marks g i d
    go None f h = cc
    go (Some b) f h = record { before = b; is = f; pruned = cc }

pub is_pruned : (marks : List Bool) (g : List Definition) (i : ℕ) (d : Definition) → slice_get g i ≡ Some d → slice_get (prune_all marks g) i ≡ Some (prune_definition marks d)
is_pruned marks g i d e = slice_get-map (prune_definition marks) g i ∙ ap (option_map (prune_definition marks)) e

module _ {g : List Definition} (marks : List Bool) where
  pub all_out : {p : Pattern} {a : List Attribute} {c : Children} → Matches (prune_all marks g) p a c → Matches g p a c
  all_out (by_first m) = by_first (all_out m)
  all_out (by_second m) = by_second (all_out m)
  all_out (by_group x o m n) = by_group x o (all_out m) (all_out n)
  all_out by_empty = by_empty
  all_out (by_text s) = by_text s
  all_out (by_one m) = by_one (all_out m)
  all_out (by_more x o m n) = by_more x o (all_out m) (all_out n)
  all_out (by_interleave x o m n) = by_interleave x o (all_out m) (all_out n)
  all_out (by_element {i = i} {d = d} {n = n} {a = a} {k' = k} h c y m) =
      let w = unpruned marks g i d h in
      let e : IsTrue (has_name w.before.class n) = subst (λ (x : Definition). IsTrue (has_name x.class n)) (sym w.pruned) c in
      by_element w.is e y ((prune_out marks w.before.content).all (subst (λ (x : Definition). Matches g x.content a k) (sym w.pruned) (all_out m)))
  all_out (by_attribute h m) = by_attribute h (all_out m)
  all_out (by_blank_attribute h b m) = by_blank_attribute h b (all_out m)
  all_out (by_data a d) = by_data a d
  all_out (by_value a s) = by_value a s
  all_out (by_list m) = by_list (all_out m)

-- ---- and back

module _ {g : List Definition} {named : ℕ → Bool} (fit : AllFit named g) (marks : List Bool) (are : AreClosed g marks) where
  list_goes : {p q : Pattern} → Goes (prune_all marks g) p q → {a : List Attribute} {c : Children} → StringsAre IsOfUtf8 c → Matches (prune_all marks g) (listed p) a c → Matches (prune_all marks g) (listed q) a c
  list_goes f (one_string u s) (by_list {text = t} m) = by_list (f.goes no_values (words_are_text t u.of_utf8) m)
  list_goes f no_strings m = elim m [ ]
  list_goes f (one_element v k s) m = elim m [ ]

  attribute_goes : {p q : Pattern} {class : Class} → Goes (prune_all marks g) p q → {a : List Attribute} {c : Children} → ValuesAre IsOfUtf8 a → Matches (prune_all marks g) (attribute class p) a c → Matches (prune_all marks g) (attribute class q) a c
  attribute_goes f (one_value u v) (by_attribute h m) = by_attribute h (f.goes no_values (one_string u no_strings) m)
  attribute_goes f v (by_blank_attribute h b m) = by_blank_attribute h b (f.goes no_values no_strings m)

  group_goes : {p q r t : Pattern} → Goes (prune_all marks g) p r → Goes (prune_all marks g) q t → {a : List Attribute} {c : Children} → ValuesAre IsOfUtf8 a → StringsAre IsOfUtf8 c → Matches (prune_all marks g) (group p q) a c → Matches (prune_all marks g) (group r t) a c
  group_goes f h v s (by_group x o m n) = by_group x o (f.goes (values_left x v) (strings_front o s) m) (h.goes (values_right x v) (strings_back o s) n)

  interleave_goes : {p q r t : Pattern} → Goes (prune_all marks g) p r → Goes (prune_all marks g) q t → {a : List Attribute} {c : Children} → ValuesAre IsOfUtf8 a → StringsAre IsOfUtf8 c → Matches (prune_all marks g) (interleave p q) a c → Matches (prune_all marks g) (interleave r t) a c
  interleave_goes f h v s (by_interleave x o m n) = by_interleave x o (f.goes (values_left x v) (strings_left o s) m) (h.goes (values_right x v) (strings_right o s) n)

  prune_in : {p : Pattern} → Fits named p → Goes (prune_all marks g) p (prune marks p)
  prune_in fits_not_allowed = record { goes = λ v s m. m }
  prune_in fits_empty = record { goes = λ v s m. m }
  prune_in fits_text = record { goes = λ v s m. m }
  prune_in (fits_data s) = record { goes = λ v s m. m }
  prune_in (fits_value s) = record { goes = λ v s m. m }
  prune_in (fits_ref n) = record { goes = λ v s m. m }
  prune_in (fits_list r h z f) = record { goes = λ v s m. list_goes (prune_in f) s m }
  prune_in (fits_attribute l z f) = record { goes = λ v s m. attribute_goes (prune_in f) v m }
  prune_in (fits_one_or_more f) = record { goes = λ v s m. more_goes (prune_in f) v s m }
  prune_in (fits_group f e) = record { goes = λ v s m. group_goes (prune_in f) (prune_in e) v s m }
  prune_in (fits_interleave f e) = record { goes = λ v s m. interleave_goes (prune_in f) (prune_in e) v s m }
  prune_in (fits_choice {p = p} {q = q} f e) = record {
    goes = λ v s m. ⊎_elim
        (λ n. sides_first (lives_with marks p) (lives_with marks q) (prune marks p) (prune marks q) (lives_in fit marks are f v s (all_out marks n)) ((prune_in f).goes v s n))
        (λ n. sides_second (lives_with marks p) (lives_with marks q) (prune marks p) (prune marks q) (lives_in fit marks are e v s (all_out marks n)) ((prune_in e).goes v s n))
        (or_sides m);
  }

  all_in : {p : Pattern} {a : List Attribute} {c : Children} → Fits named p → ValuesAre IsOfUtf8 a → StringsAre IsOfUtf8 c → Matches g p a c → Matches (prune_all marks g) p a c
  all_in (fits_choice f e) v s (by_first m) = by_first (all_in f v s m)
  all_in (fits_choice f e) v s (by_second m) = by_second (all_in e v s m)
  all_in (fits_group f e) v s (by_group x o m n) = by_group x o (all_in f (values_left x v) (strings_front o s) m) (all_in e (values_right x v) (strings_back o s) n)
  all_in f v s by_empty = by_empty
  all_in f v s (by_text t) = by_text t
  all_in (fits_one_or_more f) v s (by_one m) = by_one (all_in f v s m)
  all_in (fits_one_or_more f) v s (by_more x o m n) = by_more x o (all_in f (values_left x v) (strings_front o s) m) (all_in (fits_one_or_more f) (values_right x v) (strings_back o s) n)
  all_in (fits_interleave f e) v s (by_interleave x o m n) = by_interleave x o (all_in f (values_left x v) (strings_left o s) m) (all_in e (values_right x v) (strings_right o s) n)
  all_in (fits_ref r) v (one_element w k s) (by_element {i = i} {d = d} h c y m) =
      let f = fit.content i d r h in
      let u = strings_weakly nothing_of_utf8 y k in
      by_element (is_pruned marks g i d h) c y ((prune_in f).goes w u (all_in f w u m))
  all_in (fits_attribute l z f) (one_value u v) s (by_attribute h m) = by_attribute h (all_in f no_values (one_string u no_strings) m)
  all_in (fits_attribute l z f) v s (by_blank_attribute h b m) = by_blank_attribute h b (all_in f no_values no_strings m)
  all_in f v s (by_data a d) = by_data a d
  all_in f v s (by_value a e) = by_value a e
  all_in (fits_list r h z f) v (one_string u s) (by_list {text = t} m) = by_list (all_in f no_values (words_are_text t u.of_utf8) m)

pub pruning_keeps_trees : PruningKeepsTrees
pruning_keeps_trees named g fit marks are p f a c v s =
    (λ m. (prune_out marks p).all (all_out marks m), λ m. (prune_in fit marks are f).goes v s (all_in fit marks are f v s m))
