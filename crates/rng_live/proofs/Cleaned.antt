-- Each part of a pruned pattern that lives matches something.
use Rattle.std.proofs.Common.{◌≡◌, ℕ, ◌<◌, List, [], ◌∷◌, Bool, true, false, ◌&&◌, ◌||◌, refl, sym, ⊎_elim, true≢false}
use Rattle.std.specs.Prelude.{IsTrue}
use Rattle.nx_base.specs.Characters.{is_of_chars}
use Rattle.nx_base.specs.Trees.{Attribute, Children, nil, string, element, AreWritable, Event, TagEnd, Leave, attributes_flat, children_flat}
use Rattle.rng_core.specs.Names.{Class}
use Rattle.rng_core.specs.Patterns.{Pattern, Definition, typed, listed, attribute, ref}
use Rattle.rng_core.specs.Matching.{Matches, by_attribute, by_blank_attribute, by_data}
use Rattle.rng_kept.specs.Nullable.{nullable}
use Rattle.rng_kept.specs.SolidStrings.{has_words}
use Rattle.rng_kept.specs.Lists.{has_no_list, has_flat_lists}
use Rattle.rng_kept.specs.Clean.{TakesString, Clean, clean_empty, clean_text, clean_data, clean_value, clean_list, clean_attribute, clean_ref, clean_one_or_more, clean_choice, clean_group, clean_interleave}
use Rattle.rng_residual.proofs.SmallPatterns.{and_true, or_true}
use Rattle.rng_residual.proofs.Nullable.{nullable_out, true_and}
use Rattle.rng_live.specs.Dead.{IsOfUtf8, ValuesAre, no_values, one_value, StringsAre, no_strings, one_string, one_element}
use Rattle.rng_live.proofs.Fitting.{Fits, fits_not_allowed, fits_empty, fits_text, fits_data, fits_value, fits_list, fits_attribute, fits_ref, fits_one_or_more, fits_choice, fits_group, fits_interleave, AllFit, AreClosed}
use Rattle.rng_live.specs.Living.{has_some_attribute_name, has_string, lives_with}
use Rattle.rng_live.specs.Conditions.{is_marked}
use Rattle.rng_live.specs.Left.{refs_are}
use Rattle.rng_live.specs.Left.{prune, prune_all}
use Rattle.rng_live.proofs.Renumbered.{renamed}
use Rattle.rng_live.proofs.Texts.{nothing_of_chars}
use Rattle.rng_live.proofs.Exact.{AString, attribute_name_out, string_out, listed_out, data_out}
use Rattle.rng_live.proofs.Pruning.{pruning_keeps_trees}
use Rattle.rng_live.proofs.Renaming.{Renames, renamed_matches}
use Rattle.rng_live.proofs.Written.{AreWell}
use Rattle.rng_live.proofs.Parts.{sides_live, prune_sound, prune_lists, prune_no_refs, renamed_sound, renamed_lists}

-- ---- what can be written is text

values_text : (a : List Attribute) (z : List Event) → AreWritable (attributes_flat a z) → ValuesAre IsOfUtf8 a × AreWritable z
values_text [] z h = (no_values, h)
values_text (x ∷ a) z h = let w = values_text a z h.1 in (one_value (record { of_utf8 = (and_true _ _ h.0.1).0 }) w.0, w.1)

children_text : (k : Children) (z : List Event) → AreWritable (children_flat k z) → StringsAre IsOfUtf8 k × AreWritable z
children_text nil z h = (no_strings, h)
children_text (string t r) z h = let w = children_text r z h.1 in (one_string (record { of_utf8 = (and_true _ _ h.0).0 }) w.0, w.1)
children_text (element n a k r) z h =
    let v = values_text a (TagEnd ∷ children_flat k (Leave ∷ children_flat r z)) h.1 in
    let s = children_text k (Leave ∷ children_flat r z) v.1.1 in
    let w = children_text r z s.1.1 in
    (one_element v.0 s.0 w.0, w.1)

no_list_kept : (marks : List Bool) (p : Pattern) → has_no_list p ≡ true → has_no_list (prune marks p) ≡ true
no_list_kept marks p h = prune_lists marks (λ q. false) (λ q. false) (λ q e. e) p h

text_of : {t : List ℕ} → IsTrue (is_of_chars t) → IsOfUtf8 t
text_of c = record { of_utf8 = (and_true _ _ c).0 }

module _ {g : List Definition} {named : ℕ → Bool} (fit : AllFit named g) (marks : List Bool) (are : AreClosed g marks) (well : AreWell named g marks) where
  to_pruned : {p : Pattern} {a : List Attribute} {c : Children} → Fits named p → ValuesAre IsOfUtf8 a → StringsAre IsOfUtf8 c → Matches g p a c → Matches (prune_all marks g) (prune marks p) a c
  to_pruned {p = p} {a = a} {c = c} f v s m = (pruning_keeps_trees named g fit marks are p f a c v s).1 m

  attribute_clean : (c : Class) (p : Pattern) → Fits named p → has_flat_lists p ≡ true → has_some_attribute_name c ≡ true → (has_string p || nullable p) ≡ true → Clean (prune_all marks g) true true (attribute c (prune marks p))
  attribute_clean c p f l h k =
      let n = attribute_name_out c h in
      let flat = prune_lists marks has_no_list has_no_list (no_list_kept marks) p l in
      ⊎_elim
      (λ e.
      let w : AString g p = string_out f e in
      clean_attribute (record { name = n.0; value = w.text }) flat refl w.of_chars (by_attribute n.1 (to_pruned f no_values (one_string (text_of w.of_chars) no_strings) w.matched)))
      (λ e. clean_attribute (record { name = n.0; value = [] }) flat refl nothing_of_chars (by_blank_attribute n.1 refl (to_pruned f no_values no_strings (nullable_out p e))))
      (or_true (has_string p) (nullable p) k)

  pub pruned_clean : {p : Pattern} → Fits named p → lives_with marks p ≡ true → Clean (prune_all marks g) true true (prune marks p)
  pruned_clean fits_not_allowed h = absurd (true≢false (sym h))
  pruned_clean fits_empty h = clean_empty
  pruned_clean fits_text h = clean_text
  pruned_clean (fits_data r) h =
      let w : AString g (typed _ _) = data_out r h in clean_data r (record { text = w.text; of_chars = w.of_chars; kind = refl; matched = to_pruned (fits_data r) no_values (one_string (text_of w.of_chars) no_strings) w.matched })
  pruned_clean (fits_value r) h = clean_value r refl
  pruned_clean (fits_list {p = p} s l z f) h =
      let w : AString g (listed p) = listed_out s l (and_true (has_words p || nullable p) (lives_with marks p) h).0 in
      clean_list (prune_sound marks s) (no_list_kept marks p l)
      (record { text = w.text; of_chars = w.of_chars; kind = refl; matched = to_pruned (fits_list s l z f) no_values (one_string (text_of w.of_chars) no_strings) w.matched })
  pruned_clean (fits_attribute {class = c} {p = p} l z f) h =
      let d = and_true (has_some_attribute_name c) (has_string p || nullable p) (and_true (has_some_attribute_name c && (has_string p || nullable p)) (lives_with marks p) h).0 in attribute_clean c p f l d.0 d.1
  pruned_clean (fits_ref {i = i} n) h =
      let w = well.well i n h in
      clean_ref w.name w.attributes w.children w.are_children w.writable
      (to_pruned (fits_ref n) no_values (children_text (element w.name w.attributes w.children nil) [] w.writable).0 w.matched)
  pruned_clean (fits_one_or_more f) h = clean_one_or_more (pruned_clean f h)
  pruned_clean (fits_choice {p = p} {q = q} f e) h =
      sides_live (λ x. Clean (prune_all marks g) true true x) (λ x y a b. clean_choice a b) (lives_with marks p) (lives_with marks q) (prune marks p) (prune marks q) h (λ i. pruned_clean f i) (λ i. pruned_clean e i)
  pruned_clean (fits_group {p = p} {q = q} f e) h = let d = and_true (lives_with marks p) (lives_with marks q) h in clean_group (pruned_clean f d.0) (pruned_clean e d.1)
  pruned_clean (fits_interleave {p = p} {q = q} f e) h = let d = and_true (lives_with marks p) (lives_with marks q) h in clean_interleave (pruned_clean f d.0) (pruned_clean e d.1)

-- ---- its references are marked

unfoldable pub both : (ℕ → Bool) → List Bool → ℕ → Bool
both named marks i = named i && is_marked marks i

module _ (named : ℕ → Bool) (marks : List Bool) where
  pub live_refs : {p : Pattern} → Fits named p → lives_with marks p ≡ true → refs_are (both named marks) (prune marks p) ≡ true
  unfolding both
  live_refs fits_not_allowed h = refl
  live_refs fits_empty h = refl
  live_refs fits_text h = refl
  live_refs (fits_data s) h = refl
  live_refs (fits_value s) h = refl
  live_refs (fits_list {p = p} s l z f) h = prune_no_refs marks (both named marks) p z
  live_refs (fits_attribute {p = p} l z f) h = prune_no_refs marks (both named marks) p z
  live_refs (fits_ref {i = i} n) h = true_and (named i) (is_marked marks i) n h
  live_refs (fits_one_or_more f) h = live_refs f h
  live_refs (fits_choice {p = p} {q = q} f e) h =
      sides_live (λ x. refs_are (both named marks) x ≡ true) (λ x y a b. true_and (refs_are (both named marks) x) (refs_are (both named marks) y) a b)
      (lives_with marks p) (lives_with marks q) (prune marks p) (prune marks q) h (λ i. live_refs f i) (λ i. live_refs e i)
  live_refs (fits_group {p = p} {q = q} f e) h = let d = and_true (lives_with marks p) (lives_with marks q) h in true_and _ _ (live_refs f d.0) (live_refs e d.1)
  live_refs (fits_interleave {p = p} {q = q} f e) h = let d = and_true (lives_with marks p) (lives_with marks q) h in true_and _ _ (live_refs f d.0) (live_refs e d.1)

-- ---- under new numbers

module _ (r : ℕ → ℕ) (named : ℕ → Bool) {g h : List Definition} (w : Renames r named g h) {bound : ℕ} (low : (i : ℕ) → r i < bound) where
  taken : {b : Bool} {p : Pattern} → refs_are named p ≡ true → TakesString g b p → TakesString h b (renamed r p)
  taken f s = record { text = s.text; of_chars = s.of_chars; kind = s.kind; matched = renamed_matches r named w f s.matched }

  pub renamed_clean : {f b : Bool} {p : Pattern} → refs_are named p ≡ true → Clean g f b p → Clean h f b (renamed r p)
  renamed_clean e clean_empty = clean_empty
  renamed_clean e clean_text = clean_text
  renamed_clean e (clean_data {type = type} {excepts = es} r s) = clean_data r (taken {p = typed type es} e s)
  renamed_clean e (clean_value r k) = clean_value r k
  renamed_clean e (clean_list {p = p} s l t) = clean_list (renamed_sound r low s) (renamed_lists r (λ q. false) (λ q. false) (λ q i. i) p l) (taken {p = listed p} e t)
  renamed_clean e (clean_attribute {class = c} {p = p} a l k o m) =
      clean_attribute a (renamed_lists r has_no_list has_no_list (λ q i. renamed_lists r (λ x. false) (λ x. false) (λ x j. j) q i) p l) k o (renamed_matches r named w {p = attribute c p} e m)
  renamed_clean e (clean_ref {i = i} n a k c x m) = clean_ref n a k c x (renamed_matches r named w {p = ref i} e m)
  renamed_clean e (clean_one_or_more c) = clean_one_or_more (renamed_clean e c)
  renamed_clean e (clean_choice {p = p} {q = q} c d) = let x = and_true (refs_are named p) (refs_are named q) e in clean_choice (renamed_clean x.0 c) (renamed_clean x.1 d)
  renamed_clean e (clean_group {p = p} {q = q} c d) = let x = and_true (refs_are named p) (refs_are named q) e in clean_group (renamed_clean x.0 c) (renamed_clean x.1 d)
  renamed_clean e (clean_interleave {p = p} {q = q} c d) = let x = and_true (refs_are named p) (refs_are named q) e in clean_interleave (renamed_clean x.0 c) (renamed_clean x.1 d)
