-- Whatever stands in a pruned pattern that lives, lives; and what an answer is.
use Rattle.std.proofs.Common.{◌≡◌, ℕ, List, Bool, true, false, ◌||◌, ◌&&◌, refl, sym, ⊎_elim, true≢false}
use Rattle.rng_core.specs.Patterns.{Pattern, Definition, empty, any_text, typed, literal, listed, attribute, ref, one_or_more, choice, group, interleave}
use Rattle.rng_restrict.specs.Standing.{Stands, itself, in_list, in_attribute, in_one_or_more, in_first_choice, in_second_choice, in_first_of_group, in_second_of_group, in_first_of_interleave, in_second_of_interleave}
use Rattle.rng_kept.specs.Nullable.{nullable}
use Rattle.rng_kept.specs.SolidStrings.{has_words}
use Rattle.rng_residual.proofs.SmallPatterns.{and_true, or_true}
use Rattle.rng_residual.proofs.Nullable.{nullable_out}
use Rattle.rng_residual.proofs.Strings.{list_of}
use Rattle.rng_live.specs.Dead.{no_values, no_strings, one_string, Lives, IsDead}
use Rattle.rng_live.specs.Living.{has_some_attribute_name, has_string, lives_with}
use Rattle.rng_live.proofs.Fitting.{Fits, fits_not_allowed, fits_empty, fits_text, fits_data, fits_value, fits_list, fits_attribute, fits_ref, fits_one_or_more, fits_choice, fits_group, fits_interleave, AllFit, AreDerived, AreClosed}
use Rattle.rng_live.specs.Left.{sides, prune, prune_all}
use Rattle.rng_live.proofs.Claims.{PartsLive}
use Rattle.rng_live.proofs.Exact.{marks_are_exact, AString, string_out, listed_out, lives_in, lives_out, values_utf8, strings_utf8}
use Rattle.rng_live.proofs.Pruning.{pruning_keeps_trees}

module _ {g : List Definition} {named : ℕ → Bool} (fit : AllFit named g) (marks : List Bool) (derived : AreDerived named g marks) (are : AreClosed g marks) where
  whole : (p : Pattern) → Fits named p → lives_with marks p ≡ true → Lives (prune_all marks g) (prune marks p)
  whole p f h =
      let w = lives_out marks derived f h in
      record {
        attributes = w.attributes;
        children = w.children;
        values = w.values;
        strings_are = w.strings_are;
        matched = (pruning_keeps_trees named g fit marks are p f w.attributes w.children (values_utf8 w.values) (strings_utf8 w.strings_are)).1 w.matched;
      }

  side_lives : (x y : Bool) (p q r : Pattern) → (x || y) ≡ true → Lives (prune_all marks g) (sides x y p q) → (x ≡ true → Stands r p → Lives (prune_all marks g) r) → (y ≡ true → Stands r q → Lives (prune_all marks g) r)
      → Stands r (sides x y p q) → Lives (prune_all marks g) r
  side_lives true true p q r h w a b itself = w
  side_lives true true p q r h w a b (in_first_choice s) = a refl s
  side_lives true true p q r h w a b (in_second_choice s) = b refl s
  side_lives true false p q r h w a b s = a refl s
  side_lives false true p q r h w a b s = b refl s
  side_lives false false p q r h w a b s = absurd (true≢false (sym h))

  parts : {p : Pattern} → Fits named p → lives_with marks p ≡ true → (q : Pattern) → Stands q (prune marks p) → Lives (prune_all marks g) q
  parts fits_not_allowed h q s = absurd (true≢false (sym h))
  parts fits_empty h q itself = whole empty fits_empty h
  parts fits_text h q itself = whole any_text fits_text h
  parts (fits_data {type = type} {excepts = es} s) h q itself = whole (typed type es) (fits_data s) h
  parts (fits_value {type = type} {text = t} s) h q itself = whole (literal type t) (fits_value s) h
  parts (fits_ref {i = i} n) h q itself = whole (ref i) (fits_ref n) h
  parts (fits_list {p = p} s l z f) h q itself = whole (listed p) (fits_list s l z f) h
  parts (fits_list {p = p} s l z f) h q (in_list t) = parts f (and_true (has_words p || nullable p) (lives_with marks p) h).1 q t
  parts (fits_attribute {class = c} {p = p} l z f) h q itself = whole (attribute c p) (fits_attribute l z f) h
  parts (fits_attribute {class = c} {p = p} l z f) h q (in_attribute t) = parts f (and_true (has_some_attribute_name c && (has_string p || nullable p)) (lives_with marks p) h).1 q t
  parts (fits_one_or_more {p = p} f) h q itself = whole (one_or_more p) (fits_one_or_more f) h
  parts (fits_one_or_more {p = p} f) h q (in_one_or_more t) = parts f h q t
  parts (fits_choice {p = p} {q = r} f e) h q s =
      side_lives (lives_with marks p) (lives_with marks r) (prune marks p) (prune marks r) q h (whole (choice p r) (fits_choice f e) h) (λ i t. parts f i q t) (λ i t. parts e i q t) s
  parts (fits_group {p = p} {q = r} f e) h q itself = whole (group p r) (fits_group f e) h
  parts (fits_group {p = p} {q = r} f e) h q (in_first_of_group t) = parts f (and_true (lives_with marks p) (lives_with marks r) h).0 q t
  parts (fits_group {p = p} {q = r} f e) h q (in_second_of_group t) = parts e (and_true (lives_with marks p) (lives_with marks r) h).1 q t
  parts (fits_interleave {p = p} {q = r} f e) h q itself = whole (interleave p r) (fits_interleave f e) h
  parts (fits_interleave {p = p} {q = r} f e) h q (in_first_of_interleave t) = parts f (and_true (lives_with marks p) (lives_with marks r) h).0 q t
  parts (fits_interleave {p = p} {q = r} f e) h q (in_second_of_interleave t) = parts e (and_true (lives_with marks p) (lives_with marks r) h).1 q t

pub parts_live : PartsLive
parts_live named g fit marks derived are p f h q s = parts fit marks derived are f h q s
