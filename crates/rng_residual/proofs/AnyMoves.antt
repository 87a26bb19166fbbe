-- An attribute with any value, any string, and missing attributes.
use Rattle.std.proofs.Common.{◌≡◌, ℕ, List, [], ◌∷◌, Bool, true, false, not, ◌&&◌, ◌||◌, refl, ⊎_elim, arith}
use Rattle.std.specs.Prelude.{IsTrue, if◌then◌else◌, zero, suc}
use Rattle.std.specs.List.{list_all}
use Rattle.std.specs.Str.{is_utf8, chars, IsAscii}
use Rattle.std.proofs.lemmas.Str.{IsUtf8-from_ascii, is_utf8-from_IsUtf8, chars-IsAscii}
use Rattle.nx_base.specs.declared.name.Name.{Name}
use Rattle.nx_base.specs.Characters.{is_blank, is_of_chars, is_char, is_space}
use Rattle.nx_base.specs.Trees.{Attribute, Children, nil}
use Rattle.rng_core.specs.Names.{Class, has_attribute_name}
use Rattle.rng_core.specs.Patterns.{Pattern, Definition, not_allowed, empty, any_text, attribute, one_or_more}
use Rattle.rng_core.specs.Matching.{no_attribute, to_first, to_second, then_second, string_of_first, string_to_first, string_to_second, AreStrings, one_string, Matches, by_empty, by_text, by_data, by_value, by_list, by_attribute, by_blank_attribute, by_first, by_second, by_group, by_interleave, by_one, by_more, by_element}
use Rattle.rng_kept.specs.SmallPatterns.{group_of, interleave_of, star, one_or_more_of}
use Rattle.rng_kept.specs.Nullable.{nullable}
use Rattle.rng_kept.specs.Lists.{has_flat_lists}
use Rattle.rng_kept.specs.Clean.{TakesString, Clean, clean_empty, clean_text, clean_data, clean_value, clean_list, clean_attribute, clean_ref, clean_one_or_more, clean_choice, clean_group, clean_interleave}
use Rattle.rng_residual.proofs.SmallPatterns.{or_same, seq_same, mix_same, or_sides, and_true, never_no, nothing_inv}
use Rattle.rng_residual.proofs.Nullable.{nullable_out, star_out, group_parts, interleave_parts, go_on}
use Rattle.rng_kept.specs.SolidStrings.{solid_tests, after_solid}
use Rattle.rng_residual.specs.Solid.{PassNoBlank}
use Rattle.rng_kept.specs.Attributes.{after_any_attribute, drop}
use Rattle.rng_residual.proofs.Strings.{when_true, OneString, one_of, leaf_alone}
use Rattle.rng_residual.proofs.Attributes.{attribute_is, FitsIn, OneAttribute, attribute_in, attribute_map, attribute_alone, around_out, star_more, part_star, parts_of_group, parts_of_interleave}
use Rattle.rng_residual.proofs.Tags.{more_same}
use Rattle.rng_residual.proofs.Cleaning.{sound_value_is, own_text, some_clean, clean_choice_of, clean_group_of, clean_interleave_of}
use Rattle.rng_residual.proofs.Repair.{HaveChars, chars_join}
use Rattle.rng_residual.proofs.Joining.{app, app_split}

-- ---- an attribute with any value

-- a value of characters that XML allows
abbrev pub OfChars : List ℕ → Type 0
OfChars v = IsTrue (is_of_chars v)

any_fits : (g : List Definition) (v : List ℕ) → FitsIn g (λ q. true) v
any_fits g v = record { text_in = λ p f m. refl; blank_in = λ p b m. refl }

pub any_attribute_in : {g : List Definition} {n : Name} {v : List ℕ} {p : Pattern} {a : List Attribute} {c : Children} → has_flat_lists p ≡ true → Matches g p (attribute_is n v ∷ a) c → Matches g (after_any_attribute n p) a c
any_attribute_in {g = g} {n = n} {v = v} f m = attribute_in {n = n} (any_fits g v) f m

renamed : {g : List Definition} {class : Class} {p : Pattern} {x : Attribute} (n : Name) → has_attribute_name class n ≡ true → IsTrue (is_of_chars x.value) → Matches g (attribute class p) (x ∷ []) nil → OneAttribute g OfChars n (attribute class p) [] nil
renamed n h c (by_attribute {a = x} f m) = record { value = x.value; is_ok = c; matched = by_attribute h m }
renamed n h c (by_blank_attribute {a = x} f b m) = record { value = x.value; is_ok = c; matched = by_blank_attribute h b m }

module _ {g : List Definition} {b : Bool} (n : Name) where
  pub any_attribute_out : {p : Pattern} → Clean g true b p → {a : List Attribute} {c : Children} → Matches g (after_any_attribute n p) a c → OneAttribute g OfChars n p a c
  any_attribute_out (clean_attribute {class = class} {p = p} x h e o k) m =
      let w = when_true (has_attribute_name class n && true) m in
      let v = and_true (has_attribute_name class n) true w.0 in
      let i = nothing_inv w.1 in
      attribute_alone i.0 i.1 (renamed n v.0 o k)
  any_attribute_out (clean_one_or_more {p = p} k) m =
      let w = around_out (after_any_attribute n p) p m in
      attribute_map (λ x j. star_more p w.before (to_second w.split) w.order (part_star p j (to_first w.split2) w.order2 w.behind)) (any_attribute_out k w.middle)
  any_attribute_out (clean_choice {p = p} {q = q} k l) m =
      ⊎_elim (λ x. attribute_map (λ _ j. by_first j) (any_attribute_out k x)) (λ x. attribute_map (λ _ j. by_second j) (any_attribute_out l x)) (or_sides ((or_same g (after_any_attribute n p) (after_any_attribute n q)).to m))
  any_attribute_out (clean_group {p = p} {q = q} k l) m =
      ⊎_elim
      (λ x. let w = parts_of_group ((seq_same g (after_any_attribute n p) q).to x) in attribute_map (λ _ j. by_group (to_first w.split) w.order j w.right) (any_attribute_out k w.left))
      (λ x. let w = parts_of_group ((seq_same g p (after_any_attribute n q)).to x) in attribute_map (λ _ j. by_group (to_second w.split) w.order w.left j) (any_attribute_out l w.right))
      (or_sides ((or_same g (group_of (after_any_attribute n p) q) (group_of p (after_any_attribute n q))).to m))
  any_attribute_out (clean_interleave {p = p} {q = q} k l) m =
      ⊎_elim
      (λ x. let w = parts_of_interleave ((mix_same g (after_any_attribute n p) q).to x) in attribute_map (λ _ j. by_interleave (to_first w.split) w.shuffle j w.right) (any_attribute_out k w.left))
      (λ x. let w = parts_of_interleave ((mix_same g p (after_any_attribute n q)).to x) in attribute_map (λ _ j. by_interleave (to_second w.split) w.shuffle w.left j) (any_attribute_out l w.right))
      (or_sides ((or_same g (interleave_of (after_any_attribute n p) q) (interleave_of p (after_any_attribute n q))).to m))
  any_attribute_out clean_empty m = never_no m
  any_attribute_out clean_text m = never_no m
  any_attribute_out (clean_data z s) m = never_no m
  any_attribute_out (clean_value z k) m = never_no m
  any_attribute_out (clean_list w h s) m = never_no m
  any_attribute_out (clean_ref i a k c w h) m = never_no m

-- ---- any string

-- of characters that XML allows, and not blank
abbrev pub IsSolid : List ℕ → Type 0
IsSolid t = IsTrue (is_of_chars t) × (is_blank t ≡ false)

is_ascii : IsAscii (120 ∷ [])
is_ascii zero = omega arith
is_ascii (suc i) = omega arith

a_char : is_char 120 ≡ true
unfolding is_char
a_char = refl

a_letter : is_space 120 ≡ false
unfolding is_space
a_letter = refl

both_true : (x y : Bool) → x ≡ true → y ≡ true → (x && y) ≡ true
both_true x y h k = rw (h, k) refl

pub a_solid_text : IsSolid (120 ∷ [])
a_solid_text =
    let c : list_all is_char (chars (120 ∷ [])) ≡ true = rw (chars-IsAscii (120 ∷ []) is_ascii) (both_true (is_char 120) true a_char refl) in
    (both_true (is_utf8 (120 ∷ [])) (list_all is_char (chars (120 ∷ []))) (is_utf8-from_IsUtf8 (120 ∷ []) (IsUtf8-from_ascii (120 ∷ []) is_ascii)) c, blank)
  where
    blank : is_blank (120 ∷ []) ≡ false
    blank = rw a_letter refl

not_blank : (x : Bool) → (false || not x) ≡ true → x ≡ false
not_blank true h = cc
not_blank false h = refl

taken_string : {g : List Definition} {p : Pattern} → TakesString g false p → OneString g IsSolid p nil
taken_string s = record { text = s.text; is_ok = (s.of_chars, not_blank (is_blank s.text) s.kind); matched = s.matched }

text_of : {g : List Definition} {c : Children} → Matches g any_text [] c → AreStrings c
text_of (by_text s) = s

module _ {g : List Definition} {f b : Bool} (l : PassNoBlank g) where
  pub any_string_out : {p : Pattern} → Clean g f b p → {c : Children} → Matches g (after_solid p) [] c → OneString g IsSolid p c
  any_string_out clean_text m = record { text = 120 ∷ []; is_ok = a_solid_text; matched = by_text (one_string (text_of m)) }
  any_string_out (clean_data {count = n} {type = t} {excepts = e} z s) m =
      let w = when_true (solid_tests.of_data t e) m in leaf_alone (nothing_inv w.1).1 (taken_string (l.data_out n t e z w.0))
  any_string_out (clean_value {count = n} {type = t} {text = v} z k) m =
      let w = when_true (solid_tests.of_value t v) m in
      leaf_alone (nothing_inv w.1).1 (record { text = v; is_ok = ((sound_value_is z).1, l.value_out n t v z w.0); matched = own_text (sound_value_is z).0 })
  any_string_out (clean_list {count = n} {p = p} s h i) m =
      let w = when_true (solid_tests.of_list p) m in leaf_alone (nothing_inv w.1).1 (taken_string (l.list_out n p s h w.0))
  any_string_out (clean_one_or_more {p = p} k) m =
      let w = group_parts ((seq_same g (after_solid p) (star p)).to m) in
      one_of (λ t n. go_on (string_of_first w.order) n (star_out w.right)) (any_string_out k w.left)
  any_string_out (clean_choice {p = p} {q = q} k j) m =
      ⊎_elim (λ x. one_of (λ t n. by_first n) (any_string_out k x)) (λ x. one_of (λ t n. by_second n) (any_string_out j x)) (or_sides ((or_same g (after_solid p) (after_solid q)).to m))
  any_string_out (clean_group {p = p} {q = q} k j) m =
      ⊎_elim
      (λ x. let w = group_parts ((seq_same g (after_solid p) q).to x) in one_of (λ t n. by_group no_attribute (string_of_first w.order) n w.right) (any_string_out k w.left))
      (λ x. let w = when_true (nullable p) x in one_of (λ t n. by_group no_attribute then_second (nullable_out p w.0) n) (any_string_out j w.1))
      (or_sides ((or_same g (group_of (after_solid p) q) (if nullable p then after_solid q else not_allowed)).to m))
  any_string_out (clean_interleave {p = p} {q = q} k j) m =
      ⊎_elim
      (λ x. let w = interleave_parts ((mix_same g (after_solid p) q).to x) in one_of (λ t n. by_interleave no_attribute (string_to_first w.shuffle) n w.right) (any_string_out k w.left))
      (λ x. let w = interleave_parts ((mix_same g p (after_solid q)).to x) in one_of (λ t n. by_interleave no_attribute (string_to_second w.shuffle) w.left n) (any_string_out j w.right))
      (or_sides ((or_same g (interleave_of (after_solid p) q) (interleave_of p (after_solid q))).to m))
  any_string_out clean_empty m = never_no m
  any_string_out (clean_attribute a h e c k) m = never_no m
  any_string_out (clean_ref i a k c w h) m = never_no m

-- ---- attributes passed over

pub drop_in : {g : List Definition} {p : Pattern} {a : List Attribute} {c : Children} → Matches g p a c → Matches g (drop p) [] c
drop_in by_empty = by_empty
drop_in (by_text s) = by_text s
drop_in (by_data a d) = by_data a d
drop_in (by_value a d) = by_value a d
drop_in (by_list m) = by_list m
drop_in (by_attribute h m) = by_empty
drop_in (by_blank_attribute h b m) = by_empty
drop_in {g = g} (by_first {p = p} {q = q} m) = (or_same g (drop p) (drop q)).from (by_first (drop_in m))
drop_in {g = g} (by_second {p = p} {q = q} m) = (or_same g (drop p) (drop q)).from (by_second (drop_in m))
drop_in {g = g} (by_group {p = p} {q = q} s o m n) = (seq_same g (drop p) (drop q)).from (by_group no_attribute o (drop_in m) (drop_in n))
drop_in {g = g} (by_interleave {p = p} {q = q} s o m n) = (mix_same g (drop p) (drop q)).from (by_interleave no_attribute o (drop_in m) (drop_in n))
drop_in {g = g} (by_one {p = p} m) = (more_same g (drop p)).from (by_one (drop_in m))
drop_in {g = g} (by_more {p = p} s o m n) = (more_same g (drop p)).from (by_more no_attribute o (drop_in m) ((more_same g (drop p)).to (drop_in n)))
drop_in (by_element e h w m) = by_element e h w m

pub record WithAttributes (g : List Definition) (p : Pattern) (c : Children) : Type 0 where
  pub given : List Attribute
  pub chars : HaveChars given
  pub matched : Matches g p given c

drop_all : {g : List Definition} {p q : Pattern} → ((c : Children) → Matches g q [] c → WithAttributes g p c) → {c : Children} → Matches g (one_or_more q) [] c → WithAttributes g (one_or_more p) c
drop_all f (by_one m) = let w = f _ m in record { given = w.given; chars = w.chars; matched = by_one w.matched }
drop_all f (by_more no_attribute o m n) =
    let w = f _ m in
    let v = drop_all f n in
    record { given = app w.given v.given; chars = chars_join (app_split w.given v.given) w.chars v.chars; matched = by_more (app_split w.given v.given) o w.matched v.matched }

drop_attribute : {g : List Definition} {class : Class} {p : Pattern} (a : Attribute) → IsTrue (is_of_chars a.value) → Matches g (attribute class p) (a ∷ []) nil → {c : Children} → Matches g empty [] c → WithAttributes g (attribute class p) c
drop_attribute a o m k = let e = nothing_inv k in rw (e.1) (record { given = a ∷ []; chars = (o, tt); matched = m })

plain : {g : List Definition} {p : Pattern} {c : Children} → Matches g p [] c → WithAttributes g p c
plain m = record { given = []; chars = tt; matched = m }

pub drop_out : {g : List Definition} {b : Bool} {p : Pattern} → Clean g true b p → (c : Children) → Matches g (drop p) [] c → WithAttributes g p c
drop_out clean_empty c m = plain m
drop_out clean_text c m = plain m
drop_out (clean_data z s) c m = plain m
drop_out (clean_value z k) c m = plain m
drop_out (clean_list w h s) c m = plain m
drop_out (clean_ref n a k d w h) c m = plain m
drop_out (clean_attribute a h e o k) c m = drop_attribute a o k m
drop_out {g = g} (clean_one_or_more {p = p} k) c m = drop_all (λ c n. drop_out k c n) ((more_same g (drop p)).to m)
drop_out {g = g} (clean_choice {p = p} {q = q} k l) c m =
    ⊎_elim
    (λ n. let w = drop_out k c n in record { given = w.given; chars = w.chars; matched = by_first w.matched })
    (λ n. let w = drop_out l c n in record { given = w.given; chars = w.chars; matched = by_second w.matched })
    (or_sides ((or_same g (drop p) (drop q)).to m))
drop_out {g = g} (clean_group {p = p} {q = q} k l) c m =
    let w = group_parts ((seq_same g (drop p) (drop q)).to m) in
    let v = drop_out k w.c1 w.left in
    let u = drop_out l w.c2 w.right in
    record { given = app v.given u.given; chars = chars_join (app_split v.given u.given) v.chars u.chars; matched = by_group (app_split v.given u.given) w.order v.matched u.matched }
drop_out {g = g} (clean_interleave {p = p} {q = q} k l) c m =
    let w = interleave_parts ((mix_same g (drop p) (drop q)).to m) in
    let v = drop_out k w.c1 w.left in
    let u = drop_out l w.c2 w.right in
    record { given = app v.given u.given; chars = chars_join (app_split v.given u.given) v.chars u.chars; matched = by_interleave (app_split v.given u.given) w.shuffle v.matched u.matched }

clean_more_of : {g : List Definition} {f b : Bool} (p : Pattern) → Clean g f b p → Clean g f b (one_or_more_of p)
clean_more_of p c = rw (some_clean c) (clean_one_or_more c)

pub drop_clean : {g : List Definition} {b : Bool} {p : Pattern} → Clean g true b p → Clean g true b (drop p)
drop_clean clean_empty = clean_empty
drop_clean clean_text = clean_text
drop_clean (clean_data z s) = clean_data z s
drop_clean (clean_value z k) = clean_value z k
drop_clean (clean_list w h s) = clean_list w h s
drop_clean (clean_ref n a k d w h) = clean_ref n a k d w h
drop_clean (clean_attribute a h e o k) = clean_empty
drop_clean (clean_one_or_more {p = p} k) = clean_more_of (drop p) (drop_clean k)
drop_clean (clean_choice {p = p} {q = q} k l) = clean_choice_of (drop p) (drop q) (drop_clean k) (record { clean = λ _. drop_clean l })
drop_clean (clean_group {p = p} {q = q} k l) = clean_group_of (drop p) (drop q) (drop_clean k) (drop_clean l)
drop_clean (clean_interleave {p = p} {q = q} k l) = clean_interleave_of (drop p) (drop q) (drop_clean k) (drop_clean l)
