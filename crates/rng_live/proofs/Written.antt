-- What is marked takes an element that can be written.
use Rattle.std.proofs.Common.{◌≡◌, ℕ, zero, suc, List, [], ◌∷◌, Bool, true, false, ◌||◌, ◌&&◌, Some, refl, sym, subst, ⊎_elim, length, true≢false}
use Rattle.std.specs.Prelude.{slice_get}
use Rattle.nx_base.specs.declared.name.Name.{Name}
use Rattle.nx_base.specs.Names.{is_xml_name}
use Rattle.nx_base.specs.Trees.{Attribute, Children, nil, string, element, no_attributes, AreChildren, no_children, element_first, Event, Leave, AreWritable, attributes_flat, children_flat}
use Rattle.rng_core.specs.Names.{Class, covers}
use Rattle.rng_core.specs.Patterns.{Pattern, Definition, attribute, ref}
use Rattle.rng_core.specs.Matching.{no_string, as_they_stand, Matches, by_first, by_second, by_group, by_empty, by_text, by_one, by_interleave, by_element, by_attribute, by_blank_attribute}
use Rattle.rng_kept.specs.Nullable.{nullable}
use Rattle.rng_kept.specs.SolidStrings.{has_words}
use Rattle.rng_residual.proofs.SmallPatterns.{and_true, or_true, split_none, split_none_is}
use Rattle.rng_residual.proofs.Nullable.{nullable_out}
use Rattle.rng_kept.specs.Apart.{IsApart}
use Rattle.rng_residual.proofs.Cleaning.{own_text}
use Rattle.rng_residual.proofs.Fresh.{CanBeWritten, children_written, attributes_can_be_written}
use Rattle.rng_residual.proofs.Repair.{HaveChars, chars_join, repair}
use Rattle.rng_residual.proofs.Joining.{cat, cat_order, cat_shuffle, cat_written, none_written, string_written, app, app_split}
use Rattle.rng_live.specs.Living.{has_some_name, has_some_attribute_name, has_string, lives_with, definition_lives_with}
use Rattle.rng_live.specs.Conditions.{is_marked}
use Rattle.rng_live.proofs.Fitting.{rounds, living, Fits, fits_not_allowed, fits_empty, fits_text, fits_data, fits_value, fits_list, fits_attribute, fits_ref, fits_one_or_more, fits_choice, fits_group, fits_interleave, AllFit, AreDerived}
use Rattle.rng_live.proofs.Claims.{AreApart}
use Rattle.rng_live.proofs.Texts.{nothing_of_chars}
use Rattle.rng_live.proofs.Exact.{sound_literal, AString, name_out, attribute_name_out, string_out, listed_out, data_out, lives_in, values_utf8, strings_utf8}
use Rattle.rng_live.proofs.Rounds.{marked_by, living_is_closed}

-- attributes of Chars and children that can be written, which a pattern takes
record Well (g : List Definition) (p : Pattern) : Type 0 where
  attributes : List Attribute
  children : Children
  chars : HaveChars attributes
  written : CanBeWritten children
  matched : Matches g p attributes children

-- an element that can be written, which a reference takes
pub record WellRef (g : List Definition) (i : ℕ) : Type 0 where
  pub name : Name
  pub attributes : List Attribute
  pub children : Children
  pub are_children : AreChildren (element name attributes children nil)
  pub writable : AreWritable (children_flat (element name attributes children nil) [])
  pub matched : Matches g (ref i) [] (element name attributes children nil)

pub record AreWell (named : ℕ → Bool) (g : List Definition) (marks : List Bool) : Type 0 where
  pub well : (i : ℕ) → named i ≡ true → is_marked marks i ≡ true → WellRef g i

well_string : {g : List Definition} {p : Pattern} → AString g p → Well g p
well_string w = record { attributes = []; children = string w.text nil; chars = tt; written = string_written w.text w.of_chars; matched = w.matched }

behind : (a : List Attribute) (z : List Event) → AreWritable (attributes_flat a []) → AreWritable z → AreWritable (attributes_flat a z)
behind [] z h w = w
behind (x ∷ a) z h w = (h.0, behind a z h.1 w)

module _ {g : List Definition} {named : ℕ → Bool} (marks : List Bool) (are : AreWell named g marks) where
  attribute_well : (c : Class) {p : Pattern} → Fits named p → has_some_attribute_name c ≡ true → (has_string p || nullable p) ≡ true → Well g (attribute c p)
  attribute_well c {p = p} f h k =
      let n = attribute_name_out c h in
      ⊎_elim
      (λ e.
      let w : AString g p = string_out f e in
      record { attributes = record { name = n.0; value = w.text } ∷ []; children = nil; chars = (w.of_chars, tt); written = none_written; matched = by_attribute n.1 w.matched })
      (λ e. record { attributes = record { name = n.0; value = [] } ∷ []; children = nil; chars = (nothing_of_chars, tt); written = none_written; matched = by_blank_attribute n.1 refl (nullable_out p e) })
      (or_true (has_string p) (nullable p) k)

  well_out : {p : Pattern} → Fits named p → lives_with marks p ≡ true → Well g p
  well_out fits_not_allowed h = cc
  well_out fits_empty h = record { attributes = []; children = nil; chars = tt; written = none_written; matched = by_empty }
  well_out fits_text h = record { attributes = []; children = nil; chars = tt; written = none_written; matched = by_text no_string }
  well_out (fits_data s) h = well_string (data_out s h)
  well_out (fits_value {text = t} s) h = let w = sound_literal s in well_string (record { text = t; of_chars = w.1; matched = own_text w.0 })
  well_out (fits_list {p = p} s f z e) h = well_string (listed_out s f (and_true (has_words p || nullable p) (lives_with marks p) h).0)
  well_out (fits_attribute {class = c} {p = p} l z f) h = let d = and_true (has_some_attribute_name c) (has_string p || nullable p) (and_true (has_some_attribute_name c && (has_string p || nullable p)) (lives_with marks p) h).0 in attribute_well c f d.0 d.1
  well_out (fits_ref {i = i} n) h =
      let w = are.well i n h in
      record { attributes = []; children = element w.name w.attributes w.children nil; chars = tt; written = record { are_children = w.are_children; writable = w.writable }; matched = w.matched }
  well_out (fits_one_or_more f) h = let w = well_out f h in record { attributes = w.attributes; children = w.children; chars = w.chars; written = w.written; matched = by_one w.matched }
  well_out (fits_choice {p = p} {q = q} f e) h =
      ⊎_elim
      (λ i. let w = well_out f i in record { attributes = w.attributes; children = w.children; chars = w.chars; written = w.written; matched = by_first w.matched })
      (λ i. let w = well_out e i in record { attributes = w.attributes; children = w.children; chars = w.chars; written = w.written; matched = by_second w.matched })
      (or_true (lives_with marks p) (lives_with marks q) h)
  well_out (fits_group {p = p} {q = q} f e) h =
      let d = and_true (lives_with marks p) (lives_with marks q) h in
      let w = well_out f d.0 in
      let v = well_out e d.1 in
      record {
        attributes = app w.attributes v.attributes;
        children = cat w.children v.children;
        chars = chars_join (app_split w.attributes v.attributes) w.chars v.chars;
        written = cat_written w.written v.written;
        matched = by_group (app_split w.attributes v.attributes) (cat_order w.children v.children) w.matched v.matched;
      }
  well_out (fits_interleave {p = p} {q = q} f e) h =
      let d = and_true (lives_with marks p) (lives_with marks q) h in
      let w = well_out f d.0 in
      let v = well_out e d.1 in
      record {
        attributes = app w.attributes v.attributes;
        children = cat w.children v.children;
        chars = chars_join (app_split w.attributes v.attributes) w.chars v.chars;
        written = cat_written w.written v.written;
        matched = by_interleave (app_split w.attributes v.attributes) (cat_shuffle w.children v.children) w.matched v.matched;
      }

  definition_well : (i : ℕ) (d : Definition) → slice_get g i ≡ Some d → Fits named d.content → IsApart d.content → definition_lives_with marks d ≡ true → WellRef g i
  definition_well i d is f apart h =
      let e = and_true (has_some_name d.class) (lives_with marks d.content) h in
      let n = name_out d.class e.0 in
      let w = well_out f e.1 in
      let r = repair w.matched apart (split_none w.attributes) no_attributes in
      let chars : HaveChars r.all = subst (λ v. HaveChars v) (sym (split_none_is r.split)) (r.chars w.chars) in
      let xml = (and_true (is_xml_name n.0) (covers d.class n.0) n.1).0 in
      record {
        name = n.0;
        attributes = r.all;
        children = w.children;
        are_children = element_first xml r.distinct w.written.are_children no_children;
        writable = (xml, behind r.all _ (attributes_can_be_written r.distinct chars) (tt, children_written w.children [] (Leave ∷ []) w.written.writable (λ _. (tt, tt))));
        matched = by_element is n.1 as_they_stand r.matched;
      }

rounds_well : (named : ℕ → Bool) (g : List Definition) → AllFit named g → AreApart named g → (n : ℕ) → AreWell named g (rounds g n)
rounds_well named g fit apart zero = record { well = λ i k h. absurd (let w = marked_by (λ d. false) g i h in true≢false (sym w.passes)) }
rounds_well named g fit apart (suc n) = record {
  well = λ i k h.
      let w = marked_by (definition_lives_with (rounds g n)) g i h in
      definition_well (rounds g n) (rounds_well named g fit apart n) i w.definition w.is (fit.content i w.definition k w.is) (apart i w.definition k w.is) w.passes;
}

-- whatever lives is marked by the rounds
pub all_well : (named : ℕ → Bool) (g : List Definition) → AllFit named g → AreApart named g → (marks : List Bool) → AreDerived named g marks → AreWell named g marks
all_well named g fit apart marks derived = record {
  well = λ i k h.
      let w = derived.derived i k h in
      (rounds_well named g fit apart (length g)).well i k
      (lives_in fit (living g) (living_is_closed g) (fits_ref k) (values_utf8 w.values) (strings_utf8 w.strings_are) w.matched);
}
