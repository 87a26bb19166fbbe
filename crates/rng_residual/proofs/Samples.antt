-- Something that a clean pattern matches.
use Rattle.std.proofs.Common.{◌≡◌, ℕ, List, [], ◌∷◌, Bool, true, false, not, ◌||◌, refl}
use Rattle.std.specs.Prelude.{IsTrue}
use Rattle.nx_base.specs.Characters.{is_blank, is_of_chars}
use Rattle.nx_base.specs.Trees.{Attribute, Children, nil, string, element}
use Rattle.rng_core.specs.Patterns.{Pattern, Definition}
use Rattle.rng_core.specs.Matching.{Matches, by_empty, by_text, no_string, by_one, by_first, by_group, by_interleave}
use Rattle.rng_kept.specs.Clean.{Clean, clean_empty, clean_text, clean_data, clean_value, clean_list, clean_attribute, clean_ref, clean_one_or_more, clean_choice, clean_group, clean_interleave}
use Rattle.rng_residual.proofs.SmallPatterns.{and_true}
use Rattle.rng_residual.proofs.Cleaning.{sound_value_is, own_text}
use Rattle.rng_residual.proofs.Repair.{HaveChars, chars_join}
use Rattle.rng_residual.proofs.Solid.{AreSolid, solid_nil, solid_string, solid_element}
use Rattle.rng_residual.proofs.Fresh.{CanBeWritten}
use Rattle.rng_residual.proofs.Joining.{cat, cat_order, cat_shuffle, cat_solid, cat_written, none_written, string_written, app, app_split, app_none}

-- something that a clean pattern matches
pub record Sample (g : List Definition) (f b : Bool) (p : Pattern) : Type 0 where
  pub attributes : List Attribute
  pub children : Children
  pub chars : HaveChars attributes
  pub written : CanBeWritten children
  pub solid : b ≡ false → AreSolid children
  pub matched : Matches g p attributes children
  pub none : f ≡ false → attributes ≡ []

not_blank : (b x : Bool) → (b || not x) ≡ true → b ≡ false → x ≡ false
not_blank true x h e = cc
not_blank false true h e = cc
not_blank false false h e = refl

one_string : {g : List Definition} {f b : Bool} {p : Pattern} (t : List ℕ) → IsTrue (is_of_chars t) → (b || not (is_blank t)) ≡ true → Matches g p [] (string t nil) → Sample g f b p
one_string {b = b} t c k m = record {
  attributes = [];
  children = string t nil;
  chars = tt;
  written = string_written t c;
  solid = λ e. solid_string (and_true _ _ c).0 (not_blank b (is_blank t) k e) solid_nil;
  matched = m;
  none = λ _. refl;
}

pub sample : {g : List Definition} {f b : Bool} {p : Pattern} → Clean g f b p → Sample g f b p
sample clean_empty = record { attributes = []; children = nil; chars = tt; written = none_written; solid = λ _. solid_nil; matched = by_empty; none = λ _. refl }
sample clean_text = record { attributes = []; children = nil; chars = tt; written = none_written; solid = λ _. solid_nil; matched = by_text no_string; none = λ _. refl }
sample (clean_data z s) = one_string s.text s.of_chars s.kind s.matched
sample (clean_value {text = t} z k) = let w = sound_value_is z in one_string t w.1 k (own_text w.0)
sample (clean_list w h s) = one_string s.text s.of_chars s.kind s.matched
sample (clean_attribute a h e c m) = record { attributes = a ∷ []; children = nil; chars = (c, tt); written = none_written; solid = λ _. solid_nil; matched = m; none = λ d. cc }
sample (clean_ref n a k c w m) = record { attributes = []; children = element n a k nil; chars = tt; written = record { are_children = c; writable = w }; solid = λ _. solid_element solid_nil; matched = m; none = λ _. refl }
sample (clean_one_or_more c) = let w = sample c in record { attributes = w.attributes; children = w.children; chars = w.chars; written = w.written; solid = w.solid; matched = by_one w.matched; none = w.none }
sample (clean_choice c d) = let w = sample c in record { attributes = w.attributes; children = w.children; chars = w.chars; written = w.written; solid = w.solid; matched = by_first w.matched; none = w.none }
sample (clean_group c d) =
    let w = sample c in
    let v = sample d in
    record {
      attributes = app w.attributes v.attributes;
      children = cat w.children v.children;
      chars = chars_join (app_split w.attributes v.attributes) w.chars v.chars;
      written = cat_written w.written v.written;
      solid = λ h. cat_solid (w.solid h) (v.solid h);
      matched = by_group (app_split w.attributes v.attributes) (cat_order w.children v.children) w.matched v.matched;
      none = λ h. app_none w.attributes v.attributes (w.none h) (v.none h);
    }
sample (clean_interleave c d) =
    let w = sample c in
    let v = sample d in
    record {
      attributes = app w.attributes v.attributes;
      children = cat w.children v.children;
      chars = chars_join (app_split w.attributes v.attributes) w.chars v.chars;
      written = cat_written w.written v.written;
      solid = λ h. cat_solid (w.solid h) (v.solid h);
      matched = by_interleave (app_split w.attributes v.attributes) (cat_shuffle w.children v.children) w.matched v.matched;
      none = λ h. app_none w.attributes v.attributes (w.none h) (v.none h);
    }
