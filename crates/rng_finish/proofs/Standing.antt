-- Children that a text can have, put together.
use Rattle.std.proofs.Common.{◌≡◌, ◌<◌, ℕ, zero, suc, length, List, [], ◌∷◌, ◌++◌, Bool, true, false, refl, sym, subst, ap, ◌∙◌, arith}
use Rattle.std.specs.Prelude.{IsTrue, if◌then◌else◌}
use Rattle.nx_base.specs.Characters.{is_blank, is_of_chars}
use Rattle.nx_base.specs.declared.name.Name.{Name}
use Rattle.nx_base.specs.Names.{is_attribute_name}
use Rattle.nx_base.specs.Trees.{Attribute, Children, nil, string, element, without_blanks, AreAttributes, no_attributes, one_more, AreChildren, no_children, string_first, element_first}
use Rattle.nx_base.specs.Trees.{Event, Enter, Att, TagEnd, Chars, Leave, attributes_flat, children_flat, AreWritable}
use Rattle.rng_residual.proofs.Fresh.{CanBeWritten, children_written}
use Rattle.rng_residual.proofs.Joining.{cat, cat_flat, cat_children, cat_written, none_written, string_written}
use Rattle.rng_fill.specs.Written.{AreOfChars, no_value, one_value, IsWritten, written_nil, written_string, written_before, written_element}
use Rattle.rng_rests.specs.Rests.{AreApart}
use Rattle.rng_finish.specs.Filled.{BeginsWithNone, CanStand}

-- ---- events and what follows them

pub attributes_then : (a : List Attribute) (y s : List Event) → attributes_flat a y ++ s ≡ attributes_flat a (y ++ s)
attributes_then [] y s = refl
attributes_then (x ∷ a) y s = ap (λ (t : List Event). Att x.name x.value ∷ t) (attributes_then a y s)

pub children_then : (k : Children) (y s : List Event) → children_flat k y ++ s ≡ children_flat k (y ++ s)
children_then nil y s = refl
children_then (string t r) y s = ap (λ (z : List Event). Chars t ∷ z) (children_then r y s)
children_then (element n a k r) y s =
    ap (λ (z : List Event). Enter n ∷ z)
    (attributes_then a (TagEnd ∷ children_flat k (Leave ∷ children_flat r y)) s
    ∙ ap (λ (z : List Event). attributes_flat a (TagEnd ∷ z))
    (children_then k (Leave ∷ children_flat r y) s ∙ ap (λ (z : List Event). children_flat k (Leave ∷ z)) (children_then r y s)))

-- ---- strings stand apart

pub string_apart : (t : List ℕ) (s : List Event) → 0 < length t → BeginsWithNone s → AreApart s → AreApart (Chars t ∷ s)
string_apart t [] some none h = (some, h)
string_apart t (Enter n ∷ s) some none h = (some, h)
string_apart t (Att n v ∷ s) some none h = (some, h)
string_apart t (TagEnd ∷ s) some none h = (some, h)
string_apart t (Leave ∷ s) some none h = (some, h)
string_apart t (Chars u ∷ s) some none h = absurd none

pub attributes_apart : (a : List Attribute) (s : List Event) → AreApart s → AreApart (attributes_flat a s)
attributes_apart [] s h = h
attributes_apart (x ∷ a) s h = attributes_apart a s h

some_text : (t : List ℕ) → (t ≡ [] → ⊥) → 0 < length t
some_text [] some = absurd (some refl)
some_text (x ∷ t) some = omega arith

pub written_apart : {k : Children} → IsWritten k → (s : List Event) → BeginsWithNone s → AreApart s → AreApart (children_flat k s)
written_apart written_nil s none h = h
written_apart (written_string {t = t} of some) s none h = string_apart t s (some_text t some) none h
written_apart (written_before {t = t} {n = n} {a = a} {k = k} {rest = r} of some w) s none h =
    string_apart t (children_flat (element n a k r) s) (some_text t some) tt (written_apart w s none h)
written_apart (written_element {a = a} {k = k} {rest = r} x d v w u) s none h =
    attributes_apart a (TagEnd ∷ children_flat k (Leave ∷ children_flat r s))
    (written_apart w (Leave ∷ children_flat r s) tt (written_apart u s none h))

-- ---- they can be written

attributes_writable : {a : List Attribute} (s : List Event) → AreAttributes a → AreOfChars a → AreWritable s → AreWritable (attributes_flat a s)
attributes_writable s no_attributes v h = h
attributes_writable s (one_more u e d) (one_value c v) h = ((u, c), attributes_writable s d v h)

written_writable : {k : Children} → IsWritten k → (s : List Event) → AreWritable s → AreWritable (children_flat k s)
written_writable written_nil s h = h
written_writable (written_string of some) s h = (of, h)
written_writable (written_before of some w) s h = (of, written_writable w s h)
written_writable (written_element {k = k} {rest = r} x d v w u) s h = (
  x,
  attributes_writable (TagEnd ∷ children_flat k (Leave ∷ children_flat r s)) d v
      (tt, written_writable w (Leave ∷ children_flat r s) (tt, written_writable u s h)),
)

written_children : {k : Children} → IsWritten k → AreChildren k
written_children written_nil = no_children
written_children (written_string of some) = string_first no_children
written_children (written_before of some w) = string_first (written_children w)
written_children (written_element x d v w u) = element_first x d (written_children w) (written_children u)

-- ---- one element, one string, and more

pub nothing_stands : {solid : Bool} → CanStand solid nil
nothing_stands = record { children = no_children; writable = tt; apart = λ s none h. h; solid = λ e. refl }

pub element_stands : {solid : Bool} {n : Name} {a : List Attribute} {k : Children} → IsWritten (element n a k nil)
    → CanStand solid (element n a k nil)
element_stands w = record {
  children = written_children w;
  writable = written_writable w [] tt;
  apart = λ s none h. written_apart w s none h;
  solid = λ e. refl;
}

pub string_stands : {solid : Bool} {t : List ℕ} → IsTrue (is_of_chars t) → (t ≡ [] → ⊥) → (solid ≡ true → is_blank t ≡ false)
    → CanStand solid (string t nil)
string_stands {t = t} of some kind = record {
  children = string_first no_children;
  writable = (of, tt);
  apart = λ s none h. string_apart t s (some_text t some) none h;
  solid = λ e. rw (kind e) refl;
}

if_blank : (b : Bool) (t : List ℕ) (x y z : Children) → x ≡ cat y z → (if b then x else string t x) ≡ cat (if b then y else string t y) z
unfolding cat
if_blank true t x y z is = is
if_blank false t x y z is = ap (λ (k : Children). string t k) is

blanks_cat : (x y : Children) → without_blanks (cat x y) ≡ cat (without_blanks x) (without_blanks y)
unfolding cat
blanks_cat nil y = refl
blanks_cat (string t x) y = if_blank (is_blank t) t (without_blanks (cat x y)) (without_blanks x) (without_blanks y) (blanks_cat x y)
blanks_cat (element n a k x) y = ap (λ (z : Children). element n a k z) (blanks_cat x y)

-- an element behind the others
element_apart : {n : Name} {a : List Attribute} {k : Children} → IsWritten (element n a k nil) → (s : List Event) → AreApart s
    → AreApart (children_flat (element n a k nil) s)
element_apart (written_element {a = a} {k = k} x d v w u) s h =
    attributes_apart a (TagEnd ∷ children_flat k (Leave ∷ s)) (written_apart w (Leave ∷ s) tt h)

pub last_stands : {solid : Bool} {c : Children} {n : Name} {a : List Attribute} {k : Children} → CanStand solid c → IsWritten (element n a k nil)
    → CanStand solid (cat c (element n a k nil))
last_stands {solid = solid} {c = c} {n = n} {a = a} {k = k} h w =
    let one : Children = element n a k nil in
    let e : CanStand solid one = element_stands w in
    record {
      children = cat_children h.children e.children;
      writable = (cat_written (record { are_children = h.children; writable = h.writable })
          (record { are_children = e.children; writable = e.writable })).writable;
      apart = λ s none apart. subst (λ (z : List Event). AreApart z) (sym (cat_flat c one s)) (h.apart (children_flat one s) tt (element_apart w s apart));
      solid = λ is. blanks_cat c one ∙ ap (λ (z : Children). cat z one) (h.solid is);
    }
