-- Children and attributes put together.
use Rattle.std.proofs.Common.{◌≡◌, ℕ, List, [], ◌∷◌, false, refl, ap}
use Rattle.std.specs.Prelude.{IsTrue, if◌then◌else◌}
use Rattle.nx_base.specs.Characters.{is_blank, is_of_chars}
use Rattle.nx_base.specs.Trees.{Attribute, Children, nil, string, element, without_blanks, AreChildren, no_children, string_first, element_first, Event, Enter, TagEnd, Chars, Leave, attributes_flat, children_flat}
use Rattle.rng_core.specs.Matching.{Split, to_first, InOrder, then_second, string_of_first, element_of_first, Shuffle, string_to_first, element_to_first}
use Rattle.rng_residual.proofs.SmallPatterns.{split_none, shuffle_none}
use Rattle.rng_residual.proofs.Solid.{AreSolid, solid_nil, solid_string, solid_element}
use Rattle.rng_residual.proofs.Fresh.{CanBeWritten, children_written}

unfoldable pub cat : Children → Children → Children
cat nil y = y
cat (string t x) y = string t (cat x y)
cat (element n a k x) y = element n a k (cat x y)

pub cat_order : (x y : Children) → InOrder (cat x y) x y
unfolding cat
cat_order nil y = then_second
cat_order (string t x) y = string_of_first (cat_order x y)
cat_order (element n a k x) y = element_of_first (cat_order x y)

pub cat_shuffle : (x y : Children) → Shuffle (cat x y) x y
unfolding cat
cat_shuffle nil y = shuffle_none y
cat_shuffle (string t x) y = string_to_first (cat_shuffle x y)
cat_shuffle (element n a k x) y = element_to_first (cat_shuffle x y)

pub cat_flat : (x y : Children) (z : List Event) → children_flat (cat x y) z ≡ children_flat x (children_flat y z)
unfolding cat
cat_flat nil y z = refl
cat_flat (string t x) y z = ap (λ (v : List Event). Chars t ∷ v) (cat_flat x y z)
cat_flat (element n a k x) y z = ap (λ (v : List Event). Enter n ∷ attributes_flat a (TagEnd ∷ children_flat k (Leave ∷ v))) (cat_flat x y z)

pub cat_children : {x y : Children} → AreChildren x → AreChildren y → AreChildren (cat x y)
unfolding cat
cat_children no_children q = q
cat_children (string_first p) q = string_first (cat_children p q)
cat_children (element_first n a k p) q = element_first n a k (cat_children p q)

pub cat_solid : {x y : Children} → AreSolid x → AreSolid y → AreSolid (cat x y)
unfolding cat
cat_solid solid_nil q = q
cat_solid (solid_string c b p) q = solid_string c b (cat_solid p q)
cat_solid (solid_element p) q = solid_element (cat_solid p q)

pub cat_written : {x y : Children} → CanBeWritten x → CanBeWritten y → CanBeWritten (cat x y)
cat_written {x = x} {y = y} p q = record {
  are_children = cat_children p.are_children q.are_children;
  writable = rw (cat_flat x y []) (children_written x [] (children_flat y []) p.writable (λ _. q.writable));
}

pub none_written : CanBeWritten nil
none_written = record { are_children = no_children; writable = tt }

pub string_written : (t : List ℕ) → IsTrue (is_of_chars t) → CanBeWritten (string t nil)
string_written t c = record { are_children = string_first no_children; writable = (c, tt) }

-- nothing is left out of what isn't blank
pub solid_stays : {k : Children} → AreSolid k → without_blanks k ≡ k
solid_stays solid_nil = refl
solid_stays (solid_string {t = t} {r = r} c b s) = go b (solid_stays s)
  where
    go : is_blank t ≡ false → without_blanks r ≡ r → (if is_blank t then without_blanks r else string t (without_blanks r)) ≡ string t r
    go e f = rw (e, f) refl
solid_stays (solid_element {n = n} {a = a} {k = k} s) = ap (λ v. element n a k v) (solid_stays s)

-- attributes
unfoldable pub app : List Attribute → List Attribute → List Attribute
app [] y = y
app (x ∷ a) y = x ∷ app a y

pub app_split : (a y : List Attribute) → Split (app a y) a y
unfolding app
app_split [] y = split_none y
app_split (x ∷ a) y = to_first (app_split a y)

pub app_none : (a y : List Attribute) → a ≡ [] → y ≡ [] → app a y ≡ []
unfolding app
app_none a y e h = rw (e, h) refl
