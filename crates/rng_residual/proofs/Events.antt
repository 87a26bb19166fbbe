-- Lists of events that begin alike.
use Rattle.std.proofs.Common.{◌≡◌, ℕ, List, [], ◌∷◌, Bool, true, false, refl, sym, ap}
use Rattle.std.specs.Prelude.{if◌then◌else◌}
use Rattle.nx_base.specs.declared.name.Name.{Name}
use Rattle.nx_base.specs.Characters.{is_blank}
use Rattle.nx_base.specs.Trees.{Attribute, Children, nil, string, element, without_blanks, Event, Enter, TagEnd, Chars, Leave, attributes_flat, children_flat}
use Rattle.rng_core.specs.Matching.{InOrder, then_second, string_of_first, element_of_first}
use Rattle.rng_residual.proofs.Solid.{AreSolid, solid_string, solid_element}

-- two lists of attributes, or of children, that begin one list of events alike are equal
pub attributes_unique : (a b : List Attribute) (y z : List Event) → attributes_flat a (TagEnd ∷ y) ≡ attributes_flat b (TagEnd ∷ z) → (a ≡ b) × (y ≡ z)
attributes_unique [] [] y z e = (refl, cc)
attributes_unique [] (d ∷ b) y z e = cc
attributes_unique (c ∷ a) [] y z e = cc
attributes_unique (c ∷ a) (d ∷ b) y z e =
    let f : attributes_flat a (TagEnd ∷ y) ≡ attributes_flat b (TagEnd ∷ z) = cc in
    let w = attributes_unique a b y z f in
    let name : c.name ≡ d.name = cc in
    let value : c.value ≡ d.value = cc in
    (same c d name value w.0, w.1)
  where
    same : (c d : Attribute) → c.name ≡ d.name → c.value ≡ d.value → a ≡ b → c ∷ a ≡ d ∷ b
    same c d e f g =
        let both : c ≡ record { name = d.name; value = d.value } = rw (← e, ← f) refl in
        rw (both, g) refl

pub children_unique : (j k : Children) (y z : List Event) → children_flat j (Leave ∷ y) ≡ children_flat k (Leave ∷ z) → (j ≡ k) × (y ≡ z)
children_unique nil nil y z e = (refl, cc)
children_unique nil (string t k) y z e = cc
children_unique nil (element n a l k) y z e = cc
children_unique (string u j) nil y z e = cc
children_unique (string u j) (string t k) y z e =
    let f : children_flat j (Leave ∷ y) ≡ children_flat k (Leave ∷ z) = cc in
    let w = children_unique j k y z f in
    let same : u ≡ t = cc in
    (rw (same, w.0) refl, w.1)
children_unique (string u j) (element n a l k) y z e = cc
children_unique (element m b i j) nil y z e = cc
children_unique (element m b i j) (string t k) y z e = cc
children_unique (element m b i j) (element n a l k) y z e =
    let same : m ≡ n = cc in
    let f : attributes_flat b (TagEnd ∷ children_flat i (Leave ∷ children_flat j (Leave ∷ y))) ≡ attributes_flat a (TagEnd ∷ children_flat l (Leave ∷ children_flat k (Leave ∷ z))) = cc in
    let v = attributes_unique b a (children_flat i (Leave ∷ children_flat j (Leave ∷ y))) (children_flat l (Leave ∷ children_flat k (Leave ∷ z))) f in
    let u = children_unique i l (children_flat j (Leave ∷ y)) (children_flat k (Leave ∷ z)) v.1 in
    let w = children_unique j k y z u.1 in
    (rw (same, v.0, u.0, w.0) refl, w.1)

pub order_flat : {c x r : Children} → InOrder c x r → (z : List Event) → children_flat c z ≡ children_flat x (children_flat r z)
order_flat then_second z = refl
order_flat (string_of_first {text = t} o) z = ap (λ (v : List Event). Chars t ∷ v) (order_flat o z)
order_flat (element_of_first {n = n} {a = a} {k = k} o) z = ap (λ (v : List Event). Enter n ∷ attributes_flat a (TagEnd ∷ children_flat k (Leave ∷ v))) (order_flat o z)

-- children whose events begin with those of x and an element's name
pub record Passed (x : Children) (n : Name) (c : Children) (s z : List Event) : Type 0 where
  pub attributes : List Attribute
  pub children : Children
  pub rest : Children
  pub order : InOrder c x (element n attributes children rest)
  pub events : s ≡ attributes_flat attributes (TagEnd ∷ children_flat children (Leave ∷ children_flat rest z))

-- what stands behind children: nothing, or the end of the element around them
pub data Behind : List Event → Type 0 where
  at_end : Behind []
  at_leave : {z : List Event} → Behind (Leave ∷ z)

no_enter : {X : Type 0} {n : Name} {s z : List Event} → Behind z → Enter n ∷ s ≡ z → X
no_enter at_end e = cc
no_enter at_leave e = cc

no_chars : {X : Type 0} {t : List ℕ} {s z : List Event} → Behind z → Chars t ∷ s ≡ z → X
no_chars at_end e = cc
no_chars at_leave e = cc

string_on : {t u : List ℕ} {c x r : Children} → t ≡ u → InOrder c x r → InOrder (string t c) (string u x) r
string_on e o = rw e (string_of_first o)

element_on : {m n : Name} {a b : List Attribute} {j k c x r : Children} → m ≡ n → a ≡ b → j ≡ k → InOrder c x r → InOrder (element m a j c) (element n b k x) r
element_on e f h o = rw (e, f, h) (element_of_first o)

front_on : {m n : Name} (a : List Attribute) (k c : Children) → n ≡ m → InOrder (element m a k c) nil (element n a k c)
front_on a k c e = rw e then_second

pub passed : (x : Children) (n : Name) (c : Children) (s z : List Event) → Behind z → children_flat x (Enter n ∷ s) ≡ children_flat c z → Passed x n c s z
passed nil n nil s z b e = no_enter b e
passed nil n (string t c) s z b e = cc
passed nil n (element m a k c) s z b e =
    let same : n ≡ m = cc in
    record { attributes = a; children = k; rest = c; order = front_on a k c same; events = cc }
passed (string u x) n nil s z b e = no_chars b e
passed (string u x) n (string t c) s z b e =
    let f : children_flat x (Enter n ∷ s) ≡ children_flat c z = cc in
    let w = passed x n c s z b f in
    let same : t ≡ u = cc in
    record { attributes = w.attributes; children = w.children; rest = w.rest; order = string_on same w.order; events = w.events }
passed (string u x) n (element m a k c) s z b e = cc
passed (element m a k x) n nil s z b e = no_enter b e
passed (element m a k x) n (string t c) s z b e = cc
passed (element m a k x) n (element m' a' k' c) s z b e =
    let same : m' ≡ m = cc in
    let f : attributes_flat a (TagEnd ∷ children_flat k (Leave ∷ children_flat x (Enter n ∷ s))) ≡ attributes_flat a' (TagEnd ∷ children_flat k' (Leave ∷ children_flat c z)) = cc in
    let v = attributes_unique a a' (children_flat k (Leave ∷ children_flat x (Enter n ∷ s))) (children_flat k' (Leave ∷ children_flat c z)) f in
    let u = children_unique k k' (children_flat x (Enter n ∷ s)) (children_flat c z) v.1 in
    let w = passed x n c s z b u.1 in
    record { attributes = w.attributes; children = w.children; rest = w.rest; order = element_on same (sym v.0) (sym u.0) w.order; events = w.events }

-- without blank strings on both sides
pub order_without_blanks : {c x r : Children} → InOrder c x r → InOrder (without_blanks c) (without_blanks x) (without_blanks r)
order_without_blanks then_second = then_second
order_without_blanks (string_of_first {text = t} {all = c} {one = x} {other = r} o) = go (is_blank t) (order_without_blanks o)
  where
    go : (b : Bool) → InOrder (without_blanks c) (without_blanks x) (without_blanks r) → InOrder (if b then without_blanks c else string t (without_blanks c)) (if b then without_blanks x else string t (without_blanks x)) (without_blanks r)
    go true p = p
    go false p = string_of_first p
order_without_blanks (element_of_first o) = element_of_first (order_without_blanks o)

-- solid children before some without their blank strings are what is so of children
pub record Seen (c x r : Children) : Type 0 where
  pub all : Children
  pub order : InOrder all x r
  pub is : without_blanks all ≡ c

pub seen : (r : Children) {c x y : Children} → InOrder c x y → y ≡ without_blanks r → AreSolid x → Seen c x r
seen r then_second e f = record { all = r; order = then_second; is = sym e }
seen r (string_of_first {text = t} o) d (solid_string u b f) =
    let w = seen r o d f in
    record { all = string t w.all; order = string_of_first w.order; is = whole w.all w.is b }
  where
    whole : (k : Children) {c : Children} → without_blanks k ≡ c → is_blank t ≡ false → (if is_blank t then without_blanks k else string t (without_blanks k)) ≡ string t c
    whole k i b = rw (b, i) refl
seen r (element_of_first {n = n} {a = a} {k = k} o) d (solid_element f) =
    let w = seen r o d f in
    record { all = element n a k w.all; order = element_of_first w.order; is = ap (λ v. element n a k v) w.is }
