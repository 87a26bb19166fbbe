-- Children that can be written make fresh events, and fresh events come from such children.
use Rattle.std.proofs.Common.{ℕ, List, [], ◌∷◌, refl}
use Rattle.nx_base.specs.declared.name.Name.{Name}
use Rattle.nx_base.specs.Trees.{Attribute, Children, nil, string, element, HasAttribute, here, further, AreAttributes, no_attributes, one_more, AreChildren, no_children, string_first, element_first, Event, Enter, Att, TagEnd, Chars, Leave, attributes_flat, children_flat, IsWritable, AreWritable}
use Rattle.rng_kept.specs.Events.{IsAmong, first, later}
use Rattle.rng_residual.proofs.Repair.{HaveChars}
use Rattle.rng_residual.proofs.Solid.{behind_children}

-- events that can be written, of which no tag repeats an attribute, where the open one has these
pub data IsFresh : List Name → List Event → Type 0 where
  fresh_end : {l : List Name} → IsFresh l []
  fresh_attribute : {l : List Name} {n : Name} {v : List ℕ} {s : List Event} → IsWritable (Att n v) → (IsAmong n l → ⊥) → IsFresh (n ∷ l) s
      → IsFresh l (Att n v ∷ s)
  fresh_enter : {l : List Name} {n : Name} {s : List Event} → IsWritable (Enter n) → IsFresh [] s → IsFresh l (Enter n ∷ s)
  fresh_tag_end : {l : List Name} {s : List Event} → IsFresh [] s → IsFresh l (TagEnd ∷ s)
  fresh_chars : {l : List Name} {t : List ℕ} {s : List Event} → IsWritable (Chars t) → IsFresh [] s → IsFresh l (Chars t ∷ s)
  fresh_leave : {l : List Name} {s : List Event} → IsFresh [] s → IsFresh l (Leave ∷ s)

-- no attribute has one of these names
pub record NotAmong (a : List Attribute) (l : List Name) : Type 0 where
  pub apart : (n : Name) → HasAttribute n a → IsAmong n l → ⊥

pub not_among_none : (a : List Attribute) → NotAmong a []
not_among_none a = record { apart = λ n h k. elim k [ ] }

-- ---- what is behind one event

pub enter_fresh : {l : List Name} {n : Name} {s : List Event} → IsFresh l (Enter n ∷ s) → IsWritable (Enter n) × IsFresh [] s
enter_fresh (fresh_enter w c) = (w, c)

pub leave_fresh : {l : List Name} {s : List Event} → IsFresh l (Leave ∷ s) → IsFresh [] s
leave_fresh (fresh_leave c) = c

pub chars_fresh : {l : List Name} {t : List ℕ} {s : List Event} → IsFresh l (Chars t ∷ s) → IsWritable (Chars t) × IsFresh [] s
chars_fresh (fresh_chars w c) = (w, c)

pub end_fresh : {l : List Name} {s : List Event} → IsFresh l (TagEnd ∷ s) → IsFresh [] s
end_fresh (fresh_tag_end c) = c

pub record FreshAttribute (n : Name) (v : List ℕ) (l : List Name) (s : List Event) : Type 0 where
  pub writable : IsWritable (Att n v)
  pub new : IsAmong n l → ⊥
  pub rest : IsFresh (n ∷ l) s

pub attribute_fresh : {n : Name} {v : List ℕ} {l : List Name} {s : List Event} → IsFresh l (Att n v ∷ s) → FreshAttribute n v l s
attribute_fresh (fresh_attribute w f c) = record { writable = w; new = f; rest = c }

pub writable_of : {l : List Name} {s : List Event} → IsFresh l s → AreWritable s
writable_of fresh_end = tt
writable_of (fresh_attribute w f c) = (w, writable_of c)
writable_of (fresh_enter w c) = (w, writable_of c)
writable_of (fresh_tag_end c) = (tt, writable_of c)
writable_of (fresh_chars w c) = (w, writable_of c)
writable_of (fresh_leave c) = (tt, writable_of c)

-- ---- attributes

fresh_attributes_on : (a : List Attribute) (l : List Name) {w : List Event} → AreAttributes a → HaveChars a → ((n : Name) → HasAttribute n a → IsAmong n l → ⊥) → IsFresh [] w → IsFresh l (attributes_flat a (TagEnd ∷ w))
fresh_attributes_on [] l d h f c = fresh_tag_end c
fresh_attributes_on (x ∷ a) l (one_more u e d) h f c =
    fresh_attribute (u, h.0) (f x.name (here refl)) (fresh_attributes_on a (x.name ∷ l) d h.1 (λ n i k. go n i k) c)
  where
    go : (n : Name) → HasAttribute n a → IsAmong n (x.name ∷ l) → ⊥
    go n i (first k) = e (rw k i)
    go n i (later k) = f n (further i) k

pub fresh_attributes : {a : List Attribute} {l : List Name} {w : List Event} → AreAttributes a → HaveChars a → NotAmong a l → IsFresh [] w → IsFresh l (attributes_flat a (TagEnd ∷ w))
fresh_attributes {a = a} {l = l} d h f c = fresh_attributes_on a l d h f.apart c

pub record AttributesFresh (a : List Attribute) (l : List Name) (w : List Event) : Type 0 where
  pub distinct : AreAttributes a
  pub chars : HaveChars a
  pub apart : (n : Name) → HasAttribute n a → IsAmong n l → ⊥
  pub rest : IsFresh [] w

pub attributes_fresh : (a : List Attribute) (l : List Name) (w : List Event) → IsFresh l (attributes_flat a (TagEnd ∷ w)) → AttributesFresh a l w
attributes_fresh [] l w c = record { distinct = no_attributes; chars = tt; apart = λ n h k. elim h [ ]; rest = end_fresh c }
attributes_fresh (x ∷ a) l w c =
    let v = attribute_fresh c in
    let u = attributes_fresh a (x.name ∷ l) w v.rest in
    record {
      distinct = one_more v.writable.0 (λ h. u.apart x.name h (first refl)) u.distinct;
      chars = (v.writable.1, u.chars);
      apart = λ n h k. go v.new u.apart n h k;
      rest = u.rest;
    }
  where
    go : (IsAmong x.name l → ⊥) → ((n : Name) → HasAttribute n a → IsAmong n (x.name ∷ l) → ⊥) → (n : Name) → HasAttribute n (x ∷ a) → IsAmong n l → ⊥
    go f h n (here e) k = f (rw e k)
    go f h n (further i) k = h n i (later k)

pub chars_of_attributes : (a : List Attribute) (z : List Event) → AreWritable (attributes_flat a z) → HaveChars a × AreWritable z
chars_of_attributes [] z h = (tt, h)
chars_of_attributes (x ∷ a) z h = let w = chars_of_attributes a z h.1 in ((h.0.1, w.0), w.1)

pub attributes_can_be_written : {a : List Attribute} → AreAttributes a → HaveChars a → AreWritable (attributes_flat a [])
attributes_can_be_written no_attributes h = tt
attributes_can_be_written (one_more u e d) h = ((u, h.0), attributes_can_be_written d h.1)

-- ---- children

-- children that can be written
pub record CanBeWritten (k : Children) : Type 0 where
  pub are_children : AreChildren k
  pub writable : AreWritable (children_flat k [])

attributes_written : (a : List Attribute) (y z : List Event) → AreWritable (attributes_flat a y) → (AreWritable y → AreWritable z) → AreWritable (attributes_flat a z)
attributes_written [] y z h f = f h
attributes_written (x ∷ a) y z h f = (h.0, attributes_written a y z h.1 f)

pub children_written : (k : Children) (y z : List Event) → AreWritable (children_flat k y) → (AreWritable y → AreWritable z) → AreWritable (children_flat k z)
children_written nil y z h f = f h
children_written (string t r) y z h f = (h.0, children_written r y z h.1 f)
children_written (element n a k r) y z h f =
    (h.0, attributes_written a _ _ h.1 (λ i. (tt, children_written k _ _ i.1 (λ j. (tt, children_written r y z j.1 f)))))

fresh_children_on : (k : Children) (l : List Name) (z : List Event) → AreChildren k → AreWritable (children_flat k z) → ((m : List Name) → IsFresh m z) → IsFresh l (children_flat k z)
fresh_children_on nil l z p w f = f l
fresh_children_on (string t r) l z (string_first p) w f = fresh_chars w.0 (fresh_children_on r [] z p w.1 f)
fresh_children_on (element n a k r) l z (element_first x d q p) w f =
    let u = chars_of_attributes a (TagEnd ∷ children_flat k (Leave ∷ children_flat r z)) w.1 in
    let v : AreWritable (children_flat k (Leave ∷ children_flat r z)) = u.1.1 in
    fresh_enter w.0
    (fresh_attributes d u.0 (not_among_none a)
    (fresh_children_on k [] (Leave ∷ children_flat r z) q v (λ m. fresh_leave (fresh_children_on r [] z p (behind_children IsWritable k (Leave ∷ children_flat r z) v).1 f))))

pub fresh_children : {k : Children} (l : List Name) {z : List Event} → CanBeWritten k → ((m : List Name) → IsFresh m z) → IsFresh l (children_flat k z)
fresh_children {k = k} l {z = z} p f =
    fresh_children_on k l z p.are_children (children_written k [] z p.writable (λ _. writable_of (f []))) f

pub children_fresh : (k : Children) (l : List Name) (z : List Event) → IsFresh l (children_flat k z) → AreChildren k × ((m : List Name) × IsFresh m z)
children_fresh nil l z c = (no_children, (l, c))
children_fresh (string t k) l z c = let w = children_fresh k [] z (chars_fresh c).1 in (string_first w.0, w.1)
children_fresh (element n a j k) l z c =
    let e = enter_fresh c in
    let u = attributes_fresh a [] (children_flat j (Leave ∷ children_flat k z)) e.1 in
    let v = children_fresh j [] (Leave ∷ children_flat k z) u.rest in
    let w = children_fresh k [] z (leave_fresh v.1.1) in
    (element_first e.0 u.distinct v.0 w.0, w.1)
