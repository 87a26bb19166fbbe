-- Passing over children.
use Rattle.std.proofs.Common.{◌≡◌, ℕ, List, [], map, Bool, true, false, refl, subst, inl, inr, ◌⊎◌, ⊎_elim, Some}
use Rattle.std.specs.Prelude.{slice_get}
use Rattle.nx_base.specs.declared.name.Name.{Name}
use Rattle.nx_base.specs.Trees.{Attribute, Children, nil, string, element}
use Rattle.rng_core.specs.Names.{has_name}
use Rattle.rng_core.specs.Patterns.{Pattern, Definition, empty, ref, choice}
use Rattle.rng_core.specs.Matching.{no_attribute, InOrder, then_second, string_of_first, element_of_first, Shuffle, no_child, string_to_first, string_to_second, element_to_first, element_to_second, AreStrings, one_string, Matches, by_empty, by_text, by_data, by_value, by_list, by_first, by_second, by_group, by_interleave, by_one, by_more, by_element}
use Rattle.rng_kept.specs.SmallPatterns.{group_of, star}
use Rattle.rng_kept.specs.Openings.{then_group, then_interleave, under_interleave}
use Rattle.rng_residual.specs.Openings.{Opened}
use Rattle.rng_kept.specs.Clean.{Clean, clean_empty, clean_text, clean_data, clean_value, clean_list, clean_attribute, clean_ref, clean_one_or_more, clean_choice, clean_group, clean_interleave}
use Rattle.rng_residual.proofs.SmallPatterns.{or_same, seq_same, mix_same, or_sides, nothing_inv, order_all}
use Rattle.rng_residual.proofs.Nullable.{star_in, star_none, star_out, group_parts, interleave_parts, go_on}
use Rattle.rng_residual.proofs.Openings.{joined_in, joined_out, group_in, left_in, right_in, group_out, left_out, right_out, open_in, open_out}
use Rattle.rng_kept.specs.Skipping.{ending, skip_opens}
use Rattle.rng_residual.proofs.Solid.{AreSolid, solid_nil}
use Rattle.rng_residual.proofs.Fresh.{CanBeWritten}
use Rattle.rng_residual.proofs.Joining.{cat, cat_order, cat_solid, cat_written, none_written}
use Rattle.rng_residual.proofs.Samples.{sample}

-- of two splits of one list, one front is a front of the other
pub record Inner (x c1 c2 r : Children) : Type 0 where
  pub middle : Children
  pub first : InOrder c1 x middle
  pub second : InOrder r middle c2

pub record Outside (x c1 c2 r : Children) : Type 0 where
  pub middle : Children
  pub first : InOrder x c1 middle
  pub second : InOrder c2 middle r

pub levi : {c c1 c2 x r : Children} → InOrder c c1 c2 → InOrder c x r → Inner x c1 c2 r ⊎ Outside x c1 c2 r
levi {x = x} then_second t = inr (record { middle = x; first = then_second; second = t })
levi {c1 = c1} s then_second = inl (record { middle = c1; first = then_second; second = s })
levi (string_of_first s) (string_of_first t) =
    ⊎_elim (λ w. inl (record { middle = w.middle; first = string_of_first w.first; second = w.second }))
    (λ w. inr (record { middle = w.middle; first = string_of_first w.first; second = w.second })) (levi s t)
levi (element_of_first s) (element_of_first t) =
    ⊎_elim (λ w. inl (record { middle = w.middle; first = element_of_first w.first; second = w.second }))
    (λ w. inr (record { middle = w.middle; first = element_of_first w.first; second = w.second })) (levi s t)

-- a shuffle, cut in two
pub record Cut (x r c1 c2 : Children) : Type 0 where
  pub x1 : Children
  pub x2 : Children
  pub r1 : Children
  pub r2 : Children
  pub fronts : Shuffle x x1 x2
  pub rests : Shuffle r r1 r2
  pub first : InOrder c1 x1 r1
  pub second : InOrder c2 x2 r2

pub cut : {c c1 c2 x r : Children} → InOrder c x r → Shuffle c c1 c2 → Cut x r c1 c2
cut {c1 = c1} {c2 = c2} then_second s = record { x1 = nil; x2 = nil; r1 = c1; r2 = c2; fronts = no_child; rests = s; first = then_second; second = then_second }
cut (string_of_first {text = t} o) (string_to_first s) =
    let w = cut o s in record { x1 = string t w.x1; x2 = w.x2; r1 = w.r1; r2 = w.r2; fronts = string_to_first w.fronts; rests = w.rests; first = string_of_first w.first; second = w.second }
cut (string_of_first {text = t} o) (string_to_second s) =
    let w = cut o s in record { x1 = w.x1; x2 = string t w.x2; r1 = w.r1; r2 = w.r2; fronts = string_to_second w.fronts; rests = w.rests; first = w.first; second = string_of_first w.second }
cut (element_of_first {n = n} {a = a} {k = k} o) (element_to_first s) =
    let w = cut o s in record { x1 = element n a k w.x1; x2 = w.x2; r1 = w.r1; r2 = w.r2; fronts = element_to_first w.fronts; rests = w.rests; first = element_of_first w.first; second = w.second }
cut (element_of_first {n = n} {a = a} {k = k} o) (element_to_second s) =
    let w = cut o s in record { x1 = w.x1; x2 = element n a k w.x2; r1 = w.r1; r2 = w.r2; fronts = element_to_second w.fronts; rests = w.rests; first = w.first; second = element_of_first w.second }

-- ---- behind any front

strings_back : {c x r : Children} → InOrder c x r → AreStrings c → AreStrings r
strings_back then_second s = s
strings_back (string_of_first o) (one_string s) = strings_back o s
strings_back (element_of_first o) s = elim s [ ]

-- a front of one string or one element
leaf_string : {g : List Definition} {p : Pattern} {t : List ℕ} {x r : Children} → InOrder (string t nil) x r → Matches g p [] (string t nil) → Matches g (choice p empty) [] r
leaf_string then_second m = by_first m
leaf_string (string_of_first then_second) m = by_second by_empty

leaf_element : {g : List Definition} {p : Pattern} {n : Name} {a : List Attribute} {k x r : Children} → InOrder (element n a k nil) x r → Matches g p [] (element n a k nil) → Matches g (choice p empty) [] r
leaf_element then_second m = by_first m
leaf_element (element_of_first then_second) m = by_second by_empty

pub ending_in : {g : List Definition} {p : Pattern} {c x r : Children} → InOrder c x r → Matches g p [] c → Matches g (ending p) [] r
ending_in then_second by_empty = by_empty
ending_in o (by_text s) = by_text (strings_back o s)
ending_in o (by_data a d) = leaf_string o (by_data a d)
ending_in o (by_value a d) = leaf_string o (by_value a d)
ending_in o (by_list m) = leaf_string o (by_list m)
ending_in {g = g} o (by_first {p = p} {q = q} m) = (or_same g (ending p) (ending q)).from (by_first (ending_in o m))
ending_in {g = g} o (by_second {p = p} {q = q} m) = (or_same g (ending p) (ending q)).from (by_second (ending_in o m))
ending_in {g = g} o (by_group {p = p} {q = q} no_attribute s m n) =
    (or_same g (group_of (ending p) q) (ending q)).from
    (⊎_elim
    (λ w. by_first ((seq_same g (ending p) q).from (by_group no_attribute w.second (ending_in w.first m) n)))
    (λ w. by_second (ending_in w.second n))
    (levi s o))
ending_in {g = g} o (by_interleave {p = p} {q = q} no_attribute s m n) =
    let w = cut o s in
    (mix_same g (ending p) (ending q)).from (by_interleave no_attribute w.rests (ending_in w.first m) (ending_in w.second n))
ending_in {g = g} {r = r} o (by_one {p = p} m) =
    (seq_same g (ending p) (star p)).from (by_group no_attribute (order_all r) (ending_in o m) (star_none p))
ending_in {g = g} o (by_more {p = p} no_attribute s m n) =
    ⊎_elim
    (λ w. (seq_same g (ending p) (star p)).from (by_group no_attribute w.second (ending_in w.first m) (star_in n)))
    (λ w. ending_in w.second n)
    (levi s o)
ending_in o (by_element e h w m) = leaf_element o (by_element e h w m)

-- a front that can be written, and the whole
pub record Ended (g : List Definition) (b : Bool) (p : Pattern) (r : Children) : Type 0 where
  pub all : Children
  pub front : Children
  pub order : InOrder all front r
  pub written : CanBeWritten front
  pub solid : b ≡ false → AreSolid front
  pub matched : Matches g p [] all

-- children that are matched
pub record SomeChildren (g : List Definition) (b : Bool) (p : Pattern) : Type 0 where
  pub children : Children
  pub written : CanBeWritten children
  pub solid : b ≡ false → AreSolid children
  pub matched : Matches g p [] children

pub some_children : {g : List Definition} {b : Bool} {p : Pattern} → Clean g false b p → SomeChildren g b p
some_children {g = g} {p = p} c =
    let w = sample c in
    record { children = w.children; written = w.written; solid = w.solid; matched = subst (λ a. Matches g p a w.children) (w.none refl) w.matched }

join : {c1 x r r1 c2 : Children} → InOrder c1 x r1 → InOrder r r1 c2 → (c : Children) × InOrder c x r × InOrder c c1 c2
join {r = r} then_second t = (r, then_second, t)
join (string_of_first {text = u} s) t = let w = join s t in (string u w.0, string_of_first w.1, string_of_first w.2)
join (element_of_first {n = n} {a = a} {k = k} s) t = let w = join s t in (element n a k w.0, element_of_first w.1, element_of_first w.2)

record JoinedShuffle (c1 c2 x1 x2 r : Children) : Type 0 where
  all : Children
  order : InOrder all (cat x1 x2) r
  shuffle : Shuffle all c1 c2

join_shuffle : {c1 c2 x1 x2 r r1 r2 : Children} → InOrder c1 x1 r1 → InOrder c2 x2 r2 → Shuffle r r1 r2 → JoinedShuffle c1 c2 x1 x2 r
unfolding cat
join_shuffle {r = r} then_second then_second s = record { all = r; order = then_second; shuffle = s }
join_shuffle then_second (string_of_first {text = t} o) s = let w = join_shuffle then_second o s in record { all = string t w.all; order = string_of_first w.order; shuffle = string_to_second w.shuffle }
join_shuffle then_second (element_of_first {n = n} {a = a} {k = k} o) s = let w = join_shuffle then_second o s in record { all = element n a k w.all; order = element_of_first w.order; shuffle = element_to_second w.shuffle }
join_shuffle (string_of_first {text = t} o) u s = let w = join_shuffle o u s in record { all = string t w.all; order = string_of_first w.order; shuffle = string_to_first w.shuffle }
join_shuffle (element_of_first {n = n} {a = a} {k = k} o) u s = let w = join_shuffle o u s in record { all = element n a k w.all; order = element_of_first w.order; shuffle = element_to_first w.shuffle }

pub cat_over : {c x r : Children} (k : Children) → InOrder c x r → InOrder (cat k c) (cat k x) r
unfolding cat
cat_over nil o = o
cat_over (string t k) o = string_of_first (cat_over k o)
cat_over (element n a b k) o = element_of_first (cat_over k o)

no_front : {g : List Definition} {b : Bool} {p : Pattern} {r : Children} → Matches g p [] r → Ended g b p r
no_front {r = r} m = record { all = r; front = nil; order = then_second; written = none_written; solid = λ _. solid_nil; matched = m }

behind_all : {g : List Definition} {b : Bool} {p : Pattern} {r : Children} → SomeChildren g b p → r ≡ nil → Ended g b p r
behind_all {g = g} {b = b} {p = p} v e = rw e (record { all = v.children; front = v.children; order = order_all v.children; written = v.written; solid = v.solid; matched = v.matched })

leaf_ended : {g : List Definition} {b : Bool} {p : Pattern} {r : Children} → Clean g false b p → Matches g (choice p empty) [] r → Ended g b p r
leaf_ended c m = ⊎_elim (λ k. no_front k) (λ k. behind_all (some_children c) (nothing_inv k).1) (or_sides m)

pub ending_out : {g : List Definition} {b : Bool} {p : Pattern} {r : Children} → Clean g false b p → Matches g (ending p) [] r → Ended g b p r
ending_out clean_empty m = no_front m
ending_out clean_text m = no_front m
ending_out (clean_data z s) m = leaf_ended (clean_data z s) m
ending_out (clean_value z k) m = leaf_ended (clean_value z k) m
ending_out (clean_list w h s) m = leaf_ended (clean_list w h s) m
ending_out (clean_attribute a h e c k) m = cc
ending_out (clean_ref n a k c w h) m = leaf_ended (clean_ref n a k c w h) m
ending_out {g = g} (clean_one_or_more {p = p} c) m =
    let w = group_parts ((seq_same g (ending p) (star p)).to m) in
    let v = ending_out c w.left in
    let u = join v.order w.order in
    record { all = u.0; front = v.front; order = u.1; written = v.written; solid = v.solid; matched = go_on u.2 v.matched (star_out w.right) }
ending_out {g = g} (clean_choice {p = p} {q = q} c d) m =
    ⊎_elim
    (λ k. let v = ending_out c k in record { all = v.all; front = v.front; order = v.order; written = v.written; solid = v.solid; matched = by_first v.matched })
    (λ k. let v = ending_out d k in record { all = v.all; front = v.front; order = v.order; written = v.written; solid = v.solid; matched = by_second v.matched })
    (or_sides ((or_same g (ending p) (ending q)).to m))
ending_out {g = g} (clean_group {p = p} {q = q} c d) m =
    ⊎_elim
    (λ k.
    let w = group_parts ((seq_same g (ending p) q).to k) in
    let v = ending_out c w.left in
    let u = join v.order w.order in
    record { all = u.0; front = v.front; order = u.1; written = v.written; solid = v.solid; matched = by_group no_attribute u.2 v.matched w.right })
    (λ k.
    let v = some_children c in
    let w = ending_out d k in
    record { all = cat v.children w.all; front = cat v.children w.front; order = cat_over v.children w.order; written = cat_written v.written w.written; solid = λ h. cat_solid (v.solid h) (w.solid h); matched = by_group no_attribute (cat_order v.children w.all) v.matched w.matched })
    (or_sides ((or_same g (group_of (ending p) q) (ending q)).to m))
ending_out {g = g} (clean_interleave {p = p} {q = q} c d) m =
    let w = interleave_parts ((mix_same g (ending p) (ending q)).to m) in
    let v = ending_out c w.left in
    let u = ending_out d w.right in
    let j = join_shuffle v.order u.order w.shuffle in
    record { all = j.all; front = cat v.front u.front; order = j.order; written = cat_written v.written u.written; solid = λ h. cat_solid (v.solid h) (u.solid h); matched = by_interleave no_attribute j.shuffle v.matched u.matched }

-- ---- an element behind any front

strings_no_element : {X : Type 0} {c x r : Children} {n : Name} {a : List Attribute} {k : Children} → InOrder c x (element n a k r) → AreStrings c → X
strings_no_element then_second s = elim s [ ]
strings_no_element (string_of_first o) (one_string s) = strings_no_element o s
strings_no_element (element_of_first o) s = elim s [ ]

string_no_element : {X : Type 0} {t : List ℕ} {x r : Children} {n : Name} {a : List Attribute} {k : Children} → InOrder (string t nil) x (element n a k r) → X
string_no_element (string_of_first o) = elim o [ ]

-- the element stands behind the first side, or in it
pub record Here (m c2 : Children) (n : Name) (a : List Attribute) (k r : Children) : Type 0 where
  pub rest : Children
  pub is : m ≡ element n a k rest
  pub order : InOrder r rest c2

pub place : {n : Name} {a : List Attribute} {k r m c2 : Children} → InOrder (element n a k r) m c2 → ((m ≡ nil) × (c2 ≡ element n a k r)) ⊎ Here m c2 n a k r
place then_second = inl (refl, refl)
place (element_of_first {one = y} o) = inr (record { rest = y; is = refl; order = o })

pub record OnLeft (r1 r2 : Children) (n : Name) (a : List Attribute) (k r : Children) : Type 0 where
  pub rest : Children
  pub is : r1 ≡ element n a k rest
  pub shuffle : Shuffle r rest r2

pub record OnRight (r1 r2 : Children) (n : Name) (a : List Attribute) (k r : Children) : Type 0 where
  pub rest : Children
  pub is : r2 ≡ element n a k rest
  pub shuffle : Shuffle r r1 rest

pub side : {n : Name} {a : List Attribute} {k r r1 r2 : Children} → Shuffle (element n a k r) r1 r2 → OnLeft r1 r2 n a k r ⊎ OnRight r1 r2 n a k r
side (element_to_first {one = y} s) = inl (record { rest = y; is = refl; shuffle = s })
side (element_to_second {other = z} s) = inr (record { rest = z; is = refl; shuffle = s })

ref_skip : {g : List Definition} {n m : Name} (i : ℕ) {d : Definition} {a b : List Attribute} {k r j x : Children} → slice_get g i ≡ Some d → has_name d.class m ≡ true → Matches g (ref i) [] (element m b j nil) → InOrder (element m b j nil) x (element n a k r) → Opened g n a k (skip_opens g n (ref i)) r
ref_skip i e h w then_second = open_in i e h w
ref_skip i e h w (element_of_first o) = elim o [ ]

module _ {g : List Definition} {n : Name} {a : List Attribute} {k : Children} where
  pub skip_in : {p : Pattern} {c x r : Children} → InOrder c x (element n a k r) → Matches g p [] c → Opened g n a k (skip_opens g n p) r
  skip_in o by_empty = elim o [ ]
  skip_in o (by_text s) = strings_no_element o s
  skip_in o (by_data b d) = string_no_element o
  skip_in o (by_value b d) = string_no_element o
  skip_in o (by_list m) = string_no_element o
  skip_in o (by_first {p = p} {q = q} m) = joined_in (skip_opens g n p) (skip_opens g n q) (inl (skip_in o m))
  skip_in o (by_second {p = p} {q = q} m) = joined_in (skip_opens g n p) (skip_opens g n q) (inr (skip_in o m))
  skip_in {x = x} {r = r} o (by_group {p = p} {q = q} {c1 = c1} {c2 = c2} no_attribute s m1 m2) =
      joined_in (map (then_group q) (skip_opens g n p)) (skip_opens g n q)
      (⊎_elim
      (λ w. ⊎_elim
      (λ e. let o2 : InOrder c2 nil (element n a k r) = rw e.1 then_second in inr (skip_in o2 m2))
      (λ v. inl (group_in q (skip_opens g n p) (skip_in (subst (λ z. InOrder c1 x z) v.is w.first) m1) v.order m2))
      (place w.second))
      (λ w. inr (skip_in w.second m2))
      (levi s o))
  skip_in o (by_interleave {p = p} {q = q} {c1 = c1} {c2 = c2} no_attribute s m1 m2) =
      let w = cut o s in
      joined_in (map (then_interleave (ending q)) (skip_opens g n p)) (map (under_interleave (ending p)) (skip_opens g n q))
      (⊎_elim
      (λ v. inl (left_in (ending q) (skip_opens g n p) (skip_in (subst (λ z. InOrder c1 w.x1 z) v.is w.first) m1) v.shuffle (ending_in w.second m2)))
      (λ v. inr (right_in (ending p) (skip_opens g n q) (skip_in (subst (λ z. InOrder c2 w.x2 z) v.is w.second) m2) v.shuffle (ending_in w.first m1)))
      (side w.rests))
  skip_in {r = r} o (by_one {p = p} m) = group_in (star p) (skip_opens g n p) (skip_in o m) (order_all r) (star_none p)
  skip_in {x = x} {r = r} o (by_more {p = p} {c1 = c1} {c2 = c2} no_attribute s m1 m2) =
      ⊎_elim
      (λ w. ⊎_elim
      (λ e. let o2 : InOrder c2 nil (element n a k r) = rw e.1 then_second in skip_in o2 m2)
      (λ v. group_in (star p) (skip_opens g n p) (skip_in (subst (λ z. InOrder c1 x z) v.is w.first) m1) v.order (star_in m2))
      (place w.second))
      (λ w. skip_in w.second m2)
      (levi s o)
  skip_in o (by_element {i = i} e h w m) = ref_skip i e h (by_element e h w m) o

  -- an element that is reached past some children that can be written
  pub skip_out : {b : Bool} {p : Pattern} {r : Children} → Clean g false b p → Opened g n a k (skip_opens g n p) r → Ended g b p (element n a k r)
  skip_out clean_empty h = elim h [ ]
  skip_out clean_text h = elim h [ ]
  skip_out (clean_data z s) h = elim h [ ]
  skip_out (clean_value z d) h = elim h [ ]
  skip_out (clean_list w e s) h = elim h [ ]
  skip_out (clean_attribute b d e c m) h = elim h [ ]
  skip_out (clean_ref {i = i} m b j c w e) h = no_front (open_out i (slice_get g i) h)
  skip_out (clean_one_or_more {p = p} c) h =
      let w = group_out (star p) (skip_opens g n p) h in
      let v = skip_out c w.left in
      let u = join v.order (element_of_first w.order) in
      record { all = u.0; front = v.front; order = u.1; written = v.written; solid = v.solid; matched = go_on u.2 v.matched (star_out w.right) }
  skip_out (clean_choice {p = p} {q = q} c d) h =
      ⊎_elim
      (λ x. let v = skip_out c x in record { all = v.all; front = v.front; order = v.order; written = v.written; solid = v.solid; matched = by_first v.matched })
      (λ x. let v = skip_out d x in record { all = v.all; front = v.front; order = v.order; written = v.written; solid = v.solid; matched = by_second v.matched })
      (joined_out (skip_opens g n p) (skip_opens g n q) h)
  skip_out (clean_group {p = p} {q = q} c d) h =
      ⊎_elim
      (λ x.
      let w = group_out q (skip_opens g n p) x in
      let v = skip_out c w.left in
      let u = join v.order (element_of_first w.order) in
      record { all = u.0; front = v.front; order = u.1; written = v.written; solid = v.solid; matched = by_group no_attribute u.2 v.matched w.right })
      (λ x.
      let v = some_children c in
      let w = skip_out d x in
      record { all = cat v.children w.all; front = cat v.children w.front; order = cat_over v.children w.order; written = cat_written v.written w.written; solid = λ h. cat_solid (v.solid h) (w.solid h); matched = by_group no_attribute (cat_order v.children w.all) v.matched w.matched })
      (joined_out (map (then_group q) (skip_opens g n p)) (skip_opens g n q) h)
  skip_out (clean_interleave {p = p} {q = q} c d) h =
      ⊎_elim
      (λ x.
      let w = left_out (ending q) (skip_opens g n p) x in
      let v = skip_out c w.here in
      let u = ending_out d w.other in
      let j = join_shuffle v.order u.order (element_to_first w.shuffle) in
      record { all = j.all; front = cat v.front u.front; order = j.order; written = cat_written v.written u.written; solid = λ h. cat_solid (v.solid h) (u.solid h); matched = by_interleave no_attribute j.shuffle v.matched u.matched })
      (λ x.
      let w = right_out (ending p) (skip_opens g n q) x in
      let v = skip_out d w.here in
      let u = ending_out c w.other in
      let j = join_shuffle u.order v.order (element_to_second w.shuffle) in
      record { all = j.all; front = cat u.front v.front; order = j.order; written = cat_written u.written v.written; solid = λ h. cat_solid (u.solid h) (v.solid h); matched = by_interleave no_attribute j.shuffle u.matched v.matched })
      (joined_out (map (then_interleave (ending q)) (skip_opens g n p)) (map (under_interleave (ending p)) (skip_opens g n q)) h)
