-- Merged ways take the same, and a step of each way is a step of all.
use Rattle.std.proofs.Common.{◌≡◌, List, [], ◌∷◌, Bool, true, false, ◌||◌, refl, ap, subst, inl, inr, ◌⊎◌, ⊎_elim}
use Rattle.std.specs.Prelude.{if◌then◌else◌}
use Rattle.std.specs.List.{AllByRecursion}
use Rattle.nx_base.specs.Trees.{Children, Event}
use Rattle.rng_core.specs.Patterns.{Pattern, Definition}
use Rattle.rng_core.specs.Matching.{by_first, by_second}
use Rattle.rng_core.specs.Equality.{same_pattern}
use Rattle.rng_kept.specs.SmallPatterns.{choice_of}
use Rattle.rng_kept.specs.Residuals.{Outer, document, inside, one_of, Way, among, in_tag, Residual, TakesChildren, strictly, loosely, voidly, TakesOuter, at_document, at_inside, at_this, at_other, TakesWay, among_children, in_start_tag, Takes, by_this, by_later}
use Rattle.rng_kept.specs.Merging.{same_flag, in_document, in_inside, in_one_of, same_outer, is_outer_in, with_outer, either_outer, same_children, can_join, joined_outer, can_join_ways, joined_way, with_way, with_ways, stepped}
use Rattle.rng_residual.proofs.SmallPatterns.{or_same, or_sides, or_true, by_test, same_is, and_true}
use Rattle.rng_residual.proofs.Nullable.{true_or_left, true_or_right}

-- ---- outsides that are surely one

same_flag_is : (v w : Bool) → same_flag v w ≡ true → v ≡ w
same_flag_is true true h = refl
same_flag_is true false h = cc
same_flag_is false true h = cc
same_flag_is false false h = refl

document-is : (p : Pattern) (r : Outer) → in_document (same_pattern p) r ≡ true → document p ≡ r
document-is p (document q) h = ap document (same_is p q h)
document-is p (inside b l v o) h = cc
document-is p (one_of o u) h = cc

inside-is : (b l : Pattern) (v : Bool) (o : Outer) → ((r : Outer) → same_outer o r ≡ true → o ≡ r) → (r : Outer) →
    in_inside (same_pattern b) (same_pattern l) (same_flag v) (same_outer o) r ≡ true → inside b l v o ≡ r
inside-is b l v o f (document q) h = cc
inside-is b l v o f (one_of u r) h = cc
inside-is b l v o f (inside c k w u) h =
    let e = and_true _ _ h in
    let d = and_true _ _ e.1 in
    let a = and_true _ _ d.1 in
    rw (same_is b c e.0, same_is l k d.0, same_flag_is v w a.0, f u a.1) refl

one_of-is : (o u : Outer) → ((r : Outer) → same_outer o r ≡ true → o ≡ r) → ((r : Outer) → same_outer u r ≡ true → u ≡ r) → (r : Outer) →
    in_one_of (same_outer o) (same_outer u) r ≡ true → one_of o u ≡ r
one_of-is o u f k (document q) h = cc
one_of-is o u f k (inside b l v r) h = cc
one_of-is o u f k (one_of r s) h = let e = and_true _ _ h in rw (f r e.0, k s e.1) refl

pub same_outer_is : (o r : Outer) → same_outer o r ≡ true → o ≡ r
same_outer_is (document p) r h = document-is p r h
same_outer_is (inside b l v o) r h = inside-is b l v o (same_outer_is o) r h
same_outer_is (one_of o u) r h = one_of-is o u (same_outer_is o) (same_outer_is u) r h

-- ---- two of the same outside

module _ {g : List Definition} where
  pub children_first : (b l c k : Pattern) (v w : Bool) {x : Children} → TakesChildren g b l v x → TakesChildren g (choice_of b c) (choice_of l k) (v || w) x
  children_first b l c k v w (strictly m) = strictly ((or_same g b c).from (by_first m))
  children_first b l c k v w (loosely m) = loosely ((or_same g l k).from (by_first m))
  children_first b l c k v w (voidly e f) = voidly (true_or_left v w e) f

  pub children_second : (b l c k : Pattern) (v w : Bool) {x : Children} → TakesChildren g c k w x → TakesChildren g (choice_of b c) (choice_of l k) (v || w) x
  children_second b l c k v w (strictly m) = strictly ((or_same g b c).from (by_second m))
  children_second b l c k v w (loosely m) = loosely ((or_same g l k).from (by_second m))
  children_second b l c k v w (voidly e f) = voidly (true_or_right v w e) f

  pub children_sides : (b l c k : Pattern) (v w : Bool) {x : Children} → TakesChildren g (choice_of b c) (choice_of l k) (v || w) x → TakesChildren g b l v x ⊎ TakesChildren g c k w x
  children_sides b l c k v w (strictly m) = ⊎_elim (λ n. inl (strictly n)) (λ n. inr (strictly n)) (or_sides ((or_same g b c).to m))
  children_sides b l c k v w (loosely m) = ⊎_elim (λ n. inl (loosely n)) (λ n. inr (loosely n)) (or_sides ((or_same g l k).to m))
  children_sides b l c k v w (voidly e f) = ⊎_elim (λ i. inl (voidly i f)) (λ i. inr (voidly i f)) (or_true v w e)

  -- ---- one of two

  outer_parts : {o u : Outer} {s : List Event} → TakesOuter g (one_of o u) s → TakesOuter g o s ⊎ TakesOuter g u s
  outer_parts (at_this h) = inl h
  outer_parts (at_other h) = inr h

  -- one that there is a choice of is taken
  outer_in : {s : List Event} (u o : Outer) → is_outer_in u o ≡ true → TakesOuter g u s → TakesOuter g o s
  outer_in {s = s} u (document p) e h = subst (λ r. TakesOuter g r s) (same_outer_is u (document p) e) h
  outer_in {s = s} u (inside b l v o) e h = subst (λ r. TakesOuter g r s) (same_outer_is u (inside b l v o) e) h
  outer_in {s = s} u (one_of o r) e h =
      ⊎_elim (λ a. at_this (outer_in u o a h)) (λ a. at_other (subst (λ x. TakesOuter g x s) (same_outer_is u r a) h))
      (or_true (is_outer_in u o) (same_outer u r) e)

  with_outer_in : {s : List Event} (o u : Outer) → TakesOuter g o s ⊎ TakesOuter g u s → TakesOuter g (with_outer o u) s
  with_outer_in {s = s} o u h =
      by_test (λ r. TakesOuter g r s) (is_outer_in u o) o (one_of o u)
      (λ e. ⊎_elim (λ n. n) (λ n. outer_in u o e n) h)
      (λ _. ⊎_elim (λ n. at_this n) (λ n. at_other n) h)

  with_outer_out : {s : List Event} (o u : Outer) → TakesOuter g (with_outer o u) s → TakesOuter g o s ⊎ TakesOuter g u s
  with_outer_out {s = s} o u h =
      by_test (λ r. TakesOuter g r s → TakesOuter g o s ⊎ TakesOuter g u s) (is_outer_in u o) o (one_of o u)
      (λ _ n. inl n) (λ _ n. outer_parts n) h

  either_in : {s : List Event} (o u : Outer) → TakesOuter g o s ⊎ TakesOuter g u s → TakesOuter g (either_outer o u) s
  either_in o (document p) h = with_outer_in o (document p) h
  either_in o (inside b l v u) h = with_outer_in o (inside b l v u) h
  either_in o (one_of u r) h =
      either_in (either_outer o u) r
      (⊎_elim
      (λ n. inl (either_in o u (inl n)))
      (λ n. ⊎_elim (λ m. inl (either_in o u (inr m))) (λ m. inr m) (outer_parts n))
      h)

  either_out : {s : List Event} (o u : Outer) → TakesOuter g (either_outer o u) s → TakesOuter g o s ⊎ TakesOuter g u s
  either_out o (document p) h = with_outer_out o (document p) h
  either_out o (inside b l v u) h = with_outer_out o (inside b l v u) h
  either_out o (one_of u r) h =
      ⊎_elim
      (λ n. ⊎_elim (λ m. inl m) (λ m. inr (at_this m)) (either_out o u n))
      (λ n. inr (at_other n))
      (either_out (either_outer o u) r h)

  -- ---- two in one

  same_children_are : (b l c k : Pattern) (v w : Bool) {x : Children} → same_children b l v c k w ≡ true → TakesChildren g c k w x → TakesChildren g b l v x
  same_children_are b l c k v w h t =
      let e = and_true _ _ h in
      let d = and_true _ _ e.1 in
      rw (same_is b c e.0, same_is l k d.0, same_flag_is v w d.1) t

  -- inside of elements that have the same outside, or the same children
  inside_in : {s : List Event} (b l c k : Pattern) (v w : Bool) (o u : Outer) → (same_outer o u || same_children b l v c k w) ≡ true →
      TakesOuter g (inside b l v o) s ⊎ TakesOuter g (inside c k w u) s → TakesOuter g (joined_outer (inside b l v o) (inside c k w u)) s
  inside_in {s = s} b l c k v w o u j h = go (same_outer o u) refl j
    where
      both : o ≡ u → TakesOuter g (inside b l v o) s ⊎ TakesOuter g (inside c k w u) s → TakesOuter g (inside (choice_of b c) (choice_of l k) (v || w) o) s
      both e (inl (at_inside x rest f m t)) = at_inside x rest f (children_first b l c k v w m) t
      both e (inr (at_inside x rest f m t)) = at_inside x rest f (children_second b l c k v w m) (rw e t)

      apart : same_children b l v c k w ≡ true → TakesOuter g (inside b l v o) s ⊎ TakesOuter g (inside c k w u) s → TakesOuter g (inside b l v (either_outer o u)) s
      apart e (inl (at_inside x rest f m t)) = at_inside x rest f m (either_in o u (inl t))
      apart e (inr (at_inside x rest f m t)) = at_inside x rest f (same_children_are b l c k v w e m) (either_in o u (inr t))

      go : (q : Bool) → same_outer o u ≡ q → (q || same_children b l v c k w) ≡ true →
          TakesOuter g (if q then inside (choice_of b c) (choice_of l k) (v || w) o else inside b l v (either_outer o u)) s
      go true e i = both (same_outer_is o u e) h
      go false e i = apart i h

  inside_out : {s : List Event} (b l c k : Pattern) (v w : Bool) (o u : Outer) → (same_outer o u || same_children b l v c k w) ≡ true →
      TakesOuter g (joined_outer (inside b l v o) (inside c k w u)) s → TakesOuter g (inside b l v o) s ⊎ TakesOuter g (inside c k w u) s
  inside_out {s = s} b l c k v w o u j h = go (same_outer o u) refl j h
    where
      both : o ≡ u → TakesOuter g (inside (choice_of b c) (choice_of l k) (v || w) o) s → TakesOuter g (inside b l v o) s ⊎ TakesOuter g (inside c k w u) s
      both e (at_inside x rest f m t) =
          ⊎_elim (λ n. inl (at_inside x rest f n t)) (λ n. inr (at_inside x rest f n (rw (← e) t))) (children_sides b l c k v w m)

      same_back : same_children b l v c k w ≡ true → {x : Children} → TakesChildren g b l v x → TakesChildren g c k w x
      same_back h t =
          let e = and_true _ _ h in
          let d = and_true _ _ e.1 in
          rw (← same_is b c e.0, ← same_is l k d.0, ← same_flag_is v w d.1) t

      apart : same_children b l v c k w ≡ true → TakesOuter g (inside b l v (either_outer o u)) s → TakesOuter g (inside b l v o) s ⊎ TakesOuter g (inside c k w u) s
      apart e (at_inside x rest f m t) =
          ⊎_elim (λ n. inl (at_inside x rest f m n)) (λ n. inr (at_inside x rest f (same_back e m) n)) (either_out o u t)

      go : (q : Bool) → same_outer o u ≡ q → (q || same_children b l v c k w) ≡ true →
          TakesOuter g (if q then inside (choice_of b c) (choice_of l k) (v || w) o else inside b l v (either_outer o u)) s →
          TakesOuter g (inside b l v o) s ⊎ TakesOuter g (inside c k w u) s
      go true e i n = both (same_outer_is o u e) n
      go false e i n = apart i n

  outer_joined : {s : List Event} (o u : Outer) → can_join o u ≡ true → TakesOuter g o s ⊎ TakesOuter g u s → TakesOuter g (joined_outer o u) s
  outer_joined (document p) (document q) j (inl (at_document c e m)) = at_document c e ((or_same g p q).from (by_first m))
  outer_joined (document p) (document q) j (inr (at_document c e m)) = at_document c e ((or_same g p q).from (by_second m))
  outer_joined (inside b l v o) (inside c k w u) j h = inside_in b l c k v w o u j h
  outer_joined (document p) (inside c k w u) j h = cc
  outer_joined (document p) (one_of u r) j h = cc
  outer_joined (inside b l v o) (document q) j h = cc
  outer_joined (inside b l v o) (one_of u r) j h = cc
  outer_joined (one_of o u) r j h = cc

  outer_sides : {s : List Event} (o u : Outer) → can_join o u ≡ true → TakesOuter g (joined_outer o u) s → TakesOuter g o s ⊎ TakesOuter g u s
  outer_sides (document p) (document q) j (at_document c e m) =
      ⊎_elim (λ n. inl (at_document c e n)) (λ n. inr (at_document c e n)) (or_sides ((or_same g p q).to m))
  outer_sides (inside b l v o) (inside c k w u) j h = inside_out b l c k v w o u j h
  outer_sides (document p) (inside c k w u) j h = cc
  outer_sides (document p) (one_of u r) j h = cc
  outer_sides (inside b l v o) (document q) j h = cc
  outer_sides (inside b l v o) (one_of u r) j h = cc
  outer_sides (one_of o u) r j h = cc

  -- ---- two ways

  outer_of : {o : Outer} {s : List Event} → TakesWay g (among o) s → TakesOuter g o s
  outer_of (among_children h) = h

  -- in tags of the same content
  tag_joined : {s : List Event} (p q : Pattern) (o u : Outer) → p ≡ q → TakesWay g (in_tag p o) s ⊎ TakesWay g (in_tag q u) s → TakesWay g (in_tag p (either_outer o u)) s
  tag_joined p q o u same (inl (in_start_tag a k rest e w h)) = in_start_tag a k rest e w (either_in o u (inl h))
  tag_joined p q o u same (inr (in_start_tag a k rest e w h)) = in_start_tag a k rest e (rw same w) (either_in o u (inr h))

  tag_sides : {s : List Event} (p q : Pattern) (o u : Outer) → p ≡ q → TakesWay g (in_tag p (either_outer o u)) s → TakesWay g (in_tag p o) s ⊎ TakesWay g (in_tag q u) s
  tag_sides p q o u same (in_start_tag a k rest e w h) =
      ⊎_elim (λ n. inl (in_start_tag a k rest e w n)) (λ n. inr (in_start_tag a k rest e (rw (← same) w) n)) (either_out o u h)

  way_joined : {s : List Event} (x w : Way) → can_join_ways x w ≡ true → TakesWay g x s ⊎ TakesWay g w s → TakesWay g (joined_way x w) s
  way_joined (among o) (among u) j h = among_children (outer_joined o u j (⊎_elim (λ n. inl (outer_of n)) (λ n. inr (outer_of n)) h))
  way_joined (among o) (in_tag q u) j h = cc
  way_joined (in_tag p o) (among u) j h = cc
  way_joined (in_tag p o) (in_tag q u) j h = tag_joined p q o u (same_is p q j) h

  way_sides : {s : List Event} (x w : Way) → can_join_ways x w ≡ true → TakesWay g (joined_way x w) s → TakesWay g x s ⊎ TakesWay g w s
  way_sides (among o) (among u) j h = ⊎_elim (λ n. inl (among_children n)) (λ n. inr (among_children n)) (outer_sides o u j (outer_of h))
  way_sides (among o) (in_tag q u) j h = cc
  way_sides (in_tag p o) (among u) j h = cc
  way_sides (in_tag p o) (in_tag q u) j h = tag_sides p q o u (same_is p q j) h

  -- ---- lists of ways

  pub takes_parts : {w : Way} {ws : Residual} {s : List Event} → Takes g (w ∷ ws) s → TakesWay g w s ⊎ Takes g ws s
  takes_parts (by_this h) = inl h
  takes_parts (by_later h) = inr h

  pub takes_one : {w : Way} {s : List Event} → Takes g (w ∷ []) s → TakesWay g w s
  takes_one (by_this h) = h
  takes_one (by_later h) = elim h [ ]

  pub with_way_in : {s : List Event} (xs : Residual) (w : Way) → Takes g xs s ⊎ TakesWay g w s → Takes g (with_way xs w) s
  with_way_in [] w h = ⊎_elim (λ n. elim n [ ]) (λ n. by_this n) h
  with_way_in {s = s} (x ∷ xs) w h =
      by_test (λ r. Takes g r s) (can_join_ways x w) _ _
      (λ j. ⊎_elim (λ n. ⊎_elim (λ m. by_this (way_joined x w j (inl m))) (λ m. by_later m) (takes_parts n)) (λ n. by_this (way_joined x w j (inr n))) h)
      (λ _. ⊎_elim (λ n. ⊎_elim (λ m. by_this m) (λ m. by_later (with_way_in xs w (inl m))) (takes_parts n)) (λ n. by_later (with_way_in xs w (inr n))) h)

  pub with_way_out : {s : List Event} (xs : Residual) (w : Way) → Takes g (with_way xs w) s → Takes g xs s ⊎ TakesWay g w s
  with_way_out [] w h = inr (takes_one h)
  with_way_out {s = s} (x ∷ xs) w h =
      by_test (λ r. Takes g r s → Takes g (x ∷ xs) s ⊎ TakesWay g w s) (can_join_ways x w) _ _
      (λ j h. ⊎_elim (λ n. ⊎_elim (λ m. inl (by_this m)) (λ m. inr m) (way_sides x w j n)) (λ n. inl (by_later n)) (takes_parts h))
      (λ _ h. ⊎_elim (λ n. inl (by_this n)) (λ n. ⊎_elim (λ m. inl (by_later m)) (λ m. inr m) (with_way_out xs w n)) (takes_parts h))
      h

  pub with_ways_in : {s : List Event} (xs ws : Residual) → Takes g xs s ⊎ Takes g ws s → Takes g (with_ways xs ws) s
  with_ways_in xs [] h = ⊎_elim (λ n. n) (λ n. elim n [ ]) h
  with_ways_in xs (w ∷ ws) h =
      with_ways_in (with_way xs w) ws
      (⊎_elim
      (λ n. inl (with_way_in xs w (inl n)))
      (λ n. ⊎_elim (λ m. inl (with_way_in xs w (inr m))) (λ m. inr m) (takes_parts n))
      h)

  pub with_ways_out : {s : List Event} (xs ws : Residual) → Takes g (with_ways xs ws) s → Takes g xs s ⊎ Takes g ws s
  with_ways_out xs [] h = inl h
  with_ways_out xs (w ∷ ws) h =
      ⊎_elim
      (λ n. ⊎_elim (λ m. inl m) (λ m. inr (by_this m)) (with_way_out xs w n))
      (λ n. inr (by_later n))
      (with_ways_out (with_way xs w) ws h)

-- ---- a step of each way

-- one of the ways has the property
pub data SomeWay (Q : Way → Type 0) : Residual → Type 0 where
  this_way : {w : Way} {ws : Residual} → Q w → SomeWay Q (w ∷ ws)
  later_way : {w : Way} {ws : Residual} → SomeWay Q ws → SomeWay Q (w ∷ ws)

some_parts : {Q : Way → Type 0} {w : Way} {ws : Residual} → SomeWay Q (w ∷ ws) → Q w ⊎ SomeWay Q ws
some_parts (this_way h) = inl h
some_parts (later_way h) = inr h

pub some_map : {Q R : Way → Type 0} (x : Residual) → ((w : Way) → Q w → R w) → SomeWay Q x → SomeWay R x
some_map [] f h = elim h [ ]
some_map (w ∷ ws) f (this_way h) = this_way (f w h)
some_map (w ∷ ws) f (later_way h) = later_way (some_map ws f h)

-- a way that takes it, and of which something holds that holds of all
pub record Taking (g : List Definition) (ok : Way → Type 0) (s : List Event) (w : Way) : Type 0 where
  pub is_ok : ok w
  pub taken : TakesWay g w s

pub some_taking : {g : List Definition} {ok : Way → Type 0} {s : List Event} (x : Residual) → AllByRecursion ok x → Takes g x s → SomeWay (Taking g ok s) x
some_taking [] a h = elim h [ ]
some_taking (w ∷ ws) a (by_this h) = this_way (record { is_ok = a.0; taken = h })
some_taking (w ∷ ws) a (by_later h) = later_way (some_taking ws a.1 h)

pub taking_some : {g : List Definition} {s : List Event} (x : Residual) → SomeWay (λ w. TakesWay g w s) x → Takes g x s
taking_some [] h = elim h [ ]
taking_some (w ∷ ws) (this_way h) = by_this h
taking_some (w ∷ ws) (later_way h) = by_later (taking_some ws h)

module _ {g : List Definition} {s : List Event} (f : Way → Residual) (Q : Way → Type 0) where
  pub stepped_in : ((w : Way) → Q w → Takes g (f w) s) → (done x : Residual) → Takes g done s ⊎ SomeWay Q x → Takes g (stepped f done x) s
  stepped_in i done [] h = ⊎_elim (λ n. n) (λ n. elim n [ ]) h
  stepped_in i done (w ∷ ws) h =
      stepped_in i (with_ways done (f w)) ws
      (⊎_elim
      (λ n. inl (with_ways_in done (f w) (inl n)))
      (λ n. ⊎_elim (λ m. inl (with_ways_in done (f w) (inr (i w m)))) (λ m. inr m) (some_parts n))
      h)

  pub stepped_out : ((w : Way) → Takes g (f w) s → Q w) → (done x : Residual) → Takes g (stepped f done x) s → Takes g done s ⊎ SomeWay Q x
  stepped_out i done [] h = inl h
  stepped_out i done (w ∷ ws) h =
      ⊎_elim
      (λ n. ⊎_elim (λ m. inl m) (λ m. inr (this_way (i w m))) (with_ways_out done (f w) n))
      (λ n. inr (later_way n))
      (stepped_out i (with_ways done (f w)) ws h)

-- and out of a step, where something holds of all ways
pub stepped_out_all : {g : List Definition} {s : List Event} {ok : Way → Type 0} (f : Way → Residual) (Q : Way → Type 0) → ((w : Way) → ok w → Takes g (f w) s → Q w) → (done x : Residual) → AllByRecursion ok x →
    Takes g (stepped f done x) s → Takes g done s ⊎ SomeWay Q x
stepped_out_all f Q i done [] a h = inl h
stepped_out_all f Q i done (w ∷ ws) a h =
    ⊎_elim
    (λ n. ⊎_elim (λ m. inl m) (λ m. inr (this_way (i w a.0 m))) (with_ways_out done (f w) n))
    (λ n. inr (later_way n))
    (stepped_out_all f Q i (with_ways done (f w)) ws a.1 h)

-- a step of one event takes it off, where it does for each way
pub step_in : {g : List Definition} {s z : List Event} {ok : Way → Type 0} (f : Way → Residual) → ((w : Way) → ok w → TakesWay g w z → Takes g (f w) s) → (x : Residual) → AllByRecursion ok x → Takes g x z → Takes g (stepped f [] x) s
step_in {g = g} {s = s} {z = z} {ok = ok} f i x a h = stepped_in f (Taking g ok z) (λ w t. i w t.is_ok t.taken) [] x (inr (some_taking x a h))

pub step_out : {g : List Definition} {s z : List Event} (f : Way → Residual) → ((w : Way) → Takes g (f w) s → TakesWay g w z) → (x : Residual) → Takes g (stepped f [] x) s → Takes g x z
step_out {g = g} {s = s} {z = z} f i x h =
    ⊎_elim (λ n. elim n [ ]) (λ n. taking_some x n) (stepped_out f (λ w. TakesWay g w z) i [] x h)
