-- Moves that pass over children.
use Rattle.std.proofs.Common.{◌≡◌, List, [], ◌∷◌, map, Bool, true, false, not, ◌&&◌, refl, sym, ap, subst, inl, inr, ◌⊎◌, ⊎_elim, ◌∙◌}
use Rattle.std.specs.Prelude.{if◌then◌else◌, slice_get}
use Rattle.std.specs.List.{AllByRecursion}
use Rattle.nx_base.specs.declared.name.Name.{Name}
use Rattle.nx_base.specs.Trees.{Attribute, Children, nil, string, element, without_blanks, Event, Enter, TagEnd, Leave, attributes_flat, children_flat}
use Rattle.rng_core.specs.Patterns.{Pattern, Definition, not_allowed, empty, any_text, typed, literal, listed, attribute, ref, one_or_more, choice, group, interleave}
use Rattle.rng_core.specs.Matching.{InOrder, then_second, string_of_first, element_of_first}
use Rattle.rng_kept.specs.SmallPatterns.{is_not_allowed, group_of, star}
use Rattle.rng_kept.specs.Openings.{Opening, then_group, then_interleave, under_interleave}
use Rattle.rng_residual.specs.Openings.{Opened, opened_first, opened_later}
use Rattle.rng_kept.specs.Residuals.{Outer, document, inside, one_of, Way, among, in_tag, Residual, TakesChildren, strictly, loosely, voidly, TakesOuter, at_document, at_inside, at_this, at_other, TakesWay, among_children, in_start_tag, Takes, by_this, by_later}
use Rattle.rng_kept.specs.Entering.{rest_at, has_number, others, tag_of_both, tag_of_loose, skip_outer, skip_way, enter_skip}
use Rattle.rng_kept.specs.Clean.{Clean, clean_empty, clean_text, clean_data, clean_value, clean_list, clean_attribute, clean_ref, clean_one_or_more, clean_choice, clean_group, clean_interleave, Fine}
use Rattle.rng_kept.specs.Lively.{IsLivelyOutside, lively_document, lively_inside, lively_one_of, IsLively, lively_among, AreLively, none_lively, one_lively}
use Rattle.rng_residual.proofs.SmallPatterns.{never_no, is_not_allowed-is}
use Rattle.rng_residual.proofs.Entering.{AreNamed, none_named, named_first, joined_named, group_named, left_named, right_named, definition_named, either_takes, first_takes, top_in, both_in, loose_in, element_in, opened_at, top_out}
use Rattle.rng_kept.specs.Live.{AreLive}
use Rattle.rng_kept.specs.Skipping.{ending, skip_opens}
use Rattle.rng_kept.specs.Content.{leave_skip_outer, leave_skip_way, leave_skip}
use Rattle.rng_residual.proofs.Cleaning.{fine, clean_choice_of, clean_group_of, clean_interleave_of, clean_star}
use Rattle.rng_residual.proofs.Fresh.{CanBeWritten}
use Rattle.rng_residual.proofs.Joining.{none_written, solid_stays}
use Rattle.rng_residual.proofs.Skip.{skip_in, skip_out, some_children}
use Rattle.rng_residual.proofs.Events.{attributes_unique, children_unique, order_flat, passed, at_end, at_leave, order_without_blanks, seen}
use Rattle.rng_residual.proofs.Merging.{with_ways_in, with_ways_out, Taking, SomeWay, this_way, later_way, some_taking, stepped_in, stepped_out_all}
use Rattle.rng_residual.proofs.Content.{ways_of_in, ways_of_out}
use Rattle.rng_residual.proofs.Alive.{lively_first, lively_with_ways, ways_of_lively, lively_stepped, joined_clean, group_clean, left_clean, right_clean, definition_clean, AreCleanRests, no_rests, tops_lively, both_lively, loose_lively, all_append, others_named, others_clean}

-- ---- the openings name definitions, and are clean

pub skip_named : {g : List Definition} {n : Name} (p : Pattern) → AreNamed g n (skip_opens g n p)
skip_named {g = g} (ref i) = definition_named i (slice_get g i) refl
skip_named {g = g} {n = n} (one_or_more p) = group_named (star p) (skip_opens g n p) (skip_named p)
skip_named {g = g} {n = n} (choice p q) = joined_named (skip_opens g n p) (skip_opens g n q) (skip_named p) (skip_named q)
skip_named {g = g} {n = n} (group p q) = joined_named (map (then_group q) (skip_opens g n p)) (skip_opens g n q) (group_named q (skip_opens g n p) (skip_named p)) (skip_named q)
skip_named {g = g} {n = n} (interleave p q) =
    joined_named (map (then_interleave (ending q)) (skip_opens g n p)) (map (under_interleave (ending p)) (skip_opens g n q))
    (left_named (ending q) (skip_opens g n p) (skip_named p)) (right_named (ending p) (skip_opens g n q) (skip_named q))
skip_named not_allowed = none_named
skip_named empty = none_named
skip_named any_text = none_named
skip_named (typed t e) = none_named
skip_named (literal t v) = none_named
skip_named (listed p) = none_named
skip_named (attribute c p) = none_named

module _ {g : List Definition} {b : Bool} where
  pub ending_clean : {p : Pattern} → Clean g false b p → Clean g false b (ending p)
  ending_clean clean_empty = clean_empty
  ending_clean clean_text = clean_text
  ending_clean (clean_data z s) = clean_choice (clean_data z s) clean_empty
  ending_clean (clean_value z k) = clean_choice (clean_value z k) clean_empty
  ending_clean (clean_list w h s) = clean_choice (clean_list w h s) clean_empty
  ending_clean (clean_attribute a h e c m) = cc
  ending_clean (clean_ref n a k c w h) = clean_choice (clean_ref n a k c w h) clean_empty
  ending_clean (clean_one_or_more {p = p} c) = clean_group_of (ending p) (star p) (ending_clean c) (clean_star p c)
  ending_clean (clean_choice {p = p} {q = q} c d) = clean_choice_of (ending p) (ending q) (ending_clean c) (fine (ending_clean d))
  ending_clean (clean_group {p = p} {q = q} c d) = clean_choice_of (group_of (ending p) q) (ending q) (clean_group_of (ending p) q (ending_clean c) d) (fine (ending_clean d))
  ending_clean (clean_interleave {p = p} {q = q} c d) = clean_interleave_of (ending p) (ending q) (ending_clean c) (ending_clean d)

  pub skip_clean : {p : Pattern} (n : Name) → Clean g false b p → AreCleanRests g b (skip_opens g n p)
  skip_clean n clean_empty = no_rests
  skip_clean n clean_text = no_rests
  skip_clean n (clean_data z s) = no_rests
  skip_clean n (clean_value z k) = no_rests
  skip_clean n (clean_list w h s) = no_rests
  skip_clean n (clean_attribute a h e c m) = no_rests
  skip_clean n (clean_ref {i = i} m a k c w h) = definition_clean (slice_get g i) n i
  skip_clean n (clean_one_or_more {p = p} c) = group_clean (star p) (skip_opens g n p) (clean_star p c) (skip_clean n c)
  skip_clean n (clean_choice {p = p} {q = q} c d) = joined_clean (skip_opens g n p) (skip_opens g n q) (skip_clean n c) (skip_clean n d)
  skip_clean n (clean_group {p = p} {q = q} c d) = joined_clean (map (then_group q) (skip_opens g n p)) (skip_opens g n q) (group_clean q (skip_opens g n p) d (skip_clean n c)) (skip_clean n d)
  skip_clean n (clean_interleave {p = p} {q = q} c d) =
      joined_clean (map (then_interleave (ending q)) (skip_opens g n p)) (map (under_interleave (ending p)) (skip_opens g n q))
      (left_clean (ending q) (skip_opens g n p) (ending_clean d) (skip_clean n c)) (right_clean (ending p) (skip_opens g n q) (ending_clean c) (skip_clean n d))

  pub skip_fine : (p : Pattern) (n : Name) → Fine g false b p → AreCleanRests g b (skip_opens g n p)
  skip_fine p n c = go (is_not_allowed p) refl
    where
      go : (v : Bool) → is_not_allowed p ≡ v → AreCleanRests g b (skip_opens g n p)
      go true k = rw (is_not_allowed-is p k) no_rests
      go false k = skip_clean n (c.clean k)

skip_outer_lively : {g : List Definition} (n : Name) {o : Outer} → AreLive g → IsLivelyOutside g o → AreLively g [] (skip_outer g n o)
skip_outer_lively {g = g} n live (lively_document {p = p} c) = tops_lively live (skip_opens g n p) (skip_named p) (skip_clean n c)
skip_outer_lively {g = g} n live (lively_inside {b = b} {l = l} {o = o} c d a h) =
    all_append (map (tag_of_both g (skip_opens g n l) o) (skip_opens g n b)) (map (tag_of_loose g o) (others (skip_opens g n b) (skip_opens g n l)))
    (both_lively live h (skip_opens g n l) (skip_opens g n b) (skip_fine l n d) (skip_named b) (skip_fine b n c))
    (loose_lively live h (others (skip_opens g n b) (skip_opens g n l)) (others_named (skip_opens g n b) (skip_opens g n l) (skip_named l)) (others_clean (skip_opens g n b) (skip_opens g n l) (skip_fine l n d)))
skip_outer_lively {g = g} n live (lively_one_of {o = o} {u = u} h i) =
    lively_with_ways (skip_outer g n o) (skip_outer g n u) (skip_outer_lively n live h) (skip_outer_lively n live i)

pub skip_way_lively : {g : List Definition} {l : List Name} (n : Name) → AreLive g → (w : Way) → IsLively g l w → AreLively g [] (skip_way g n w)
skip_way_lively n live (among o) (lively_among h) = skip_outer_lively n live h
skip_way_lively n live (in_tag p o) h = none_lively

pub enter_skip_lively : {g : List Definition} {l : List Name} (n : Name) → AreLive g → (x : Residual) → AreLively g l x → AreLively g [] (enter_skip g n x)
enter_skip_lively {g = g} n live x a = lively_stepped (skip_way g n) (skip_way_lively n live) [] x none_lively a

-- ---- children and an element's name

pub no_element : {X : Type 0} {n : Name} {c x r j : Children} {a : List Attribute} → InOrder c x (element n a j r) → c ≡ nil → X
no_element then_second f = cc
no_element (string_of_first q) f = cc
no_element (element_of_first q) f = cc

skip_outer_in : {g : List Definition} (n : Name) (s : List Event) (over : Children) (o : Outer) → TakesOuter g o (children_flat over (Enter n ∷ s)) → Takes g (skip_outer g n o) s
skip_outer_in {g = g} n s over (document p) (at_document c e m) =
    let v = passed over n c s [] at_end e in
    rw v.events (top_in (skip_opens g n p) (skip_in v.order m))
skip_outer_in {g = g} n s over (inside b l w o) (at_inside k rest e c t) =
    let v = passed over n k s (Leave ∷ rest) at_leave e in
    rw v.events (go v.rest v.order c)
  where
    go : {a : List Attribute} {j : Children} (r : Children) → InOrder k over (element n a j r) → TakesChildren g b l w k → Takes g (skip_outer g n (inside b l w o)) (attributes_flat a (TagEnd ∷ children_flat j (Leave ∷ children_flat r (Leave ∷ rest))))
    go r q (strictly m) = first_takes (map (tag_of_both g (skip_opens g n l) o) (skip_opens g n b)) _ (both_in (skip_opens g n l) o rest t (skip_opens g n b) (skip_in q m))
    go r q (loosely m) = loose_in (skip_opens g n b) (skip_opens g n l) o rest t (skip_opens g n l) r (λ i h. h) (skip_in (order_without_blanks q) m)
    go r q (voidly f h) = no_element q h
skip_outer_in {g = g} n s over (one_of o u) (at_this t) = with_ways_in (skip_outer g n o) (skip_outer g n u) (inl (skip_outer_in n s over o t))
skip_outer_in {g = g} n s over (one_of o u) (at_other t) = with_ways_in (skip_outer g n o) (skip_outer g n u) (inr (skip_outer_in n s over u t))

-- what an opened tag takes, by openings of one kind or the other
record OutOfTwo (g : List Definition) (n : Name) (strict loose : List Opening) (outer : Outer) (s : List Event) : Type 0 where
  attributes : List Attribute
  children : Children
  rest : Children
  after : List Event
  events : s ≡ attributes_flat attributes (TagEnd ∷ children_flat children (Leave ∷ children_flat rest (Leave ∷ after)))
  opened : Opened g n attributes children strict rest ⊎ Opened g n attributes children loose (without_blanks rest)
  outside : TakesOuter g outer after

both_out : {g : List Definition} (n : Name) (strict loose : List Opening) (outer : Outer) (os : List Opening) {s : List Event} → AreNamed g n os →
    ((a : List Attribute) (k r : Children) → Opened g n a k os r → Opened g n a k strict r) →
    Takes g (map (tag_of_both g loose outer) os) s → OutOfTwo g n strict loose outer s
both_out n strict loose outer [] d f h = elim h [ ]
both_out {g = g} n strict loose outer (o ∷ os) d f (by_this (in_start_tag a k rest e w (at_inside r after ev c t))) =
    record { attributes = a; children = k; rest = r; after = after; events = rw (← ev) e; outside = t; opened = go c }
  where
    go : TakesChildren g o.rest (rest_at o.number loose) false r → Opened g n a k strict r ⊎ Opened g n a k loose (without_blanks r)
    go (strictly m) = inl (f a k r (opened_first (element_in o.number (named_first d).0 w) m))
    go (loosely m) = inr (opened_at o.number loose (element_in o.number (named_first d).0 w) m)
    go (voidly x y) = cc
both_out n strict loose outer (o ∷ os) d f (by_later h) = both_out n strict loose outer os (named_first d).1 (λ a k r x. f a k r (opened_later x)) h

loose_out : {g : List Definition} (n : Name) (strict loose : List Opening) (outer : Outer) (os : List Opening) {s : List Event} → AreNamed g n os →
    ((a : List Attribute) (k r : Children) → Opened g n a k os r → Opened g n a k loose r) →
    Takes g (map (tag_of_loose g outer) (others strict os)) s → OutOfTwo g n strict loose outer s
loose_out n strict loose outer [] d f h = elim h [ ]
loose_out {g = g} n strict loose outer (o ∷ os) {s = s} d f h = go (has_number o.number strict) h (λ x. loose_out n strict loose outer os (named_first d).1 (λ a k r y. f a k r (opened_later y)) x)
  where
    this : {t : List Event} → TakesWay g (tag_of_loose g outer o) t → OutOfTwo g n strict loose outer t
    this (in_start_tag a k rest e w (at_inside r after ev c t)) =
        record {
          attributes = a;
          children = k;
          rest = r;
          after = after;
          events = rw (← ev) e;
          outside = t;
          opened = elim c [
            | strictly m ↦ never_no m
            | loosely m ↦ inr (f a k (without_blanks r) (opened_first (element_in o.number (named_first d).0 w) m))
            | voidly x y ↦ cc
          ];
        }

    front : {t : List Event} {ws : Residual} → Takes g (tag_of_loose g outer o ∷ ws) t → (Takes g ws t → OutOfTwo g n strict loose outer t) → OutOfTwo g n strict loose outer t
    front (by_this x) more = this x
    front (by_later x) more = more x

    go : (c : Bool) → Takes g (map (tag_of_loose g outer) (if c then others strict os else o ∷ others strict os)) s → (Takes g (map (tag_of_loose g outer) (others strict os)) s → OutOfTwo g n strict loose outer s) → OutOfTwo g n strict loose outer s
    go true x more = more x
    go false x more = front x more

-- children that can be written, and are passed over
pub record SkipsTo (g : List Definition) (n : Name) (o : Outer) (s : List Event) : Type 0 where
  pub over : Children
  pub written : CanBeWritten over
  pub taken : TakesOuter g o (children_flat over (Enter n ∷ s))

-- what is opened of a pattern that may be notAllowed
fine_opened : {g : List Definition} {b : Bool} {n : Name} {a : List Attribute} {k r : Children} (p : Pattern) → Fine g false b p → Opened g n a k (skip_opens g n p) r → Clean g false b p
fine_opened {g = g} {b = b} {n = n} {a = a} {k = k} {r = r} p c h = go (is_not_allowed p) refl
  where
    none : Opened g n a k [] r → Clean g false b p
    none x = elim x [ ]

    go : (v : Bool) → is_not_allowed p ≡ v → Clean g false b p
    go true e = none (subst (λ q. Opened g n a k (skip_opens g n q) r) (is_not_allowed-is p e) h)
    go false e = c.clean e

skip_inside_out : {g : List Definition} {n : Name} {s : List Event} (b l : Pattern) (v : Bool) (o : Outer) → Fine g false true b → Fine g false false l →
    OutOfTwo g n (skip_opens g n b) (skip_opens g n l) o s → SkipsTo g n (inside b l v o) s
skip_inside_out {g = g} {n = n} {s = s} b l v o c d w =
    ⊎_elim
    (λ h.
    let u = skip_out (fine_opened b c h) h in
    record {
      over = u.front;
      written = u.written;
      taken = at_inside u.all w.after (ap (λ (z : List Event). children_flat u.front (Enter n ∷ z)) w.events ∙ sym (order_flat u.order (Leave ∷ w.after))) (strictly u.matched) w.outside;
    })
    (λ h.
    let u = skip_out (fine_opened l d h) h in
    let i = seen (element n w.attributes w.children w.rest) u.order refl (u.solid refl) in
    record {
      over = u.front;
      written = u.written;
      taken = at_inside i.all w.after (ap (λ (z : List Event). children_flat u.front (Enter n ∷ z)) w.events ∙ sym (order_flat i.order (Leave ∷ w.after))) (loosely (rw (i.is) u.matched)) w.outside;
    })
    w.opened

skip_outer_out : {g : List Definition} {n : Name} {s : List Event} {o : Outer} → IsLivelyOutside g o → Takes g (skip_outer g n o) s → SkipsTo g n o s
skip_outer_out {g = g} {n = n} (lively_document {p = p} c) h =
    let w = top_out n (skip_opens g n p) (skip_named p) h in
    let u = skip_out c w.opened in
    record {
      over = u.front;
      written = u.written;
      taken = at_document u.all (ap (λ (z : List Event). children_flat u.front (Enter n ∷ z)) w.events ∙ sym (order_flat u.order [])) u.matched;
    }
skip_outer_out {g = g} {n = n} {s = s} (lively_inside {b = b} {l = l} {v = v} {o = o} c d a h) t =
    let w : OutOfTwo g n (skip_opens g n b) (skip_opens g n l) o s =
    ⊎_elim
    (λ x. both_out n (skip_opens g n b) (skip_opens g n l) o (skip_opens g n b) (skip_named b) (λ a k r y. y) x)
    (λ x. loose_out n (skip_opens g n b) (skip_opens g n l) o (skip_opens g n l) (skip_named l) (λ a k r y. y) x)
    (either_takes (map (tag_of_both g (skip_opens g n l) o) (skip_opens g n b)) _ t) in
    skip_inside_out b l v o c d w
skip_outer_out {g = g} {n = n} {s = s} (lively_one_of {o = o} {u = u} h i) t =
    ⊎_elim
    (λ x. let w = skip_outer_out h x in record { over = w.over; written = w.written; taken = at_this w.taken })
    (λ x. let w = skip_outer_out i x in record { over = w.over; written = w.written; taken = at_other w.taken })
    (with_ways_out (skip_outer g n o) (skip_outer g n u) t)

-- ---- of residuals

pub not_tag : {X : Type 0} (n : Name) (s z : List Event) (x : Children) (a : List Attribute) → children_flat x (Enter n ∷ s) ≡ attributes_flat a (TagEnd ∷ z) → X
not_tag n s z nil [] e = cc
not_tag n s z nil (b ∷ a) e = cc
not_tag n s z (string t x) [] e = cc
not_tag n s z (string t x) (b ∷ a) e = cc
not_tag n s z (element m c k x) [] e = cc
not_tag n s z (element m c k x) (b ∷ a) e = cc

-- of all ways, as a list
pub ways_lively : {g : List Definition} {l : List Name} (x : Residual) → AreLively g l x → AllByRecursion (λ w. IsLively g l w) x
ways_lively [] a = tt
ways_lively (w ∷ ws) a = let b = lively_first a in (b.0, ways_lively ws b.1)

pub skip_way_in : {g : List Definition} {l : List Name} (n : Name) (s : List Event) (over : Children) (w : Way) → Taking g (λ w. IsLively g l w) (children_flat over (Enter n ∷ s)) w → Takes g (skip_way g n w) s
skip_way_in {g = g} n s over (among o) t = go t.taken
  where
    go : TakesWay g (among o) (children_flat over (Enter n ∷ s)) → Takes g (skip_outer g n o) s
    go (among_children h) = skip_outer_in n s over o h
skip_way_in {g = g} n s over (in_tag p o) t = go t.taken
  where
    go : TakesWay g (in_tag p o) (children_flat over (Enter n ∷ s)) → Takes g [] s
    go (in_start_tag a k rest e w h) = not_tag n s _ over a e

pub enter_skip_in : {g : List Definition} {l : List Name} (n : Name) (s : List Event) (over : Children) (x : Residual) → AreLively g l x → Takes g x (children_flat over (Enter n ∷ s)) → Takes g (enter_skip g n x) s
enter_skip_in {g = g} {l = l} n s over x a h =
    stepped_in (skip_way g n) (Taking g (λ w. IsLively g l w) (children_flat over (Enter n ∷ s))) (λ w t. skip_way_in n s over w t) [] x (inr (some_taking x (ways_lively x a) h))

pub record WaySkips (g : List Definition) (n : Name) (s : List Event) (w : Way) : Type 0 where
  pub over : Children
  pub written : CanBeWritten over
  pub taken : TakesWay g w (children_flat over (Enter n ∷ s))

pub skip_way_out : {g : List Definition} {l : List Name} {n : Name} {s : List Event} (w : Way) → IsLively g l w → Takes g (skip_way g n w) s → WaySkips g n s w
skip_way_out (among o) (lively_among h) t = let v = skip_outer_out h t in record { over = v.over; written = v.written; taken = among_children v.taken }
skip_way_out (in_tag p o) h t = elim t [ ]

pub record ResidualSkips (g : List Definition) (n : Name) (x : Residual) (s : List Event) : Type 0 where
  pub over : Children
  pub written : CanBeWritten over
  pub taken : Takes g x (children_flat over (Enter n ∷ s))

one_skips : {g : List Definition} {n : Name} {s : List Event} (x : Residual) → SomeWay (WaySkips g n s) x → ResidualSkips g n x s
one_skips [] h = elim h [ ]
one_skips (w ∷ ws) (this_way h) = record { over = h.over; written = h.written; taken = by_this h.taken }
one_skips (w ∷ ws) (later_way h) = let v = one_skips ws h in record { over = v.over; written = v.written; taken = by_later v.taken }

pub enter_skip_out : {g : List Definition} {l : List Name} {n : Name} {s : List Event} (x : Residual) → AreLively g l x → Takes g (enter_skip g n x) s → ResidualSkips g n x s
enter_skip_out {g = g} {l = l} {n = n} {s = s} x a h =
    ⊎_elim (λ k. elim k [ ]) (λ k. one_skips x k)
    (stepped_out_all {ok = λ w. IsLively g l w} (skip_way g n) (WaySkips g n s) (λ w i k. skip_way_out w i k) [] x (ways_lively x a) h)

-- ---- children and an element's end

pub record LeavesOuter (g : List Definition) (o : Outer) (s : List Event) : Type 0 where
  pub over : Children
  pub written : CanBeWritten over
  pub taken : TakesOuter g o (children_flat over (Leave ∷ s))

pub children_viable : {g : List Definition} {b l : Pattern} {v : Bool} {o : Outer} {s : List Event} → Fine g false true b → Fine g false false l → (is_not_allowed b && (is_not_allowed l && not v)) ≡ false → TakesOuter g o s → LeavesOuter g (inside b l v o) s
children_viable {g = g} {b = b} {l = l} {v = v} {o = o} {s = s} c d a h = go (is_not_allowed b) (is_not_allowed l) v refl refl refl a
  where
    go : (x y z : Bool) → is_not_allowed b ≡ x → is_not_allowed l ≡ y → v ≡ z → (x && (y && not z)) ≡ false → LeavesOuter g (inside b l v o) s
    go false y z ex ey ez f = let w = some_children (c.clean ex) in record { over = w.children; written = w.written; taken = at_inside w.children s refl (strictly w.matched) h }
    go true false z ex ey ez f = let w = some_children (d.clean ey) in record { over = w.children; written = w.written; taken = at_inside w.children s refl (loosely (rw (solid_stays (w.solid refl)) w.matched)) h }
    go true true true ex ey ez f = record { over = nil; written = none_written; taken = at_inside nil s refl (voidly ez refl) h }
    go true true false ex ey ez f = cc

pub no_leave : {X : Type 0} (s : List Event) (x c : Children) → children_flat x (Leave ∷ s) ≡ children_flat c [] → X
no_leave s nil nil e = cc
no_leave s nil (string t c) e = cc
no_leave s nil (element m a k c) e = cc
no_leave s (string u x) nil e = cc
no_leave s (string u x) (string t c) e = let f : children_flat x (Leave ∷ s) ≡ children_flat c [] = cc in no_leave s x c f
no_leave s (string u x) (element m a k c) e = cc
no_leave s (element m a k x) nil e = cc
no_leave s (element m a k x) (string t c) e = cc
no_leave s (element m a k x) (element m' a' k' c) e =
    let f : attributes_flat a (TagEnd ∷ children_flat k (Leave ∷ children_flat x (Leave ∷ s))) ≡ attributes_flat a' (TagEnd ∷ children_flat k' (Leave ∷ children_flat c [])) = cc in
    let v = attributes_unique a a' (children_flat k (Leave ∷ children_flat x (Leave ∷ s))) (children_flat k' (Leave ∷ children_flat c [])) f in
    let u = children_unique k k' (children_flat x (Leave ∷ s)) (children_flat c []) v.1 in
    no_leave s x c u.1

leave_outer_skip_in : {g : List Definition} {s : List Event} (over : Children) (o : Outer) → TakesOuter g o (children_flat over (Leave ∷ s)) → Takes g (leave_skip_outer o) s
leave_outer_skip_in {s = s} over (document p) (at_document c e m) = no_leave s over c e
leave_outer_skip_in {g = g} {s = s} over (inside b l v o) (at_inside k rest e c h) =
    let u = children_unique over k s rest e in
    ways_of_in o (subst (λ z. TakesOuter g o z) (sym u.1) h)
leave_outer_skip_in over (one_of o u) (at_this h) = with_ways_in (leave_skip_outer o) (leave_skip_outer u) (inl (leave_outer_skip_in over o h))
leave_outer_skip_in over (one_of o u) (at_other h) = with_ways_in (leave_skip_outer o) (leave_skip_outer u) (inr (leave_outer_skip_in over u h))

leave_outer_skip_out : {g : List Definition} {s : List Event} {o : Outer} → IsLivelyOutside g o → Takes g (leave_skip_outer o) s → LeavesOuter g o s
leave_outer_skip_out (lively_document c) h = elim h [ ]
leave_outer_skip_out (lively_inside {o = o} c d a h) t = children_viable c d a (ways_of_out o t)
leave_outer_skip_out (lively_one_of {o = o} {u = u} h i) t =
    ⊎_elim
    (λ x. let w = leave_outer_skip_out h x in record { over = w.over; written = w.written; taken = at_this w.taken })
    (λ x. let w = leave_outer_skip_out i x in record { over = w.over; written = w.written; taken = at_other w.taken })
    (with_ways_out (leave_skip_outer o) (leave_skip_outer u) t)

pub not_tag_leave : {X : Type 0} (s z : List Event) (x : Children) (a : List Attribute) → children_flat x (Leave ∷ s) ≡ attributes_flat a (TagEnd ∷ z) → X
not_tag_leave s z nil [] e = cc
not_tag_leave s z nil (b ∷ a) e = cc
not_tag_leave s z (string t x) [] e = cc
not_tag_leave s z (string t x) (b ∷ a) e = cc
not_tag_leave s z (element m c k x) [] e = cc
not_tag_leave s z (element m c k x) (b ∷ a) e = cc

pub leave_skip_way_in : {g : List Definition} {l : List Name} {s : List Event} (over : Children) (w : Way) → Taking g (λ w. IsLively g l w) (children_flat over (Leave ∷ s)) w → Takes g (leave_skip_way w) s
leave_skip_way_in {g = g} {s = s} over (among o) t = go t.taken
  where
    go : TakesWay g (among o) (children_flat over (Leave ∷ s)) → Takes g (leave_skip_outer o) s
    go (among_children h) = leave_outer_skip_in over o h
leave_skip_way_in {g = g} {s = s} over (in_tag p o) t = go t.taken
  where
    go : TakesWay g (in_tag p o) (children_flat over (Leave ∷ s)) → Takes g [] s
    go (in_start_tag a k rest e w h) = not_tag_leave s _ over a e

pub leave_skip_in : {g : List Definition} {l : List Name} {s : List Event} (over : Children) (x : Residual) → AreLively g l x → Takes g x (children_flat over (Leave ∷ s)) → Takes g (leave_skip x) s
leave_skip_in {g = g} {l = l} {s = s} over x a h =
    stepped_in leave_skip_way (Taking g (λ w. IsLively g l w) (children_flat over (Leave ∷ s))) (λ w t. leave_skip_way_in over w t) [] x (inr (some_taking x (ways_lively x a) h))

pub record WayLeaves (g : List Definition) (s : List Event) (w : Way) : Type 0 where
  pub over : Children
  pub written : CanBeWritten over
  pub taken : TakesWay g w (children_flat over (Leave ∷ s))

pub leave_skip_way_out : {g : List Definition} {l : List Name} {s : List Event} (w : Way) → IsLively g l w → Takes g (leave_skip_way w) s → WayLeaves g s w
leave_skip_way_out (among o) (lively_among h) t = let v = leave_outer_skip_out h t in record { over = v.over; written = v.written; taken = among_children v.taken }
leave_skip_way_out (in_tag p o) h t = elim t [ ]

pub record ResidualLeaves (g : List Definition) (x : Residual) (s : List Event) : Type 0 where
  pub over : Children
  pub written : CanBeWritten over
  pub taken : Takes g x (children_flat over (Leave ∷ s))

one_leaves : {g : List Definition} {s : List Event} (x : Residual) → SomeWay (WayLeaves g s) x → ResidualLeaves g x s
one_leaves [] h = elim h [ ]
one_leaves (w ∷ ws) (this_way h) = record { over = h.over; written = h.written; taken = by_this h.taken }
one_leaves (w ∷ ws) (later_way h) = let v = one_leaves ws h in record { over = v.over; written = v.written; taken = by_later v.taken }

pub leave_skip_out : {g : List Definition} {l : List Name} {s : List Event} (x : Residual) → AreLively g l x → Takes g (leave_skip x) s → ResidualLeaves g x s
leave_skip_out {g = g} {l = l} {s = s} x a h =
    ⊎_elim (λ k. elim k [ ]) (λ k. one_leaves x k)
    (stepped_out_all {ok = λ w. IsLively g l w} leave_skip_way (WayLeaves g s) (λ w i k. leave_skip_way_out w i k) [] x (ways_lively x a) h)

leave_skip_outer_lively : {g : List Definition} {o : Outer} → IsLivelyOutside g o → AreLively g [] (leave_skip_outer o)
leave_skip_outer_lively (lively_document c) = none_lively
leave_skip_outer_lively (lively_inside {o = o} c d a h) = ways_of_lively o h
leave_skip_outer_lively (lively_one_of {o = o} {u = u} h i) =
    lively_with_ways (leave_skip_outer o) (leave_skip_outer u) (leave_skip_outer_lively h) (leave_skip_outer_lively i)

pub leave_skip_way_lively : {g : List Definition} {l : List Name} (w : Way) → IsLively g l w → AreLively g [] (leave_skip_way w)
leave_skip_way_lively (among o) (lively_among h) = leave_skip_outer_lively h
leave_skip_way_lively (in_tag p o) h = none_lively

pub leave_skip_lively : {g : List Definition} {l : List Name} (x : Residual) → AreLively g l x → AreLively g [] (leave_skip x)
leave_skip_lively x a = lively_stepped leave_skip_way leave_skip_way_lively [] x none_lively a
