-- A string and an element's end take off one event.
use Rattle.std.proofs.Common.{◌≡◌, ℕ, List, [], ◌∷◌, Bool, true, false, not, ◌&&◌, ◌||◌, refl, ap, subst, inl, inr, ⊎_elim}
use Rattle.std.specs.Prelude.{if◌then◌else◌}
use Rattle.std.specs.List.{AllByRecursion}
use Rattle.nx_base.specs.Characters.{is_blank}
use Rattle.nx_base.specs.Trees.{Attribute, Children, nil, string, element, without_blanks, Event, TagEnd, Chars, Leave, children_flat, attributes_flat}
use Rattle.rng_core.specs.Patterns.{Pattern, Definition}
use Rattle.rng_core.specs.Matching.{Matches}
use Rattle.rng_kept.specs.SmallPatterns.{is_not_allowed}
use Rattle.rng_kept.specs.Nullable.{nullable}
use Rattle.rng_kept.specs.Lists.{has_flat_lists}
use Rattle.rng_kept.specs.Residuals.{Outer, document, inside, one_of, Way, among, in_tag, Residual, TakesChildren, strictly, loosely, voidly, TakesOuter, at_document, at_inside, at_this, at_other, TakesWay, among_children, in_start_tag, Takes, by_this}
use Rattle.rng_residual.proofs.SmallPatterns.{by_test, or_true, and_true, never_no, is_not_allowed-is}
use Rattle.rng_residual.proofs.Nullable.{nullable_in, nullable_out, true_or_left, true_or_right}
use Rattle.rng_kept.specs.Strings.{after}
use Rattle.rng_kept.specs.Content.{is_dead_outer, among_of, loose_after, chars_outer, chars_way, chars, ways_of, may_leave, leave_outer, leave_way, leave}
use Rattle.rng_residual.proofs.Strings.{after_in, after_out}
use Rattle.rng_residual.proofs.Merging.{takes_one, with_ways_in, with_ways_out, step_in, step_out}

-- no list stands in a list of what is seen first
abbrev pub is_flat_outer : Outer → Bool
is_flat_outer (document p) = has_flat_lists p
is_flat_outer (inside b l v o) = has_flat_lists b && has_flat_lists l
is_flat_outer (one_of o u) = is_flat_outer o && is_flat_outer u

abbrev pub IsFlat : Way → Type 0
IsFlat (among o) = is_flat_outer o ≡ true
IsFlat (in_tag p o) = has_flat_lists p ≡ true

not_both : {X : Type 0} (v : Bool) → v ≡ true → not v ≡ true → X
not_both true e h = cc
not_both false e h = cc

nothing_matched : {X : Type 0} {g : List Definition} (p : Pattern) {a : List Attribute} {c : Children} → is_not_allowed p ≡ true → Matches g p a c → X
nothing_matched {g = g} p {a = a} {c = c} e m = never_no (subst (λ q. Matches g q a c) (is_not_allowed-is p e) m)

dead_no : {X : Type 0} {g : List Definition} {s : List Event} (o : Outer) → is_dead_outer o ≡ true → TakesOuter g o s → X
dead_no (document p) e (at_document c f m) = nothing_matched p e m
dead_no (inside b l v o) e (at_inside k rest f (strictly m) t) = nothing_matched b (and_true _ _ e).0 m
dead_no (inside b l v o) e (at_inside k rest f (loosely m) t) = nothing_matched l (and_true _ _ (and_true _ _ e).1).0 m
dead_no (inside b l v o) e (at_inside k rest f (voidly h i) t) = not_both v h (and_true _ _ (and_true _ _ e).1).1
dead_no (one_of o u) e (at_this t) = dead_no o (and_true _ _ e).0 t
dead_no (one_of o u) e (at_other t) = dead_no u (and_true _ _ e).1 t

pub among_in : {g : List Definition} {s : List Event} (o : Outer) → TakesOuter g o s → Takes g (among_of o) s
among_in {g = g} {s = s} o h =
    by_test (λ r. Takes g r s) (is_dead_outer o) _ _ (λ e. dead_no o e h) (λ _. by_this (among_children h))

among_one : {g : List Definition} {s : List Event} {o : Outer} → TakesWay g (among o) s → TakesOuter g o s
among_one (among_children h) = h

pub among_out : {g : List Definition} {s : List Event} (o : Outer) → Takes g (among_of o) s → TakesOuter g o s
among_out {g = g} {s = s} o h = go (is_dead_outer o) h
  where
    go : (b : Bool) → Takes g (if b then [] else among o ∷ []) s → TakesOuter g o s
    go true n = elim n [ ]
    go false n = among_one (takes_one n)

-- ---- a string

pub record Spoken (t : List ℕ) (c : Children) (s z : List Event) : Type 0 where
  pub rest : Children
  pub is : c ≡ string t rest
  pub events : s ≡ children_flat rest z

pub spoken : (t : List ℕ) (c : Children) (s z : List Event) → (Chars t ∷ s ≡ z → ⊥) → Chars t ∷ s ≡ children_flat c z → Spoken t c s z
spoken t nil s z other e = absurd (other e)
spoken t (string u r) s z other e =
    let same : t ≡ u = cc in
    record { rest = r; is = rw same refl; events = cc }
spoken t (element m a k r) s z other e = cc

pub not_chars : {X : Type 0} {t : List ℕ} {s : List Event} (z : List Event) (a : List Attribute) → Chars t ∷ s ≡ attributes_flat a (TagEnd ∷ z) → X
not_chars z [] e = cc
not_chars z (x ∷ a) e = cc

loose_in : {g : List Definition} (l : Pattern) (t : List ℕ) (r : Children) → has_flat_lists l ≡ true → Matches g l [] (without_blanks (string t r)) → Matches g (loose_after t l) [] (without_blanks r)
loose_in {g = g} l t r f m = go (is_blank t) m
  where
    go : (b : Bool) → Matches g l [] (if b then without_blanks r else string t (without_blanks r)) → Matches g (if b then l else after t l) [] (without_blanks r)
    go true m = m
    go false m = after_in f m

loose_out : {g : List Definition} (l : Pattern) (t : List ℕ) (r : Children) → Matches g (loose_after t l) [] (without_blanks r) → Matches g l [] (without_blanks (string t r))
loose_out {g = g} l t r m = go (is_blank t) m
  where
    go : (b : Bool) → Matches g (if b then l else after t l) [] (without_blanks r) → Matches g l [] (if b then without_blanks r else string t (without_blanks r))
    go true m = m
    go false m = after_out l m

children_in : {g : List Definition} (b l : Pattern) (v : Bool) (t : List ℕ) (r : Children) → has_flat_lists b ≡ true → has_flat_lists l ≡ true →
    TakesChildren g b l v (string t r) → TakesChildren g (after t b) (loose_after t l) false r
children_in b l v t r f h (strictly m) = strictly (after_in f m)
children_in b l v t r f h (loosely m) = loosely (loose_in l t r h m)
children_in b l v t r f h (voidly x y) = cc

children_out : {g : List Definition} (b l : Pattern) (v : Bool) (t : List ℕ) (r : Children) → TakesChildren g (after t b) (loose_after t l) false r → TakesChildren g b l v (string t r)
children_out b l v t r (strictly m) = strictly (after_out b m)
children_out b l v t r (loosely m) = loosely (loose_out l t r m)
children_out b l v t r (voidly x y) = cc

pub chars_outer_in : {g : List Definition} {t : List ℕ} {s : List Event} (o : Outer) → is_flat_outer o ≡ true → TakesOuter g o (Chars t ∷ s) → Takes g (chars_outer t o) s
chars_outer_in {g = g} {t = t} {s = s} (document p) f (at_document c e m) =
    let w = spoken t c s [] (λ d. cc) e in
    among_in (document (after t p)) (at_document w.rest w.events (after_in f (subst (λ x. Matches g p [] x) w.is m)))
chars_outer_in {g = g} {t = t} {s = s} (inside b l v o) f (at_inside k rest e c h) =
    let w = spoken t k s (Leave ∷ rest) (λ d. cc) e in
    let i = and_true _ _ f in
    among_in (inside (after t b) (loose_after t l) false o)
    (at_inside w.rest rest w.events (children_in b l v t w.rest i.0 i.1 (subst (λ x. TakesChildren g b l v x) w.is c)) h)
chars_outer_in {t = t} (one_of o u) f (at_this h) = with_ways_in (chars_outer t o) (chars_outer t u) (inl (chars_outer_in o (and_true _ _ f).0 h))
chars_outer_in {t = t} (one_of o u) f (at_other h) = with_ways_in (chars_outer t o) (chars_outer t u) (inr (chars_outer_in u (and_true _ _ f).1 h))

document_out : {g : List Definition} {t : List ℕ} {s : List Event} (p : Pattern) → TakesOuter g (document (after t p)) s → TakesOuter g (document p) (Chars t ∷ s)
document_out {t = t} p (at_document c e m) = at_document (string t c) (ap (λ (z : List Event). Chars t ∷ z) e) (after_out p m)

inside_out : {g : List Definition} {t : List ℕ} {s : List Event} (b l : Pattern) (v : Bool) (o : Outer) → TakesOuter g (inside (after t b) (loose_after t l) false o) s → TakesOuter g (inside b l v o) (Chars t ∷ s)
inside_out {t = t} b l v o (at_inside k rest e c h) =
    at_inside (string t k) rest (ap (λ (z : List Event). Chars t ∷ z) e) (children_out b l v t k c) h

pub chars_outer_out : {g : List Definition} {t : List ℕ} {s : List Event} (o : Outer) → Takes g (chars_outer t o) s → TakesOuter g o (Chars t ∷ s)
chars_outer_out {t = t} (document p) h = document_out p (among_out (document (after t p)) h)
chars_outer_out {t = t} (inside b l v o) h = inside_out b l v o (among_out (inside (after t b) (loose_after t l) false o) h)
chars_outer_out {t = t} (one_of o u) h =
    ⊎_elim (λ n. at_this (chars_outer_out o n)) (λ n. at_other (chars_outer_out u n)) (with_ways_out (chars_outer t o) (chars_outer t u) h)

chars_way_in : {g : List Definition} {t : List ℕ} {s : List Event} (w : Way) → IsFlat w → TakesWay g w (Chars t ∷ s) → Takes g (chars_way t w) s
chars_way_in (among o) f (among_children h) = chars_outer_in o f h
chars_way_in (in_tag p o) f (in_start_tag a k rest e w h) = not_chars _ a e

chars_way_out : {g : List Definition} {t : List ℕ} {s : List Event} (w : Way) → Takes g (chars_way t w) s → TakesWay g w (Chars t ∷ s)
chars_way_out (among o) h = among_children (chars_outer_out o h)
chars_way_out (in_tag p o) h = elim h [ ]

pub chars_in : {g : List Definition} {t : List ℕ} {s : List Event} (x : Residual) → AllByRecursion IsFlat x → Takes g x (Chars t ∷ s) → Takes g (chars t x) s
chars_in {t = t} x a h = step_in (chars_way t) (λ w f n. chars_way_in w f n) x a h

pub chars_out : {g : List Definition} {t : List ℕ} {s : List Event} (x : Residual) → Takes g (chars t x) s → Takes g x (Chars t ∷ s)
chars_out {t = t} x h = step_out (chars_way t) (λ w n. chars_way_out w n) x h

-- ---- an element's end

left : (c : Children) (s z : List Event) → Leave ∷ s ≡ children_flat c (Leave ∷ z) → (c ≡ nil) × (s ≡ z)
left nil s z e = (refl, cc)
left (string t r) s z e = cc
left (element n a k r) s z e = cc

left_top : {X : Type 0} (c : Children) (s : List Event) → Leave ∷ s ≡ children_flat c [] → X
left_top nil s e = cc
left_top (string t r) s e = cc
left_top (element n a k r) s e = cc

not_leave : {X : Type 0} {s : List Event} (z : List Event) (a : List Attribute) → Leave ∷ s ≡ attributes_flat a (TagEnd ∷ z) → X
not_leave z [] e = cc
not_leave z (x ∷ a) e = cc

none_left : {g : List Definition} (b l : Pattern) (v : Bool) → TakesChildren g b l v nil → may_leave b l v ≡ true
none_left b l v (strictly m) = true_or_left (nullable b) _ (nullable_in m)
none_left b l v (loosely m) = true_or_right (nullable b) _ (true_or_left (nullable l) v (nullable_in m))
none_left b l v (voidly e f) = true_or_right (nullable b) _ (true_or_right (nullable l) v e)

none_left_out : {g : List Definition} (b l : Pattern) (v : Bool) → may_leave b l v ≡ true → TakesChildren g b l v nil
none_left_out b l v e =
    ⊎_elim (λ h. strictly (nullable_out b h))
    (λ h. ⊎_elim (λ i. loosely (nullable_out l i)) (λ i. voidly i refl) (or_true (nullable l) v h))
    (or_true (nullable b) (nullable l || v) e)

pub ways_of_in : {g : List Definition} {s : List Event} (o : Outer) → TakesOuter g o s → Takes g (ways_of o) s
ways_of_in (document p) h = by_this (among_children h)
ways_of_in (inside b l v o) h = by_this (among_children h)
ways_of_in (one_of o u) (at_this h) = with_ways_in (ways_of o) (ways_of u) (inl (ways_of_in o h))
ways_of_in (one_of o u) (at_other h) = with_ways_in (ways_of o) (ways_of u) (inr (ways_of_in u h))

pub ways_of_out : {g : List Definition} {s : List Event} (o : Outer) → Takes g (ways_of o) s → TakesOuter g o s
ways_of_out (document p) h = among_one (takes_one h)
ways_of_out (inside b l v o) h = among_one (takes_one h)
ways_of_out (one_of o u) h =
    ⊎_elim (λ n. at_this (ways_of_out o n)) (λ n. at_other (ways_of_out u n)) (with_ways_out (ways_of o) (ways_of u) h)

leave_outer_in : {g : List Definition} {s : List Event} (o : Outer) → TakesOuter g o (Leave ∷ s) → Takes g (leave_outer o) s
leave_outer_in {s = s} (document p) (at_document c e m) = left_top c s e
leave_outer_in {g = g} {s = s} (inside b l v o) (at_inside k rest e c h) =
    let f = left k s rest e in
    rw (none_left b l v (subst (λ x. TakesChildren g b l v x) f.0 c), f.1) (ways_of_in o h)
leave_outer_in (one_of o u) (at_this h) = with_ways_in (leave_outer o) (leave_outer u) (inl (leave_outer_in o h))
leave_outer_in (one_of o u) (at_other h) = with_ways_in (leave_outer o) (leave_outer u) (inr (leave_outer_in u h))

leave_outer_out : {g : List Definition} {s : List Event} (o : Outer) → Takes g (leave_outer o) s → TakesOuter g o (Leave ∷ s)
leave_outer_out (document p) h = elim h [ ]
leave_outer_out {g = g} {s = s} (inside b l v o) h = go (may_leave b l v) h (λ e. none_left_out b l v e)
  where
    go : (t : Bool) → Takes g (if t then ways_of o else []) s → (t ≡ true → TakesChildren g b l v nil) → TakesOuter g (inside b l v o) (Leave ∷ s)
    go true n c = at_inside nil s refl (c refl) (ways_of_out o n)
    go false n c = elim n [ ]
leave_outer_out (one_of o u) h =
    ⊎_elim (λ n. at_this (leave_outer_out o n)) (λ n. at_other (leave_outer_out u n)) (with_ways_out (leave_outer o) (leave_outer u) h)

leave_way_in : {g : List Definition} {s : List Event} (w : Way) → Unit {0} → TakesWay g w (Leave ∷ s) → Takes g (leave_way w) s
leave_way_in (among o) u (among_children h) = leave_outer_in o h
leave_way_in (in_tag p o) u (in_start_tag a k rest e w h) = not_leave _ a e

leave_way_out : {g : List Definition} {s : List Event} (w : Way) → Takes g (leave_way w) s → TakesWay g w (Leave ∷ s)
leave_way_out (among o) h = among_children (leave_outer_out o h)
leave_way_out (in_tag p o) h = elim h [ ]

pub all_hold : (x : Residual) → AllByRecursion (λ (w : Way). Unit {0}) x
all_hold [] = tt
all_hold (w ∷ ws) = (tt, all_hold ws)

pub leave_in : {g : List Definition} {s : List Event} (x : Residual) → Takes g x (Leave ∷ s) → Takes g (leave x) s
leave_in {g = g} {s = s} x h = step_in {ok = λ w. Unit {0}} leave_way (λ w f n. leave_way_in w f n) x (all_hold x) h

pub leave_out : {g : List Definition} {s : List Event} (x : Residual) → Takes g (leave x) s → Takes g x (Leave ∷ s)
leave_out x h = step_out leave_way (λ w n. leave_way_out w n) x h
