-- A residual stands for the kept lists, event by event.
use Rattle.std.proofs.Common.{◌≡◌, List, [], ◌∷◌, ◌++◌, refl, ap, sym, subst, ◌∙◌, append_assoc, append-nil, Some, None}
use Rattle.nx_base.specs.declared.name.Name.{Name}
use Rattle.nx_base.specs.Trees.{Attribute, Children, nil, element, alone, Event, Enter, Att, TagEnd, Chars, Leave, attributes_flat, children_flat}
use Rattle.rng_core.specs.Patterns.{Pattern, Definition, Language}
use Rattle.rng_core.specs.Matching.{Matches, by_element, by_first, by_second}
use Rattle.rng_core.specs.Validity.{Valid, Viable}
use Rattle.rng_kept.specs.Residuals.{Residual, document, TakesOuter, at_document, among_children, Takes, by_this, by_later}
use Rattle.rng_kept.specs.Lively.{lively_among, lively_document, AreLively, none_lively, one_lively, Lively, lively}
use Rattle.rng_kept.specs.Moves.{Move, take, skip_to, any_value, any_string, missing_attributes, missing_content, Adds, adds_event, adds_skipped, adds_value, adds_string, adds_attributes, adds_content, attributes_after, attributes_of, AreTextMoves}
use Rattle.rng_kept.specs.KeptLists.{Kept, IsEndOf}
use Rattle.rng_kept.specs.Events.{IsText, AreText, IsDistinct, distinct_end, distinct_attribute, distinct_enter, distinct_tag_end, distinct_chars, distinct_leave}
use Rattle.rng_kept.specs.Live.{IsStart, one_ref, a_choice, IsFrame, AreLive}
use Rattle.rng_kept.specs.Standing.{Stands, StandsBehind, first_residual}
use Rattle.rng_kept.specs.Merging.{answered}
use Rattle.rng_residual.specs.Solid.{TestsSolid}
use Rattle.rng_residual.proofs.Members.{tests_are_solid}
use Rattle.rng_residual.specs.Moves.{behind_event, IsNew, FramesStand, FrontsAreViable, StandingGoesOn, AnswersTellMoves, RestsAreTaken}
use Rattle.rng_residual.specs.Merging.{MergedTakeTheSame}
use Rattle.rng_residual.proofs.Merging.{with_way_in, with_way_out}
use Rattle.rng_residual.proofs.Content.{chars_in, chars_out, leave_in, leave_out}
use Rattle.rng_residual.proofs.Tags.{attribute_of_in, attribute_of_out, tag_end_in, tag_end_out, enter_in, enter_out}
use Rattle.rng_residual.proofs.Alive.{flat_ways, clean_ways, enter_lively, attribute_lively, tag_end_lively, chars_lively, leave_lively}
use Rattle.rng_residual.proofs.Viable.{viable}
use Rattle.rng_residual.proofs.Fresh.{writable_of}
use Rattle.rng_residual.proofs.Distinct.{named, children_distinct, distinct_children, text_of_writable, distinct_of, enter_distinct, leave_distinct, chars_distinct, end_distinct, attribute_distinct, proper_named, past_attributes, attributes_append, children_append}

-- ---- the first residual of a frame

record OneElement (c : Children) : Type 0 where
  name : Name
  attributes : List Attribute
  children : Children
  is : c ≡ element name attributes children nil

one_element : {g : List Definition} {p : Pattern} {a : List Attribute} {c : Children} → IsStart p → Matches g p a c → OneElement c
one_element one_ref (by_element {n = n} {a = a} {k = k} e h w m) = record { name = n; attributes = a; children = k; is = refl }
one_element (a_choice i j) (by_first m) = one_element i m
one_element (a_choice i j) (by_second m) = one_element j m

first_sound : {g : Language} {p : Pattern} {s : List Event} → IsStart p → IsDistinct [] s → TakesOuter g.definitions (document p) s → IsEndOf g p [] s
first_sound {g = g} {p = p} {s = s} i d (at_document c e m) =
    let w = one_element i m in
    let x = element w.name w.attributes w.children nil in
    let f : s ≡ children_flat x [] = e ∙ ap (λ k. children_flat k []) w.is in
    let n : Matches g.definitions p [] x = subst (λ k. Matches g.definitions p [] k) w.is m in
    let q = children_distinct x [] [] (named n).1 (subst (λ v. IsDistinct [] v) f d) in
    record {
      kept = [];
      is_kept = refl;
      valid = record { tree = record { name = w.name; attributes = w.attributes; children = w.children }; is_tree = q.0; events_are = f; matched = n };
    }

outer_of_first : {g : List Definition} {p : Pattern} {s : List Event} → Takes g (first_residual p) s → TakesOuter g (document p) s
outer_of_first (by_this (among_children h)) = h
outer_of_first (by_later h) = elim h [ ]

first_complete : {g : Language} {p : Pattern} {s : List Event} → IsEndOf g p [] s → Takes g.definitions (first_residual p) s
first_complete {g = g} {p = p} {s = s} r =
    let v : Valid g.definitions p s = subst (λ k. Valid g.definitions p (k ++ s)) r.is_kept r.valid in
    by_this (among_children (at_document (alone v.tree) v.events_are v.matched))

pub stands_first : {g : Language} {p : Pattern} → IsFrame g p → Stands g p [] (first_residual p)
stands_first {g = g} {p = p} f = record {
  frame = f;
  text = tt;
  sound = λ s t d h. first_sound f.start d (outer_of_first h);
  complete = λ s t r. first_complete r;
  lively = lively (one_lively (lively_among (lively_document f.clean)) none_lively);
}

-- ---- behind one event

pub adds_is : {e : Event} {added : List Event} → Adds (take e) added → added ≡ e ∷ []
adds_is adds_event = refl

pub end_behind : {g : Language} {p : Pattern} {h : List Move} {e : Event} {s : List Event} → IsEndOf g p h (e ∷ s) → IsEndOf g p (take e ∷ h) s
end_behind {g = g} {p = p} {h = h} {e = e} {s = s} r = record {
  kept = r.kept ++ e ∷ [];
  is_kept = (r.kept, e ∷ [], r.is_kept, adds_event, refl, tt);
  valid = subst (λ k. Valid g.definitions p k) (sym (append_assoc r.kept (e ∷ []) s)) r.valid;
}

pub end_before : {g : Language} {p : Pattern} {h : List Move} {e : Event} {s : List Event} → IsEndOf g p (take e ∷ h) s → IsEndOf g p h (e ∷ s)
end_before {g = g} {p = p} {h = h} {e = e} {s = s} r =
    let k = r.is_kept in
    let one : r.kept ≡ k.0 ++ e ∷ [] = k.4 ∙ ap (λ (a : List Event). k.0 ++ a) (adds_is k.3) in
    record {
      kept = k.0;
      is_kept = k.2;
      valid = subst (λ v. Valid g.definitions p v) (ap (λ (v : List Event). v ++ s) one ∙ append_assoc k.0 (e ∷ []) s) r.valid;
    }

-- an answer that takes what it is to take
pub answer_stands : {g : Language} {p : Pattern} {h : List Move} {m : Move} (y : Residual) → IsFrame g p → AreTextMoves (m ∷ h) →
    ((s : List Event) → AreText s → IsDistinct (attributes_of (m ∷ h)) s → Takes g.definitions y s → IsEndOf g p (m ∷ h) s) →
    ((s : List Event) → AreText s → IsEndOf g p (m ∷ h) s → Takes g.definitions y s) →
    AreLively g.definitions (attributes_of (m ∷ h)) y → StandsBehind g p h m (answered y)
answer_stands [] f t i o a = λ s r. none (o s (text_of_writable s r.is_rest.writable) (record { kept = r.kept; is_kept = r.is_kept; valid = r.is_rest.valid }))
  where
    none : {d : List Definition} {s : List Event} → Takes d [] s → ⊥
    none n = elim n [ ]
answer_stands (w ∷ ws) f t i o a = record { frame = f; text = t; sound = i; complete = o; lively = lively a }

-- it takes off one event
record TakesOff (g : List Definition) (e : Event) (x y : Residual) : Type 0 where
  off : (s : List Event) → AreText s → Takes g x (e ∷ s) → Takes g y s
  on : (s : List Event) → Takes g y s → Takes g x (e ∷ s)

pub lively_all : {g : List Definition} {l : List Name} {x : Residual} → Lively g l x → AreLively g l x
lively_all (lively a) = a

takes_off : {g : List Definition} {l : List Name} → TestsSolid g → (e : Event) (x : Residual) → AreLively g l x → TakesOff g e x (behind_event g e x)
takes_off z (Enter n) x a = record { off = λ s t k. enter_in x k; on = λ s k. enter_out x k }
takes_off z (Att n v) x a = record { off = λ s t k. attribute_of_in x (flat_ways x a) k; on = λ s k. attribute_of_out x k }
takes_off z TagEnd x a = record { off = λ s t k. tag_end_in x z.all t (clean_ways x a) k; on = λ s k. tag_end_out x k }
takes_off z (Chars t) x a = record { off = λ s u k. chars_in x (flat_ways x a) k; on = λ s k. chars_out x k }
takes_off z Leave x a = record { off = λ s t k. leave_in x k; on = λ s k. leave_out x k }

stays_lively : {g : List Definition} {l : List Name} → AreLive g → TestsSolid g → (e : Event) (x : Residual) → IsNew l e → AreLively g l x → AreLively g (attributes_after l (take e)) (behind_event g e x)
stays_lively live z (Enter n) x f a = enter_lively n live x a
stays_lively live z (Att n v) x f a = attribute_lively n v f x a
stays_lively live z TagEnd x f a = tag_end_lively z.none_else x a
stays_lively live z (Chars t) x f a = chars_lively t x a
stays_lively live z Leave x f a = leave_lively x a

new_distinct : (l : List Name) (e : Event) (s : List Event) → IsNew l e → IsDistinct (attributes_after l (take e)) s → IsDistinct l (e ∷ s)
new_distinct l (Enter n) s f c = distinct_enter c
new_distinct l (Att n v) s f c = distinct_attribute f c
new_distinct l TagEnd s f c = distinct_tag_end c
new_distinct l (Chars t) s f c = distinct_chars c
new_distinct l Leave s f c = distinct_leave c

-- what is left behind an event of the text stands for the lists that are kept with it, and is nothing exactly where none goes on so
pub event_stands : {g : Language} → AreLive g.definitions → TestsSolid g.definitions → (p : Pattern) (h : List Move) (x : Residual) → Stands g p h x →
    (e : Event) → IsText e → IsNew (attributes_of h) e → StandsBehind g p h (take e) (answered (behind_event g.definitions e x))
event_stands {g = g} live z p h x f e t new =
    let a = lively_all f.lively in
    let w = takes_off z e x a in
    answer_stands (behind_event g.definitions e x) f.frame (t, f.text)
    (λ s u d k. end_behind (f.sound (e ∷ s) (t, u) (new_distinct (attributes_of h) e s new d) (w.on s k)))
    (λ s u r. w.off s u (f.complete (e ∷ s) (t, u) (end_before r)))
    (stays_lively live z e x new a)

-- ---- a front whose end is text has an end that can be written

-- the text's own events, as moves behind moves
pub taken : List Event → List Move → List Move
taken [] h = h
taken (e ∷ k) h = taken k (take e ∷ h)

record Front (g : Language) (p : Pattern) (h : List Move) (k kept : List Event) : Type 0 where
  before : List Event
  is_kept : Kept g p h before
  is : kept ≡ before ++ k

kept_front : {g : Language} {p : Pattern} (k : List Event) (h : List Move) (kept : List Event) → Kept g p (taken k h) kept → Front g p h k kept
unfolding taken
kept_front [] h kept w = record { before = kept; is_kept = w; is = sym (append-nil kept) }
kept_front {g = g} {p = p} (e ∷ k) h kept w =
    let v = kept_front {g = g} {p = p} k (take e ∷ h) kept w in
    let u = v.is_kept in
    record {
      before = u.0;
      is_kept = u.2;
      is = v.is ∙ ap (λ (b : List Event). b ++ k) (u.4 ∙ ap (λ (a : List Event). u.0 ++ a) (adds_is u.3)) ∙ append_assoc u.0 (e ∷ []) k;
    }

-- behind moves the events repeat no attribute
pub valid_distinct : {g : List Definition} {p : Pattern} (s : List Event) → Valid g p s → IsDistinct [] s
valid_distinct s v = rw v.events_are (distinct_children [] v.is_tree (λ m. distinct_end))

past : (l : List Name) (m : Move) {added : List Event} (s : List Event) → Adds m added → IsDistinct l (added ++ s) → IsDistinct (attributes_after l m) s
past l (take (Enter n)) s adds_event c = enter_distinct c
past l (take (Att n v)) s adds_event c = (attribute_distinct c).1
past l (take TagEnd) s adds_event c = end_distinct c
past l (take (Chars t)) s adds_event c = chars_distinct c
past l (take Leave) s adds_event c = leave_distinct c
past l (skip_to n) s (adds_skipped over p w) c =
    let d : IsDistinct l (children_flat over (Enter n ∷ s)) = subst (λ z. IsDistinct l z) (children_append over (Enter n ∷ []) s) c in
    enter_distinct ((children_distinct over l (Enter n ∷ s) (proper_named p) d).1.1)
past l (any_value n) s (adds_value v w) c = (attribute_distinct c).1
past l any_string s (adds_string t w b) c = chars_distinct c
past l missing_attributes s (adds_attributes a w) c =
    let d : IsDistinct l (attributes_flat a (TagEnd ∷ s)) = subst (λ z. IsDistinct l z) (attributes_append a (TagEnd ∷ []) s) c in
    past_attributes a l s d
past l missing_content s (adds_content over p w) c =
    let d : IsDistinct l (children_flat over (Leave ∷ s)) = subst (λ z. IsDistinct l z) (children_append over (Leave ∷ []) s) c in
    leave_distinct ((children_distinct over l (Leave ∷ s) (proper_named p) d).1.1)

pub kept_distinct : (g : Language) (p : Pattern) (h : List Move) (k s : List Event) → Kept g p h k → IsDistinct [] (k ++ s) → IsDistinct (attributes_of h) s
kept_distinct g p [] k s e c = subst (λ v. IsDistinct [] (v ++ s)) e c
kept_distinct g p (m ∷ h) k s w c =
    let d : IsDistinct [] (w.0 ++ (w.1 ++ s)) = subst (λ v. IsDistinct [] v) (ap (λ (v : List Event). v ++ s) w.4 ∙ append_assoc w.0 w.1 s) c in
    past (attributes_of h) m s w.3 (kept_distinct g p h w.0 (w.1 ++ s) w.2 d)

-- so the next attribute is a new one
next_new : {g : Language} {p : Pattern} {h : List Move} (e : Event) (s : List Event) → IsEndOf g p h (e ∷ s) → IsNew (attributes_of h) e
next_new (Enter n) s r = tt
next_new {g = g} {p = p} {h = h} (Att n v) s r = (attribute_distinct (kept_distinct g p h r.kept (Att n v ∷ s) r.is_kept (valid_distinct (r.kept ++ Att n v ∷ s) r.valid))).0
next_new TagEnd s r = tt
next_new (Chars t) s r = tt
next_new Leave s r = tt

some_stands : {g : Language} {p : Pattern} {h : List Move} {m : Move} {s : List Event} (y : Residual) → Takes g.definitions y s → StandsBehind g p h m (answered y) → Stands g p (m ∷ h) y
some_stands [] k f = elim k [ ]
some_stands (w ∷ ws) k f = f

record StandsFor (g : Language) (p : Pattern) (h : List Move) : Type 0 where
  residual : Residual
  stands : Stands g p h residual

front_stands : {g : Language} {p : Pattern} → AreLive g.definitions → TestsSolid g.definitions → (k : List Event) (h : List Move) (x : Residual) (s : List Event) →
    Stands g p h x → AreText k → AreText s → IsEndOf g p h (k ++ s) → StandsFor g p (taken k h)
unfolding taken
front_stands live z [] h x s f t u r = record { residual = x; stands = f }
front_stands {g = g} {p = p} live z (e ∷ k) h x s f t u r =
    let w = takes_off z e x (lively_all f.lively) in
    let y = behind_event g.definitions e x in
    let v = both k s t.1 u in
    let n = w.off (k ++ s) v (f.complete (e ∷ (k ++ s)) (t.0, v) r) in
    let i = event_stands live z p h x f e t.0 (next_new e (k ++ s) r) in
    front_stands live z k (take e ∷ h) y s (some_stands y n i) t.1 u (end_behind r)
  where
    both : (a b : List Event) → AreText a → AreText b → AreText (a ++ b)
    both [] b h i = i
    both (x ∷ a) b h i = (h.0, both a b h.1 i)

pub writable_end : {g : Language} {p : Pattern} → AreLive g.definitions → TestsSolid g.definitions → IsFrame g p → (k s : List Event) →
    AreText k → AreText s → Valid g.definitions p (k ++ s) → Viable g.definitions p k
writable_end {g = g} {p = p} live z frame k s t u v =
    let first = stands_first frame in
    let r : IsEndOf g p [] (k ++ s) = record { kept = []; is_kept = refl; valid = v } in
    let f = front_stands live z k [] (first_residual p) s first t u r in
    let w = viable live f.stands.lively in
    let o = f.stands.sound w.rest (text_of_writable w.rest (writable_of w.fresh)) (distinct_of w.fresh) w.taken in
    let q = kept_front {g = g} {p = p} k [] o.kept o.is_kept in
    let one : o.kept ≡ k = q.is ∙ ap (λ (b : List Event). b ++ k) q.is_kept in
    record { rest = w.rest; is_rest = record { writable = writable_of w.fresh; valid = subst (λ b. Valid g.definitions p (b ++ w.rest)) one o.valid } }

pub frames_stand : FramesStand
frames_stand g p f = stands_first f

pub fronts_are_viable : FrontsAreViable
fronts_are_viable g live p f k s t u v = writable_end live (tests_are_solid g.definitions) f k s t u v

pub standing_goes_on : StandingGoesOn
standing_goes_on g p h x live e =
    let w = viable live e.lively in
    let o = e.sound w.rest (text_of_writable w.rest (writable_of w.fresh)) (distinct_of w.fresh) w.taken in
    record { rest = w.rest; is_rest_of = record { kept = o.kept; is_kept = o.is_kept; is_rest = record { writable = writable_of w.fresh; valid = o.valid } } }

pub merged_take_the_same : MergedTakeTheSame
merged_take_the_same g s x w = (λ h. with_way_out x w h, λ h. with_way_in x w h)

pub answers_tell_moves : AnswersTellMoves
answers_tell_moves g p h m None live none = (
  λ c. absurd (none c.viable.rest (record { kept = c.kept; is_kept = c.is_kept; is_rest = c.viable.is_rest })),
  λ e. cc,
)
answers_tell_moves g p h m (Some x) live stands = (
  λ c. refl,
  λ e.
      let w = standing_goes_on g p (m ∷ h) x live stands in
      record { kept = w.is_rest_of.kept; is_kept = w.is_rest_of.is_kept; viable = record { rest = w.rest; is_rest = w.is_rest_of.is_rest } },
)

pub rests_are_taken : RestsAreTaken
rests_are_taken g p h x e s w = (
  λ r.
      let o : IsEndOf g p h s = record { kept = r.kept; is_kept = r.is_kept; valid = r.is_rest.valid } in
      (e.complete s (text_of_writable s w) o, kept_distinct g p h r.kept s r.is_kept (valid_distinct (r.kept ++ s) r.is_rest.valid)),
  λ t d.
      let o = e.sound s (text_of_writable s w) d t in
      record { kept = o.kept; is_kept = o.is_kept; is_rest = record { writable = w; valid = o.valid } },
)
