-- What fills what is left of a way is a rest of it.
use Rattle.std.proofs.Common.{◌≡◌, ℕ, List, [], ◌∷◌, ◌++◌, map, Bool, true, false, Option, None, Some, refl, sym, subst, ap, ◌∙◌, append_assoc, append-nil}
use Rattle.std.specs.Prelude.{IsTrue}
use Rattle.std.proofs.lemmas.List.{map-append}
use Rattle.nx_base.specs.declared.name.Name.{Name}
use Rattle.nx_base.specs.Characters.{is_of_chars}
use Rattle.nx_base.specs.Trees.{Attribute, Children, nil, string, without_blanks, HasAttribute, Event, TagEnd, Leave, attributes_flat, children_flat, AreWritable}
use Rattle.rng_core.specs.Matching.{Matches, Weakly, as_they_stand, as_one_empty_string}
use Rattle.rng_core.specs.Meaning.{pattern_of}
use Rattle.rng_core.specs.declared.grammar.Pat.{Pat}
use Rattle.rng_core.specs.Patterns.{Pattern, Definition}
use Rattle.rng_kept.specs.Events.{IsAmong, IsDistinct}
use Rattle.rng_kept.specs.Residuals.{Outer, document, inside, one_of, Way, among, in_tag, MatchesWeakly, TakesChildren, strictly, loosely, voidly, TakesOuter, at_document as taken_at_document, at_inside, at_this, at_other, TakesWay, among_children, in_start_tag}
use Rattle.rng_residual.proofs.Fresh.{IsFresh, fresh_end, fresh_leave, fresh_attributes, fresh_children, writable_of, CanBeWritten, NotAmong}
use Rattle.rng_residual.proofs.Repair.{HaveChars}
use Rattle.rng_residual.proofs.Distinct.{distinct_of}
use Rattle.rng_cost.specs.Leaves.{leaves}
use Rattle.rng_fill.specs.declared.moves.Move.{Move}
use Rattle.rng_fill.specs.declared.moves.Move.TheVariants as move
use Rattle.rng_fill.specs.Matched.{AreMatched, LeavesMatch}
use Rattle.rng_fill.specs.Moves.{event_of, events_of}
use Rattle.rng_fill.specs.Sorted.{attribute_leaves}
use Rattle.rng_fill.specs.Written.{AreOfChars, no_value, one_value}
use Rattle.rng_names.specs.Left.{UsesNames, WayUsesNames}
use Rattle.rng_rests.specs.Rests.{AreApart}
use Rattle.rng_finish.specs.declared.left.Left.{Left}
use Rattle.rng_finish.specs.declared.left.Level.{Level}
use Rattle.rng_finish.specs.declared.left.Level.TheVariants as level
use Rattle.rng_finish.specs.Left.{IsPath, at_document, at_void, at_strict, at_loose, of_this, of_other, IsTagOf, IsLeftOf}
use Rattle.rng_finish.specs.Filled.{CanStand, IsSeen, AddsChildren, FillsLevels, fills_document, fills_level, EndsChildren, FillsTag, FillsIfTag, FillsLeft, child_leaves}
use Rattle.rng_finish.specs.Laws.{IsWayRest, AddsRest, FilledAreRests}
use Rattle.rng_finish.proofs.Together.{together}
use Rattle.rng_finish.proofs.Naming.{leaves_distinct, leaves_new}
use Rattle.rng_finish.proofs.Standing.{attributes_apart, nothing_stands}

-- ---- outside of tags

-- events that are taken and can be written, whichever attributes the tag in front of them has
pub record IsOuterRest (g : List Definition) (o : Outer) (s : List Event) : Type 0 where
  pub takes : TakesOuter g o s
  pub fresh : (l : List Name) → IsFresh l s
  pub apart : AreApart s

pub record AddsOuter (g : List Definition) (o : Outer) (old new : List Move) : Type 0 where
  pub added : List Move
  pub is : new ≡ old ++ added
  pub rest : IsOuterRest g o (events_of added)

stands_written : {solid : Bool} {k : Children} → CanStand solid k → CanBeWritten k
stands_written h = record { are_children = h.children; writable = h.writable }

-- children, the element's end, and what is outside
inside_rest : {g : List Definition} {b l : Pattern} {v : Bool} {o : Outer} {s : List Event} (k : Children) {solid : Bool} → CanStand solid k
    → TakesChildren g b l v k → IsOuterRest g o s → IsOuterRest g (inside b l v o) (children_flat k (Leave ∷ s))
inside_rest {s = s} k h taken r = record {
  takes = at_inside k s refl taken r.takes;
  fresh = λ m. fresh_children m (stands_written h) (λ n. fresh_leave (r.fresh []));
  apart = h.apart (Leave ∷ s) tt r.apart;
}

-- moves that were added, and more behind an end
then_end : (old : List Move) {middle new : List Move} (one two : List Move) → middle ≡ old ++ one → new ≡ (middle ++ move.Leave ∷ []) ++ two
    → new ≡ old ++ (one ++ move.Leave ∷ two)
then_end old one two is last =
    last ∙ ap (λ (t : List Move). (t ++ move.Leave ∷ []) ++ two) is ∙ append_assoc (old ++ one) (move.Leave ∷ []) two
    ∙ append_assoc old one (move.Leave ∷ two)

ended_events : (one two : List Move) (k : Children) → ((s : List Event) → events_of one ++ s ≡ children_flat k s)
    → events_of (one ++ move.Leave ∷ two) ≡ children_flat k (Leave ∷ events_of two)
ended_events one two k events = map-append event_of one (move.Leave ∷ two) ∙ events (Leave ∷ events_of two)

module _ {g : List Definition} (costs : List ℕ) (matching : LeavesMatch) where
  -- what leaves without attributes match
  matched_by : (p : Pattern) {c k : Children} → c ≡ k → AreMatched g (leaves costs p) [] c → Matches g p [] k
  matched_by p is m = subst (λ (x : Children). Matches g p [] x) is (matching g costs p [] _ m)

  pub outer_rests : {d : Pattern} {ls : List Level} {o : Outer} {old new : List Move} → FillsLevels g costs d ls old new → IsPath o ls d
      → AddsOuter g o old new
  outer_rests f (of_this path) =
      let w = outer_rests f path in record {
        added = w.added;
        is = w.is;
        rest = record { takes = at_this w.rest.takes; fresh = w.rest.fresh; apart = w.rest.apart };
      }
  outer_rests f (of_other path) =
      let w = outer_rests f path in record {
        added = w.added;
        is = w.is;
        rest = record { takes = at_other w.rest.takes; fresh = w.rest.fresh; apart = w.rest.apart };
      }
  outer_rests {d = d} (fills_document c) at_document = record {
    added = c.added;
    is = c.is;
    rest =
        let events : events_of c.added ≡ children_flat c.children [] = sym (append-nil (events_of c.added)) ∙ c.events [] in
        subst (λ (s : List Event). IsOuterRest g (document d) s) (sym events)
        (record {
          takes = taken_at_document c.children refl (matched_by d c.is_seen c.matched);
          fresh = λ m. fresh_children m (stands_written c.stands) (λ n. fresh_end);
          apart = c.stands.apart [] tt tt;
        });
  }
  outer_rests {old = old} (fills_level is f) (at_void v path) =
      let w = outer_rests f path in record {
        added = move.Leave ∷ w.added;
        is = w.is ∙ ap (λ (t : List Move). t ++ w.added) is ∙ append_assoc old (move.Leave ∷ []) w.added;
        rest = inside_rest nil (nothing_stands {solid = false}) (voidly v refl) w.rest;
      }
  outer_rests {o = inside b l v o} {old = old} (fills_level {one = level.Strict p} e f) (at_strict is path) =
      let w = outer_rests f path in
      let c = e.children in record {
        added = c.added ++ move.Leave ∷ w.added;
        is = then_end old c.added w.added c.is (w.is ∙ ap (λ (t : List Move). t ++ w.added) e.is);
        rest = subst (λ (s : List Event). IsOuterRest g (inside b l v o) s) (sym (ended_events c.added w.added c.children c.events))
            (inside_rest c.children c.stands
            (strictly (subst (λ (q : Pattern). Matches g q [] c.children) is (matched_by (pattern_of p) c.is_seen c.matched))) w.rest);
      }
  outer_rests {o = inside b l v o} {old = old} (fills_level {one = level.Loose p} e f) (at_loose is path) =
      let w = outer_rests f path in
      let c = e.children in record {
        added = c.added ++ move.Leave ∷ w.added;
        is = then_end old c.added w.added c.is (w.is ∙ ap (λ (t : List Move). t ++ w.added) e.is);
        rest = subst (λ (s : List Event). IsOuterRest g (inside b l v o) s) (sym (ended_events c.added w.added c.children c.events))
            (inside_rest c.children c.stands
            (loosely (subst (λ (q : Pattern). Matches g q [] (without_blanks c.children)) is
            (matched_by (pattern_of p) (c.is_seen ∙ sym (c.stands.solid refl)) c.matched))) w.rest);
      }

-- ---- a start tag

chars_of : {a : List Attribute} → AreOfChars a → HaveChars a
chars_of no_value = tt
chars_of (one_value c v) = (c, chars_of v)

seen_weakly : (plain : Bool) (k seen : Children) → IsSeen plain k seen → Weakly k seen
seen_weakly true k seen is = subst (λ (x : Children). Weakly k x) (sym is) as_they_stand
seen_weakly false k seen is =
    subst (λ (x : Children). Weakly x seen) (sym is.0) (subst (λ (x : Children). Weakly nil x) (sym is.1) as_one_empty_string)

-- what stands behind the attributes
abbrev inside_of : Children → List Move → List Event
inside_of k outside = TagEnd ∷ children_flat k (Leave ∷ events_of outside)

tag_is : (old : List Move) {tag within middle new : List Move} (one two three : List Move) → tag ≡ old ++ one
    → within ≡ (tag ++ move.TagEnd ∷ []) ++ two → middle ≡ within ++ move.Leave ∷ [] → new ≡ middle ++ three
    → new ≡ old ++ (one ++ move.TagEnd ∷ (two ++ move.Leave ∷ three))
tag_is old {tag = tag} one two three first second third last =
    then_end (tag ++ move.TagEnd ∷ []) two three second (last ∙ ap (λ (x : List Move). x ++ three) third)
    ∙ append_assoc tag (move.TagEnd ∷ []) (two ++ move.Leave ∷ three)
    ∙ ap (λ (x : List Move). x ++ move.TagEnd ∷ (two ++ move.Leave ∷ three)) first
    ∙ append_assoc old one (move.TagEnd ∷ (two ++ move.Leave ∷ three))

tag_events : (a : List Attribute) (k : Children) (one two three : List Move) → ((s : List Event) → events_of one ++ s ≡ attributes_flat a s)
    → ((s : List Event) → events_of two ++ s ≡ children_flat k s)
    → events_of (one ++ move.TagEnd ∷ (two ++ move.Leave ∷ three)) ≡ attributes_flat a (inside_of k three)
tag_events a k one two three attributes children =
    map-append event_of one (move.TagEnd ∷ (two ++ move.Leave ∷ three))
    ∙ ap (λ (s : List Event). events_of one ++ TagEnd ∷ s) (ended_events two three k children)
    ∙ attributes (inside_of k three)

module _ {g : List Definition} (costs : List ℕ) (matching : LeavesMatch) {l : List Name} {p : Pattern} {o : Outer} (uses : UsesNames l p) where
  tag_fresh : {old within new : List Move} (t : FillsTag g costs p old within) (w : AddsOuter g o within new)
      → IsFresh l (attributes_flat t.attributes.attributes (inside_of t.children.children w.added))
  tag_fresh t w =
      fresh_attributes (leaves_distinct costs uses (t.attributes.matched g)) (chars_of t.attributes.values)
      (record { apart = λ n h k. leaves_new costs uses (t.attributes.matched g) n h k })
      (fresh_children [] (stands_written t.children.stands) (λ m. fresh_leave (w.rest.fresh [])))

  tag_takes : {old within new : List Move} (t : FillsTag g costs p old within) (w : AddsOuter g o within new)
      → IsWayRest g l (in_tag p o) (attributes_flat t.attributes.attributes (inside_of t.children.children w.added))
  tag_takes t w = record {
    takes = in_start_tag t.attributes.attributes t.children.children (events_of w.added) refl
        (record {
          children = t.children.seen;
          weakly = seen_weakly t.plain t.children.children t.children.seen t.children.is_seen;
          matched = matching g costs p t.attributes.attributes t.children.seen
              (together (leaves costs p) (t.attributes.matched g) t.children.matched);
        })
        w.rest.takes;
    writable = writable_of (tag_fresh t w);
    apart = attributes_apart t.attributes.attributes (inside_of t.children.children w.added)
        (t.children.stands.apart (Leave ∷ events_of w.added) tt w.rest.apart);
    distinct = distinct_of (tag_fresh t w);
  }

  tag_rest : {old within new : List Move} → FillsTag g costs p old within → AddsOuter g o within new → AddsRest g l (in_tag p o) old new
  tag_rest {old = old} t w = record {
    added = t.attributes.added ++ move.TagEnd ∷ (t.children.added ++ move.Leave ∷ w.added);
    is = tag_is old t.attributes.added t.children.added w.added t.attributes.is t.children.is t.is w.is;
    rest = subst (λ (s : List Event). IsWayRest g l (in_tag p o) s)
        (sym (tag_events t.attributes.attributes t.children.children t.attributes.added t.children.added w.added t.attributes.events
        t.children.events))
        (tag_takes t w);
  }

-- ---- the whole

module _ {g : List Definition} (costs : List ℕ) (matching : LeavesMatch) {l : List Name} {ls : List Level} {d : Pattern} {old within new : List Move}
    (f : FillsLevels g costs d ls within new) where
  way_rest : (w : Way) (tag : Option Pat) → WayUsesNames l w → IsTagOf w tag ls d → FillsIfTag g costs tag old within → AddsRest g l w old new
  way_rest (among o) None uses path same =
      let w = outer_rests costs matching f path in
      record {
        added = w.added;
        is = w.is ∙ ap (λ (x : List Move). x ++ w.added) same;
        rest = record {
          takes = among_children w.rest.takes;
          writable = writable_of (w.rest.fresh l);
          apart = w.rest.apart;
          distinct = distinct_of (w.rest.fresh l);
        };
      }
  way_rest (among o) (Some pat) uses path t = absurd path
  way_rest (in_tag p o) None uses path t = absurd path
  way_rest (in_tag p o) (Some pat) uses path t =
      tag_rest costs matching uses (subst (λ (q : Pattern). FillsTag g costs q old within) path.0 t) (outer_rests costs matching f path.1)

pub filled_are_rests : LeavesMatch → FilledAreRests
filled_are_rests matching g costs l w left old new uses is f = way_rest costs matching f.levels w left.tag uses is f.tag
