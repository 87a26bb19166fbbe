-- Recovery over residuals is recovery over kept lists: one event.
use Rattle.std.proofs.Common.{◌≡◌, ℕ, suc, ◌-◌, List, [], ◌∷◌, Option, Some, None, Bool, true, false, refl, ap, sym, subst, arith}
use Rattle.std.specs.Prelude.{◌&&◌, IsTrue}
use Rattle.std.proofs.lemmas.Str.{is_utf8-from_IsUtf8}
use Rattle.nx_base.specs.declared.name.Name.{Name}
use Rattle.nx_base.specs.declared.fault.Kind.TheVariants as kinds
use Rattle.nx_base.specs.Trees as trees
use Rattle.rng_core.specs.Patterns.{Language}
use Rattle.rng_kept.specs.Events.{IsAmong, first, later, IsText}
use Rattle.rng_kept.specs.Moves.{Move, take, skip_to, any_value, any_string, missing_attributes, missing_content, attributes_of, is_tag_open, open_elements}
use Rattle.rng_kept.specs.Residuals.{Residual, is_in_tag}
use Rattle.rng_kept.specs.Required.{is_required}
use Rattle.rng_kept.specs.Merging.{answered}
use Rattle.rng_kept.specs.Entering.{enter, enter_skip}
use Rattle.rng_kept.specs.Tags.{attribute_of, attribute_any, tag_end, tag_end_missing}
use Rattle.rng_kept.specs.Content.{chars, chars_any, leave, leave_skip}
use Rattle.rng_kept.specs.Live.{AreLive}
use Rattle.rng_kept.specs.Standing.{Stands, StandsBehind}
use Rattle.rng_residual.proofs.MoveStands.{moves_stand}
use Rattle.rng_residual.proofs.Standing.{answers_tell_moves}
use Rattle.rng_residual.proofs.Missing.{tags_are_told, missing_parts_go_on}
use Rattle.rng_kept.specs.KeptLists.{skip_move}
use Rattle.rng_residual.proofs.Needed.{needed_is_exact}
use Rattle.rng_residual.proofs.Required.{required_is_exact}
use Rattle.nx_events.specs.Texts.{EventIsText}
use Rattle.nx_events.specs.declared.item.Event.{Event}
use Rattle.nx_events.specs.declared.item.Event.TheVariants.{Enter, EnterLost, Att, TagEnd, Chars, Leave}
use Rattle.nx_base.specs.PrintedNames.{name_text}
use Rattle.nx_recover.specs.Details.{names_text, needs_text}
use Rattle.nx_recover.specs.Frames.{Frame, moved, Can, known_frame, AreRequiredNames, AreNeededNames}
use Rattle.nx_recover.specs.Needed.{needed_names}
use Rattle.nx_recover.specs.Required.{required_names}
use Rattle.nx_recover.specs.Outcomes as rows
use Rattle.nx_recover.specs.Outcomes.{goes_on, flaw, Recovers, EndsElement}
use Rattle.nx_recover.specs.Nesting as nesting
use Rattle.nx_recover.specs.Nesting.{LevelsAfter}
use Rattle.nx_recover.specs.Table as table
use Rattle.nx_recover.specs.Table.{Form, Done, done_by, entered, entered_by, entered_known, found_by, or_made_up, or_left_out, attributed, tag_ended, charred, left, in_frame, goes_on_as, passed, ended, goes_on_by, turn, ended_as, begun}
use Rattle.nx_recover.specs.declared.levels.Open.{Open}
use Rattle.nx_recover.specs.declared.levels.Open.TheVariants.{In, Begins, Lost}
use Rattle.nx_recover.specs.declared.levels.Turn.{Turn}
use Rattle.nx_recover.proofs.NeededNames.{needed_names_are}
use Rattle.nx_recover.proofs.RequiredNames.{required_names_are}
use Rattle.nx_recovery.proofs.Tags.{Fits}
use Rattle.nx_recovery.specs.Levels.{tag_after, own_elements, StandsFor, StandsHere, lost_here, frame_here, stands_in, stands_begins, stands_lost, StandAround, none_around, one_around}
use Rattle.nx_recovery.proofs.Entered.{none_given, FollowsKnown, known_follows}

-- levels that recover so, for which the outcome over residuals stands
pub record RecoversTo (g : Language) (here : Option Frame) (os : List (Open Frame)) (e : Event) (tag : Option (List Name)) (d : Done) : Type 0 where
  pub next : Option Frame
  pub behind : List (Open Frame)
  pub recovers : LevelsAfter g here os e next behind d.flaw
  pub stands : StandsHere g tag (own_elements behind) next d.form.here
  pub around : StandAround g behind d.form.elements

-- the answer of a call: what stands behind the move, and none exactly where no kept list is viable
abbrev Follows : Language → Frame → Move → Option Residual → Type 0
Follows g f m (Some y) = Can g f m × Stands g f.start (m ∷ f.moves) y
Follows g f m None = Can g f m → ⊥

follows : (g : Language) → AreLive g.definitions → (f : Frame) (m : Move) (o : Option Residual) → StandsBehind g f.start f.moves m o → Follows g f m o
follows g live f m (Some y) h = ((answers_tell_moves g f.start f.moves m (Some y) live h).1 refl, h)
follows g live f m None h = λ c. none_given ((answers_tell_moves g f.start f.moves m None live h).0 c)

-- what is made up for always stands
made_up : (g : Language) → AreLive g.definitions → (f : Frame) (m : Move) (y : Residual) → StandsBehind g f.start f.moves m (answered y) → Can g f m → Stands g f.start (m ∷ f.moves) y
made_up g live f m [] h c = absurd (none_given ((answers_tell_moves g f.start f.moves m None live h).0 c))
made_up g live f m (w ∷ ws) h c = h

required : (g : Language) → AreLive g.definitions → (f : Frame) (x : Residual) → Stands g f.start f.moves x → is_tag_open f.moves ≡ true → AreRequiredNames g f (required_names x)
required g live f x s open_tag =
    let r = required_names_are x in
    let told : is_in_tag x ≡ true = rw (tags_are_told g f.start f.moves x live s) open_tag in
    record {
      sorted = r.sorted;
      exact = λ n.
          let w = required_is_exact g live f.start f.moves x s n in
          let e = r.exact n in
          (λ h. w.0 (in_tag_is (is_in_tag x) (is_required n x) told (e.0 h)), λ h. e.1 (both (is_in_tag x) (is_required n x) told (w.1 h)));
    }
  where
    in_tag_is : (a b : Bool) → a ≡ true → IsTrue (a && b) → b ≡ true
    in_tag_is true b e h = h
    in_tag_is false b e h = cc

    both : (a b : Bool) → a ≡ true → b ≡ true → IsTrue (a && b)
    both a b e f = rw (e, f) refl

needs : (g : Language) → AreLive g.definitions → (f : Frame) (x : Residual) (skip : Option Name) → Stands g f.start f.moves x → Can g f (skip_move skip) → AreNeededNames g f skip (needed_names g skip x)
needs g live f x skip s can =
    let r = needed_names_are g skip x in
    record {
      sorted = r.sorted;
      exact = λ n.
          let w = needed_is_exact g live f.start f.moves x s skip can n in
          let e = r.same n in
          (λ h. w.0 (e.0 h), λ h. e.1 (w.1 h));
    }

one_name : (n : Name) (l names : List Name) → ((m : Name) → IsAmong m names → IsAmong m l) → (m : Name) → IsAmong m (n ∷ names) → IsAmong m (n ∷ l)
one_name n l names h m (first e) = first e
one_name n l names h m (later k) = later (h m k)

no_names : {l : List Name} (n : Name) → IsAmong n [] → IsAmong n l
no_names n h = elim h [ ]

-- ---- an element begins

module _ (g : Language) (live : AreLive g.definitions) where
  entered_here : (f : Frame) (x : Residual) (os : List (Open Frame)) (xs : List (Open Residual)) (n : Name) (names : List Name) (o k i : Option Residual) →
      StandsFor g None (own_elements os) f x → StandAround g os xs → Follows g f (take (trees.Enter n)) o → Follows g f (skip_to n) k → (Can g f (skip_to n) → AreNeededNames g f (Some n) names) → FollowsKnown g n i →
      RecoversTo g (Some f) os (Enter n) (Some []) (table.opens xs (entered_by x n names o k i))
  entered_here f x os xs n names (Some y) k i s t a b d c = record {
    next = Some (moved f (take (trees.Enter n)));
    behind = In n ∷ os;
    recovers = nesting.enters (rows.admitted a.0);
    stands = frame_here (record { stands = a.1; opened = ap suc s.opened; of_tag = (refl, no_names) });
    around = one_around stands_in t;
  }
  entered_here f x os xs n names None (Some y) i s t a b d c = record {
    next = Some (moved f (skip_to n));
    behind = In n ∷ os;
    recovers = nesting.enters (rows.not_yet names a b.0 (d b.0));
    stands = frame_here (record { stands = b.1; opened = ap suc s.opened; of_tag = (refl, no_names) });
    around = one_around stands_in t;
  }
  entered_here f x os xs n names None None (Some y) s t a b d c = record {
    next = Some (known_frame g n);
    behind = Begins n (Some f) ∷ os;
    recovers = nesting.enters_own (rows.not_allowed a b c.0);
    stands = frame_here (record { stands = c.1; opened = refl; of_tag = (refl, no_names) });
    around = one_around (stands_begins (frame_here s)) t;
  }
  entered_here f x os xs n names None None None s t a b d c = record {
    next = None;
    behind = Lost (Some f) ∷ os;
    recovers = nesting.enters_unknown (rows.unknown a b c);
    stands = lost_here;
    around = one_around (stands_lost (frame_here s)) t;
  }

  found_here : (os : List (Open Frame)) (xs : List (Open Residual)) (n : Name) (i : Option Residual) → StandAround g os xs → FollowsKnown g n i →
      RecoversTo g None os (Enter n) (Some []) (table.opens xs (found_by n i))
  found_here os xs n (Some y) t c = record {
    next = Some (known_frame g n);
    behind = Begins n None ∷ os;
    recovers = nesting.enters_known c.0;
    stands = frame_here (record { stands = c.1; opened = refl; of_tag = (refl, no_names) });
    around = one_around (stands_begins lost_here) t;
  }
  found_here os xs n None t c = record {
    next = None;
    behind = Lost None ∷ os;
    recovers = nesting.enters_lost c;
    stands = lost_here;
    around = one_around (stands_lost lost_here) t;
  }

  enters : (here : Option Frame) (x : Option Residual) (os : List (Open Frame)) (xs : List (Open Residual)) (n : Name) →
      StandsHere g None (own_elements os) here x → StandAround g os xs → RecoversTo g here os (Enter n) (Some []) (table.opens xs (entered g n x))
  unfolding entered
  enters here x os xs n (frame_here {f = f} {x = y} s) t =
      let m = moves_stand g live f.start f.moves y s.stands in
      entered_here f y os xs n (needed_names g (Some n) y) (answered (enter g.definitions n y)) (answered (enter_skip g.definitions n y)) (entered_known g n) s t
      (follows g live f (take (trees.Enter n)) _ (m.event (trees.Enter n) tt tt))
      (follows g live f (skip_to n) _ (m.skip n))
      (λ can. needs g live f y (Some n) s.stands can)
      (known_follows g n live)
  enters here x os xs n lost_here t = found_here os xs n (entered_known g n) t (known_follows g n live)

  loses : (here : Option Frame) (x : Option Residual) (os : List (Open Frame)) (xs : List (Open Residual)) →
      StandsHere g None (own_elements os) here x → StandAround g os xs → RecoversTo g here os EnterLost (Some []) (table.opens xs (begun None (Lost x) None))
  loses here x os xs s t = record {
    next = None;
    behind = Lost here ∷ os;
    recovers = nesting.loses_nameless;
    stands = lost_here;
    around = one_around (stands_lost s) t;
  }

  -- ---- an event inside of an element

  attribute_by : (l : List Name) (f : Frame) (x : Residual) (os : List (Open Frame)) (xs : List (Open Residual)) (n : Name) (v : List ℕ) (o k : Option Residual) →
      StandsFor g (Some l) (own_elements os) f x → StandAround g os xs → Follows g f (take (trees.Att n v)) o → Follows g f (any_value n) k →
      RecoversTo g (Some f) os (Att n v) (Some (n ∷ l)) (goes_on_by (Some x) xs (or_left_out o k (flaw kinds.BadValue (name_text n)) (flaw kinds.UnknownAttribute (name_text n))))
  attribute_by l f x os xs n v (Some y) k s t a b = record {
    next = Some (moved f (take (trees.Att n v)));
    behind = os;
    recovers = nesting.attribute (rows.admitted a.0);
    stands = frame_here (record { stands = a.1; opened = s.opened; of_tag = (refl, one_name n l _ s.of_tag.1) });
    around = t;
  }
  attribute_by l f x os xs n v None (Some y) s t a b = record {
    next = Some (moved f (any_value n));
    behind = os;
    recovers = nesting.attribute (rows.bad_value a b.0);
    stands = frame_here (record { stands = b.1; opened = s.opened; of_tag = (refl, one_name n l _ s.of_tag.1) });
    around = t;
  }
  attribute_by l f x os xs n v None None s t a b = record {
    next = Some f;
    behind = os;
    recovers = nesting.attribute (rows.unknown_attribute a b);
    stands = frame_here (record { stands = s.stands; opened = s.opened; of_tag = (s.of_tag.0, λ m h. later (s.of_tag.1 m h)) });
    around = t;
  }

  attribute : (l : List Name) (here : Option Frame) (x : Option Residual) (os : List (Open Frame)) (xs : List (Open Residual)) (n : Name) (v : List ℕ) →
      (IsAmong n l → ⊥) → IsText (trees.Att n v) → StandsHere g (Some l) (own_elements os) here x → StandAround g os xs →
      RecoversTo g here os (Att n v) (Some (n ∷ l)) (goes_on_by x xs (passed x (Att n v)))
  unfolding attributed
  attribute l here x os xs n v new utf8 (frame_here {f = f} {x = y} s) t =
      let m = moves_stand g live f.start f.moves y s.stands in
      let fresh : IsAmong n (attributes_of f.moves) → ⊥ = λ h. new (s.of_tag.1 n h) in
      attribute_by l f y os xs n v (answered (attribute_of n v y)) (answered (attribute_any n y)) s t
      (follows g live f (take (trees.Att n v)) _ (m.event (trees.Att n v) utf8 fresh))
      (follows g live f (any_value n) _ (m.value n fresh))
  attribute l here x os xs n v new utf8 lost_here t = record { next = None; behind = os; recovers = nesting.attribute_lost; stands = lost_here; around = t }

  tag_end_by : (f : Frame) (x : Residual) (os : List (Open Frame)) (xs : List (Open Residual)) (o : Option Residual) (z : Residual) (names : List Name) →
      open_elements f.moves ≡ own_elements os → StandAround g os xs → Follows g f (take trees.TagEnd) o → Stands g f.start (missing_attributes ∷ f.moves) z → AreRequiredNames g f names →
      RecoversTo g (Some f) os TagEnd None (goes_on_by (Some x) xs (or_made_up o z (flaw kinds.MissingAttributes (names_text names))))
  tag_end_by f x os xs (Some y) z names e t a b c = record {
    next = Some (moved f (take trees.TagEnd));
    behind = os;
    recovers = nesting.tag_end (rows.admitted a.0);
    stands = frame_here (record { stands = a.1; opened = e; of_tag = refl });
    around = t;
  }
  tag_end_by f x os xs None z names e t a b c = record {
    next = Some (moved f missing_attributes);
    behind = os;
    recovers = nesting.tag_end (rows.lacks_attributes names a c);
    stands = frame_here (record { stands = b; opened = e; of_tag = refl });
    around = t;
  }

  tag_ends : (l : List Name) (here : Option Frame) (x : Option Residual) (os : List (Open Frame)) (xs : List (Open Residual)) →
      StandsHere g (Some l) (own_elements os) here x → StandAround g os xs → RecoversTo g here os TagEnd None (goes_on_by x xs (passed x TagEnd))
  unfolding tag_ended
  tag_ends l here x os xs (frame_here {f = f} {x = y} s) t =
      let m = moves_stand g live f.start f.moves y s.stands in
      tag_end_by f y os xs (answered (tag_end y)) (tag_end_missing y) (required_names y) s.opened t
      (follows g live f (take trees.TagEnd) _ (m.event trees.TagEnd tt tt))
      (made_up g live f missing_attributes (tag_end_missing y) m.attributes ((missing_parts_go_on g f.start f.moves y live s.stands).0 s.of_tag.0))
      (required g live f y s.stands s.of_tag.0)
  tag_ends l here x os xs lost_here t = record { next = None; behind = os; recovers = nesting.tag_end_lost; stands = lost_here; around = t }

  chars_by : (f : Frame) (x : Residual) (os : List (Open Frame)) (xs : List (Open Residual)) (u : List ℕ) (o k : Option Residual) →
      StandsFor g None (own_elements os) f x → StandAround g os xs → Follows g f (take (trees.Chars u)) o → Follows g f any_string k →
      RecoversTo g (Some f) os (Chars u) None (goes_on_by (Some x) xs (or_left_out o k (flaw kinds.BadValue []) (flaw kinds.TextNotAllowed [])))
  chars_by f x os xs u (Some y) k s t a b = record {
    next = Some (moved f (take (trees.Chars u)));
    behind = os;
    recovers = nesting.text (rows.admitted a.0);
    stands = frame_here (record { stands = a.1; opened = s.opened; of_tag = refl });
    around = t;
  }
  chars_by f x os xs u None (Some y) s t a b = record {
    next = Some (moved f any_string);
    behind = os;
    recovers = nesting.text (rows.bad_text a b.0);
    stands = frame_here (record { stands = b.1; opened = s.opened; of_tag = refl });
    around = t;
  }
  chars_by f x os xs u None None s t a b = record {
    next = Some f;
    behind = os;
    recovers = nesting.text (rows.text_not_allowed a b);
    stands = frame_here s;
    around = t;
  }

  text : (here : Option Frame) (x : Option Residual) (os : List (Open Frame)) (xs : List (Open Residual)) (u : List ℕ) → IsText (trees.Chars u) →
      StandsHere g None (own_elements os) here x → StandAround g os xs → RecoversTo g here os (Chars u) None (goes_on_by x xs (passed x (Chars u)))
  unfolding charred
  text here x os xs u utf8 (frame_here {f = f} {x = y} s) t =
      let m = moves_stand g live f.start f.moves y s.stands in
      chars_by f y os xs u (answered (chars u y)) (answered (chars_any y)) s t
      (follows g live f (take (trees.Chars u)) _ (m.event (trees.Chars u) utf8 tt))
      (follows g live f any_string _ m.string)
  text here x os xs u utf8 lost_here t = record { next = None; behind = os; recovers = nesting.text_lost; stands = lost_here; around = t }

  -- ---- an element ends

  -- the end of the innermost element of a frame
  record CompletesTo (f : Frame) (n : Name) (depth : ℕ) (d : Turn Residual) : Type 0 where
    frame : Frame
    residual : Residual
    next : d.next ≡ Some residual
    completes : EndsElement g f n frame d.flaw
    stands : StandsFor g None depth frame residual

  left_by : (f : Frame) (n : Name) (depth : ℕ) (names : List Name) (o : Option Residual) (z : Residual) → open_elements f.moves ≡ suc depth →
      Follows g f (take trees.Leave) o → Stands g f.start (missing_content ∷ f.moves) z → AreNeededNames g f None names →
      CompletesTo f n depth (or_made_up o z (flaw kinds.Incomplete (needs_text n names)))
  left_by f n depth names (Some y) z e a b c = record {
    frame = moved f (take trees.Leave);
    residual = y;
    next = refl;
    completes = rows.complete a.0;
    stands = record { stands = a.1; opened = let d : open_elements f.moves - 1 ≡ depth = omega arith in d; of_tag = refl };
  }
  left_by f n depth names None z e a b c = record {
    frame = moved f missing_content;
    residual = z;
    next = refl;
    completes = rows.incomplete names a c;
    stands = record { stands = b; opened = let d : open_elements f.moves - 1 ≡ depth = omega arith in d; of_tag = refl };
  }

  leaves_frame : (f : Frame) (x : Residual) (n : Name) (depth : ℕ) → StandsFor g None (suc depth) f x → CompletesTo f n depth (left g n x)
  unfolding left
  leaves_frame f x n depth s =
      let m = moves_stand g live f.start f.moves x s.stands in
      let e = s.opened in
      let can = (missing_parts_go_on g f.start f.moves x live s.stands).1 s.of_tag (omega arith) in
      left_by f n depth (needed_names g None x) (answered (leave x)) (leave_skip x) s.opened
      (follows g live f (take trees.Leave) _ (m.event trees.Leave tt tt))
      (made_up g live f missing_content (leave_skip x) m.content can)
      (needs g live f x None s.stands can)

  leaves : (here : Option Frame) (x : Option Residual) (os : List (Open Frame)) (xs : List (Open Residual)) →
      StandsHere g None (own_elements os) here x → StandAround g os xs → RecoversTo g here os Leave None (table.leaves g x xs)
  leaves here x os xs s none_around = record { next = here; behind = []; recovers = nesting.leaves_nothing; stands = s; around = none_around }
  leaves here x os xs s (one_around {os = os'} {xs = xs'} (stands_in {n = n}) t) = within here x os' xs' n s t
    where
      within : (here : Option Frame) (x : Option Residual) (os : List (Open Frame)) (xs : List (Open Residual)) (n : Name) →
          StandsHere g None (suc (own_elements os)) here x → StandAround g os xs → RecoversTo g here (In n ∷ os) Leave None (table.closes xs (ended g x (In n)))
      within here x os xs n (frame_here {f = f} {x = y} s) t =
          let c = leaves_frame f y n (own_elements os) s in
          record {
            next = Some c.frame;
            behind = os;
            recovers = nesting.leaves c.completes;
            stands = subst (λ (o : Option Residual). StandsHere g None (own_elements os) (Some c.frame) o) (sym c.next) (frame_here c.stands);
            around = t;
          }
      within here x os xs n lost_here t = record { next = None; behind = os; recovers = nesting.leaves_nowhere; stands = lost_here; around = t }
  leaves here x os xs s (one_around {os = os'} {xs = xs'} (stands_begins {n = n} {o = o} {x = y} a) t) = own here x os' xs' n o y s a t
    where
      own : (here : Option Frame) (x : Option Residual) (os : List (Open Frame)) (xs : List (Open Residual)) (n : Name) (around : Option Frame) (y : Option Residual) →
          StandsHere g None 1 here x → StandsHere g None (own_elements os) around y → StandAround g os xs →
          RecoversTo g here (Begins n around ∷ os) Leave None (table.closes xs (ended g x (Begins n y)))
      own here x os xs n around y (frame_here {f = f} {x = z} s) a t =
          let c = leaves_frame f z n 0 s in
          record { next = around; behind = os; recovers = nesting.leaves_own c.completes; stands = a; around = t }
      own here x os xs n around y lost_here a t = record { next = around; behind = os; recovers = nesting.leaves_own_nowhere; stands = a; around = t }
  leaves here x os xs s (one_around {os = os'} {xs = xs'} (stands_lost {o = o} {x = y} a) t) =
      record { next = o; behind = os'; recovers = nesting.leaves_lost; stands = a; around = t }

  -- ---- any event

  pub recovers_to : (tag : Option (List Name)) (here : Option Frame) (os : List (Open Frame)) (l : Form) (e : Event) → Fits tag e → EventIsText e →
      StandsHere g tag (own_elements os) here l.here → StandAround g os l.elements → RecoversTo g here os e (tag_after tag e) (done_by g l e)
  unfolding done_by
  recovers_to None here os l (Enter n) fits is_text h t = enters here l.here os l.elements n h t
  recovers_to None here os l EnterLost fits is_text h t = loses here l.here os l.elements h t
  recovers_to None here os l (Att n v) fits is_text h t = absurd fits
  recovers_to None here os l TagEnd fits is_text h t = absurd fits
  recovers_to None here os l (Chars u) fits utf8 h t = text here l.here os l.elements u (is_utf8-from_IsUtf8 u utf8) h t
  recovers_to None here os l Leave fits is_text h t = leaves here l.here os l.elements h t
  recovers_to (Some names) here os l (Enter n) fits is_text h t = absurd fits
  recovers_to (Some names) here os l EnterLost fits is_text h t = absurd fits
  recovers_to (Some names) here os l (Att n v) fits utf8 h t = attribute names here l.here os l.elements n v fits (is_utf8-from_IsUtf8 v utf8.1) h t
  recovers_to (Some names) here os l TagEnd fits is_text h t = tag_ends names here l.here os l.elements h t
  recovers_to (Some names) here os l (Chars u) fits is_text h t = absurd fits
  recovers_to (Some names) here os l Leave fits is_text h t = absurd fits
