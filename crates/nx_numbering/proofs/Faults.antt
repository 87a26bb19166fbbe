-- Against languages that are one but for numbers each text has the same lists of faults.
use Rattle.std.proofs.Common.{◌≡◌, List, [], ◌∷◌, refl, sym, subst, Option, Some, None}
use Rattle.nx_base.specs.declared.name.Name.{Name}
use Rattle.nx_base.specs.declared.fault.Fault.{Fault}
use Rattle.nx_base.specs.Trees as trees
use Rattle.nx_events.specs.declared.flaw.Flaw.{Flaw}
use Rattle.nx_events.specs.declared.item.Event.{Event}
use Rattle.nx_events.specs.declared.item.Event.TheVariants.{Enter, Att, TagEnd, Chars, Leave}
use Rattle.nx_events.specs.declared.item.Item.{Item}
use Rattle.rng_core.specs.Patterns.{Language}
use Rattle.rng_kept.specs.Moves.{take, skip_to, any_value, any_string, missing_attributes, missing_content}
use Rattle.nx_recover.specs.Faults.{Along, at_end, by_event, by_fault}
use Rattle.nx_recover.specs.Frames.{Frame, moved, known_frame, document_frame}
use Rattle.nx_recover.specs.Nesting.{LevelsAfter, enters, enters_own, enters_unknown, attribute, tag_end, text, leaves, leaves_own, enters_known, enters_lost, attribute_lost, tag_end_lost, text_lost, loses_nameless, leaves_lost, leaves_nothing, leaves_nowhere, leaves_own_nowhere}
use Rattle.nx_recover.specs.Outcomes.{Outcome, goes_on, begins_frame, loses, Recovers, admitted, not_yet, not_allowed, unknown, bad_value, unknown_attribute, lacks_attributes, bad_text, text_not_allowed, EndsElement, complete, incomplete}
use Rattle.nx_recover.specs.declared.levels.Open.{Open}
use Rattle.nx_recover.specs.declared.levels.Open.TheVariants.{In, Begins, Lost}
use Rattle.nx_numbering.specs.Answers.{NumbersHaveSameFaults}
use Rattle.nx_numbering.specs.Numbers.{AreOneButForNumbers}
use Rattle.nx_numbering.proofs.Alike.{AlikeFrames, moved_alike, frame_can, frame_cant, frame_required, frame_needed, documents_alike, knowns_alike}
use Rattle.nx_numbering.proofs.Matching.{is_known}

-- ---- levels

abbrev pub Heres : Language → Language → Option Frame → Option Frame → Type 0
Heres g h None y = y ≡ None
Heres g h (Some e) y = (f : Frame) × (y ≡ Some f) × AlikeFrames g h e f

abbrev pub Opens : Language → Language → List (Open Frame) → List (Open Frame) → Type 0
Opens g h [] ps = ps ≡ []
Opens g h (In n ∷ os) ps = (rest : List (Open Frame)) × (ps ≡ In n ∷ rest) × Opens g h os rest
Opens g h (Begins n a ∷ os) ps = (b : Option Frame) × (rest : List (Open Frame)) × (ps ≡ Begins n b ∷ rest) × Heres g h a b × Opens g h os rest
Opens g h (Lost a ∷ os) ps = (b : Option Frame) × (rest : List (Open Frame)) × (ps ≡ Lost b ∷ rest) × Heres g h a b × Opens g h os rest

-- ---- the table

abbrev Outcomes : Language → Language → Outcome → Outcome → Type 0
Outcomes g h (goes_on e) o = (f : Frame) × (o ≡ goes_on f) × AlikeFrames g h e f
Outcomes g h begins_frame o = o ≡ begins_frame
Outcomes g h loses o = o ≡ loses

record RecoversThere (g h : Language) (f : Frame) (e : trees.Event) (o : Outcome) (w : Option Flaw) : Type 0 where
  outcome : Outcome
  recovers : Recovers h f e outcome w
  alike : Outcomes g h o outcome

recovers_on : {g h : Language} {e f : Frame} {event : trees.Event} {o : Outcome} {w : Option Flaw} → AreOneButForNumbers g h → AlikeFrames g h e f → Recovers g e event o w → RecoversThere g h f event o w
recovers_on {f = f} one r (admitted {e = event} can) =
    record { outcome = goes_on (moved f (take event)); recovers = admitted (frame_can r (take event) can); alike = (moved f (take event), refl, moved_alike (take event) r) }
recovers_on {f = f} one r (not_yet {n = n} names cant can needed) =
    record {
      outcome = goes_on (moved f (skip_to n));
      recovers = not_yet names (frame_cant r (take (trees.Enter n)) cant) (frame_can r (skip_to n) can) (frame_needed r (Some n) names needed);
      alike = (moved f (skip_to n), refl, moved_alike (skip_to n) r);
    }
recovers_on one r (not_allowed {n = n} cant skip known) =
    record { outcome = begins_frame; recovers = not_allowed (frame_cant r (take (trees.Enter n)) cant) (frame_cant r (skip_to n) skip) (is_known one.leads_there known); alike = refl }
recovers_on one r (unknown {n = n} cant skip known) =
    record { outcome = loses; recovers = unknown (frame_cant r (take (trees.Enter n)) cant) (frame_cant r (skip_to n) skip) (λ k. known (is_known one.leads_back k)); alike = refl }
recovers_on {f = f} one r (bad_value {n = n} {v = v} cant can) =
    record { outcome = goes_on (moved f (any_value n)); recovers = bad_value (frame_cant r (take (trees.Att n v)) cant) (frame_can r (any_value n) can); alike = (moved f (any_value n), refl, moved_alike (any_value n) r) }
recovers_on {f = f} one r (unknown_attribute {n = n} {v = v} cant can) =
    record { outcome = goes_on f; recovers = unknown_attribute (frame_cant r (take (trees.Att n v)) cant) (frame_cant r (any_value n) can); alike = (f, refl, r) }
recovers_on {f = f} one r (lacks_attributes names cant required) =
    record {
      outcome = goes_on (moved f missing_attributes);
      recovers = lacks_attributes names (frame_cant r (take trees.TagEnd) cant) (frame_required r names required);
      alike = (moved f missing_attributes, refl, moved_alike missing_attributes r);
    }
recovers_on {f = f} one r (bad_text {t = t} cant can) =
    record { outcome = goes_on (moved f any_string); recovers = bad_text (frame_cant r (take (trees.Chars t)) cant) (frame_can r any_string can); alike = (moved f any_string, refl, moved_alike any_string r) }
recovers_on {f = f} one r (text_not_allowed {t = t} cant can) =
    record { outcome = goes_on f; recovers = text_not_allowed (frame_cant r (take (trees.Chars t)) cant) (frame_cant r any_string can); alike = (f, refl, r) }

-- where the frame goes on
record GoesOnThere (g h : Language) (f : Frame) (e : trees.Event) (k : Frame) (w : Option Flaw) : Type 0 where
  frame : Frame
  recovers : Recovers h f e (goes_on frame) w
  alike : AlikeFrames g h k frame

goes_on_there : {g h : Language} {e f k : Frame} {event : trees.Event} {w : Option Flaw} → AreOneButForNumbers g h → AlikeFrames g h e f → Recovers g e event (goes_on k) w → GoesOnThere g h f event k w
goes_on_there {g} {h} {e} {f} {k} {event} {w} one r step =
    let there = recovers_on one r step in
    let on : Outcomes g h (goes_on k) there.outcome = there.alike in
    let P : Outcome → Type 0 = λ o. Recovers h f event o w in
    record { frame = on.0; recovers = subst P on.1 there.recovers; alike = on.2 }

record EndsThere (g h : Language) (f : Frame) (n : Name) (k : Frame) (w : Option Flaw) : Type 0 where
  frame : Frame
  ends : EndsElement h f n frame w
  alike : AlikeFrames g h k frame

ends_on : {g h : Language} {e f k : Frame} {n : Name} {w : Option Flaw} → AlikeFrames g h e f → EndsElement g e n k w → EndsThere g h f n k w
ends_on {f = f} r (complete can) = record { frame = moved f (take trees.Leave); ends = complete (frame_can r (take trees.Leave) can); alike = moved_alike (take trees.Leave) r }
ends_on {f = f} r (incomplete names cant needed) =
    record { frame = moved f missing_content; ends = incomplete names (frame_cant r (take trees.Leave) cant) (frame_needed r None names needed); alike = moved_alike missing_content r }

-- ---- one event

pub record StepThere (g h : Language) (here : Option Frame) (os : List (Open Frame)) (e : Event) (next : Option Frame) (behind : List (Open Frame)) (w : Option Flaw) : Type 0 where
  pub last : Option Frame
  pub around : List (Open Frame)
  pub step : LevelsAfter h here os e last around w
  pub heres : Heres g h next last
  pub opens : Opens g h behind around

pub levels_on : {g h : Language} {here : Option Frame} {os : List (Open Frame)} {e : Event} {next : Option Frame} {behind : List (Open Frame)} {w : Option Flaw} → AreOneButForNumbers g h → LevelsAfter g here os e next behind w →
    (y : Option Frame) (ps : List (Open Frame)) → Heres g h here y → Opens g h os ps → StepThere g h y ps e next behind w
levels_on {h = h} {w = w} one (enters {n = n} step) y ps r s =
    let k = goes_on_there one r.2 step in
    let P : Option Frame → Type 0 = λ x. LevelsAfter h x ps (Enter n) (Some k.frame) (In n ∷ ps) w in
    record { last = Some k.frame; around = In n ∷ ps; step = subst P (sym r.1) (enters k.recovers); heres = (k.frame, refl, k.alike); opens = (ps, refl, s) }
levels_on {g = g} {h = h} {w = w} one (enters_own {f = e} {n = n} step) y ps r s =
    let there = recovers_on one r.2 step in
    let O : Outcome → Type 0 = λ o. Recovers h r.0 (trees.Enter n) o w in
    let P : Option Frame → Type 0 = λ x. LevelsAfter h x ps (Enter n) (Some (known_frame h n)) (Begins n x ∷ ps) w in
    record {
      last = Some (known_frame h n);
      around = Begins n y ∷ ps;
      step = subst P (sym r.1) (enters_own (subst O there.alike there.recovers));
      heres = (known_frame h n, refl, knowns_alike n one);
      opens = (y, ps, refl, r, s);
    }
levels_on {g = g} {h = h} {w = w} one (enters_unknown {n = n} step) y ps r s =
    let there = recovers_on one r.2 step in
    let O : Outcome → Type 0 = λ o. Recovers h r.0 (trees.Enter n) o w in
    let P : Option Frame → Type 0 = λ x. LevelsAfter h x ps (Enter n) None (Lost x ∷ ps) w in
    record { last = None; around = Lost y ∷ ps; step = subst P (sym r.1) (enters_unknown (subst O there.alike there.recovers)); heres = refl; opens = (y, ps, refl, r, s) }
levels_on {h = h} {w = w} one (attribute {n = n} {v = v} step) y ps r s =
    let k = goes_on_there one r.2 step in
    let P : Option Frame → Type 0 = λ x. LevelsAfter h x ps (Att n v) (Some k.frame) ps w in
    record { last = Some k.frame; around = ps; step = subst P (sym r.1) (attribute k.recovers); heres = (k.frame, refl, k.alike); opens = s }
levels_on {h = h} {w = w} one (tag_end step) y ps r s =
    let k = goes_on_there one r.2 step in
    let P : Option Frame → Type 0 = λ x. LevelsAfter h x ps TagEnd (Some k.frame) ps w in
    record { last = Some k.frame; around = ps; step = subst P (sym r.1) (tag_end k.recovers); heres = (k.frame, refl, k.alike); opens = s }
levels_on {h = h} {w = w} one (text {t = t} step) y ps r s =
    let k = goes_on_there one r.2 step in
    let P : Option Frame → Type 0 = λ x. LevelsAfter h x ps (Chars t) (Some k.frame) ps w in
    record { last = Some k.frame; around = ps; step = subst P (sym r.1) (text k.recovers); heres = (k.frame, refl, k.alike); opens = s }
levels_on {h = h} {w = w} one (leaves {n = n} step) y ps r s =
    let k = ends_on r.2 step in
    let P : Option Frame → Type 0 = λ x. LevelsAfter h x (In n ∷ s.0) Leave (Some k.frame) s.0 w in
    let Q : List (Open Frame) → Type 0 = λ os. LevelsAfter h y os Leave (Some k.frame) s.0 w in
    record { last = Some k.frame; around = s.0; step = subst Q (sym s.1) (subst P (sym r.1) (leaves k.ends)); heres = (k.frame, refl, k.alike); opens = s.2 }
levels_on {h = h} {w = w} one (leaves_own {n = n} step) y ps r s =
    let k = ends_on r.2 step in
    let P : Option Frame → Type 0 = λ x. LevelsAfter h x (Begins n s.0 ∷ s.1) Leave s.0 s.1 w in
    let Q : List (Open Frame) → Type 0 = λ os. LevelsAfter h y os Leave s.0 s.1 w in
    record { last = s.0; around = s.1; step = subst Q (sym s.2) (subst P (sym r.1) (leaves_own k.ends)); heres = s.3; opens = s.4 }
levels_on {h = h} one (enters_known {n = n} known) y ps r s =
    let P : Option Frame → Type 0 = λ x. LevelsAfter h x ps (Enter n) (Some (known_frame h n)) (Begins n None ∷ ps) None in
    record {
      last = Some (known_frame h n);
      around = Begins n None ∷ ps;
      step = subst P (sym r) (enters_known (is_known one.leads_there known));
      heres = (known_frame h n, refl, knowns_alike n one);
      opens = (None, ps, refl, refl, s);
    }
levels_on {h = h} one (enters_lost {n = n} never) y ps r s =
    let P : Option Frame → Type 0 = λ x. LevelsAfter h x ps (Enter n) None (Lost None ∷ ps) None in
    record { last = None; around = Lost None ∷ ps; step = subst P (sym r) (enters_lost (λ k. never (is_known one.leads_back k))); heres = refl; opens = (None, ps, refl, refl, s) }
levels_on {h = h} one (attribute_lost {n = n} {v = v}) y ps r s =
    let P : Option Frame → Type 0 = λ x. LevelsAfter h x ps (Att n v) None ps None in
    record { last = None; around = ps; step = subst P (sym r) attribute_lost; heres = refl; opens = s }
levels_on {h = h} one tag_end_lost y ps r s =
    let P : Option Frame → Type 0 = λ x. LevelsAfter h x ps TagEnd None ps None in
    record { last = None; around = ps; step = subst P (sym r) tag_end_lost; heres = refl; opens = s }
levels_on {h = h} one (text_lost {t = t}) y ps r s =
    let P : Option Frame → Type 0 = λ x. LevelsAfter h x ps (Chars t) None ps None in
    record { last = None; around = ps; step = subst P (sym r) text_lost; heres = refl; opens = s }
levels_on one loses_nameless y ps r s = record { last = None; around = Lost y ∷ ps; step = loses_nameless; heres = refl; opens = (y, ps, refl, r, s) }
levels_on {h = h} one leaves_lost y ps r s =
    let Q : List (Open Frame) → Type 0 = λ os. LevelsAfter h y os Leave s.0 s.1 None in
    record { last = s.0; around = s.1; step = subst Q (sym s.2) leaves_lost; heres = s.3; opens = s.4 }
levels_on {h = h} one leaves_nothing y ps r s =
    let Q : List (Open Frame) → Type 0 = λ os. LevelsAfter h y os Leave y [] None in
    record { last = y; around = []; step = subst Q (sym s) leaves_nothing; heres = r; opens = refl }
levels_on {h = h} one (leaves_nowhere {n = n}) y ps r s =
    let P : Option Frame → Type 0 = λ x. LevelsAfter h x (In n ∷ s.0) Leave None s.0 None in
    let Q : List (Open Frame) → Type 0 = λ os. LevelsAfter h y os Leave None s.0 None in
    record { last = None; around = s.0; step = subst Q (sym s.1) (subst P (sym r) leaves_nowhere); heres = refl; opens = s.2 }
levels_on {h = h} one (leaves_own_nowhere {n = n}) y ps r s =
    let P : Option Frame → Type 0 = λ x. LevelsAfter h x (Begins n s.0 ∷ s.1) Leave s.0 s.1 None in
    let Q : List (Open Frame) → Type 0 = λ os. LevelsAfter h y os Leave s.0 s.1 None in
    record { last = s.0; around = s.1; step = subst Q (sym s.2) (subst P (sym r) leaves_own_nowhere); heres = s.3; opens = s.4 }

-- ---- all of them

along_on : {g h : Language} {here : Option Frame} {os : List (Open Frame)} {all : List Item} {faults : List Fault} → AreOneButForNumbers g h → Along g here os all faults →
    (y : Option Frame) (ps : List (Open Frame)) → Heres g h here y → Opens g h os ps → Along h y ps all faults
along_on one at_end y ps r s = at_end
along_on one (by_event next behind w step rest) y ps r s =
    let k = levels_on one step y ps r s in
    by_event k.last k.around w k.step (along_on one rest k.last k.around k.heres k.opens)
along_on one (by_fault rest) y ps r s = by_fault (along_on one rest y ps r s)

pub numbers_have_same_faults : NumbersHaveSameFaults
numbers_have_same_faults g h bytes faults one along = along_on one along (Some (document_frame h)) [] (document_frame h, refl, documents_alike one) refl
