-- Tokens of which one look tells what they give, where the schema admits all of that.
use Rattle.std.proofs.Common.{◌≡◌, ℕ, Bool, true, false, ◌+◌, ◌-◌, List, [], ◌∷◌, ◌++◌, length, map, Option, Some, None, refl, ap, sym, subst, ◌∙◌}
use Rattle.std.specs.Prelude.{◌==◌, if◌then◌else◌, IfSome, IsUtf8, option_map}
use Rattle.std.specs.List.{AllByRecursion}
use Rattle.nx_base.specs.Rules.{LaterLaws}
use Rattle.nx_base.specs.declared.fault.Kind.TheVariants as kinds
use Rattle.nx_base.specs.declared.fault.Span.{Span}
use Rattle.nx_base.specs.declared.name.Name.{Name}
use Rattle.nx_base.specs.declared.token.Token.{Token}
use Rattle.nx_base.specs.PrintedNames.{name_text}
use Rattle.nx_events.specs.Items.{items_of_token, state_behind}
use Rattle.nx_events.specs.PlainAttributes.{attribute_name, attribute_event, IsPlainOpening}
use Rattle.nx_events.specs.PlainTokens.{IsPlainStart, IsPlainEnd, IsPlainText, unprefixed_name, element_begun, innermost_ended, characters_added}
use Rattle.nx_events.specs.Prefixes.{run_string}
use Rattle.nx_events.specs.Runs.{run_items}
use Rattle.nx_events.specs.Texts.{RunIsText, StateIsText}
use Rattle.nx_events.specs.declared.item.Event.{Event}
use Rattle.nx_events.specs.declared.flaw.Flaw.{Flaw}
use Rattle.nx_events.specs.declared.item.Event.TheVariants.{Enter, Att, TagEnd, Chars, Leave}
use Rattle.nx_events.specs.declared.item.Item.{Item}
use Rattle.nx_events.specs.declared.item.Item.TheVariants as items
use Rattle.nx_events.specs.declared.plain_opening.PlainAttribute.{PlainAttribute}
use Rattle.nx_events.specs.declared.state.EventState.{EventState}
use Rattle.nx_events.specs.declared.state.Run.{Run}
use Rattle.rng_core.specs.Patterns.{Language}
use Rattle.rng_kept.specs.Content.{chars, chars_any, leave, leave_skip}
use Rattle.rng_kept.specs.Entering.{enter}
use Rattle.rng_kept.specs.Merging.{answered}
use Rattle.rng_kept.specs.Residuals.{Residual}
use Rattle.rng_kept.specs.Tags.{attribute_of, attribute_any, tag_end, tag_end_missing}
use Rattle.rng_live.specs.Calls.{Answers}
use Rattle.nx_recover.specs.Aside.{without_innermost}
use Rattle.nx_recover.specs.Details.{names_text, needs_text}
use Rattle.nx_recover.specs.Faults.{flaw_at}
use Rattle.nx_recover.specs.Items.{form_along, found_along}
use Rattle.nx_recover.specs.Later.{states_later, stack_of_same}
use Rattle.nx_recover.specs.Outcomes.{flaw}
use Rattle.nx_recover.specs.PlainSteps.{then_answered, behind_run, behind_attributes, inside_of, outside_of, IsAdmitted}
use Rattle.nx_recover.specs.Needed.{needed_names}
use Rattle.nx_recover.specs.Required.{required_names}
use Rattle.nx_recover.specs.States.{View, IsOpen, AreStates, stack, form, view_of}
use Rattle.nx_recover.specs.Table.{Form, Done, done, done_by, opens, goes_on_by, or_made_up, or_left_out, attributed, charred, tag_ended, left}
use Rattle.nx_recover.specs.declared.levels.Open.{Open}
use Rattle.nx_recover.specs.declared.levels.Open.TheVariants.{In}
use Rattle.nx_recover.specs.declared.state.RecoverState.{RecoverState}
use Rattle.nx_recover.proofs.Rows.{entered_if_admitted}
use Rattle.nx_recover.proofs.Tops.{all_front, all_joined, form_is, stack_more}

-- ---- answers put together

pub first_answered : (o : Option Residual) (y : Residual) (f : Residual → Option Residual) → Some y ≡ o → f y ≡ then_answered o f
first_answered o y f e = ap (λ x. then_answered x f) e

pub none_answered : (o : Option Residual) (f : Residual → Option Residual) → None ≡ o → None ≡ then_answered o f
none_answered o f e = ap (λ x. then_answered x f) e

-- ---- events that are admitted, and leave no fault

-- along these items, from what is left and the open elements on
record Leads (g : Language) (x : Residual) (os : List (Open Residual)) (all : List Item) (y : Residual) (ps : List (Open Residual)) : Type 0 where
  form : form_along g (record { here = Some x; elements = os }) all ≡ record { here = Some y; elements = ps }
  found : found_along g (record { here = Some x; elements = os }) all ≡ []

leads_nowhere : (g : Language) (x : Residual) (os : List (Open Residual)) → Leads g x os [] x os
unfolding form_along found_along
leads_nowhere g x os = record { form = refl; found = refl }

leads_on : (g : Language) (x y z : Residual) (os ps qs : List (Open Residual)) (event : Event) (span : Span) (rest : List Item) →
    done_by g (record { here = Some x; elements = os }) event ≡ done (Some y) ps None → Leads g y ps rest z qs → Leads g x os (items.Event event span ∷ rest) z qs
unfolding form_along found_along
leads_on g x y z os ps qs event span rest e h = record {
  form = ap (λ (d : Done). form_along g d.form rest) e ∙ h.form;
  found = ap (λ (d : Done). flaw_at span d.flaw ++ found_along g d.form rest) e ∙ h.found;
}

chars_admitted : (g : Language) (x y : Residual) (os : List (Open Residual)) (text : List ℕ) → answered (chars text x) ≡ Some y →
    done_by g (record { here = Some x; elements = os }) (Chars text) ≡ done (Some y) os None
unfolding done_by charred
chars_admitted g x y os text e = ap (λ o. goes_on_by (Some x) os (or_left_out o (answered (chars_any x)) (flaw kinds.BadValue []) (flaw kinds.TextNotAllowed []))) e

attribute_admitted : (g : Language) (x y : Residual) (os : List (Open Residual)) (n : Name) (v : List ℕ) → answered (attribute_of n v x) ≡ Some y →
    done_by g (record { here = Some x; elements = os }) (Att n v) ≡ done (Some y) os None
unfolding done_by attributed
attribute_admitted g x y os n v e =
    ap (λ o. goes_on_by (Some x) os (or_left_out o (answered (attribute_any n x)) (flaw kinds.BadValue (name_text n)) (flaw kinds.UnknownAttribute (name_text n)))) e

tag_end_admitted : (g : Language) (x y : Residual) (os : List (Open Residual)) → answered (tag_end x) ≡ Some y →
    done_by g (record { here = Some x; elements = os }) TagEnd ≡ done (Some y) os None
unfolding done_by tag_ended
tag_end_admitted g x y os e = ap (λ o. goes_on_by (Some x) os (or_made_up o (tag_end_missing x) (flaw kinds.MissingAttributes (names_text (required_names x))))) e

enter_admitted : (g : Language) (x y : Residual) (os : List (Open Residual)) (n : Name) → answered (enter g.definitions n x) ≡ Some y →
    done_by g (record { here = Some x; elements = os }) (Enter n) ≡ done (Some y) (In n ∷ os) None
unfolding done_by
enter_admitted g x y os n e = ap (opens os) (entered_if_admitted g n (Some x) y e)

leave_admitted : (g : Language) (x y : Residual) (os : List (Open Residual)) (n : Name) → answered (leave x) ≡ Some y →
    done_by g (record { here = Some x; elements = In n ∷ os }) Leave ≡ done (Some y) os None
unfolding done_by left
leave_admitted g x y os n e =
    let missing : Option Flaw = flaw kinds.Incomplete (needs_text n (needed_names g None x)) in
    ap (λ o. done (or_made_up o (leave_skip x) missing).next os (or_made_up o (leave_skip x) missing).flaw) e

-- behind the run that ends, if one does
leads_by_run : (g : Language) (x z : Residual) (os qs : List (Open Residual)) (at : ℕ) (run : Option Run) (f : Residual → Option Residual) (rest : List Item) →
    behind_run (run_string run) f x ≡ Some z → ((y : Residual) → f y ≡ Some z → Leads g y os rest z qs) → Leads g x os (run_items at run ++ rest) z qs
unfolding run_items
leads_by_run g x z os qs at None f rest e k = k x e
leads_by_run g x z os qs at (Some run) f rest e k = by_test (length run.string == 0) e
  where
    span : Span
    span = record { from = at - (run.gap + run.len); to = at - run.gap }

    by_chars : (o : Option Residual) → answered (chars run.string x) ≡ o → then_answered o f ≡ Some z → Leads g x os (items.Event (Chars run.string) span ∷ rest) z qs
    by_chars None a e = absurd (let bad : None ≡ Some z = e in cc)
    by_chars (Some y) a e = leads_on g x y z os os qs (Chars run.string) span rest (chars_admitted g x y os run.string a) (k y e)

    by_test : (t : Bool) → behind_run (if t then None else Some run.string) f x ≡ Some z →
        Leads g x os ((if t then [] else items.Event (Chars run.string) span ∷ []) ++ rest) z qs
    by_test true e = k x e
    by_test false e = by_chars (answered (chars run.string x)) refl e

leads_attributes : (g : Language) (x z : Residual) (os : List (Open Residual)) (its : List (PlainAttribute × Span)) (t : Span) →
    behind_attributes (map (λ (it : PlainAttribute × Span). it.0) its) x ≡ Some z → Leads g x os (map attribute_event its ++ items.Event TagEnd t ∷ []) z os
leads_attributes g x z os [] t e = leads_on g x z z os os os TagEnd t [] (tag_end_admitted g x z os e) (leads_nowhere g z os)
leads_attributes g x z os (it ∷ more) t e = by_attribute (answered (attribute_of (attribute_name it.0) it.0.value.now x)) refl e (λ y k. leads_attributes g y z os more t k)
  where
    rest : List Item
    rest = map attribute_event more ++ items.Event TagEnd t ∷ []

    others : Residual → Option Residual
    others = behind_attributes (map (λ (i : PlainAttribute × Span). i.0) more)

    by_attribute : (o : Option Residual) → answered (attribute_of (attribute_name it.0) it.0.value.now x) ≡ o → then_answered o others ≡ Some z →
        ((y : Residual) → others y ≡ Some z → Leads g y os rest z os) → Leads g x os (items.Event (Att (attribute_name it.0) it.0.value.now) it.1 ∷ rest) z os
    by_attribute None a k f = absurd (let bad : None ≡ Some z = k in cc)
    by_attribute (Some y) a k f =
        leads_on g x y z os os os (Att (attribute_name it.0) it.0.value.now) it.1 rest (attribute_admitted g x y os (attribute_name it.0) it.0.value.now a) (f y k)

leads_inside : (g : Language) (x z : Residual) (os : List (Open Residual)) (n : Name) (its : List (PlainAttribute × Span)) (s t : Span) →
    inside_of g n (map (λ (it : PlainAttribute × Span). it.0) its) x ≡ Some z →
    Leads g x os (items.Event (Enter n) s ∷ (map attribute_event its ++ items.Event TagEnd t ∷ [])) z (In n ∷ os)
leads_inside g x z os n its s t e = by_enter (answered (enter g.definitions n x)) refl e
  where
    rest : List Item
    rest = map attribute_event its ++ items.Event TagEnd t ∷ []

    by_enter : (o : Option Residual) → answered (enter g.definitions n x) ≡ o → then_answered o (behind_attributes (map (λ (it : PlainAttribute × Span). it.0) its)) ≡ Some z →
        Leads g x os (items.Event (Enter n) s ∷ rest) z (In n ∷ os)
    by_enter None a e = absurd (let bad : None ≡ Some z = e in cc)
    by_enter (Some y) a e =
        leads_on g x y z os (In n ∷ os) (In n ∷ os) (Enter n) s rest (enter_admitted g x y os n a) (leads_attributes g y z (In n ∷ os) its t e)

leads_outside : (g : Language) (x z : Residual) (os : List (Open Residual)) (n : Name) (s : Span) → outside_of x ≡ Some z →
    Leads g x (In n ∷ os) (items.Event Leave s ∷ []) z os
leads_outside g x z os n s e = leads_on g x z z (In n ∷ os) os os Leave s [] (leave_admitted g x z os n e) (leads_nowhere g z os)

-- ---- the state behind such a token

pub run_is_text : (state : EventState) (run : Option (List ℕ)) → StateIsText state → run ≡ run_string state.run → IfSome run IsUtf8
run_is_text state run h e =
    let P : Option (List ℕ) → Type 0 = λ o. IfSome o IsUtf8 in
    subst P (sym e) (by_run state.run h.run)
  where
    by_test : (t : Bool) (string : List ℕ) → IsUtf8 string → IfSome (if t then None else Some string) IsUtf8
    by_test true string h = tt
    by_test false string h = h

    by_run : (run : Option Run) → RunIsText run → IfSome (run_string run) IsUtf8
    by_run None h = tt
    by_run (Some run) h = by_test (length run.string == 0) run.string h

-- a start tag without attributes is one with none
pub without_attributes : (state : EventState) (token : Token) (written : List ℕ) → IsPlainStart state token written → IsPlainOpening state token written []
without_attributes state token written h = record { spanned = []; are = refl; items = h.items; behind = h.behind; text = tt }

module _ {D S : Type 0} {later : D → D → Type 0} {is_state : D → S → Type 0} {means : D → S → Residual} {language : D → Language} (laws : LaterLaws later is_state means language) {a b : D} (on : later a b) where
  -- what is left means what is answered, so all along the token's items nothing is wrong
  passed_by : (s t : RecoverState S) (token : Token) (x z : Residual) (here : S) (os ps : List (Open Residual)) (all : List Item) →
      AreStates (is_state b) (view_of t.levels) → t.events ≡ state_behind s.events token → items_of_token s.events token ≡ all →
      form (means a) (view_of s.levels) ≡ record { here = Some x; elements = os } → Leads (language a) x os all z ps →
      form (means b) (view_of t.levels) ≡ record { here = Some z; elements = ps } →
      IsAdmitted (is_state b) (means a) (means b) (language a) s t token
  passed_by s t token x z here os ps all h e i f k w =
      let g = language a in
      record {
        states = h;
        events = e;
        levels = w ∙ sym k.form ∙ ap (λ (l : Form). form_along g l all) (sym f) ∙ ap (form_along g (form (means a) (view_of s.levels))) (sym i);
        faultless = ap (found_along g (form (means a) (view_of s.levels))) i ∙ ap (λ (l : Form). found_along g l all) f ∙ k.found;
      }

  -- what is answered behind a run is answered behind the whole
  pub behind_chars : (run : Option (List ℕ)) (text : List ℕ) (name : Name) (its : List PlainAttribute) (x : Residual) (before : S) (first : Option S) (P : S → Type 0) (f : S → Residual) (given : Option S) →
      run ≡ Some text → Answers (is_state b) (means b) (answered (chars text x)) first → first ≡ Some before →
      Answers P f (inside_of (language b) name its (means b before)) given → Answers P f (behind_run run (inside_of (language a) name its) x) given
  behind_chars run text name its x before first P f given r k is h = record {
    state = h.state;
    meaning = h.meaning ∙ ap (λ g. inside_of g name its (means b before)) (laws.rule a b on)
        ∙ first_answered (answered (chars text x)) (means b before) (inside_of (language a) name its) (sym (ap (option_map (means b)) is) ∙ k.meaning)
        ∙ ap (λ o. behind_run o (inside_of (language a) name its) x) (sym r);
  }

  pub start_passes : (s t : RecoverState S) (written : List ℕ) (name : Name) (its : List PlainAttribute) (run : Option (List ℕ)) (here inside : S) (given : Option S) →
      AreStates (is_state a) (view_of s.levels) → s.levels.here ≡ Some here → run ≡ run_string s.events.run → name ≡ unprefixed_name s.events.scope written →
      Answers (is_state b) (means b) (behind_run run (inside_of (language a) name its) (means a here)) given → given ≡ Some inside →
      t.events ≡ element_begun s.events written → t.levels.here ≡ Some inside → t.levels.elements.items ≡ s.levels.elements.items ++ In name ∷ [] →
      (token : Token) → IsPlainOpening s.events token written its → IsAdmitted (is_state b) (means a) (means b) (language a) s t token
  start_passes s t written name its run here inside given h at r n k is events now elements token plain =
      let old : List (Open S) = s.levels.elements.items in
      let os = stack (means a) old in
      let same = stack_of_same laws on (view_of s.levels) h in
      let listed = map (λ (it : PlainAttribute × Span). it.0) plain.spanned in
      let answer : behind_run (run_string s.events.run) (inside_of (language a) name listed) (means a here) ≡ Some (means b inside) =
      ap (λ (l : List PlainAttribute). behind_run (run_string s.events.run) (inside_of (language a) name l) (means a here)) plain.are
      ∙ ap (λ o. behind_run o (inside_of (language a) name its) (means a here)) (sym r) ∙ sym k.meaning ∙ ap (option_map (means b)) is in
      let P : Option S → Type 0 = λ o. IfSome o (is_state b) in
      let A : List (Open S) → Type 0 = λ l. AllByRecursion (IsOpen (is_state b)) l in
      let span : Span = record { from = token.from; to = token.from + length token.bytes } in
      let run_given = run_items token.from s.events.run in
      let rest : List Item = map attribute_event plain.spanned ++ items.Event TagEnd span ∷ [] in
      passed_by s t token (means a here) (means b inside) here os (In name ∷ os)
      (run_given ++ items.Event (Enter name) span ∷ rest)
      (record { here = subst P (sym now) (subst P is k.state); elements = subst A (sym elements) (all_joined (IsOpen (is_state b)) old (In name ∷ []) (states_later laws on (view_of s.levels) h).elements (tt, tt)) })
      (events ∙ sym plain.behind)
      (plain.items ∙ ap (λ (m : Name). run_given ++ items.Event (Enter m) span ∷ rest) (sym n))
      (form_is (means a) (view_of s.levels) (Some (means a here)) os (ap (option_map (means a)) at) refl)
      (leads_by_run (language a) (means a here) (means b inside) os (In name ∷ os) token.from s.events.run (inside_of (language a) name listed) _ answer
      (λ y e. leads_inside (language a) y (means b inside) os name plain.spanned span span e))
      (form_is (means b) (view_of t.levels) (Some (means b inside)) (In name ∷ os) (ap (option_map (means b)) now)
      (ap (stack (means b)) elements ∙ stack_more (means b) old (In name) ∙ ap (λ (l : List (Open Residual)). In name ∷ l) same))

  pub end_passes : (s t : RecoverState S) (name : Name) (run : Option (List ℕ)) (here outside : S) (given : Option S) →
      AreStates (is_state a) (view_of s.levels) → s.levels.here ≡ Some here → run ≡ run_string s.events.run →
      s.levels.elements.items ≡ without_innermost s.levels.elements.items ++ In name ∷ [] →
      Answers (is_state b) (means b) (behind_run run outside_of (means a here)) given → given ≡ Some outside →
      t.events ≡ innermost_ended s.events → t.levels.here ≡ Some outside → t.levels.elements.items ≡ without_innermost s.levels.elements.items →
      (token : Token) → IsPlainEnd s.events token → IsAdmitted (is_state b) (means a) (means b) (language a) s t token
  end_passes s t name run here outside given h at r top k is events now elements token plain =
      let left : List (Open S) = without_innermost s.levels.elements.items in
      let A : List (Open S) → Type 0 = λ l. AllByRecursion (IsOpen (is_state b)) l in
      let B : List (Open S) → Type 0 = λ l. AllByRecursion (IsOpen (is_state a)) l in
      let P : Option S → Type 0 = λ o. IfSome o (is_state b) in
      let around : AreStates (is_state a) (record { here = s.levels.here; elements = left }) =
      record { here = h.here; elements = all_front (IsOpen (is_state a)) left (In name ∷ []) (subst B top h.elements) } in
      let os = stack (means a) left in
      let same = stack_of_same laws on (record { here = s.levels.here; elements = left }) around in
      let answer : behind_run (run_string s.events.run) outside_of (means a here) ≡ Some (means b outside) =
      ap (λ o. behind_run o outside_of (means a here)) (sym r) ∙ sym k.meaning ∙ ap (option_map (means b)) is in
      let span : Span = record { from = token.from; to = token.from + length token.bytes } in
      passed_by s t token (means a here) (means b outside) here (In name ∷ os) os (run_items token.from s.events.run ++ items.Event Leave span ∷ [])
      (record { here = subst P (sym now) (subst P is k.state); elements = subst A (sym elements) (states_later laws on (record { here = s.levels.here; elements = left }) around).elements })
      (events ∙ sym plain.behind)
      plain.items
      (form_is (means a) (view_of s.levels) (Some (means a here)) (In name ∷ os) (ap (option_map (means a)) at) (ap (stack (means a)) top ∙ stack_more (means a) left (In name)))
      (leads_by_run (language a) (means a here) (means b outside) (In name ∷ os) os token.from s.events.run outside_of _ answer
      (λ y e. leads_outside (language a) y (means b outside) os name span e))
      (form_is (means b) (view_of t.levels) (Some (means b outside)) os (ap (option_map (means b)) now) (ap (stack (means b)) elements ∙ same))

-- character data that gives nothing leaves the levels as they are
pub text_passes : {S : Type 0} (P : S → Type 0) (f : S → Residual) (g : Language) (s t : RecoverState S) (token : Token) → AreStates P (view_of s.levels) →
    IsPlainText s.events token → t.events ≡ characters_added s.events token.bytes → view_of t.levels ≡ view_of s.levels → IsAdmitted P f f g s t token
unfolding form_along found_along
text_passes {S = S} P f g s t token h plain events same =
    let A : View S → Type 0 = λ v. AreStates P v in
    let l = form f (view_of s.levels) in
    record {
      states = subst A (sym same) h;
      events = events ∙ sym plain.behind;
      levels = ap (form f) same ∙ ap (form_along g l) (sym plain.items);
      faultless = ap (found_along g l) plain.items;
    }
