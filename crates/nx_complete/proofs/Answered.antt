-- The answer over residuals is the answer of the definition.
use Rattle.std.proofs.Common.{◌≡◌, ℕ, suc, ◌+◌, ◌-◌, ◌<◌, ◌≤◌, List, [], ◌∷◌, ◌++◌, length, map, take, drop, Bool, true, false, Option, Some, None, refl, sym, ap, subst, ◌∙◌, arith, append_assoc, append-nil}
use Rattle.std.proofs.lemmas.List.{take-append-drop}
use Rattle.std.specs.Prelude.{◌==◌, IsUtf8, if◌then◌else◌}
use Rattle.std.specs.List.Sorted.{IsStrictlySortedBy}
use Rattle.nx_base.specs.Names.{is_attribute_name}
use Rattle.nx_base.specs.Rules.{Rules, Lexeme, lexeme_of}
use Rattle.nx_base.specs.Running.{after_all}
use Rattle.nx_base.specs.Tokens.{cut, end_of, tokens_of, tokens_from}
use Rattle.nx_base.specs.declared.name.Name.{Name}
use Rattle.nx_base.specs.declared.offer.Offer.{Offer}
use Rattle.nx_base.specs.declared.offer.Offer.TheVariants as offer
use Rattle.nx_base.specs.declared.offer.Offers.{Offers}
use Rattle.nx_base.specs.declared.offer.Offers.TheVariants as answers
use Rattle.nx_base.specs.declared.token.Token.{Token}
use Rattle.nx_events.specs.BareLaws.{after_placed}
use Rattle.nx_events.specs.Items.{first_state, state_behind}
use Rattle.nx_events.specs.OpenTags.{state_after}
use Rattle.nx_events.specs.Prefixes.{run_string, items_so_far, name_behind, IsOpenTag, IsPrefix}
use Rattle.nx_events.specs.Spelling.{middle}
use Rattle.nx_events.specs.Runs.{run_items}
use Rattle.nx_events.specs.declared.item.Event.TheVariants.{Chars}
use Rattle.nx_events.specs.declared.item.Item.{Item}
use Rattle.nx_events.specs.declared.item.Item.TheVariants as items
use Rattle.nx_events.specs.declared.prefix.TagPrefix.{TagPrefix}
use Rattle.nx_events.specs.declared.prefix.TagPrefix.TheVariants.{ElementName, EndName, AttributeName, AttributeValue, Elsewhere}
use Rattle.nx_events.specs.declared.state.EventState.{EventState}
use Rattle.nx_events.specs.declared.state.Run.{Run}
use Rattle.nx_scan.proofs.Joined.{tokens-go_on}
use Rattle.rng_core.specs.Patterns.{Language}
use Rattle.rng_kept.specs.Events.{IsAmong}
use Rattle.rng_kept.specs.Live.{IsLive}
use Rattle.rng_kept.specs.Moves.{attributes_of}
use Rattle.rng_kept.specs.Residuals.{Residual}
use Rattle.nx_recover.specs.Behind.{LevelsBehind, items_through}
use Rattle.nx_recover.specs.Frames.{Frame, document_frame}
use Rattle.nx_recover.specs.Items.{form_along}
use Rattle.nx_recover.specs.Offered.{AreOffers, ElementOffered, EndOffered, AttributeOffered, ValueOffered, attributes_among}
use Rattle.nx_recover.specs.Offers.{UpTo, state_before, items_before, bytes_before, Answers, inside, OffersIn, OffersOf, by_prefix}
use Rattle.nx_recover.specs.RecoverRules.{Recovered, recover_rules, first_levels, levels_behind}
use Rattle.nx_recover.specs.Table.{Form}
use Rattle.nx_recover.specs.declared.levels.Open.{Open}
use Rattle.nx_recovery.specs.Levels.{tag_behind, own_elements, IsOfTag, StandsFor, StandsHere, lost_here, frame_here, StandAround, none_around, one_around, TellLevels}
use Rattle.nx_recovery.proofs.Folding.{tokens_fold, levels_append}
use Rattle.nx_recovery.proofs.Levels.{one_behind}
use Rattle.rng_residual.proofs.SmallPatterns.{by_test}
use Rattle.nx_complete.specs.Answering.{Lists, ends_among, PrefixAnswer, string_event, run_event, IsAnswer}
use Rattle.nx_complete.specs.Answering as residuals
use Rattle.nx_complete.specs.Asking.{ListsNames, ListsValues, end_listed}
use Rattle.nx_complete.specs.declared.naming.Naming.TheVariants.{Element, Attribute}
use Rattle.nx_complete.proofs.Behind.{behind_append, behind_split}
use Rattle.nx_complete.proofs.NewNames.{name_is_new}
use Rattle.nx_complete.proofs.Offering.{elements_offered, attributes_offered, end_offered, values_offered}
use Rattle.nx_complete.proofs.TagText.{IsTextTag, open_tag_text}
use Rattle.nx_complete.proofs.Told.{token_utf8, told_before, told_in_tag, tag_is, tag_so_far, no_tag_before}

-- ---- answers in a frame

lost_answer : (offered : Frame → Offer → Type 0) (answer : Offers) → answer ≡ answers.Nowhere → Answers offered None answer
lost_answer offered answer e = subst (λ (a : Offers). Answers offered None a) (sym e) tt

frame_answer : (offered : Frame → Offer → Type 0) (listed : Residual → List Offer → Type 0) (f : Frame) (x : Residual) → ((offers : List Offer) → listed x offers → AreOffers (offered f) offers) →
    (answer : Offers) → Lists listed (Some x) answer → Answers offered (Some f) answer
frame_answer offered listed f x h answers.Nowhere l = absurd l
frame_answer offered listed f x h (answers.List offers) l = h offers l

-- what is listed where something is left is what is offered in the frame for which it stands
listed_answer : {g : Language} {tag : Option (List Name)} {depth : ℕ} {here : Option Frame} {left : Option Residual} (offered : Frame → Offer → Type 0) (listed : Residual → List Offer → Type 0) →
    StandsHere g tag depth here left → ((f : Frame) (x : Residual) → StandsFor g tag depth f x → (offers : List Offer) → listed x offers → AreOffers (offered f) offers) →
    (answer : Offers) → Lists listed left answer → Answers offered here answer
listed_answer offered listed lost_here h answer l = lost_answer offered answer l
listed_answer offered listed (frame_here {f = f} {x = x} s) h answer l = frame_answer offered listed f x (h f x s) answer l

-- in a tag, by what stands in front of it and behind its items
inside_answer : {g : Language} {tag one : Option (List Name)} {depth deep : ℕ} {here last : Option Frame} {left own : Option Residual} (offered : Frame → Offer → Type 0) (listed : Residual → List Offer → Type 0) →
    StandsHere g tag depth here left → StandsHere g one deep last own → ((f : Frame) (x : Residual) → StandsFor g one deep f x → (offers : List Offer) → listed x offers → AreOffers (offered f) offers) →
    (answer : Offers) → Lists listed (residuals.inside left own) answer → Answers offered (inside here last) answer
inside_answer offered listed lost_here s h answer l = lost_answer offered answer l
inside_answer offered listed (frame_here t) s h answer l = listed_answer offered listed s h answer l

-- where no element is open no end is offered
no_end : (g : Language) (written : List ℕ) (f : Frame) → AreOffers (EndOffered g written [] f) []
unfolding IsStrictlySortedBy
no_end g written f = record { sorted = tt; exact = λ o. (λ h. absurd (omega (arith, h.1)), λ h. absurd (none o h)) }
  where
    none : (o : Offer) → EndOffered g written [] f o → ⊥
    none (offer.Name n) h = h
    none (offer.AnyIn ns) h = h
    none offer.AnyElse h = h
    none (offer.Value text) h = h
    none (offer.End other) h = h.1

-- where an attribute has no name no value is offered
no_value : (g : Language) (f : Frame) → AreOffers (ValueOffered g None f) []
unfolding IsStrictlySortedBy
no_value g f = record { sorted = tt; exact = λ o. (λ h. absurd (omega (arith, h.1)), λ h. absurd h) }

-- ---- the levels in front of a place

-- a run is told wherever it stands
pub run_told : (g : Language) (l : Form) (at : ℕ) (run : Option Run) → form_along g l (run_items at run) ≡ form_along g l (run_event run)
unfolding form_along run_items
run_told g l at None = refl
run_told g l at (Some run) = by (length run.string == 0)
  where
    by : (b : Bool) → form_along g l (if b then [] else items.Event (Chars run.string) (record { from = at - (run.gap + run.len); to = at - run.gap }) ∷ []) ≡ form_along g l (string_event (if b then None else Some run.string))
    by true = refl
    by false = refl

pub events_after : (g : Option Language) (m : Recovered) (ks : List Token) → (after_all (recover_rules g) m (map lexeme_of ks)).events ≡ state_after m.events ks
unfolding state_after
events_after g m [] = refl
events_after g m (k ∷ ks) =
    events_after g ((recover_rules g).after m (lexeme_of k)) ks ∙ ap (λ (s : EventState). state_after s ks) (sym (after_placed m.events k))

module _ (g : Language) (live : IsLive g) (text : List ℕ) (utf8 : IsUtf8 text) (at : ℕ) (p : UpTo text at) where
  abbrev pub rules : Rules Recovered
  rules = recover_rules (Some g)

  -- what the machine means in front of the token
  abbrev pub meant : Recovered
  meant = after_all rules rules.first (map lexeme_of p.front)

  pub same_events : meant.events ≡ state_before p
  same_events = events_after (Some g) rules.first p.front

  abbrev pub here_form : Form
  here_form = form_along g meant.levels (run_event meant.events.run)

  pub same_form : levels_behind (Some g) (first_levels (Some g)) (items_before p) ≡ here_form
  same_form =
      let fold = tokens_fold (Some g) text utf8 p.front (p.token ∷ p.rest) p.tokens in
      levels_append (Some g) (first_levels (Some g)) (items_through first_state p.front) (run_items p.token.from (state_before p).run)
      ∙ ap (λ (l : Form). form_along g l (run_items p.token.from (state_before p).run)) fold.levels
      ∙ run_told g meant.levels p.token.from (state_before p).run
      ∙ ap (λ (s : EventState). form_along g meant.levels (run_event s.run)) (sym same_events)

  pub told : TellLevels g (items_before p) here_form
  told = subst (λ (l : Form). TellLevels g (items_before p) l) same_form (told_before text utf8 at p g live)

  pub inside_now : StandsHere g None (own_elements told.elements) told.here here_form.here
  inside_now = subst (λ (t : Option (List Name)). StandsHere g t (own_elements told.elements) told.here here_form.here) (no_tag_before text utf8 at p) told.inside

  pub element_answer : (answer : Offers) → PrefixAnswer g here_form ElementName answer → OffersIn g (items_before p) ElementName answer
  element_answer answer a = record {
    here = told.here;
    elements = told.elements;
    behind = told.behind;
    answers = listed_answer (ElementOffered g) (ListsNames g.definitions Element) inside_now (λ f x s offers l. elements_offered g live.definitions f x s.stands offers l) answer a;
  }

  end_by : (written : List ℕ) {os : List (Open Frame)} {xs : List (Open Residual)} → StandAround g os xs → (f : Frame) (x : Residual) → StandsFor g None (own_elements os) f x →
      (offers : List Offer) → offers ≡ ends_among written xs x → AreOffers (EndOffered g written os f) offers
  end_by written none_around f x s offers e = subst (λ (l : List Offer). AreOffers (EndOffered g written [] f) l) (sym e) (no_end g written f)
  end_by written (one_around {o = o} {os = os} t r) f x s offers e = end_offered g live.definitions f x s.stands written (o ∷ os) tt offers e

  pub end_answer : (written : List ℕ) (answer : Offers) → PrefixAnswer g here_form (EndName written) answer → OffersIn g (items_before p) (EndName written) answer
  end_answer written answer a = record {
    here = told.here;
    elements = told.elements;
    behind = told.behind;
    answers = listed_answer (EndOffered g written told.elements) (λ x offers. offers ≡ ends_among written here_form.elements x) inside_now (end_by written told.around) answer a;
  }

  -- ---- behind a tag that is being written

  module _ (tag : List ℕ) (t : IsTextTag tag) where
    abbrev own : List Item
    own = items_so_far (state_before p) tag

    pub own_form : levels_behind (Some g) (first_levels (Some g)) (items_before p ++ own) ≡ form_along g here_form own
    own_form = levels_append (Some g) (first_levels (Some g)) (items_before p) own ∙ ap (λ (l : Form). form_along g l own) same_form

    pub told_own : TellLevels g (items_before p ++ own) (form_along g here_form own)
    told_own = subst (λ (l : Form). TellLevels g (items_before p ++ own) l) own_form (told_in_tag text utf8 at p tag t.utf8 t.behind g live)

    pub names_inside : {depth : ℕ} {f : Frame} {x : Residual} → StandsFor g (tag_behind None (items_before p ++ own)) depth f x → (n : Name) → IsAmong n (attributes_of f.moves) → IsAmong n (attributes_among own)
    names_inside {f = f} s n i =
        let w = tag_so_far (state_before p) tag in
        let is : tag_behind None (items_before p ++ own) ≡ Some w.names = tag_is text utf8 at p tag t.utf8 t.behind ∙ w.is in
        let of : IsOfTag (Some w.names) f.moves = subst (λ (o : Option (List Name)). IsOfTag o f.moves) is s.of_tag in
        w.out n (of.1 n i)

    in_tag : LevelsBehind g told.here told.elements own told_own.here told_own.elements
    in_tag =
        let r = behind_split (items_before p) own told_own.behind in
        let same = one_behind r.before told.behind in
        subst (λ (os : List (Open Frame)). LevelsBehind g told.here os own told_own.here told_own.elements) same.1
        (subst (λ (h : Option Frame). LevelsBehind g h r.between own told_own.here told_own.elements) same.0 r.behind)

    pub attribute_answer : (answer : Offers) → PrefixAnswer g here_form (AttributeName own) answer → OffersIn g (items_before p) (AttributeName own) answer
    attribute_answer answer a = record {
      here = told.here;
      elements = told.elements;
      behind = told.behind;
      last = told_own.here;
      around = told_own.elements;
      in_tag = in_tag;
      answers = inside_answer (AttributeOffered g (attributes_among own)) (ListsNames g.definitions (Attribute (attributes_among own))) inside_now told_own.inside (λ f x s offers l. attributes_offered g live.definitions f x s.stands (attributes_among own) (names_inside s) offers l) answer a;
    }

    value_by : (written : List ℕ) (name : Option Name) → name ≡ name_behind (state_before p) tag written → {depth : ℕ} (f : Frame) (x : Residual) →
        StandsFor g (tag_behind None (items_before p ++ own)) depth f x → (offers : List Offer) → ListsValues g.definitions name x offers → AreOffers (ValueOffered g name f) offers
    value_by written None e f x s offers l = subst (λ (all : List Offer). AreOffers (ValueOffered g None f) all) (sym l) (no_value g f)
    value_by written (Some n) e f x s offers l =
        values_offered g live.definitions f x s.stands n (λ i. name_is_new (state_before p) tag written n (sym e) (names_inside s n i)) offers l

    pub value_answer : (written : List ℕ) (name : Option Name) → name ≡ name_behind (state_before p) tag written → (answer : Offers) →
        PrefixAnswer g here_form (AttributeValue own name) answer → OffersIn g (items_before p) (AttributeValue own name) answer
    value_answer written name e answer a = record {
      here = told.here;
      elements = told.elements;
      behind = told.behind;
      last = told_own.here;
      around = told_own.elements;
      in_tag = in_tag;
      answers = inside_answer (ValueOffered g name) (ListsValues g.definitions name) inside_now told_own.inside (value_by written name e) answer a;
    }

  -- ---- whatever is being written

  pub tag_of : (tag begun : List ℕ) → IsOpenTag tag → bytes_before p ≡ tag ++ begun → IsTextTag tag
  tag_of tag begun o spelled =
      let rest = drop (at - p.token.from) p.token.bytes in
      let whole : p.token.bytes ≡ tag ++ (begun ++ rest) =
      sym (take-append-drop (at - p.token.from) p.token.bytes) ∙ ap (λ (l : List ℕ). l ++ rest) spelled ∙ append_assoc tag begun rest in
      open_tag_text tag (begun ++ rest) o (subst IsUtf8 whole (token_utf8 text utf8 at p))

  prefix_answer : (answer : Offers) (prefix : TagPrefix) → IsPrefix (state_before p) (bytes_before p) prefix → PrefixAnswer g here_form prefix answer → OffersIn g (items_before p) prefix answer
  prefix_answer answer ElementName is a = element_answer answer a
  prefix_answer answer (EndName written) is a = end_answer written answer a
  prefix_answer answer (AttributeName all) is a =
      let P : List Item → Type 0 = λ l. PrefixAnswer g here_form (AttributeName l) answer → OffersIn g (items_before p) (AttributeName l) answer in
      subst P (sym is.2) (attribute_answer is.0 (tag_of is.0 is.1.begun is.1.is_open is.1.spelled) answer) a
  prefix_answer answer (AttributeValue all name) is a =
      let v = is.2 in
      let begun = (v.begun.name ++ middle v.begun) ++ v.begun.quote ∷ v.begun.value in
      let P : List Item → Type 0 = λ l. PrefixAnswer g here_form (AttributeValue l name) answer → OffersIn g (items_before p) (AttributeValue l name) answer in
      subst P (sym is.3) (value_answer is.0 (tag_of is.0 begun v.is_open v.spelled) is.1 name is.4 answer) a
  prefix_answer answer Elsewhere is a = a

  pub place_answer : (answer : Offers) → IsAnswer g meant.levels meant.events (bytes_before p) answer → OffersOf (Some g) text at answer
  place_answer answer a =
      let is : IsPrefix (state_before p) (bytes_before p) a.prefix = subst (λ (s : EventState). IsPrefix s (bytes_before p) a.prefix) same_events a.is in
      by_prefix g refl p a.prefix is (prefix_answer answer a.prefix is a.are)
