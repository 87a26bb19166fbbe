-- Tokens of which one look tells what they give and where they lead.
use Rattle.std.proofs.Common.{◌≡◌, ℕ, suc, ◌-◌, ◌<◌, true, false, cond, Option, Some, None, List, [], ◌∷◌, ◌++◌, length, drop, refl, ap, sym, ◌∙◌, subst, arith, append_assoc, inl, inr}
use Rattle.std.specs.Prelude.{◌==◌, unwrap_or}
use Rattle.std.specs.List.{prefix_len}
use Rattle.std.proofs.lemmas.Bool.{cases_Bool}
use Rattle.std.proofs.lemmas.Grind.{common_steps, flat_map-append}
use Rattle.std.proofs.lemmas.List.{append-nil}
use Rattle.nx_base.specs.declared.token.Token.{Token}
use Rattle.nx_base.specs.declared.token.TokenKind.{TokenKind}
use Rattle.nx_base.specs.declared.token.TokenKind.TheVariants as kinds
use Rattle.nx_events.specs.declared.item.Item.{Item}
use Rattle.nx_events.specs.declared.item.Item.TheVariants as items
use Rattle.nx_events.specs.declared.item.Event.TheVariants.{Enter, TagEnd, Leave}
use Rattle.nx_events.specs.declared.state.EventState.{EventState}
use Rattle.nx_events.specs.declared.state.Run.{Run}
use Rattle.nx_events.specs.declared.scope.Binding.{Binding}
use Rattle.nx_events.specs.declared.reading.Reading.TheVariants.{Text}
use Rattle.nx_events.specs.Among.{fault_in, faults_among}
use Rattle.nx_events.specs.CharacterFaults.{character_faults}
use Rattle.nx_events.specs.Faults.{faults_as_items}
use Rattle.nx_events.specs.Items.{token_span, is_behind, is_inside, own_bindings, start_items, text_items, end_items, around_innermost, closing_items, items_by_kind, items_of_token, passed, opened, joined, closed, state_by_kind, state_behind}
use Rattle.nx_events.specs.OpenItems.{open_items}
use Rattle.nx_events.specs.Plain.{is_plain_in}
use Rattle.nx_events.specs.PlainTags.{IsPlainTag}
use Rattle.nx_events.specs.PlainTokens.{IsPlainStart, IsPlainEnd, IsPlainText, StandsForItself, unprefixed_name, element_begun, characters_added}
use Rattle.nx_events.specs.Runs.{run_items, run_joined}
use Rattle.nx_events.specs.Scopes.{element_uri, last_uri}
use Rattle.nx_events.specs.Strings.{string_of}
use Rattle.nx_events.specs.Tags.{end_name}
use Rattle.nx_events.proofs.OpenItems.{start_tags_go_on}
use Rattle.nx_events.proofs.PlainRuns.{plain_told, plain_string_of}
use Rattle.nx_events.proofs.PlainTags.{no_declarations, plain_name_is, plain_open, plain_resolved}

-- what a token gives and where it leads, by its kind
pub gives_by : (state : EventState) (token : Token) (kind : TokenKind) (all : List Item) → token.kind ≡ kind → items_by_kind kind state token ≡ all → items_of_token state token ≡ all
unfolding items_of_token
gives_by state token kind all is e = ap (λ k. items_by_kind k state token) is ∙ e

pub leads_by : (state : EventState) (token : Token) (kind : TokenKind) (to : EventState) → token.kind ≡ kind → state_by_kind kind state token ≡ to → state_behind state token ≡ to
unfolding state_behind
leads_by state token kind to is e = ap (λ k. state_by_kind k state token) is ∙ e

-- ---- a start tag that is a plain name alone

pub default_uri : (scope : List Binding) → Some (unwrap_or (last_uri scope []) []) ≡ element_uri scope []
unfolding element_uri
default_uri scope = refl

-- the name of such an element
pub unprefixed_is : (scope : List Binding) (uri written ns local : List ℕ) → Some uri ≡ element_uri scope [] → ns ≡ uri → local ≡ written →
    record { ns = ns; local = local } ≡ unprefixed_name scope written
unfolding element_uri
unprefixed_is scope uri written ns local e n l = cc

start_gives : (state : EventState) (token : Token) (written : List ℕ) → IsPlainTag token.bytes written → is_behind state ≡ false →
    start_items state token
    ≡ run_items token.from state.run ++ items.Event (Enter (unprefixed_name state.scope written)) (token_span token) ∷ items.Event TagEnd (token_span token) ∷ []
start_gives state token written tag behind =
    let run = run_items token.from state.run in
    let enter : Item = items.Event (Enter (unprefixed_name state.scope written)) (token_span token) in
    let end : Item = items.Event TagEnd (token_span token) in
    let opened : run ++ enter ∷ [] ≡ open_items run state token =
    plain_open run (run ++ enter ∷ []) state token written (unprefixed_name state.scope written) tag behind
    (plain_resolved state.scope (unwrap_or (last_uri state.scope []) []) written tag.plain (default_uri state.scope)) refl in
    start_tags_go_on state token ∙ ap (λ (xs : List Item). xs ++ end ∷ []) (sym opened) ∙ append_assoc run (enter ∷ []) (end ∷ [])

start_leads : (state : EventState) (token : Token) (written : List ℕ) → IsPlainTag token.bytes written → opened state token ≡ element_begun state written
start_leads state token written tag =
    let own : own_bindings token ≡ [] = sym (no_declarations token written [] tag refl) in
    let to : List ℕ → List Binding → EventState = λ name scope. record state {
      elements = state.elements ++ (record { written = name; outer = length state.scope }) ∷ [];
      scope = scope;
      came = true;
      started = true;
      run = None;
    } in
    ap (λ name. to name (state.scope ++ own_bindings token)) (plain_name_is token.bytes written tag)
    ∙ ap (λ (more : List Binding). to written (state.scope ++ more)) own
    ∙ ap (to written) (append-nil state.scope)

pub plain_start_is : (state : EventState) (token : Token) (bytes written : List ℕ) → bytes ≡ token.bytes → IsPlainTag bytes written → is_behind state ≡ false →
    token.kind ≡ kinds.Start → IsPlainStart state token written
plain_start_is state token bytes written b h behind kind =
    let P : List ℕ → Type 0 = λ xs. IsPlainTag xs written in
    let tag = subst P b h in
    record {
      items = gives_by state token kinds.Start _ kind (start_gives state token written tag behind);
      behind = leads_by state token kinds.Start _ kind (start_leads state token written tag);
    }

-- ---- the end tag of the innermost open element

pub plain_end_is : (state : EventState) (token : Token) (bytes name : List ℕ) → bytes ≡ token.bytes → name ≡ end_name bytes →
    around_innermost name state.elements ≡ Some (length state.elements - 1) → 0 < length state.elements → token.kind ≡ kinds.End → IsPlainEnd state token
unfolding end_items
plain_end_is state token bytes name b w a some kind =
    let n = length state.elements - 1 in
    let none : drop (suc n) state.elements ≡ [] = grind (arith, common_steps, some) in
    let place : around_innermost (end_name token.bytes) state.elements ≡ Some n =
    ap (λ xs. around_innermost xs state.elements) (sym (w ∙ ap end_name b)) ∙ a in
    let run = run_items token.from state.run in
    record {
      some = some;
      items = gives_by state token kinds.End _ kind (ap (closing_items state token) place ∙ rw none (ap (λ (xs : List Item). xs ++ items.Event Leave (token_span token) ∷ []) (append-nil run)));
      behind = leads_by state token kinds.End _ kind (ap (closed state token) place);
    }

-- ---- characters that stand for themselves

text_gives : (state : EventState) (token : Token) → is_inside state ≡ true → StandsForItself token.bytes → text_items state token ≡ []
unfolding text_items
text_gives state token inside plain =
    let none : faults_as_items (character_faults Text token.from token.bytes) ≡ [] = sym (plain_told Text token.from token.bytes [] plain) in
    rw (inside, none) refl

text_leads : (state : EventState) (token : Token) → is_inside state ≡ true → StandsForItself token.bytes →
    joined state token (string_of Text token.bytes) ≡ characters_added state token.bytes
text_leads state token inside plain =
    ap (λ t. cond t (record state { came = true; run = run_joined (string_of Text token.bytes) (length token.bytes) state.run }) (passed state token)) inside
    ∙ ap (characters_of) (sym (plain_string_of Text token.bytes plain))
  where
    characters_of : List ℕ → EventState
    characters_of string = record state { came = true; run = run_joined string (length token.bytes) state.run }

pub plain_text_is : (state : EventState) (token : Token) (bytes : List ℕ) → bytes ≡ token.bytes → is_inside state ≡ true →
    prefix_len (is_plain_in Text) bytes ≡ length bytes → token.kind ≡ kinds.Text → IsPlainText state token
plain_text_is state token bytes b inside h kind =
    let P : List ℕ → Type 0 = λ xs. StandsForItself xs in
    let plain = subst P b h in
    record {
      items = gives_by state token kinds.Text _ kind (text_gives state token inside plain);
      behind = leads_by state token kinds.Text _ kind (text_leads state token inside plain);
      plain = plain;
    }

-- ---- they give no fault

-- a run is no fault
run_faultless : (at : ℕ) (run : Option Run) → faults_among (run_items at run) ≡ []
unfolding run_items
run_faultless at None = refl
run_faultless at (Some run) = elim (cases_Bool (length run.string == 0)) [ inl e ↦ rw e refl | inr e ↦ rw e refl ]

pub behind_run : (state : EventState) (token : Token) (all : List Item) → faults_among all ≡ [] → faults_among (run_items token.from state.run ++ all) ≡ []
behind_run state token all e = rw (flat_map-append fault_in (run_items token.from state.run) all, run_faultless token.from state.run, e) refl

pub start_faultless : (state : EventState) (token : Token) (written : List ℕ) → IsPlainStart state token written → faults_among (items_of_token state token) ≡ []
start_faultless state token written h = ap faults_among h.items ∙ behind_run state token _ refl

pub end_faultless : (state : EventState) (token : Token) → IsPlainEnd state token → faults_among (items_of_token state token) ≡ []
end_faultless state token h = ap faults_among h.items ∙ behind_run state token _ refl

pub text_faultless : (state : EventState) (token : Token) → IsPlainText state token → faults_among (items_of_token state token) ≡ []
text_faultless state token h = ap faults_among h.items
