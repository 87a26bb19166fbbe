-- The levels behind the items in front of a place, and behind those of a tag that is being written there.
use Rattle.std.proofs.Common.{◌≡◌, ℕ, List, [], ◌∷◌, ◌++◌, drop, Option, Some, None, refl, sym, ap, subst, ◌∙◌, append_assoc, append-nil, ◌⊎◌, inl, inr}
use Rattle.std.specs.Prelude.{IsUtf8, ◌==◌}
use Rattle.std.specs.List.{AllByRecursion}
use Rattle.nx_base.specs.Tokens.{IsOfKind}
use Rattle.nx_base.specs.declared.fault.Fault.{Fault}
use Rattle.nx_base.specs.declared.fault.Span.{Span}
use Rattle.nx_base.specs.declared.name.Name.{Name}
use Rattle.nx_base.specs.declared.token.Token.{Token}
use Rattle.nx_document.proofs.Borders.{tokens_are_text}
use Rattle.nx_events.specs.CharacterFaults.{character_faults}
use Rattle.nx_events.specs.Declarations.{declaration_faults}
use Rattle.nx_events.specs.Elements.{element_items, attribute_items, attribute_item, resolved_if_attribute, kept_name, element_resolved}
use Rattle.nx_events.specs.Faults.{faults_as_items}
use Rattle.nx_events.specs.Items.{first_state, items_of_token, state_behind, own_bindings, is_behind, token_span}
use Rattle.nx_events.specs.Items as tokens
use Rattle.nx_events.specs.OpenTags.{state_after}
use Rattle.nx_events.specs.Prefixes.{as_token, items_so_far}
use Rattle.nx_events.specs.Runs.{run_items}
use Rattle.nx_events.specs.Tags.{start_name, tag_attributes}
use Rattle.nx_events.specs.Texts.{ItemsAreText, StateIsText}
use Rattle.nx_events.specs.declared.reading.Reading.TheVariants.{Value}
use Rattle.nx_events.specs.declared.flaw.Resolved.{Resolved}
use Rattle.nx_events.specs.declared.flaw.Resolved.TheVariants.{Named, Flawed}
use Rattle.nx_events.specs.declared.item.Event.TheVariants.{Enter, EnterLost, Att, TagEnd, Chars, Leave}
use Rattle.nx_events.specs.declared.item.Item.{Item}
use Rattle.nx_events.specs.declared.item.Item.TheVariants as items
use Rattle.nx_events.specs.declared.scope.Binding.{Binding}
use Rattle.nx_events.specs.declared.state.EventState.{EventState}
use Rattle.nx_events.specs.declared.tag.Attribute.{Attribute}
use Rattle.nx_events.proofs.TextItems.{token_text, first_text, run_text, start_text}
use Rattle.rng_core.specs.Patterns.{Language}
use Rattle.rng_kept.specs.Events.{IsAmong, first, later}
use Rattle.rng_kept.specs.Live.{IsLive}
use Rattle.nx_recover.specs.Behind.{items_through}
use Rattle.nx_recover.specs.Offered.{attributes_among}
use Rattle.nx_recover.specs.Offers.{UpTo, state_before, items_before}
use Rattle.nx_recover.specs.RecoverRules.{first_levels, levels_behind}
use Rattle.nx_recovery.specs.Levels.{tag_after, tag_behind, TellLevels}
use Rattle.nx_recovery.proofs.Along.{text_items}
use Rattle.nx_recovery.proofs.Folding.{tokens_fold}
use Rattle.nx_recovery.proofs.Levels.{told_along}
use Rattle.nx_recovery.proofs.Tags.{InTags, tags_append, token_in_tags, run_outside}

-- ---- items in order, outside of tags

pub through_in_tags : (state : EventState) (all : List Token) → InTags None (items_through state all)
through_in_tags state [] = refl
through_in_tags state (token ∷ others) =
    tags_append None (items_of_token state token) _ (token_in_tags state token) (through_in_tags (state_behind state token) others)

-- no tag is open behind them
pub no_tag_behind : (tag : Option (List Name)) (all : List Item) → InTags tag all → tag_behind tag all ≡ None
no_tag_behind tag [] h = h
no_tag_behind tag (items.Event e s ∷ all) h = no_tag_behind (tag_after tag e) all h.1
no_tag_behind tag (items.Fault x ∷ all) h = no_tag_behind tag all h

pub behind_both : (tag : Option (List Name)) (xs ys : List Item) → tag_behind tag (xs ++ ys) ≡ tag_behind (tag_behind tag xs) ys
behind_both tag [] ys = refl
behind_both tag (items.Event e s ∷ xs) ys = behind_both (tag_after tag e) xs ys
behind_both tag (items.Fault x ∷ xs) ys = behind_both tag xs ys

pub text_both : (xs ys : List Item) → ItemsAreText xs → ItemsAreText ys → ItemsAreText (xs ++ ys)
text_both [] ys h k = k
text_both (x ∷ xs) ys h k = (h.0, text_both xs ys h.1 k)

pub text_first : (xs ys : List Item) → ItemsAreText (xs ++ ys) → ItemsAreText xs
text_first [] ys h = tt
text_first (x ∷ xs) ys h = (h.0, text_first xs ys h.1)

-- ---- the attributes of a tag that is being written

-- attributes and faults alone
abbrev pub AreOfTag : List Item → Type 0
AreOfTag [] = Unit {0}
AreOfTag (items.Event (Att n v) s ∷ all) = AreOfTag all
AreOfTag (items.Event (Enter n) s ∷ all) = ⊥
AreOfTag (items.Event EnterLost s ∷ all) = ⊥
AreOfTag (items.Event TagEnd s ∷ all) = ⊥
AreOfTag (items.Event (Chars t) s ∷ all) = ⊥
AreOfTag (items.Event Leave s ∷ all) = ⊥
AreOfTag (items.Fault x ∷ all) = AreOfTag all

-- the names of a tag behind its attributes are those of the attributes, and those before them
pub record NamesTag (before : List Name) (all : List Item) : Type 0 where
  pub names : List Name
  pub is : tag_behind (Some before) all ≡ Some names
  pub out : (n : Name) → IsAmong n names → IsAmong n before ⊎ IsAmong n (attributes_among all)
  pub kept : (n : Name) → IsAmong n before → IsAmong n names
  pub has : (n : Name) → IsAmong n (attributes_among all) → IsAmong n names

names_tag : (all : List Item) (before : List Name) → AreOfTag all → NamesTag before all
names_tag [] before h = record { names = before; is = refl; out = λ n i. inl i; kept = λ n i. i; has = λ n i. elim i [ ] }
names_tag (items.Event (Att n v) s ∷ all) before h =
    let w = names_tag all (n ∷ before) h in
    record {
      names = w.names;
      is = w.is;
      out = λ m i. elim (w.out m i) [
        | inl j ↦ first_or m j
        | inr j ↦ inr (later j)
      ];
      kept = λ m i. w.kept m (later i);
      has = λ m i. by w.kept w.has m i;
    }
  where
    first_or : (m : Name) → IsAmong m (n ∷ before) → IsAmong m before ⊎ IsAmong m (n ∷ attributes_among all)
    first_or m (first e) = inr (first e)
    first_or m (later i) = inl i

    by : {names : List Name} → ((m : Name) → IsAmong m (n ∷ before) → IsAmong m names) → ((m : Name) → IsAmong m (attributes_among all) → IsAmong m names) → (m : Name) → IsAmong m (n ∷ attributes_among all) → IsAmong m names
    by keep have m (first e) = keep m (first e)
    by keep have m (later i) = have m i
names_tag (items.Event (Enter n) s ∷ all) before h = absurd h
names_tag (items.Event EnterLost s ∷ all) before h = absurd h
names_tag (items.Event TagEnd s ∷ all) before h = absurd h
names_tag (items.Event (Chars t) s ∷ all) before h = absurd h
names_tag (items.Event Leave s ∷ all) before h = absurd h
names_tag (items.Fault x ∷ all) before h =
    let w = names_tag all before h in
    record { names = w.names; is = w.is; out = w.out; kept = w.kept; has = w.has }

of_tag_both : (xs ys : List Item) → AreOfTag xs → AreOfTag ys → AreOfTag (xs ++ ys)
of_tag_both [] ys h k = k
of_tag_both (items.Event (Att n v) s ∷ xs) ys h k = of_tag_both xs ys h k
of_tag_both (items.Event (Enter n) s ∷ xs) ys h k = absurd h
of_tag_both (items.Event EnterLost s ∷ xs) ys h k = absurd h
of_tag_both (items.Event TagEnd s ∷ xs) ys h k = absurd h
of_tag_both (items.Event (Chars t) s ∷ xs) ys h k = absurd h
of_tag_both (items.Event Leave s ∷ xs) ys h k = absurd h
of_tag_both (items.Fault x ∷ xs) ys h k = of_tag_both xs ys h k

pub attributes_of_tag : (scope : List Binding) (kept : List Name) (all : List Attribute) → AreOfTag (attribute_items scope kept all)
unfolding attribute_items
attributes_of_tag scope kept [] = tt
attributes_of_tag scope kept (it ∷ others) =
    of_tag_both (attribute_item it (resolved_if_attribute scope kept it)) _ (one (resolved_if_attribute scope kept it)) (attributes_of_tag scope (kept ++ kept_name (resolved_if_attribute scope kept it)) others)
  where
    one : (r : Option Resolved) → AreOfTag (attribute_item it r)
    one None = tt
    one (Some (Named n)) = tt
    one (Some (Flawed flaw)) = tt

-- ---- behind a tag so far

-- a tag is open there, and these are its names
pub record IsTagBehind (own : List Item) : Type 0 where
  pub names : List Name
  pub is : tag_behind None own ≡ Some names
  pub out : (n : Name) → IsAmong n names → IsAmong n (attributes_among own)
  pub has : (n : Name) → IsAmong n (attributes_among own) → IsAmong n names

only_faults : (faults : List Fault) (rest : List Item) → IsTagBehind rest → IsTagBehind (faults_as_items faults ++ rest)
only_faults [] rest h = h
only_faults (x ∷ faults) rest h = let w = only_faults faults rest h in record { names = w.names; is = w.is; out = w.out; has = w.has }

element_begins : (span : Span) (r : Resolved) (rest : List Item) → AreOfTag rest → IsTagBehind (element_items span r ++ rest)
element_begins span (Named n) rest h =
    let w = names_tag rest [] h in
    record { names = w.names; is = w.is; out = λ m i. elim (w.out m i) [ inl j ↦ elim j [ ] | inr j ↦ j ]; has = w.has }
element_begins span (Flawed flaw) rest h =
    let w = names_tag rest [] h in
    record { names = w.names; is = w.is; out = λ m i. elim (w.out m i) [ inl j ↦ elim j [ ] | inr j ↦ j ]; has = w.has }

nested : (a b c d : List Item) → IsTagBehind (a ++ (b ++ (c ++ d))) → IsTagBehind (((a ++ b) ++ c) ++ d)
nested a b c d h = subst (λ (l : List Item). IsTagBehind l) (sym (append_assoc (a ++ b) c d ∙ append_assoc a b (c ++ d))) h

pub tag_so_far : (state : EventState) (tag : List ℕ) → IsTagBehind (items_so_far state tag)
tag_so_far state tag =
    let token = as_token tag in
    let attributes = tag_attributes token.from token.bytes in
    let scope = state.scope ++ own_bindings token in
    let characters = character_faults Value token.from token.bytes in
    let declarations = declaration_faults [] attributes in
    let resolved = element_resolved (is_behind state) scope (start_name token.bytes) in
    let own = attribute_items scope [] attributes in
    nested (faults_as_items characters) (faults_as_items declarations) (element_items (token_span token) resolved) own
    (only_faults characters (faults_as_items declarations ++ (element_items (token_span token) resolved ++ own))
    (only_faults declarations (element_items (token_span token) resolved ++ own)
    (element_begins (token_span token) resolved own (attributes_of_tag scope [] attributes))))

-- the end of the tag
abbrev pub tag_end_of : List ℕ → List Item
tag_end_of tag = items.Event TagEnd (token_span (as_token tag)) ∷ []

pub so_far_in_tags : (state : EventState) (tag : List ℕ) → InTags None (items_so_far state tag ++ tag_end_of tag)
unfolding items_of_token tokens.start_items run_items
so_far_in_tags state tag = token_in_tags (record state { run = None }) (as_token tag)

pub so_far_text : (state : EventState) (tag : List ℕ) → IsUtf8 tag → IsUtf8 (drop 1 tag) → StateIsText state → ItemsAreText (items_so_far state tag)
unfolding tokens.start_items run_items
so_far_text state tag u v h =
    text_first (items_so_far state tag) (tag_end_of tag)
    (start_text (record state { run = None }) (as_token tag) u (record { elements = h.elements; scope = h.scope; run = tt }) v)

-- ---- behind the tokens in front of a place

states_text : (all : List Token) (state : EventState) → AllByRecursion (λ (token : Token). IsUtf8 token.bytes × IsOfKind token) all → StateIsText state → StateIsText (state_after state all)
unfolding state_after
states_text [] state t h = h
states_text (token ∷ all) state t h =
    states_text all (state_behind state token) t.1 (token_text state token (t.0.0, (token.from == 0, t.0.1)) h).1

first_all : (P : Token → Type 0) (xs ys : List Token) → AllByRecursion P (xs ++ ys) → AllByRecursion P xs
first_all P [] ys h = tt
first_all P (x ∷ xs) ys h = (h.0, first_all P xs ys h.1)

pub later_first : (P : Token → Type 0) (xs : List Token) (x : Token) (ys : List Token) → AllByRecursion P (xs ++ x ∷ ys) → P x
later_first P [] x ys h = h.0
later_first P (y ∷ xs) x ys h = later_first P xs x ys h.1

module _ (text : List ℕ) (utf8 : IsUtf8 text) (at : ℕ) (p : UpTo text at) where
  abbrev token_text_at : Token → Type 0
  token_text_at token = IsUtf8 token.bytes × IsOfKind token

  all_tokens_text : AllByRecursion token_text_at (p.front ++ p.token ∷ p.rest)
  all_tokens_text = subst (λ (all : List Token). AllByRecursion token_text_at all) p.tokens (tokens_are_text text utf8)

  pub token_utf8 : IsUtf8 p.token.bytes
  token_utf8 = (later_first token_text_at p.front p.token p.rest all_tokens_text).0

  pub state_text : StateIsText (state_before p)
  state_text = states_text p.front first_state (first_all token_text_at p.front (p.token ∷ p.rest) all_tokens_text) first_text

  pub before_text : ItemsAreText (items_before p)
  before_text =
      let fold = tokens_fold None text utf8 p.front (p.token ∷ p.rest) p.tokens in
      let whole : ItemsAreText (items_through first_state p.front ++ fold.behind) = subst (λ (all : List Item). ItemsAreText all) fold.part (text_items text utf8) in
      text_both (items_through first_state p.front) _ (text_first (items_through first_state p.front) fold.behind whole) (run_text p.token.from (state_before p).run state_text.run)

  pub before_in_tags : InTags None (items_before p)
  before_in_tags = tags_append None (items_through first_state p.front) _ (through_in_tags first_state p.front) (run_outside p.token.from (state_before p).run)

  -- the levels there
  pub told_before : (g : Language) → IsLive g → TellLevels g (items_before p) (levels_behind (Some g) (first_levels (Some g)) (items_before p))
  told_before g live =
      told_along g live (items_before p) []
      (subst (λ (l : List Item). InTags None l) (sym (append-nil (items_before p))) before_in_tags)
      (subst (λ (l : List Item). ItemsAreText l) (sym (append-nil (items_before p))) before_text)

  pub no_tag_before : tag_behind None (items_before p) ≡ None
  no_tag_before = no_tag_behind None (items_before p) before_in_tags

  -- and behind a tag that is being written
  module _ (tag : List ℕ) (u : IsUtf8 tag) (v : IsUtf8 (drop 1 tag)) where
    abbrev own_items : List Item
    own_items = items_so_far (state_before p) tag

    pub told_in_tag : (g : Language) → IsLive g → TellLevels g (items_before p ++ own_items) (levels_behind (Some g) (first_levels (Some g)) (items_before p ++ own_items))
    told_in_tag g live =
        told_along g live (items_before p ++ own_items) (tag_end_of tag)
        (subst (λ (l : List Item). InTags None l) (sym (append_assoc (items_before p) own_items (tag_end_of tag)))
        (tags_append None (items_before p) _ before_in_tags (so_far_in_tags (state_before p) tag)))
        (text_both (items_before p ++ own_items) (tag_end_of tag) (text_both (items_before p) own_items before_text (so_far_text (state_before p) tag u v state_text)) (tt, tt))

    pub tag_is : tag_behind None (items_before p ++ own_items) ≡ tag_behind None own_items
    tag_is = behind_both None (items_before p) own_items ∙ ap (λ (t : Option (List Name)). tag_behind t own_items) no_tag_before
