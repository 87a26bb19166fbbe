-- Attributes stand in the tags of a text, each name once in each.
use Rattle.std.proofs.Common.{◌≡◌, ℕ, suc, Bool, true, false, List, [], ◌∷◌, ◌++◌, length, refl, ap, sym, subst, ◌∙◌, append_assoc, Option, Some, None}
use Rattle.std.specs.Prelude.{◌||◌, ◌&&◌, not, ◌==◌, if◌then◌else◌, reverse, drop}
use Rattle.std.specs.List.{flat_map}
use Rattle.std.specs.Str.{bytes_eq}
use Rattle.std.proofs.lemmas.Bool.{false≢true, or_left, or_right}
use Rattle.std.proofs.lemmas.Slice.Eq.{bytes_eq-Decides}
use Rattle.nx_base.specs.declared.name.Name.{Name}
use Rattle.nx_base.specs.declared.fault.Fault.{Fault}
use Rattle.nx_base.specs.declared.fault.Kind.{Kind}
use Rattle.nx_base.specs.declared.fault.Kind.TheVariants as faults
use Rattle.nx_base.specs.declared.fault.Span.{Span}
use Rattle.nx_base.specs.declared.token.Token.{Token}
use Rattle.nx_base.specs.declared.token.TokenKind.{TokenKind}
use Rattle.nx_base.specs.declared.token.TokenKind.TheVariants as kinds
use Rattle.nx_events.specs.Elements as elements
use Rattle.nx_events.specs.Elements.{is_same_name, element_resolved, element_items, new_or_flaw, attribute_resolved, resolved_if_attribute, attribute_item, kept_name, attribute_items, declared_or_flaw}
use Rattle.nx_events.specs.CharacterFaults.{character_faults}
use Rattle.nx_events.specs.Declarations.{is_declaration, declaration_faults}
use Rattle.nx_events.specs.Tags.{start_name, tag_attributes}
use Rattle.nx_events.specs.declared.reading.Reading.{Reading}
use Rattle.nx_events.specs.declared.reading.Reading.TheVariants.{Value}
use Rattle.nx_events.specs.Faults.{bare_fault, faults_as_items}
use Rattle.nx_events.specs.Items as tokens
use Rattle.nx_events.specs.Items.{own_bindings, is_behind, token_span, token_fault_if, character_items, left_out, items_by_kind, items_of_token, state_behind, items_at_end, items_from, items_of, items_of_text, closing_items}
use Rattle.nx_events.specs.Names.{is_qname}
use Rattle.nx_events.specs.Runs.{run_items}
use Rattle.nx_events.specs.Scopes.{expand_attribute}
use Rattle.nx_events.specs.declared.flaw.Resolved.{Resolved}
use Rattle.nx_events.specs.declared.flaw.Resolved.TheVariants.{Named, Flawed}
use Rattle.nx_events.specs.declared.item.Event.{Event}
use Rattle.nx_events.specs.declared.item.Event.TheVariants.{Enter, EnterLost, Att, TagEnd, Chars, Leave}
use Rattle.nx_events.specs.declared.item.Item.{Item}
use Rattle.nx_events.specs.declared.item.Item.TheVariants as items
use Rattle.nx_events.specs.declared.scope.Binding.{Binding}
use Rattle.nx_events.specs.declared.state.EventState.{EventState}
use Rattle.nx_events.specs.declared.state.OpenElement.{OpenElement}
use Rattle.nx_events.specs.declared.state.Run.{Run}
use Rattle.nx_events.specs.declared.tag.Attribute.{Attribute}
use Rattle.rng_kept.specs.Events.{IsAmong, first, later}
use Rattle.rng_residual.proofs.SmallPatterns.{by_test}
use Rattle.nx_recovery.specs.Levels.{tag_after}

-- ---- events in order: the names of the attributes so far where a tag is open, and none elsewhere

abbrev pub Fits : Option (List Name) → Event → Type 0
Fits None (Enter n) = Unit {0}
Fits None EnterLost = Unit {0}
Fits None (Att n v) = ⊥
Fits None TagEnd = ⊥
Fits None (Chars t) = Unit {0}
Fits None Leave = Unit {0}
Fits (Some l) (Enter n) = ⊥
Fits (Some l) EnterLost = ⊥
Fits (Some l) (Att n v) = IsAmong n l → ⊥
Fits (Some l) TagEnd = Unit {0}
Fits (Some l) (Chars t) = ⊥
Fits (Some l) Leave = ⊥

-- such items, up to a place outside of tags
abbrev pub InTags : Option (List Name) → List Item → Type 0
InTags tag [] = tag ≡ None
InTags tag (items.Event event span ∷ all) = Fits tag event × InTags (tag_after tag event) all
InTags tag (items.Fault fault ∷ all) = InTags tag all

pub tags_append : (tag : Option (List Name)) (xs ys : List Item) → InTags tag xs → InTags None ys → InTags tag (xs ++ ys)
tags_append tag [] ys h k = subst (λ (t : Option (List Name)). InTags t ys) (sym h) k
tags_append tag (items.Event event span ∷ xs) ys h k = (h.0, tags_append (tag_after tag event) xs ys h.1 k)
tags_append tag (items.Fault fault ∷ xs) ys h k = tags_append tag xs ys h k

-- ---- what stands outside of tags

faults_outside : (faults : List Fault) → InTags None (faults_as_items faults)
faults_outside [] = refl
faults_outside (x ∷ faults) = faults_outside faults

fault_if_outside : (test : Bool) (kind : Kind) (token : Token) → InTags None (token_fault_if test kind token)
fault_if_outside true kind token = refl
fault_if_outside false kind token = refl

pub run_outside : (at : ℕ) (run : Option Run) → InTags None (run_items at run)
unfolding run_items
run_outside at None = refl
run_outside at (Some run) = by_test (λ l. InTags None l) (length run.string == 0) [] _ (λ e. refl) (λ e. (tt, refl))

left_outside : (kind : Kind) (span : Span) (open_ones : List OpenElement) → InTags None (flat_map (left_out kind span) open_ones)
left_outside kind span [] = refl
left_outside kind span (x ∷ xs) = (tt, left_outside kind span xs)

closing_outside : (state : EventState) (token : Token) (o : Option ℕ) → InTags None (closing_items state token o)
closing_outside state token None = refl
closing_outside state token (Some n) =
    let span = token_span token in
    let ends = flat_map (left_out faults.MissingEnd span) (reverse (drop (suc n) state.elements)) in
    tags_append None (run_items token.from state.run ++ ends) (items.Event Leave span ∷ [])
    (tags_append None (run_items token.from state.run) ends (run_outside token.from state.run) (left_outside faults.MissingEnd span (reverse (drop (suc n) state.elements))))
    (tt, refl)

-- ---- a start tag

same_name_is : (n : Name) → is_same_name n n ≡ true
same_name_is n = both (bytes_eq n.ns n.ns) (bytes_eq n.local n.local) ((bytes_eq-Decides n.ns n.ns).1 refl) ((bytes_eq-Decides n.local n.local).1 refl)
  where
    both : (a b : Bool) → a ≡ true → b ≡ true → (a && b) ≡ true
    both a b e f = rw (e, f) refl

-- the names so far in the tag are among those that were kept
AreKept : List Name → List Name → Type 0
AreKept l kept = (n : Name) → IsAmong n l → elements.has_name kept n ≡ true

pub has_more : (kept : List Name) (m n : Name) → elements.has_name kept n ≡ true → elements.has_name (kept ++ m ∷ []) n ≡ true
has_more [] m n h = absurd (false≢true h)
has_more (k ∷ kept) m n h = by (is_same_name k n) h (λ r. has_more kept m n r)
  where
    by : (b : Bool) → (b || elements.has_name kept n) ≡ true → (elements.has_name kept n ≡ true → elements.has_name (kept ++ m ∷ []) n ≡ true) → (b || elements.has_name (kept ++ m ∷ []) n) ≡ true
    by true e more = refl
    by false e more = more e

pub has_last : (kept : List Name) (n : Name) → elements.has_name (kept ++ n ∷ []) n ≡ true
has_last [] n = or_left _ _ (same_name_is n)
has_last (k ∷ kept) n = or_right (is_same_name k n) _ (has_last kept n)

kept_more : (l kept : List Name) (m : Name) → AreKept l kept → AreKept (m ∷ l) (kept ++ m ∷ [])
unfolding AreKept
kept_more l kept m h n (first e) = subst (λ k. elements.has_name (kept ++ m ∷ []) k ≡ true) e (has_last kept m)
kept_more l kept m h n (later a) = has_more kept m n (h n a)

-- a name that an attribute resolves to is a new one
new_named : (kept : List Name) (r : Resolved) (written : List ℕ) (n : Name) → new_or_flaw kept r written ≡ Named n → elements.has_name kept n ≡ false
unfolding new_or_flaw
new_named kept (Named name) written n e = by (elements.has_name kept name) refl e
  where
    same : (m : Name) → Named name ≡ Named m → name ≡ m
    same m f = cc

    by : (b : Bool) → elements.has_name kept name ≡ b → (if b then elements.flawed_as faults.DuplicateAttribute written else Named name) ≡ Named n → elements.has_name kept n ≡ false
    by true h f = cc
    by false h f = subst (λ k. elements.has_name kept k ≡ false) (same n f) h
new_named kept (Flawed flaw) written n e = cc

pub resolved_named : (scope : List Binding) (kept : List Name) (written : List ℕ) (n : Name) → attribute_resolved scope kept written ≡ Named n → elements.has_name kept n ≡ false
unfolding attribute_resolved
resolved_named scope kept written n e = by (not (is_qname written)) e
  where
    by : (b : Bool) → (if b then elements.flawed_as faults.BadName written else new_or_flaw kept (declared_or_flaw (expand_attribute scope written) written) written) ≡ Named n → elements.has_name kept n ≡ false
    by true f = cc
    by false f = new_named kept (declared_or_flaw (expand_attribute scope written) written) written n f

attribute_named : (scope : List Binding) (kept : List Name) (it : Attribute) (n : Name) → resolved_if_attribute scope kept it ≡ Some (Named n) → elements.has_name kept n ≡ false
unfolding resolved_if_attribute
attribute_named scope kept it n e = by (is_declaration it.name) e
  where
    out : (r : Resolved) → Some r ≡ Some (Named n) → r ≡ Named n
    out r f = cc

    by : (b : Bool) → (if b then None else Some (attribute_resolved scope kept it.name)) ≡ Some (Named n) → elements.has_name kept n ≡ false
    by true f = cc
    by false f = resolved_named scope kept it.name n (out _ f)

attributes_in_tag : (scope : List Binding) (kept l : List Name) (attributes : List Attribute) (span : Span) → AreKept l kept →
    InTags (Some l) (attribute_items scope kept attributes ++ items.Event TagEnd span ∷ [])
unfolding attribute_items AreKept
attributes_in_tag scope kept l [] span h = (tt, refl)
attributes_in_tag scope kept l (it ∷ others) span h =
    by (resolved_if_attribute scope kept it) (attribute_named scope kept it) (λ k m w. attributes_in_tag scope k m others span w)
  where
    same_kept : (r : Option Resolved) → kept_name r ≡ [] → kept ≡ kept ++ kept_name r
    same_kept r e = sym (ap (λ (xs : List Name). kept ++ xs) e ∙ nothing kept)
      where
        nothing : (xs : List Name) → xs ++ [] ≡ xs
        nothing [] = refl
        nothing (x ∷ xs) = ap (λ (ys : List Name). x ∷ ys) (nothing xs)

    by : (r : Option Resolved) → ((n : Name) → r ≡ Some (Named n) → elements.has_name kept n ≡ false) →
        ((k m : List Name) → AreKept m k → InTags (Some m) (attribute_items scope k others ++ items.Event TagEnd span ∷ [])) →
        InTags (Some l) ((attribute_item it r ++ attribute_items scope (kept ++ kept_name r) others) ++ items.Event TagEnd span ∷ [])
    by None new more = more (kept ++ []) l (subst (λ (k : List Name). AreKept l k) (same_kept None refl) h)
    by (Some (Flawed flaw)) new more = more (kept ++ []) l (subst (λ (k : List Name). AreKept l k) (same_kept (Some (Flawed flaw)) refl) h)
    by (Some (Named n)) new more = ((λ a. false≢true (sym (new n refl) ∙ h n a)), more (kept ++ n ∷ []) (n ∷ l) (kept_more l kept n h))

element_in_tag : (span : Span) (r : Resolved) (rest : List Item) → InTags (Some []) rest → InTags None (element_items span r ++ rest)
element_in_tag span (Named name) rest h = (tt, h)
element_in_tag span (Flawed flaw) rest h = (tt, h)

none_kept : AreKept [] []
unfolding AreKept
none_kept n h = elim h [ ]

nested : (a b c d : List Item) → InTags None (a ++ (b ++ (c ++ d))) → InTags None (((a ++ b) ++ c) ++ d)
nested a b c d h = subst (λ (l : List Item). InTags None l) (sym (append_assoc (a ++ b) c d ∙ append_assoc a b (c ++ d))) h

start_outside : (state : EventState) (token : Token) → InTags None (tokens.start_items state token)
unfolding tokens.start_items
start_outside state token =
    let attributes = tag_attributes token.from token.bytes in
    let scope = state.scope ++ own_bindings token in
    let run = run_items token.from state.run in
    let characters = faults_as_items (character_faults Value token.from token.bytes) in
    let declarations = faults_as_items (declaration_faults [] attributes) in
    let resolved = element_resolved (is_behind state) scope (start_name token.bytes) in
    let own = attribute_items scope [] attributes in
    let end = items.Event TagEnd (token_span token) ∷ [] in
    nested (run ++ characters ++ declarations) (element_items (token_span token) resolved) own end
    (tags_append None (run ++ characters ++ declarations) (element_items (token_span token) resolved ++ (own ++ end))
    (tags_append None (run ++ characters) declarations (tags_append None run characters (run_outside token.from state.run) (faults_outside (character_faults Value token.from token.bytes))) (faults_outside (declaration_faults [] attributes)))
    (element_in_tag (token_span token) resolved (own ++ end) (attributes_in_tag scope [] [] attributes (token_span token) none_kept)))

empty_outside : (state : EventState) (token : Token) → InTags None (tokens.empty_items state token)
unfolding tokens.empty_items
empty_outside state token = tags_append None (tokens.start_items state token) _ (start_outside state token) (tt, refl)

-- ---- all tokens

declaration_outside : (state : EventState) (token : Token) → InTags None (tokens.declaration_items state token)
unfolding tokens.declaration_items
declaration_outside state token = by_test (λ l. InTags None l) state.came _ _ (λ e. refl) (λ e. fault_if_outside _ _ token)

character_outside : (reading : Reading) (test : Bool) (kind : Kind) (token : Token) → InTags None (character_items reading test kind token)
character_outside reading test kind token =
    let characters = character_faults reading token.from token.bytes in
    tags_append None (faults_as_items characters) (token_fault_if test kind token) (faults_outside characters) (fault_if_outside test kind token)

by_kind : (kind : TokenKind) (state : EventState) (token : Token) → InTags None (items_by_kind kind state token)
unfolding tokens.doctype_items tokens.comment_items tokens.pi_items tokens.cdata_items tokens.text_items tokens.end_items
by_kind kinds.Bom state token = refl
by_kind kinds.Decl state token = declaration_outside state token
by_kind kinds.Doctype state token = fault_if_outside _ _ token
by_kind kinds.Comment state token = character_outside _ _ _ token
by_kind kinds.Pi state token = character_outside _ _ _ token
by_kind kinds.Cdata state token = character_outside _ _ _ token
by_kind kinds.Text state token = character_outside _ _ _ token
by_kind kinds.Bad state token = refl
by_kind kinds.Unclosed state token = refl
by_kind kinds.Start state token = start_outside state token
by_kind kinds.Empty state token = empty_outside state token
by_kind kinds.End state token = closing_outside state token _

pub token_in_tags : (state : EventState) (token : Token) → InTags None (items_of_token state token)
unfolding items_of_token
token_in_tags state token = by_kind token.kind state token

end_in_tags : (state : EventState) (len : ℕ) → InTags None (items_at_end state len)
unfolding items_at_end
end_in_tags state len =
    let span : Span = record { from = len; to = len } in
    let ends = flat_map (left_out faults.UnclosedElement span) (reverse state.elements) in
    let none = if tokens.is_before state then items.Fault (bare_fault faults.NoRoot span) ∷ [] else [] in
    tags_append None (run_items len state.run ++ ends) none
    (tags_append None (run_items len state.run) ends (run_outside len state.run) (left_outside faults.UnclosedElement span (reverse state.elements)))
    (by_test (λ l. InTags None l) (tokens.is_before state) (items.Fault (bare_fault faults.NoRoot span) ∷ []) [] (λ e. refl) (λ e. refl))

from_in_tags : (state : EventState) (all : List Token) (len : ℕ) → InTags None (items_from state all len)
unfolding items_from
from_in_tags state [] len = end_in_tags state len
from_in_tags state (token ∷ others) len =
    tags_append None (items_of_token state token) _ (token_in_tags state token) (from_in_tags (state_behind state token) others len)

pub text_in_tags : (text : List ℕ) → InTags None (items_of_text text)
text_in_tags text = from_in_tags tokens.first_state _ (length text)
