-- The number of open elements, item by item.
use Rattle.std.proofs.Common.{◌≡◌, ℕ, zero, suc, ◌+◌, ◌-◌, ◌<◌, ◌≤◌, Bool, true, false, cond, Option, Some, None, List, [], ◌∷◌, ◌++◌, length, drop, reverse, refl, ap, sym, ◌∙◌, arith}
use Rattle.std.specs.Prelude.{not, ◌&&◌, ◌||◌, ◌==◌}
use Rattle.std.specs.List.{flat_map, list_all}
use Rattle.std.specs.Str.{bytes_eq}
use Rattle.std.proofs.lemmas.List.{length-append, length-drop, length-reverse, length-take-le}
use Rattle.std.proofs.lemmas.List.Sums.{sum_by-cons}
use Rattle.nx_base.specs.Characters.{is_space}
use Rattle.nx_base.specs.declared.fault.Fault.{Fault}
use Rattle.nx_base.specs.declared.fault.Kind.{Kind}
use Rattle.nx_base.specs.declared.fault.Kind.TheVariants as kinds
use Rattle.nx_base.specs.declared.fault.Span.{Span}
use Rattle.nx_base.specs.declared.name.Name.{Name}
use Rattle.nx_base.specs.declared.token.Token.{Token}
use Rattle.nx_base.specs.declared.token.TokenKind.{TokenKind}
use Rattle.nx_base.specs.declared.token.TokenKind.TheVariants as tokens
use Rattle.nx_events.specs.declared.item.Item.{Item}
use Rattle.nx_events.specs.declared.item.Item.TheVariants as items
use Rattle.nx_events.specs.declared.item.Event.TheVariants.{Enter, EnterLost, Att, TagEnd, Chars, Leave}
use Rattle.nx_events.specs.declared.flaw.Resolved.{Resolved}
use Rattle.nx_events.specs.declared.flaw.Resolved.TheVariants.{Named, Flawed}
use Rattle.nx_events.specs.declared.reading.Reading.{Reading}
use Rattle.nx_events.specs.declared.reading.Reading.TheVariants.{Plain, Text, Value}
use Rattle.nx_events.specs.declared.scope.Binding.{Binding}
use Rattle.nx_events.specs.declared.state.EventState.{EventState}
use Rattle.nx_events.specs.declared.state.OpenElement.{OpenElement}
use Rattle.nx_events.specs.declared.state.Run.{Run}
use Rattle.nx_events.specs.declared.tag.Attribute.{Attribute}
use Rattle.nx_events.specs.Faults.{bare_fault, faults_as_items}
use Rattle.nx_events.specs.CharacterFaults.{character_faults}
use Rattle.nx_events.specs.Markup.{is_bad_comment, is_bad_pi}
use Rattle.nx_events.specs.Tags.{start_name, end_name, tag_attributes}
use Rattle.nx_events.specs.Declarations.{declaration_faults}
use Rattle.nx_events.specs.Elements.{element_resolved, element_items, resolved_if_attribute, attribute_item, kept_name, attribute_items}
use Rattle.nx_events.specs.Runs.{run_joined, run_items}
use Rattle.nx_events.specs.Scopes.{or_else}
use Rattle.nx_events.specs.Strings.{string_of, cdata_content}
use Rattle.nx_events.specs.XmlDeclaration.{is_xml_declaration}
use Rattle.nx_events.specs.Items.{token_span, token_fault_if, is_inside, is_before, is_behind, first_state, declaration_items, doctype_items, character_items, comment_items, pi_items, cdata_items, text_items, own_bindings, start_items, empty_items, one_more, around_innermost, left_out, extra_end_items, closing_items, end_items, items_by_kind, items_of_token, passed, joined, closed, state_by_kind, state_behind, items_at_end, items_from, items_of}
use Rattle.nx_events.specs.Balance.{is_enter, is_leave, entered, left, DepthIsDifference, EntersAndLeavesBalance}

-- how many elements are open behind items, if none is left that isn't open
step : Item → ℕ → Option ℕ
step (items.Event (Enter name) span) d = Some (suc d)
step (items.Event EnterLost span) d = Some (suc d)
step (items.Event Leave span) zero = None
step (items.Event Leave span) (suc d) = Some d
step _ d = Some d

through : (ℕ → Option ℕ) → Option ℕ → Option ℕ
through f None = None
through f (Some d) = f d

walk : List Item → ℕ → Option ℕ
walk [] d = Some d
walk (x ∷ xs) d = through (walk xs) (step x d)

through_append : (xs ys : List Item) → ((d : ℕ) → walk (xs ++ ys) d ≡ through (walk ys) (walk xs d)) → (o : Option ℕ) →
    through (walk (xs ++ ys)) o ≡ through (walk ys) (through (walk xs) o)
unfolding through
through_append xs ys h None = refl
through_append xs ys h (Some d) = h d

walk-append : (xs ys : List Item) (d : ℕ) → walk (xs ++ ys) d ≡ through (walk ys) (walk xs d)
unfolding walk through
walk-append [] ys d = refl
walk-append (x ∷ xs) ys d = through_append xs ys (λ e. walk-append xs ys e) (step x d)

-- items, and others behind them
onward : (xs ys : List Item) (d e : ℕ) (o : Option ℕ) → walk xs d ≡ Some e → walk ys e ≡ o → walk (xs ++ ys) d ≡ o
unfolding through
onward xs ys d e o h k = walk-append xs ys d ∙ ap (through (walk ys)) h ∙ k

-- the parts of a token's items
faults_stay : (xs : List Fault) (d : ℕ) → walk (faults_as_items xs) d ≡ Some d
unfolding walk through step
faults_stay [] d = refl
faults_stay (x ∷ xs) d = faults_stay xs d

fault_stays : (t : Bool) (kind : Kind) (token : Token) (d : ℕ) → walk (token_fault_if t kind token) d ≡ Some d
unfolding walk through step
fault_stays true kind token d = refl
fault_stays false kind token d = refl

characters_stay : (reading : Reading) (t : Bool) (kind : Kind) (token : Token) (d : ℕ) → walk (character_items reading t kind token) d ≡ Some d
characters_stay reading t kind token d =
    onward (faults_as_items (character_faults reading token.from token.bytes)) (token_fault_if t kind token) d d (Some d)
    (faults_stay (character_faults reading token.from token.bytes) d) (fault_stays t kind token d)

run_stays : (at : ℕ) (run : Option Run) (d : ℕ) → walk (run_items at run) d ≡ Some d
unfolding run_items walk through step
run_stays at None d = refl
run_stays at (Some run) d = by_test (length run.string == 0)
  where
    by_test : (t : Bool) → walk (cond t [] (items.Event (Chars run.string) (record { from = at - (run.gap + run.len); to = at - run.gap }) ∷ [])) d ≡ Some d
    by_test true = refl
    by_test false = refl

attribute_stays : (it : Attribute) (r : Option Resolved) (d : ℕ) → walk (attribute_item it r) d ≡ Some d
unfolding walk through step
attribute_stays it None d = refl
attribute_stays it (Some (Named name)) d = refl
attribute_stays it (Some (Flawed flaw)) d = refl

attributes_stay : (scope : List Binding) (kept : List Name) (xs : List Attribute) (d : ℕ) → walk (attribute_items scope kept xs) d ≡ Some d
unfolding attribute_items walk
attributes_stay scope kept [] d = refl
attributes_stay scope kept (x ∷ xs) d =
    let r = resolved_if_attribute scope kept x in
    onward (attribute_item x r) (attribute_items scope (kept ++ kept_name r) xs) d d (Some d) (attribute_stays x r d) (attributes_stay scope (kept ++ kept_name r) xs d)

element_enters : (span : Span) (r : Resolved) (d : ℕ) → walk (element_items span r) d ≡ Some (suc d)
unfolding walk through step
element_enters span (Named name) d = refl
element_enters span (Flawed flaw) d = refl

all_leave : (kind : Kind) (span : Span) (xs : List OpenElement) (d n : ℕ) → n ≡ length xs + d → walk (flat_map (left_out kind span) xs) n ≡ Some d
unfolding walk through step
all_leave kind span [] d n e = let k : n ≡ d = omega arith in ap Some k
all_leave kind span (x ∷ xs) d n e =
    let k : n ≡ suc (length xs + d) = omega arith in
    ap (walk (flat_map (left_out kind span) (x ∷ xs))) k ∙ all_leave kind span xs d (length xs + d) refl

tag_end_stays : (span : Span) (d : ℕ) → walk (items.Event TagEnd span ∷ []) d ≡ Some d
unfolding walk through step
tag_end_stays span d = refl

one_leaves : (span : Span) (d : ℕ) → walk (items.Event Leave span ∷ []) (suc d) ≡ Some d
unfolding walk through step
one_leaves span d = refl

extra_stays : (token : Token) (d : ℕ) → walk (extra_end_items token) d ≡ Some d
unfolding walk through step
extra_stays token d = refl

start_enters : (state : EventState) (token : Token) (d : ℕ) → walk (start_items state token) d ≡ Some (suc d)
unfolding start_items
start_enters state token d =
    let attributes = tag_attributes token.from token.bytes in
    let scope = state.scope ++ own_bindings token in
    let r = element_resolved (is_behind state) scope (start_name token.bytes) in
    let x1 = onward (run_items token.from state.run) (faults_as_items (character_faults Value token.from token.bytes)) d d (Some d) (run_stays token.from state.run d) (faults_stay (character_faults Value token.from token.bytes) d) in
    let x2 = onward _ (faults_as_items (declaration_faults [] attributes)) d d (Some d) x1 (faults_stay (declaration_faults [] attributes) d) in
    let x3 = onward _ (element_items (token_span token) r) d d (Some (suc d)) x2 (element_enters (token_span token) r d) in
    let x4 = onward _ (attribute_items scope [] attributes) d (suc d) (Some (suc d)) x3 (attributes_stay scope [] attributes (suc d)) in
    onward _ (items.Event TagEnd (token_span token) ∷ []) d (suc d) (Some (suc d)) x4 (tag_end_stays (token_span token) (suc d))

-- the innermost element of a name is one of those that are open
less_by : (name : List ℕ) (inner : List OpenElement) (n : ℕ) (o : Option ℕ) → ((m : ℕ) → o ≡ Some m → m < length inner) → (t : Bool) →
    or_else (one_more o) (cond t (Some 0) None) ≡ Some n → n < suc (length inner)
less_by name inner n (Some m) h t e = let k : suc m ≡ n = cc in let l = h m refl in omega arith
less_by name inner n None h true e = let k : 0 ≡ n = cc in omega arith
less_by name inner n None h false e = let k : None ≡ Some n = e in absurd (cc)

around_less : (name : List ℕ) (xs : List OpenElement) (n : ℕ) → around_innermost name xs ≡ Some n → n < length xs
unfolding around_innermost
around_less name [] n e = let k : None ≡ Some n = e in absurd (cc)
around_less name (x ∷ xs) n e = less_by name xs n (around_innermost name xs) (λ m h. around_less name xs m h) (bytes_eq x.written name) e

closing_leaves : (state : EventState) (token : Token) (o : Option ℕ) → ((n : ℕ) → o ≡ Some n → n < length state.elements) →
    walk (closing_items state token o) (length state.elements) ≡ Some (length (closed state token o).elements)
closing_leaves state token None h = extra_stays token (length state.elements)
closing_leaves state token (Some n) h =
    let d = length state.elements in
    let less : n < length state.elements = h n refl in
    let inner = reverse (drop (suc n) state.elements) in
    let size : length inner ≡ length state.elements - suc n = length-reverse (drop (suc n) state.elements) ∙ length-drop (suc n) state.elements in
    let x1 = onward (run_items token.from state.run) (flat_map (left_out kinds.MissingEnd (token_span token)) inner) d d (Some (suc n)) (run_stays token.from state.run d)
    (all_leave kinds.MissingEnd (token_span token) inner (suc n) d (omega arith)) in
    onward _ (items.Event Leave (token_span token) ∷ []) d (suc n) (Some n) x1 (one_leaves (token_span token) n) ∙ ap Some (sym (length-take-le n state.elements (omega arith)))

declaration_stays : (state : EventState) (token : Token) (d : ℕ) → walk (declaration_items state token) d ≡ Some d
unfolding declaration_items
declaration_stays state token d = by_test state.came
  where
    by_test : (t : Bool) → walk (cond t (items.Fault (bare_fault kinds.Misplaced (token_span token)) ∷ []) (token_fault_if (not (is_xml_declaration token.bytes)) kinds.BadDecl token)) d ≡ Some d
    by_test true = fault_stays true kinds.Misplaced token d
    by_test false = fault_stays (not (is_xml_declaration token.bytes)) kinds.BadDecl token d

joined_depth : (state : EventState) (token : Token) (string : List ℕ) → length state.elements ≡ length (joined state token string).elements
joined_depth state token string = by_place (is_inside state)
  where
    by_place : (t : Bool) → length state.elements ≡ length (cond t (record state { came = true; run = run_joined string (length token.bytes) state.run }) (passed state token)).elements
    by_place true = refl
    by_place false = refl

opened_depth : (xs : List OpenElement) (x : OpenElement) → suc (length xs) ≡ length (xs ++ x ∷ [])
opened_depth xs x = let k = length-append xs (x ∷ []) in omega arith

by_kind : (kind : TokenKind) (state : EventState) (token : Token) → walk (items_by_kind kind state token) (length state.elements) ≡ Some (length (state_by_kind kind state token).elements)
unfolding doctype_items comment_items pi_items cdata_items text_items empty_items end_items walk through step
by_kind tokens.Bom state token = refl
by_kind tokens.Decl state token = declaration_stays state token (length state.elements)
by_kind tokens.Doctype state token = fault_stays (state.started || state.doctype) kinds.Misplaced token (length state.elements)
by_kind tokens.Comment state token = characters_stay Plain (is_bad_comment token.bytes) kinds.BadComment token (length state.elements)
by_kind tokens.Pi state token = characters_stay Plain (is_bad_pi token.bytes) kinds.BadPi token (length state.elements)
by_kind tokens.Cdata state token =
    characters_stay Plain (not (is_inside state)) kinds.TextOutside token (length state.elements) ∙ ap Some (joined_depth state token (string_of Plain (cdata_content token.bytes)))
by_kind tokens.Text state token =
    characters_stay Text (not (is_inside state) && not (list_all is_space token.bytes)) kinds.TextOutside token (length state.elements) ∙ ap Some (joined_depth state token (string_of Text token.bytes))
by_kind tokens.Bad state token = refl
by_kind tokens.Unclosed state token = refl
by_kind tokens.Start state token =
    start_enters state token (length state.elements) ∙ ap Some (opened_depth state.elements (record { written = start_name token.bytes; outer = length state.scope }))
by_kind tokens.Empty state token =
    onward (start_items state token) (items.Event Leave (token_span token) ∷ []) (length state.elements) (suc (length state.elements)) (Some (length state.elements)) (start_enters state token (length state.elements)) refl
by_kind tokens.End state token =
    closing_leaves state token (around_innermost (end_name token.bytes) state.elements) (λ n e. around_less (end_name token.bytes) state.elements n e)

token_walks : (state : EventState) (token : Token) → walk (items_of_token state token) (length state.elements) ≡ Some (length (state_behind state token).elements)
unfolding items_of_token state_behind
token_walks state token = by_kind token.kind state token

no_root_stays : (span : Span) (t : Bool) → walk (cond t (items.Fault (bare_fault kinds.NoRoot span) ∷ []) []) 0 ≡ Some 0
unfolding walk through step
no_root_stays span true = refl
no_root_stays span false = refl

end_walks : (state : EventState) (len : ℕ) → walk (items_at_end state len) (length state.elements) ≡ Some 0
unfolding items_at_end
end_walks state len =
    let d = length state.elements in
    let span : Span = record { from = len; to = len } in
    let size : length (reverse state.elements) ≡ length state.elements = length-reverse state.elements in
    let x1 = onward (run_items len state.run) (flat_map (left_out kinds.UnclosedElement span) (reverse state.elements)) d d (Some 0) (run_stays len state.run d)
    (all_leave kinds.UnclosedElement span (reverse state.elements) 0 d (omega arith)) in
    onward _ (cond (is_before state) (items.Fault (bare_fault kinds.NoRoot span) ∷ []) []) d 0 (Some 0) x1 (no_root_stays span (is_before state))

all_walk : (state : EventState) (all : List Token) (len : ℕ) → walk (items_from state all len) (length state.elements) ≡ Some 0
unfolding items_from
all_walk state [] len = end_walks state len
all_walk state (token ∷ others) len =
    onward (items_of_token state token) (items_from (state_behind state token) others len) (length state.elements) (length (state_behind state token).elements) (Some 0)
    (token_walks state token) (all_walk (state_behind state token) others len)

entered-cons : (x : Item) (xs : List Item) → entered (x ∷ xs) ≡ cond (is_enter x) 1 0 + entered xs
entered-cons x xs = sum_by-cons (λ y. cond (is_enter y) 1 0) x xs

left-cons : (x : Item) (xs : List Item) → left (x ∷ xs) ≡ cond (is_leave x) 1 0 + left xs
left-cons x xs = sum_by-cons (λ y. cond (is_leave y) 1 0) x xs

-- what a walk counts
counts : (xs : List Item) (d e : ℕ) → walk xs d ≡ Some e → d + entered xs ≡ e + left xs
unfolding walk through step
counts [] d e h = let k : d ≡ e = cc in let more : entered [] ≡ 0 = refl in let less : left [] ≡ 0 = refl in omega arith
counts (items.Fault fault ∷ xs) d e h =
    let more : entered (items.Fault fault ∷ xs) ≡ 0 + entered xs = entered-cons (items.Fault fault) xs in
    let less : left (items.Fault fault ∷ xs) ≡ 0 + left xs = left-cons (items.Fault fault) xs in
    let k = counts xs d e h in omega arith
counts (items.Event (Enter name) span ∷ xs) d e h =
    let more : entered (items.Event (Enter name) span ∷ xs) ≡ 1 + entered xs = entered-cons (items.Event (Enter name) span) xs in
    let less : left (items.Event (Enter name) span ∷ xs) ≡ 0 + left xs = left-cons (items.Event (Enter name) span) xs in
    let k = counts xs (suc d) e h in omega arith
counts (items.Event EnterLost span ∷ xs) d e h =
    let more : entered (items.Event EnterLost span ∷ xs) ≡ 1 + entered xs = entered-cons (items.Event EnterLost span) xs in
    let less : left (items.Event EnterLost span ∷ xs) ≡ 0 + left xs = left-cons (items.Event EnterLost span) xs in
    let k = counts xs (suc d) e h in omega arith
counts (items.Event (Att name value) span ∷ xs) d e h =
    let more : entered (items.Event (Att name value) span ∷ xs) ≡ 0 + entered xs = entered-cons (items.Event (Att name value) span) xs in
    let less : left (items.Event (Att name value) span ∷ xs) ≡ 0 + left xs = left-cons (items.Event (Att name value) span) xs in
    let k = counts xs d e h in omega arith
counts (items.Event TagEnd span ∷ xs) d e h =
    let more : entered (items.Event TagEnd span ∷ xs) ≡ 0 + entered xs = entered-cons (items.Event TagEnd span) xs in
    let less : left (items.Event TagEnd span ∷ xs) ≡ 0 + left xs = left-cons (items.Event TagEnd span) xs in
    let k = counts xs d e h in omega arith
counts (items.Event (Chars string) span ∷ xs) d e h =
    let more : entered (items.Event (Chars string) span ∷ xs) ≡ 0 + entered xs = entered-cons (items.Event (Chars string) span) xs in
    let less : left (items.Event (Chars string) span ∷ xs) ≡ 0 + left xs = left-cons (items.Event (Chars string) span) xs in
    let k = counts xs d e h in omega arith
counts (items.Event Leave span ∷ xs) zero e h = let k : None ≡ Some e = h in absurd (cc)
counts (items.Event Leave span ∷ xs) (suc d) e h =
    let more : entered (items.Event Leave span ∷ xs) ≡ 0 + entered xs = entered-cons (items.Event Leave span) xs in
    let less : left (items.Event Leave span ∷ xs) ≡ 1 + left xs = left-cons (items.Event Leave span) xs in
    let k = counts xs d e h in omega arith

some_of : (f : ℕ → Option ℕ) (o : Option ℕ) (e : ℕ) → through f o ≡ Some e → (m : ℕ) × (o ≡ Some m)
unfolding through
some_of f None e h = let k : None ≡ Some e = h in absurd (cc)
some_of f (Some m) e h = (m, refl)

front_counts : (front behind : List Item) (d e : ℕ) → walk (front ++ behind) d ≡ Some e → left front ≤ d + entered front
front_counts front behind d e h =
    let m = some_of (walk behind) (walk front d) e (sym (walk-append front behind d) ∙ h) in
    let k = counts front d m.0 m.1 in
    omega arith

pub depth_is_difference : DepthIsDifference
depth_is_difference state token = counts (items_of_token state token) (length state.elements) (length (state_behind state token).elements) (token_walks state token)

pub enters_and_leaves_balance : EntersAndLeavesBalance
enters_and_leaves_balance all len = (
  (let k = counts (items_of all len) 0 0 (all_walk first_state all len) in omega arith),
  (λ front behind e. let k = front_counts front behind 0 0 (ap (λ xs. walk xs 0) (sym e) ∙ all_walk first_state all len) in omega arith),
)
