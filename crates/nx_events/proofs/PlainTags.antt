-- A start tag that is a plain name alone: its name, that it has no attributes and no fault, and its element.
use Rattle.std.proofs.Common.{◌≡◌, ℕ, zero, suc, ◌+◌, ◌-◌, ◌≤◌, Bool, true, false, cond, Some, List, [], ◌∷◌, ◌++◌, length, take, drop, get_or, refl, ap, sym, ◌∙◌, arith}
use Rattle.std.specs.Prelude.{◌&&◌, ◌||◌, not}
use Rattle.std.specs.List.{list_all, position_or_len, prefix_len}
use Rattle.std.specs.Str.{byte}
use Rattle.std.proofs.lemmas.Bool.{false≢true, and_parts}
use Rattle.std.proofs.lemmas.List.{append-nil}
use Rattle.nx_base.specs.Characters.{is_space}
use Rattle.nx_base.specs.declared.name.Name.{Name}
use Rattle.nx_base.specs.declared.token.Token.{Token}
use Rattle.nx_events.specs.declared.reading.Reading.TheVariants.{Value}
use Rattle.nx_events.specs.declared.scope.Binding.{Binding}
use Rattle.nx_events.specs.declared.flaw.Resolved.{Resolved}
use Rattle.nx_events.specs.declared.flaw.Resolved.TheVariants.{Named}
use Rattle.nx_events.specs.declared.item.Item.{Item}
use Rattle.nx_events.specs.declared.item.Item.TheVariants as items
use Rattle.nx_events.specs.declared.item.Event.TheVariants.{Enter}
use Rattle.nx_events.specs.declared.state.EventState.{EventState}
use Rattle.nx_events.specs.Plain.{is_plain}
use Rattle.nx_events.specs.PlainNames.{is_plain_start, is_plain_further, is_plain_name}
use Rattle.nx_events.specs.PlainTags.{IsPlainTag}
use Rattle.nx_events.specs.Names.{local_of}
use Rattle.nx_events.specs.Tags.{ends_name, written_name, start_name, tag_attributes, attributes_from}
use Rattle.nx_events.specs.Scopes.{element_uri, expand_element, named_by}
use Rattle.nx_events.specs.Elements.{flawed_as, declared_or_flaw, element_resolved, element_items}
use Rattle.nx_base.specs.declared.fault.Kind.TheVariants.{BadName}
use Rattle.nx_events.specs.Items.{token_span, is_behind, own_bindings}
use Rattle.nx_events.specs.OpenItems.{open_items}
use Rattle.nx_events.proofs.PlainNames.{every, every_at, implies, start_small, further_small, plain_parts}
use Rattle.nx_events.proofs.PlainRuns.{plain_told}
use Rattle.nx_events.proofs.Tags.{none_among}
use Rattle.nx_events.proofs.OpenItems.{bare_open, bare_own}

-- such bytes are plain and don't end a name: of ASCII that is seen by trying each
starts_stay : every 128 (λ b. not (is_plain_start b) || (is_plain b && not (ends_name b))) ≡ true
unfolding every is_space
starts_stay = refl

others_stay : every 128 (λ b. not (is_plain_further b) || (is_plain b && not (ends_name b))) ≡ true
unfolding every is_space
others_stay = refl

start_stays : (b : ℕ) → is_plain_start b ≡ true → (is_plain b && not (ends_name b)) ≡ true
start_stays b h =
    implies (is_plain_start b) (is_plain b && not (ends_name b)) (every_at 128 b (λ c. not (is_plain_start c) || (is_plain c && not (ends_name c))) starts_stay (start_small b h)) h

further_stays : (b : ℕ) → is_plain_further b ≡ true → (is_plain b && not (ends_name b)) ≡ true
further_stays b h =
    implies (is_plain_further b) (is_plain b && not (ends_name b)) (every_at 128 b (λ c. not (is_plain_further c) || (is_plain c && not (ends_name c))) others_stay (further_small b h)) h

all_stay : (bytes : List ℕ) → list_all is_plain_further bytes ≡ true → list_all (λ b. is_plain b && not (ends_name b)) bytes ≡ true
all_stay [] h = refl
all_stay (b ∷ bytes) h =
    let t = and_parts (is_plain_further b) (list_all is_plain_further bytes) h in
    ap (λ u. u && list_all (λ c. is_plain c && not (ends_name c)) bytes) (further_stays b t.0) ∙ all_stay bytes t.1

pub name_stays : (name : List ℕ) → is_plain_name name ≡ true → list_all (λ b. is_plain b && not (ends_name b)) name ≡ true
name_stays [] h = absurd (false≢true h)
name_stays (b ∷ bytes) h =
    let t = and_parts (is_plain_start b) (list_all is_plain_further bytes) h in
    ap (λ u. u && list_all (λ c. is_plain c && not (ends_name c)) bytes) (start_stays b t.0) ∙ all_stay bytes t.1

-- so the name ends at the `>` behind it, and all is plain
pub one_more : (t : Bool) (k n : ℕ) → t ≡ true → k ≡ n → cond t (1 + k) 0 ≡ suc n
one_more t k n h e = let next : 1 + k ≡ suc n = omega (arith, e) in ap (λ u. cond u (1 + k) 0) h ∙ next

ends_behind : (name : List ℕ) → list_all (λ b. is_plain b && not (ends_name b)) name ≡ true →
    position_or_len ends_name (name ++ byte ">" ∷ []) ≡ length name
unfolding is_space
ends_behind [] h = refl
ends_behind (b ∷ name) h =
    let t = and_parts (is_plain b && not (ends_name b)) (list_all (λ c. is_plain c && not (ends_name c)) name) h in
    let stays = (and_parts (is_plain b) (not (ends_name b)) t.0).1 in
    one_more (not (ends_name b)) (position_or_len ends_name (name ++ byte ">" ∷ [])) (length name) stays (ends_behind name t.1)

all_plain : (name : List ℕ) → list_all (λ b. is_plain b && not (ends_name b)) name ≡ true →
    prefix_len is_plain (name ++ byte ">" ∷ []) ≡ length (name ++ byte ">" ∷ [])
all_plain [] h = refl
all_plain (b ∷ name) h =
    let t = and_parts (is_plain b && not (ends_name b)) (list_all (λ c. is_plain c && not (ends_name c)) name) h in
    let plain = (and_parts (is_plain b) (not (ends_name b)) t.0).0 in
    one_more (is_plain b) (prefix_len is_plain (name ++ byte ">" ∷ [])) (length (name ++ byte ">" ∷ [])) plain (all_plain name t.1)

-- the bytes of such a tag, as a list
with_last : (n : ℕ) (xs : List ℕ) → length xs ≡ suc n → xs ≡ take n xs ++ get_or xs n 0 ∷ []
with_last n [] h = absurd (omega (arith, h))
with_last zero (x ∷ []) h = refl
with_last (suc n) (x ∷ []) h = absurd (omega (arith, h))
with_last zero (x ∷ y ∷ xs) h = absurd (omega (arith, h))
with_last (suc n) (x ∷ y ∷ xs) h = ap (λ (ys : List ℕ). x ∷ ys) (with_last n (y ∷ xs) (omega (arith, h)))

written_as : (bytes name : List ℕ) → IsPlainTag bytes name → bytes ≡ byte "<" ∷ name ++ byte ">" ∷ []
written_as [] name h = absurd (let long : 2 ≤ 0 = h.long in omega (arith, long))
written_as (b ∷ []) name h = absurd (let long : 2 ≤ 1 = h.long in omega (arith, long))
written_as (b ∷ c ∷ xs) name h =
    let whole : c ∷ xs ≡ take (length xs) (c ∷ xs) ++ get_or (c ∷ xs) (length xs) 0 ∷ [] = with_last (length xs) (c ∷ xs) refl in
    let at_end : length (b ∷ c ∷ xs) - 1 ≡ suc (length xs) = omega arith in
    let last : get_or (c ∷ xs) (length xs) 0 ≡ byte ">" = sym (ap (λ (k : ℕ). get_or (b ∷ c ∷ xs) k 0) at_end) ∙ h.last in
    let inner : length (b ∷ c ∷ xs) - 2 ≡ length xs = omega arith in
    ap (λ (ys : List ℕ). b ∷ ys) whole
    ∙ ap (λ (k : ℕ). b ∷ take (length xs) (c ∷ xs) ++ k ∷ []) last
    ∙ ap (λ (k : ℕ). k ∷ take (length xs) (c ∷ xs) ++ byte ">" ∷ []) h.first
    ∙ ap (λ (ys : List ℕ). byte "<" ∷ ys ++ byte ">" ∷ []) (sym (h.between ∙ ap (λ (k : ℕ). take k (c ∷ xs)) inner))

take_front : (xs ys : List ℕ) → take (length xs) (xs ++ ys) ≡ xs
take_front [] ys = refl
take_front (x ∷ xs) ys = ap (λ (zs : List ℕ). x ∷ zs) (take_front xs ys)

drop_front : (xs ys : List ℕ) → drop (length xs) (xs ++ ys) ≡ ys
drop_front [] ys = refl
drop_front (x ∷ xs) ys = drop_front xs ys

named : (name : List ℕ) → is_plain_name name ≡ true → start_name (byte "<" ∷ name ++ byte ">" ∷ []) ≡ name
unfolding written_name
named name h =
    ap (λ (k : ℕ). take k (name ++ byte ">" ∷ [])) (ends_behind name (name_stays name h)) ∙ take_front name (byte ">" ∷ [])

without_attributes : (at : ℕ) (name : List ℕ) → is_plain_name name ≡ true → tag_attributes at (byte "<" ∷ name ++ byte ">" ∷ []) ≡ []
unfolding tag_attributes is_space
without_attributes at name h =
    let bytes = byte "<" ∷ name ++ byte ">" ∷ [] in
    let next : 1 + length name ≡ suc (length name) = omega arith in
    ap (λ (n : List ℕ). attributes_from 0 (at + (1 + length n)) (drop (1 + length n) bytes)) (named name h)
    ∙ ap (λ (k : ℕ). attributes_from 0 (at + (1 + length name)) (drop k bytes)) next
    ∙ ap (λ (xs : List ℕ). attributes_from 0 (at + (1 + length name)) xs) (drop_front name (byte ">" ∷ []))
    ∙ none_among (at + (1 + length name)) (byte ">" ∷ []) refl

pub no_attributes : (at : ℕ) (bytes name : List ℕ) → IsPlainTag bytes name → tag_attributes at bytes ≡ []
no_attributes at bytes name h = ap (tag_attributes at) (written_as bytes name h) ∙ without_attributes at name h.plain

pub no_declarations : (token : Token) (name : List ℕ) (own : List Binding) → IsPlainTag token.bytes name → own ≡ [] → own ≡ own_bindings token
no_declarations token name own h o = bare_own token own (no_attributes token.from token.bytes name h) o

-- the name of its element
pub plain_resolved : (scope : List Binding) (uri written : List ℕ) → is_plain_name written ≡ true → Some uri ≡ element_uri scope [] →
    Named (record { ns = uri; local = written }) ≡ element_resolved false scope written
unfolding element_resolved
plain_resolved scope uri written h e =
    let t = plain_parts written h in
    sym (ap (λ (u : Bool). cond (not u) (flawed_as BadName written) (declared_or_flaw (expand_element scope written) written)) t.0
    ∙ ap (λ (p : List ℕ). declared_or_flaw (named_by (element_uri scope p) (local_of written)) written) (sym t.1)
    ∙ ap (λ (l : List ℕ). declared_or_flaw (named_by (element_uri scope []) l) written) (sym t.2)
    ∙ ap (λ o. declared_or_flaw (named_by o written) written) (sym e))

pub plain_name_is : (bytes name : List ℕ) → IsPlainTag bytes name → start_name bytes ≡ name
plain_name_is bytes name h = ap start_name (written_as bytes name h) ∙ named name h.plain

-- all that it gives
pub plain_open : (before new : List Item) (state : EventState) (token : Token) (written : List ℕ) (name : Name) → IsPlainTag token.bytes written →
    is_behind state ≡ false → Named name ≡ element_resolved false state.scope written →
    new ≡ before ++ items.Event (Enter name) (token_span token) ∷ [] → new ≡ open_items before state token
plain_open before new state token written name h behind resolved n =
    let bytes = written_as token.bytes written h in
    let stay = name_stays written h.plain in
    let plain : prefix_len is_plain token.bytes ≡ length token.bytes =
    ap (prefix_len is_plain) bytes
    ∙ one_more (is_plain (byte "<")) (prefix_len is_plain (written ++ byte ">" ∷ [])) (length (written ++ byte ">" ∷ [])) refl (all_plain written stay)
    ∙ sym (ap length bytes) in
    let start = plain_name_is token.bytes written h in
    let element : Named name ≡ element_resolved (is_behind state) (state.scope ++ []) (start_name token.bytes) =
    resolved
    ∙ ap (λ t. element_resolved t state.scope written) (sym behind)
    ∙ ap (λ (s : List Binding). element_resolved (is_behind state) s written) (sym (append-nil state.scope))
    ∙ ap (λ (w : List ℕ). element_resolved (is_behind state) (state.scope ++ []) w) (sym start) in
    bare_open before before new state token [] (no_attributes token.from token.bytes written h) refl
    (plain_told Value token.from token.bytes before plain)
    (n ∙ ap (λ (r : Resolved). before ++ element_items (token_span token) r) element)
