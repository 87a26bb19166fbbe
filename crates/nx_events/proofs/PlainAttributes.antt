-- Start tags with one or two attributes of which one look tells what they give.
use Rattle.std.proofs.Common.{◌≡◌, ℕ, zero, suc, ◌+◌, ◌-◌, ◌<◌, ◌≤◌, Bool, true, false, cond, Some, None, List, [], ◌∷◌, ◌++◌, length, length-drop, map, take, drop, get_or, refl, ap, sym, ◌∙◌, subst, arith, append_assoc, codes, IsUtf8}
use Rattle.std.specs.Prelude.{◌&&◌, ◌||◌, not, nat_eq, unwrap_or}
use Rattle.std.specs.List.{AllByRecursion, prefix_len, starts_with, list_all, position_or_len, before_first, after_first}
use Rattle.std.specs.Str.{IsAscii, bytes_eq}
use Rattle.std.proofs.lemmas.Bool.{lt-ltb, and_parts, not-true}
use Rattle.std.proofs.lemmas.Bool.Decides.{Decides-eqb, nat_tests}
use Rattle.std.proofs.lemmas.Grind.{common_steps}
use Rattle.std.proofs.lemmas.List.{append-nil, take_rest, get_or-take}
use Rattle.std.proofs.lemmas.List.Sums.{position_or_len_is}
use Rattle.std.proofs.lemmas.Slice.Eq.{starts_is}
use Rattle.std.proofs.lemmas.Str.{IsUtf8-from_ascii}
use Rattle.std.proofs.lemmas.Str.Ascii.{IsAscii-nil, IsAscii-cons}
use Rattle.nx_base.specs.declared.fault.Fault.{Fault}
use Rattle.nx_base.specs.declared.fault.Kind.TheVariants.{BadName, DuplicateAttribute}
use Rattle.nx_base.specs.declared.fault.Span.{Span}
use Rattle.nx_base.specs.declared.name.Name.{Name}
use Rattle.nx_base.specs.declared.token.Token.{Token}
use Rattle.nx_base.specs.declared.token.TokenKind.TheVariants as kinds
use Rattle.nx_events.specs.Among.{faults_among}
use Rattle.nx_base.specs.Characters.{is_space}
use Rattle.nx_events.specs.ByteClasses.{AllBetween, goes_on_name, IsBeforeSign}
use Rattle.nx_events.specs.Declarations.{is_declaration, declaration_flaw, flaw_faults, binding_unless, faults_at, bindings_at, declaration_faults, bindings}
use Rattle.nx_events.specs.Elements.{flawed_as, declared_or_flaw, element_resolved, element_items, has_name, new_or_flaw, attribute_resolved, resolved_if_attribute, attribute_declared, attribute_item, kept_name, attribute_items}
use Rattle.nx_events.specs.Faults.{faults_as_items}
use Rattle.nx_events.specs.Items.{token_span, is_behind, own_bindings, opened, items_of_token}
use Rattle.nx_events.specs.Names.{is_qname, is_ncname, is_colon, has_colon, prefix_of, local_of}
use Rattle.nx_events.specs.OpenItems.{open_items}
use Rattle.nx_events.specs.Plain.{is_plain}
use Rattle.nx_events.specs.PlainAttributes.{attribute_name, attribute_event, namespace_if, IsPlainOpening, IsNameOf, IsFront, IsReadAs, AreReadAs}
use Rattle.nx_events.specs.PlainNames.{is_plain_name}
use Rattle.nx_events.specs.PlainTokens.{unprefixed_name, element_begun}
use Rattle.nx_events.specs.Runs.{run_items}
use Rattle.nx_events.specs.Scopes.{xml_uri, last_uri, bound_uri, attribute_uri, named_by, expand_attribute}
use Rattle.nx_events.specs.Tags.{is_between, ends_name, written_name, written_value, quote_place, value_len, attribute_len, begins_attribute, attribute_at, front_attribute, front_len, attributes_from, start_name, tag_attributes}
use Rattle.nx_events.specs.declared.flaw.Resolved.{Resolved}
use Rattle.nx_events.specs.declared.flaw.Resolved.TheVariants.{Named}
use Rattle.nx_events.specs.declared.item.Item.{Item}
use Rattle.nx_events.specs.declared.item.Item.TheVariants as items
use Rattle.nx_events.specs.declared.item.Event.TheVariants.{Enter, Att, TagEnd}
use Rattle.nx_events.specs.declared.plain_opening.PlainAttribute.{PlainAttribute}
use Rattle.nx_events.specs.declared.reading.Reading.TheVariants.{Value}
use Rattle.nx_events.specs.declared.scope.Binding.{Binding}
use Rattle.nx_events.specs.declared.state.EventState.{EventState}
use Rattle.nx_events.specs.declared.tag.Attribute.{Attribute}
use Rattle.nx_events.proofs.OpenItems.{start_tags_go_on, resolved_is}
use Rattle.nx_events.proofs.PlainNames.{plain_name, plain_parts}
use Rattle.nx_events.proofs.PlainRuns.{plain_told, plain_string_of}
use Rattle.nx_events.proofs.PlainTags.{plain_resolved, one_more, name_stays}
use Rattle.nx_events.proofs.PlainTokens.{gives_by, leads_by, default_uri, behind_run}
use Rattle.nx_events.proofs.Tags.{none_between, none_among, attributes_step, tag_of_some}

-- ---- names

plain_declared : (scope : List Binding) (written : List ℕ) → is_plain_name written ≡ true → attribute_declared scope written ≡ Named (record { ns = []; local = written })
unfolding attribute_declared attribute_uri
plain_declared scope written h =
    let t = plain_parts written h in
    ap (λ (u : Bool). cond (not u) (flawed_as BadName written) (declared_or_flaw (expand_attribute scope written) written)) t.0
    ∙ ap (λ (p : List ℕ). declared_or_flaw (named_by (attribute_uri scope p) (local_of written)) written) (sym t.1)
    ∙ ap (λ (l : List ℕ). declared_or_flaw (named_by (Some []) l) written) (sym t.2)

xml_declared : (scope : List Binding) (local : List ℕ) → is_plain_name local ≡ true → attribute_declared scope (codes "xml:" ++ local) ≡ Named (record { ns = xml_uri; local = local })
unfolding attribute_declared attribute_uri bound_uri is_qname prefix_of local_of
xml_declared scope local h =
    let written = codes "xml:" ++ local in
    let colon : has_colon written ≡ true = lt-ltb 3 (length written) (omega arith) in
    let by : Bool → Resolved = λ t. cond (not t) (flawed_as BadName written) (Named (record { ns = xml_uri; local = local })) in
    ap (λ t. let prefix = cond t (before_first is_colon written) [] in let rest = cond t (after_first is_colon written) written in
    cond (not ((not t || is_ncname prefix) && is_ncname rest)) (flawed_as BadName written) (declared_or_flaw (named_by (attribute_uri scope prefix) rest) written)) colon
    ∙ ap (λ t. by (t && is_ncname local)) (plain_name (codes "xml") refl) ∙ ap by (plain_name local h)

pub plain_named : (written : List ℕ) (it : PlainAttribute) → is_declaration written ≡ false → is_plain_name written ≡ true → it.is_xml ≡ false → it.local.now ≡ written → IsNameOf written it
plain_named written it d h x l = record {
  no_declaration = d;
  declared = λ scope. plain_declared scope written h ∙ ap Named (sym (ap (λ t. record { ns = namespace_if t; local = it.local.now }) x ∙ ap (λ n. record { ns = []; local = n }) l));
}

pub xml_named : (written : List ℕ) (it : PlainAttribute) → is_declaration written ≡ false → starts_with nat_eq written (codes "xml:") ≡ true →
    is_plain_name it.local.now ≡ true → it.is_xml ≡ true → it.local.now ≡ take (length written - 4) (drop 4 written) → IsNameOf written it
xml_named written it d s h x l =
    let local : it.local.now ≡ drop 4 written = l ∙ take_rest written 4 in
    let whole : written ≡ codes "xml:" ++ it.local.now =
    (starts_is Decides-eqb written (codes "xml:") (starts_with nat_eq written (codes "xml:")) refl).0 s ∙ ap (λ (ys : List ℕ). codes "xml:" ++ ys) (sym local) in
    record {
      no_declaration = d;
      declared = λ scope. ap (attribute_declared scope) whole ∙ xml_declared scope it.local.now h
          ∙ ap (λ t. Named (record { ns = namespace_if t; local = it.local.now })) (sym x);
    }

-- no byte of these names ends a name
each_goes_on : (xs : List ℕ) → list_all (λ b. is_plain b && not (ends_name b)) xs ≡ true → AllBetween goes_on_name xs 0 (length xs)
each_goes_on [] h k from to = absurd (omega (arith, to))
each_goes_on (b ∷ xs) h zero from to = (and_parts (is_plain b) (not (ends_name b)) (and_parts (is_plain b && not (ends_name b)) (list_all (λ b. is_plain b && not (ends_name b)) xs) h).0).1
each_goes_on (b ∷ xs) h (suc k) from to =
    each_goes_on xs (and_parts (is_plain b && not (ends_name b)) (list_all (λ b. is_plain b && not (ends_name b)) xs) h).1 k (omega arith) (omega (arith, to))

pub plain_goes_on : (name : List ℕ) → is_plain_name name ≡ true → AllBetween goes_on_name name 0 (length name)
plain_goes_on name h = each_goes_on name (name_stays name h)

pub xml_goes_on : (written local : List ℕ) → starts_with nat_eq written (codes "xml:") ≡ true → is_plain_name local ≡ true →
    local ≡ take (length written - 4) (drop 4 written) → AllBetween goes_on_name written 0 (length written)
unfolding is_space
xml_goes_on written local s h l =
    let whole : written ≡ codes "xml:" ++ local =
    (starts_is Decides-eqb written (codes "xml:") (starts_with nat_eq written (codes "xml:")) refl).0 s ∙ ap (λ (ys : List ℕ). codes "xml:" ++ ys) (sym (l ∙ take_rest written 4)) in
    let P : List ℕ → Type 0 = λ xs. AllBetween goes_on_name xs 0 (length xs) in
    subst P (sym whole) (each_goes_on (codes "xml:" ++ local) (name_stays local h))

-- so it ends where `=` stands
pub ends_at_sign : (spelled name : List ℕ) → IsBeforeSign spelled name → AllBetween goes_on_name name 0 (length name) → name ≡ written_name spelled
unfolding written_name is_space
ends_at_sign spelled name h each =
    let ends : position_or_len ends_name spelled ≡ length name =
    position_or_len_is ends_name spelled (length name) 0 (omega (arith, h.within))
    (λ k less. ap ends_name (sym (get_or-take (length name) spelled k 0 less) ∙ sym (ap (λ (xs : List ℕ). get_or xs k 0) h.is)) ∙ not-true _ (each k (omega arith) less))
    (λ _. ap ends_name h.sign) in
    h.is ∙ ap (λ (k : ℕ). take k spelled) (sym ends)

-- two names apart
pub apart_by_prefix : (a b : PlainAttribute) → (a.is_xml ≡ b.is_xml → ⊥) → has_name (attribute_name a ∷ []) (attribute_name b) ≡ false
apart_by_prefix a b h = by_tests a.is_xml b.is_xml refl refl
  where
    by_tests : (s t : Bool) → a.is_xml ≡ s → b.is_xml ≡ t → has_name (attribute_name a ∷ []) (attribute_name b) ≡ false
    by_tests true true x y = absurd (h (x ∙ sym y))
    by_tests false false x y = absurd (h (x ∙ sym y))
    by_tests true false x y = rw (x, y) refl
    by_tests false true x y = rw (x, y) refl

and_no : (s t : Bool) → t ≡ false → ((s && t) || false) ≡ false
and_no true t h = ap (λ u. u || false) h
and_no false t h = refl

pub apart_by_local : (a b : PlainAttribute) → bytes_eq a.local.now b.local.now ≡ false → has_name (attribute_name a ∷ []) (attribute_name b) ≡ false
apart_by_local a b h = and_no (bytes_eq (namespace_if a.is_xml) (namespace_if b.is_xml)) (bytes_eq a.local.now b.local.now) h

-- ---- plain bytes

first_passes : (t : Bool) (k n : ℕ) → cond t (1 + k) 0 ≡ suc n → t ≡ true
first_passes true k n h = refl
first_passes false k n h = absurd (omega (arith, h))

others_pass : (t : Bool) (k n : ℕ) → cond t (1 + k) 0 ≡ suc n → k ≡ n
others_pass true k n h = omega (arith, h)
others_pass false k n h = absurd (omega (arith, h))

pub drop_passes : (p : ℕ → Bool) (n : ℕ) (xs : List ℕ) → prefix_len p xs ≡ length xs → prefix_len p (drop n xs) ≡ length (drop n xs)
drop_passes p zero xs h = h
drop_passes p (suc n) [] h = refl
drop_passes p (suc n) (b ∷ xs) h = drop_passes p n xs (others_pass (p b) (prefix_len p xs) (length xs) h)

take_passes : (p : ℕ → Bool) (n : ℕ) (xs : List ℕ) → prefix_len p xs ≡ length xs → prefix_len p (take n xs) ≡ length (take n xs)
take_passes p zero xs h = refl
take_passes p (suc n) [] h = refl
take_passes p (suc n) (b ∷ xs) h =
    one_more (p b) (prefix_len p (take n xs)) (length (take n xs)) (first_passes (p b) (prefix_len p xs) (length xs) h)
    (take_passes p n xs (others_pass (p b) (prefix_len p xs) (length xs) h))

pub rest_passes : (p : ℕ → Bool) (n : ℕ) (xs : List ℕ) → prefix_len p xs ≡ length xs →
    prefix_len p (take (length xs - n) (drop n xs)) ≡ length (take (length xs - n) (drop n xs))
rest_passes p n xs h = take_passes p (length xs - n) (drop n xs) (drop_passes p n xs h)

plain_small : (b : ℕ) → is_plain b ≡ true → b < 128
plain_small b h = grind (arith, nat_tests)

plain_ascii : (xs : List ℕ) → prefix_len is_plain xs ≡ length xs → IsAscii xs
plain_ascii [] h = IsAscii-nil
plain_ascii (b ∷ xs) h =
    IsAscii-cons b xs (plain_small b (first_passes (is_plain b) (prefix_len is_plain xs) (length xs) h))
    (plain_ascii xs (others_pass (is_plain b) (prefix_len is_plain xs) (length xs) h))

-- ---- attributes, one at a time

pub front_read : (at : ℕ) (bytes : List ℕ) → is_between (get_or bytes 0 0) ≡ true → 0 < length bytes → begins_attribute (drop 1 bytes) ≡ true →
    0 < attribute_len (drop 1 bytes) → attribute_len (drop 1 bytes) ≤ length (drop 1 bytes) →
    attributes_from 0 at bytes ≡ attribute_at (at + 1) (drop 1 bytes) ∷ attributes_from 0 (at + 1 + attribute_len (drop 1 bytes)) (drop (1 + attribute_len (drop 1 bytes)) bytes)
unfolding front_attribute front_len
front_read at bytes between some begins positive within =
    let spelled = drop 1 bytes in
    let n = attribute_len spelled in
    let none = none_between bytes between in
    let one : 1 ≡ front_len bytes = sym (ap (λ t. cond t (attribute_len bytes) 1) none) in
    let more : n ≡ front_len spelled = sym (ap (λ t. cond t n 1) begins) in
    let behind : drop n spelled ≡ drop (1 + n) bytes = grind (arith, common_steps) in
    attributes_step at 1 bytes one (omega arith) (omega (arith, some))
    ∙ ap (λ (t : Bool). cond t (attribute_at at bytes ∷ []) [] ++ attributes_from 0 (at + 1) spelled) none
    ∙ attributes_step (at + 1) n spelled more positive within
    ∙ ap (λ (t : Bool). cond t (attribute_at (at + 1) spelled ∷ []) [] ++ attributes_from 0 (at + 1 + n) (drop n spelled)) begins
    ∙ ap (λ (ys : List ℕ). attribute_at (at + 1) spelled ∷ attributes_from 0 (at + 1 + n) ys) behind

pub front_found : (bytes spelled rest name : List ℕ) (it : PlainAttribute) (quote value : ℕ) → spelled ≡ take (length bytes - 1) (drop 1 bytes) → is_between (get_or bytes 0 0) ≡ true →
    begins_attribute spelled ≡ true → quote ≡ quote_place spelled → value ≡ value_len spelled → quote + value + 2 ≤ length spelled →
    name ≡ written_name spelled → IsNameOf name it → it.value.now ≡ take (quote + 1 + value - (quote + 1)) (drop (quote + 1) spelled) →
    rest ≡ take (length spelled - (quote + 1 + value + 1)) (drop (quote + 1 + value + 1) spelled) → IsFront bytes it rest
unfolding attribute_len written_value
front_found bytes spelled rest name it quote value s between begins q v within n named is r =
    let e : spelled ≡ drop 1 bytes = s ∙ take_rest bytes 1 in
    let size : quote + 1 + value + 1 ≡ quote_place spelled + value_len spelled + 2 = omega (arith, q, v) in
    let many : quote + 1 + value - (quote + 1) ≡ value_len spelled = omega (arith, v) in
    let P : List ℕ → Type 0 = λ xs. begins_attribute xs ≡ true in
    let Q : List ℕ → Type 0 = λ xs. quote_place xs + value_len xs + 2 ≤ length xs in
    let N : List ℕ → Type 0 = λ xs. IsNameOf xs it in
    let inside : Q (drop 1 bytes) = subst Q e (omega (arith, q, v, within)) in
    let some : 0 < length bytes = omega (arith, inside, length-drop 1 bytes) in
    let long = quote_place (drop 1 bytes) + value_len (drop 1 bytes) + 2 in
    let behind : drop long (drop 1 bytes) ≡ drop (1 + long) bytes = grind (arith, common_steps) in
    let left : rest ≡ drop (1 + long) bytes =
    r ∙ take_rest spelled (quote + 1 + value + 1) ∙ ap (λ (k : ℕ). drop k spelled) size ∙ ap (λ (xs : List ℕ). drop (quote_place xs + value_len xs + 2) xs) e ∙ behind in
    record {
      named = subst N (n ∙ ap written_name e) named;
      value = is ∙ ap (λ (k : ℕ). take k (drop (quote + 1) spelled)) many ∙ ap (λ (k : ℕ). take (value_len spelled) (drop (k + 1) spelled)) q
          ∙ ap (λ (xs : List ℕ). take (value_len xs) (drop (quote_place xs + 1) xs)) e;
      begins = left;
      read = λ at. front_read at bytes between some (subst P e begins) (omega arith) inside
          ∙ ap (λ (ys : List ℕ). attribute_at (at + 1) (drop 1 bytes) ∷ attributes_from 0 (at + 1 + long) ys) (sym left);
    }

value_plain : (bytes : List ℕ) → prefix_len is_plain bytes ≡ length bytes → prefix_len is_plain (written_value (drop 1 bytes)) ≡ length (written_value (drop 1 bytes))
unfolding written_value
value_plain bytes h =
    let spelled = drop 1 bytes in
    take_passes is_plain (value_len spelled) (drop (quote_place spelled + 1) spelled) (drop_passes is_plain (quote_place spelled + 1) spelled (drop_passes is_plain 1 bytes h))

front_is : (kept : List Name) (at : ℕ) (bytes rest : List ℕ) (it : PlainAttribute) → IsFront bytes it rest → prefix_len is_plain bytes ≡ length bytes →
    has_name kept (attribute_name it) ≡ false → IsReadAs kept (attribute_at at (drop 1 bytes)) it
unfolding attribute_at
front_is kept at bytes rest it h plain new =
    let value = written_value (drop 1 bytes) in
    let stands = value_plain bytes plain in
    record {
      named = h.named;
      string = sym (plain_string_of Value value stands) ∙ sym h.value;
      text = subst (λ xs. IsUtf8 xs) (sym h.value) (IsUtf8-from_ascii value (plain_ascii value stands));
      new = new;
    }

pub one_read : (at : ℕ) (bytes rest : List ℕ) (it : PlainAttribute) → prefix_len is_plain bytes ≡ length bytes → IsFront bytes it rest → list_all is_between rest ≡ true →
    AreReadAs [] (attributes_from 0 at bytes) (it ∷ [])
one_read at bytes rest it plain h over =
    let spelled = drop 1 bytes in
    let first = attribute_at (at + 1) spelled in
    let P : List Attribute → Type 0 = λ all. AreReadAs [] all (it ∷ []) in
    let is : attributes_from 0 at bytes ≡ first ∷ [] =
    h.read at ∙ ap (λ (ys : List Attribute). first ∷ ys) (none_among (at + 1 + attribute_len spelled) rest over) in
    subst P (sym is) (front_is [] (at + 1) bytes rest it h plain refl, tt)

pub two_read : (at : ℕ) (bytes rest left : List ℕ) (it other : PlainAttribute) → prefix_len is_plain bytes ≡ length bytes → IsFront bytes it rest → IsFront rest other left →
    list_all is_between left ≡ true → has_name (attribute_name it ∷ []) (attribute_name other) ≡ false → AreReadAs [] (attributes_from 0 at bytes) (it ∷ other ∷ [])
two_read at bytes rest left it other plain h g over apart =
    let spelled = drop 1 bytes in
    let next = at + 1 + attribute_len spelled in
    let first = attribute_at (at + 1) spelled in
    let second = attribute_at (next + 1) (drop 1 rest) in
    let P : List Attribute → Type 0 = λ all. AreReadAs [] all (it ∷ other ∷ []) in
    let Q : List ℕ → Type 0 = λ xs. prefix_len is_plain xs ≡ length xs in
    let rest_plain : Q rest = subst Q (sym h.begins) (drop_passes is_plain (1 + attribute_len spelled) bytes plain) in
    let is : attributes_from 0 at bytes ≡ first ∷ second ∷ [] =
    h.read at ∙ ap (λ (ys : List Attribute). first ∷ ys)
    (g.read next ∙ ap (λ (ys : List Attribute). second ∷ ys) (none_among (next + 1 + attribute_len (drop 1 rest)) left over)) in
    subst P (sym is)
    (front_is [] (at + 1) bytes rest it h plain refl, (front_is (attribute_name it ∷ []) (next + 1) rest left other g rest_plain apart, tt))

-- ---- what they give

resolves : (scope : List Binding) (kept : List Name) (read : Attribute) (it : PlainAttribute) → IsReadAs kept read it → resolved_if_attribute scope kept read ≡ Some (Named (attribute_name it))
unfolding resolved_if_attribute new_or_flaw
resolves scope kept read it h =
    ap (λ t. cond t None (Some (attribute_resolved scope kept read.name))) h.named.no_declaration
    ∙ ap Some (sym (resolved_is scope kept read.name) ∙ ap (λ r. new_or_flaw kept r read.name) (h.named.declared scope)
    ∙ ap (λ t. cond t (flawed_as DuplicateAttribute read.name) (Named (attribute_name it))) h.new)

record Given (scope : List Binding) (kept : List Name) (all : List Attribute) (its : List PlainAttribute) : Type 0 where
  spanned : List (PlainAttribute × Span)
  are : map (λ (it : PlainAttribute × Span). it.0) spanned ≡ its
  items : attribute_items scope kept all ≡ map attribute_event spanned

given : (scope : List Binding) (kept : List Name) (all : List Attribute) (its : List PlainAttribute) → AreReadAs kept all its → Given scope kept all its
unfolding attribute_items
given scope kept [] [] h = record { spanned = []; are = refl; items = refl }
given scope kept [] (it ∷ more) h = absurd h
given scope kept (read ∷ others) [] h = absurd h
given scope kept (read ∷ others) (it ∷ more) h =
    let name = attribute_name it in
    let rest = given scope (kept ++ name ∷ []) others more h.1 in
    record {
      spanned = (it, read.value) ∷ rest.spanned;
      are = ap (λ (ys : List PlainAttribute). it ∷ ys) rest.are;
      items = ap (λ r. attribute_item read r ++ attribute_items scope (kept ++ kept_name r) others) (resolves scope kept read it h.0)
          ∙ ap (λ (string : List ℕ). items.Event (Att name string) read.value ∷ attribute_items scope (kept ++ name ∷ []) others) h.0.string
          ∙ ap (λ (ys : List Item). attribute_event (it, read.value) ∷ ys) rest.items;
    }

no_faults : (kept : List Name) (before all : List Attribute) (its : List PlainAttribute) → AreReadAs kept all its → declaration_faults before all ≡ []
unfolding declaration_faults faults_at
no_faults kept before [] its h = refl
no_faults kept before (read ∷ others) [] h = absurd h
no_faults kept before (read ∷ others) (it ∷ more) h =
    ap (λ t. cond t (flaw_faults read.span (declaration_flaw before read)) [] ++ declaration_faults (before ++ read ∷ []) others) h.0.named.no_declaration
    ∙ no_faults (kept ++ attribute_name it ∷ []) (before ++ read ∷ []) others more h.1

no_pairs : (kept : List Name) (before all : List Attribute) (its : List PlainAttribute) → AreReadAs kept all its → bindings before all ≡ []
unfolding bindings bindings_at
no_pairs kept before [] its h = refl
no_pairs kept before (read ∷ others) [] h = absurd h
no_pairs kept before (read ∷ others) (it ∷ more) h =
    ap (λ t. cond t (binding_unless read (declaration_flaw before read)) [] ++ bindings (before ++ read ∷ []) others) h.0.named.no_declaration
    ∙ no_pairs (kept ++ attribute_name it ∷ []) (before ++ read ∷ []) others more h.1

all_text : (kept : List Name) (all : List Attribute) (its : List PlainAttribute) → AreReadAs kept all its → AllByRecursion (λ (it : PlainAttribute). IsUtf8 it.value.now) its
all_text kept all [] h = tt
all_text kept [] (it ∷ more) h = absurd h
all_text kept (read ∷ others) (it ∷ more) h = (h.0.text, all_text (kept ++ attribute_name it ∷ []) others more h.1)

-- the tag: its name, and that nothing is wrong with its bytes
record IsOpening (state : EventState) (token : Token) (written : List ℕ) (its : List PlainAttribute) : Type 0 where
  plain : prefix_len is_plain token.bytes ≡ length token.bytes
  in_front : is_behind state ≡ false
  name : start_name token.bytes ≡ written
  named : is_plain_name written ≡ true
  read : AreReadAs [] (tag_attributes token.from token.bytes) its

opening_items : (state : EventState) (token : Token) (written : List ℕ) (its : List PlainAttribute) (h : IsOpening state token written its) →
    open_items (run_items token.from state.run) state token
    ≡ run_items token.from state.run ++ (items.Event (Enter (unprefixed_name state.scope written)) (token_span token)
    ∷ map attribute_event (given state.scope [] (tag_attributes token.from token.bytes) its h.read).spanned)
opening_items state token written its h =
    let run = run_items token.from state.run in
    let scope = state.scope in
    let span = token_span token in
    let read = tag_attributes token.from token.bytes in
    let enter : Item = items.Event (Enter (unprefixed_name scope written)) span in
    let element : List Binding → Bool → List ℕ → List Item = λ own behind name. element_items span (element_resolved behind (scope ++ own) name) in
    let rest : List Binding → List Item = λ own. attribute_items (scope ++ own) [] read in
    let declared = faults_as_items (declaration_faults [] read) in
    let own = own_bindings token in
    let behind = is_behind state in
    let name = start_name token.bytes in
    let resolved : element_resolved false (scope ++ []) written ≡ Named (unprefixed_name scope written) =
    ap (λ (s : List Binding). element_resolved false s written) (append-nil scope)
    ∙ sym (plain_resolved scope (unwrap_or (last_uri scope []) []) written h.named (default_uri scope)) in
    ap (λ (ys : List Item). ys ++ declared ++ element own behind name ++ rest own) (sym (plain_told Value token.from token.bytes run h.plain))
    ∙ ap (λ (fs : List Fault). run ++ faults_as_items fs ++ element own behind name ++ rest own) (no_faults [] [] read its h.read)
    ∙ ap (λ (ys : List Item). ys ++ element own behind name ++ rest own) (append-nil run)
    ∙ ap (λ (bs : List Binding). run ++ element bs behind name ++ rest bs) (no_pairs [] [] read its h.read)
    ∙ ap (λ (t : Bool). run ++ element [] t name ++ rest []) h.in_front
    ∙ ap (λ (w : List ℕ). run ++ element [] false w ++ rest []) h.name
    ∙ ap (λ (r : Resolved). run ++ element_items span r ++ rest []) resolved
    ∙ ap (λ (s : List Binding). run ++ (enter ∷ []) ++ attribute_items s [] read) (append-nil scope)
    ∙ ap (λ (ys : List Item). run ++ (enter ∷ []) ++ ys) (given scope [] read its h.read).items
    ∙ append_assoc run (enter ∷ []) _

opening_leads : (state : EventState) (token : Token) (written : List ℕ) (its : List PlainAttribute) → IsOpening state token written its → opened state token ≡ element_begun state written
opening_leads state token written its h =
    let own : own_bindings token ≡ [] = no_pairs [] [] (tag_attributes token.from token.bytes) its h.read in
    let to : List ℕ → List Binding → EventState = λ name scope. record state {
      elements = state.elements ++ (record { written = name; outer = length state.scope }) ∷ [];
      scope = scope;
      came = true;
      started = true;
      run = None;
    } in
    ap (λ name. to name (state.scope ++ own_bindings token)) h.name
    ∙ ap (λ (more : List Binding). to written (state.scope ++ more)) own
    ∙ ap (to written) (append-nil state.scope)

-- the name, as the code cuts it off
name_is : (bytes : List ℕ) (m : ℕ) → m ≡ position_or_len ends_name (take (length bytes - 1) (drop 1 bytes)) → take (1 + m - 1) (drop 1 bytes) ≡ start_name bytes
unfolding written_name
name_is bytes m e =
    let less : 1 + m - 1 ≡ m = omega arith in
    ap (λ (k : ℕ). take k (drop 1 bytes)) (less ∙ e ∙ ap (position_or_len ends_name) (take_rest bytes 1))

pub plain_opening_is : (state : EventState) (token : Token) (bytes written : List ℕ) (m : ℕ) (its : List PlainAttribute) → bytes ≡ token.bytes →
    prefix_len is_plain bytes ≡ length bytes → is_behind state ≡ false → m ≡ position_or_len ends_name (take (length bytes - 1) (drop 1 bytes)) →
    written ≡ take (1 + m - 1) (drop 1 bytes) → is_plain_name written ≡ true →
    ((at : ℕ) → AreReadAs [] (attributes_from 0 at (take (length bytes - (1 + m)) (drop (1 + m) bytes))) its) →
    token.kind ≡ kinds.Start → IsPlainOpening state token written its
plain_opening_is state token bytes written m its b plain front place cut is_named read kind =
    let Q : List ℕ → Type 0 = λ xs. prefix_len is_plain xs ≡ length xs in
    let R : List Attribute → Type 0 = λ all. AreReadAs [] all its in
    let name : written ≡ start_name bytes = cut ∙ name_is bytes m place in
    let same : attributes_from 0 (token.from + (1 + m)) (take (length bytes - (1 + m)) (drop (1 + m) bytes)) ≡ tag_attributes token.from token.bytes =
    tag_of_some token.from m bytes place ∙ ap (tag_attributes token.from) b in
    let h : IsOpening state token written its = record {
      plain = subst Q b plain;
      in_front = front;
      name = ap start_name (sym b) ∙ sym name;
      named = is_named;
      read = subst R same (read (token.from + (1 + m)));
    } in
    let run = run_items token.from state.run in
    let all = given state.scope [] (tag_attributes token.from token.bytes) its h.read in
    let enter : Item = items.Event (Enter (unprefixed_name state.scope written)) (token_span token) in
    let end : Item = items.Event TagEnd (token_span token) in
    record {
      spanned = all.spanned;
      are = all.are;
      items = gives_by state token kinds.Start _ kind
          (start_tags_go_on state token ∙ ap (λ (ys : List Item). ys ++ end ∷ []) (opening_items state token written its h)
          ∙ append_assoc run (enter ∷ map attribute_event all.spanned) (end ∷ []));
      behind = leads_by state token kinds.Start _ kind (opening_leads state token written its h);
      text = all_text [] (tag_attributes token.from token.bytes) its h.read;
    }

-- it gives no fault
events_faultless : (all : List (PlainAttribute × Span)) (rest : List Item) → faults_among rest ≡ [] → faults_among (map attribute_event all ++ rest) ≡ []
events_faultless [] rest h = h
events_faultless (it ∷ all) rest h = events_faultless all rest h

pub opening_faultless : (state : EventState) (token : Token) (written : List ℕ) (its : List PlainAttribute) → IsPlainOpening state token written its → faults_among (items_of_token state token) ≡ []
opening_faultless state token written its h =
    ap faults_among h.items ∙ behind_run state token _ (events_faultless h.spanned (items.Event TagEnd (token_span token) ∷ []) refl)
