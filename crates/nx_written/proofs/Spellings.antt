-- Names that are written with the prefix that was chosen expand to what they are to be.
use Rattle.std.proofs.Common.{◌≡◌, ℕ, ◌<◌, Bool, true, false, cond, Option, Some, None, unwrap_or, List, [], ◌∷◌, ◌++◌, length, refl, sym, ◌∙◌, ap, subst, arith, append-nil, codes}
use Rattle.std.specs.Prelude.{◌&&◌, ◌||◌, ◌==◌, not, nat_eq}
use Rattle.std.specs.List.{list_all, starts_with}
use Rattle.std.specs.Str.{bytes_eq, IsUtf8, chars, is_utf8}
use lib.Utf8.{encodes}
use Rattle.std.proofs.lemmas.Bool.{and_parts, true≢false, eqb-true, eq-eqb, ne_eqb}
use Rattle.std.proofs.lemmas.Slice.Eq.{bytes_eq-Decides}
use Rattle.std.proofs.lemmas.Str.{IsUtf8-from_is_utf8, IsUtf8-append, chars-append, encodes-chars, chars-nil}
use Rattle.nx_base.specs.Characters.{is_name, is_nc_name, is_name_start, is_name_char, is_of_chars}
use Rattle.nx_base.specs.Form.{Spells}
use Rattle.nx_base.specs.Names.{xmlns_namespace, is_namespace, is_local, is_xml_name, is_attribute_name}
use Rattle.nx_base.specs.Tags.{name_form}
use Rattle.nx_base.specs.declared.name.Name.{Name}
use Rattle.nx_events.specs.Declarations.{is_declaration, is_bad_binding}
use Rattle.nx_events.specs.Names.{is_qname, prefix_of, local_of}
use Rattle.nx_events.specs.QualifiedNames.{IsNcName, unprefixed, prefixed}
use Rattle.nx_events.specs.Scopes.{or_else, xml_uri, last_uri, bound_uri, element_uri, attribute_uri, named_by, expand_element, expand_attribute}
use Rattle.nx_events.specs.SpelledTags.{IsName}
use Rattle.nx_events.specs.declared.scope.Binding.{Binding}
use Rattle.nx_events.proofs.FormWords.{AllPass, all_pass-append}
use Rattle.nx_events.proofs.QualifiedNames.{qnames_are_spelled}
use Rattle.nx_events.proofs.ReferenceForms.{name_all, name_spells, start_is_name}
use Rattle.nx_events.proofs.Scopes.{last_uri-append}
use Rattle.nx_events.proofs.TagForms.{NonePass, bytes_none}
use Rattle.nx_events.proofs.Texts.{ascii_one}
use Rattle.nx_written.specs.Naming.{IsNew, no_default, nothing, new_prefix, a_prefix, default_ended, NamesElement, NamesAttribute}
use Rattle.nx_written.specs.Spellings.{Serves, IsFree, list_of, IsChosen}
use Rattle.nx_written.specs.declared.spelling.Chosen.{Chosen}

-- ---- NCNames

not_true : (t : Bool) → not t ≡ true → t ≡ false
not_true true h = sym h
not_true false h = refl

abbrev is_58 : ℕ → Bool
is_58 c = c == 58

pass_all : (p : ℕ → Bool) (cs : List ℕ) → list_all p cs ≡ true → AllPass p cs
pass_all p [] h = tt
pass_all p (c ∷ cs) h = let t = and_parts (p c) (list_all p cs) h in (t.0, pass_all p cs t.1)

none_58 : (cs : List ℕ) → list_all (λ c. not (c == 58)) cs ≡ true → NonePass is_58 cs
none_58 [] h = tt
none_58 (c ∷ cs) h = let t = and_parts (not (c == 58)) (list_all (λ c. not (c == 58)) cs) h in (not_true (c == 58) t.0, none_58 cs t.1)

small_58 : (b : ℕ) → is_58 b ≡ true → b < 128
small_58 b h = let e = eqb-true b 58 h in omega (arith, e)

pub local_is : (name : List ℕ) → is_local name ≡ true → IsNcName name
local_is name h = on (chars name) refl
  where
    parts : (is_utf8 name ≡ true) × (is_nc_name (chars name) ≡ true)
    parts = and_parts (is_utf8 name) (is_nc_name (chars name)) h

    utf8 : IsUtf8 name
    utf8 = IsUtf8-from_is_utf8 name parts.0

    on : (cs : List ℕ) → chars name ≡ cs → IsNcName name
    on [] e = absurd (let bad : false ≡ true = sym (ap is_nc_name e) ∙ parts.1 in true≢false (sym bad))
    on (c ∷ cs) e =
        let both = and_parts (is_name (c ∷ cs)) (list_all (λ d. not (d == 58)) (c ∷ cs)) (sym (ap is_nc_name e) ∙ parts.1) in
        let first = and_parts (is_name_start c) (list_all is_name_char cs) both.0 in
        let whole : encodes (c ∷ cs) ≡ name = ap encodes (sym e) ∙ encodes-chars name utf8 in
        record {
          is_name = record { utf8 = utf8; spelled = subst (λ xs. Spells name_form xs) (sym e) (name_spells c cs first.0 (pass_all is_name_char cs first.1)) };
          no_colon = subst (λ xs. NonePass is_58 xs) whole (bytes_none is_58 (c ∷ cs) small_58 (none_58 (c ∷ cs) both.1));
        }

-- ---- qualified names

-- a name that is read as this prefix and this local part
record IsRead (written prefix local : List ℕ) : Type 0 where
  is_name : IsName written
  qualified : is_qname written ≡ true
  prefix_is : prefix ≡ prefix_of written
  local_is : local ≡ local_of written

read_plain : (local : List ℕ) → IsNcName local → IsRead local [] local
read_plain local h =
    let t = (qnames_are_spelled local [] local h.is_name.utf8).0 (unprefixed h refl refl) in
    record { is_name = h.is_name; qualified = t.0; prefix_is = t.1; local_is = t.2 }

colon_char : is_name_char 58 ≡ true
unfolding is_name_char is_name_start
colon_char = refl

colon_text : (local : List ℕ) → IsUtf8 local → IsUtf8 (58 ∷ local)
colon_text local u = IsUtf8-append (58 ∷ []) local (ascii_one 58 (omega arith)) u

colon_chars : (local : List ℕ) → IsUtf8 local → chars (58 ∷ local) ≡ 58 ∷ chars local
unfolding chars
colon_chars local u = chars-append (58 ∷ []) local (ascii_one 58 (omega arith))

joined_name : (prefix local : List ℕ) → IsName prefix → IsName local → IsName (prefix ++ 58 ∷ local)
joined_name prefix local p l =
    let t = name_all (chars prefix) p.spelled in
    let u = name_all (chars local) l.spelled in
    let rest : AllPass is_name_char (58 ∷ chars local) = (colon_char, subst (λ xs. AllPass is_name_char xs) (sym u.4) (start_is_name u.0 u.2, u.3)) in
    let all : chars (prefix ++ 58 ∷ local) ≡ t.0 ∷ (t.1 ++ 58 ∷ chars local) =
    chars-append prefix (58 ∷ local) p.utf8 ∙ ap (λ xs. chars prefix ++ xs) (colon_chars local l.utf8) ∙ ap (λ xs. xs ++ 58 ∷ chars local) t.4 in
    record {
      utf8 = IsUtf8-append prefix (58 ∷ local) p.utf8 (colon_text local l.utf8);
      spelled = subst (λ xs. Spells name_form xs) (sym all) (name_spells t.0 (t.1 ++ 58 ∷ chars local) t.2 (all_pass-append is_name_char t.1 (58 ∷ chars local) t.3 rest));
    }

read_joined : (prefix local : List ℕ) → IsNcName prefix → IsNcName local → IsRead (prefix ++ 58 ∷ local) prefix local
read_joined prefix local p l =
    let name = joined_name prefix local p.is_name l.is_name in
    let t = (qnames_are_spelled (prefix ++ 58 ∷ local) prefix local name.utf8).0 (prefixed p l refl) in
    record { is_name = name; qualified = t.0; prefix_is = t.1; local_is = t.2 }

-- ---- what they expand to

element_expands : (scope : List Binding) (written prefix local : List ℕ) (name : Name) → IsRead written prefix local → element_uri scope prefix ≡ Some name.ns → local ≡ name.local →
    expand_element scope written ≡ Some name
element_expands scope written prefix local name r uri e =
    ap (λ p. named_by (element_uri scope p) (local_of written)) (sym r.prefix_is) ∙ ap (λ o. named_by o (local_of written)) uri
    ∙ ap (λ l. Some (record { ns = name.ns; local = l })) (sym r.local_is ∙ e)

attribute_expands : (scope : List Binding) (written prefix local : List ℕ) (name : Name) → IsRead written prefix local → attribute_uri scope prefix ≡ Some name.ns → local ≡ name.local →
    expand_attribute scope written ≡ Some name
attribute_expands scope written prefix local name r uri e =
    ap (λ p. named_by (attribute_uri scope p) (local_of written)) (sym r.prefix_is) ∙ ap (λ o. named_by o (local_of written)) uri
    ∙ ap (λ l. Some (record { ns = name.ns; local = l })) (sym r.local_is ∙ e)

-- a prefix that isn't empty is looked up alike in both
some_prefix : (scope : List Binding) (prefix : List ℕ) → (prefix ≡ [] → ⊥) → (element_uri scope prefix ≡ bound_uri scope prefix) × (attribute_uri scope prefix ≡ bound_uri scope prefix)
unfolding element_uri attribute_uri
some_prefix scope [] n = absurd (n refl)
some_prefix scope (b ∷ prefix) n = (refl, refl)

not_empty : (prefix : List ℕ) → is_local prefix ≡ true → prefix ≡ [] → ⊥
not_empty prefix h e =
    let t = (and_parts (is_utf8 []) (is_nc_name (chars [])) (ap is_local (sym e) ∙ h)).1 in
    true≢false (sym t ∙ ap is_nc_name chars-nil)

local_of_name : (name : Name) → is_xml_name name ≡ true → IsNcName name.local
local_of_name name h = local_is name.local (and_parts (is_namespace name.ns) (is_local name.local) h).1

-- ---- what is chosen

pub chosen_old : (scope : List Binding) (prefix uri : List ℕ) → Serves scope prefix uri → IsChosen scope uri (record { prefix = prefix; declared = None })
chosen_old scope prefix uri s = record {
  declares = nothing;
  serves = subst (λ (xs : List Binding). Serves xs prefix uri) (sym (append-nil scope)) s;
}

legal_new : (prefix uri : List ℕ) → bytes_eq prefix (codes "xmlns") ≡ false → bytes_eq prefix (codes "xml") ≡ false → bytes_eq uri xml_uri ≡ false →
    bytes_eq uri xmlns_namespace ≡ false → (length uri == 0) ≡ false → is_bad_binding prefix uri ≡ false
unfolding is_bad_binding
legal_new prefix uri a b d e f = rw (a, b, d, e, f) (and_no (not (length prefix == 0)))
  where
    and_no : (t : Bool) → (t && false) ≡ false
    and_no true = refl
    and_no false = refl

some_length : (xs : List ℕ) → 0 < length xs → (length xs == 0) ≡ false
some_length [] h = absurd (omega (arith, h))
some_length (x ∷ xs) h = ne_eqb (length (x ∷ xs)) 0 (λ e. absurd (omega (arith, e, h)))

last_new : (scope : List Binding) (prefix uri : List ℕ) → last_uri (scope ++ (record { prefix = prefix; uri = uri }) ∷ []) prefix ≡ Some uri
unfolding last_uri
last_new scope prefix uri =
    last_uri-append scope ((record { prefix = prefix; uri = uri }) ∷ []) prefix
    ∙ ap (λ (t : Bool). or_else (or_else None (cond t (Some uri) None)) (last_uri scope prefix)) ((bytes_eq-Decides prefix prefix).1 refl)

pub chosen_new : (scope : List Binding) (prefix uri : List ℕ) (it : Binding) → IsFree scope prefix → is_namespace uri ≡ true → 0 < length uri →
    bytes_eq uri xml_uri ≡ false → it ≡ record { prefix = prefix; uri = uri } → IsChosen scope uri (record { prefix = prefix; declared = Some it })
unfolding bound_uri
chosen_new scope prefix uri it free namespace some no_xml e =
    let parts = and_parts (is_of_chars uri) (not (bytes_eq uri xmlns_namespace)) namespace in
    let own : Binding = record { prefix = prefix; uri = uri } in
    let new : IsNew scope own = record {
      prefix = local_is prefix free.form;
      unbound = free.unbound;
      legal = legal_new prefix uri free.no_declaration free.no_xml no_xml (not_true (bytes_eq uri xmlns_namespace) parts.1) (some_length uri some);
      of_chars = parts.0;
    } in
    let chosen : IsChosen scope uri (record { prefix = prefix; declared = Some own }) = record {
      declares = new_prefix new;
      serves = record {
        form = free.form;
        no_declaration = free.no_declaration;
        bound = ap (λ (t : Bool). cond t (Some xml_uri) (last_uri (scope ++ own ∷ []) prefix)) free.no_xml ∙ last_new scope prefix uri;
      };
    } in
    subst (λ (b : Binding). IsChosen scope uri (record { prefix = prefix; declared = Some b })) (sym e) chosen

-- ---- elements

no_length : (xs : List ℕ) → (length xs == 0) ≡ true → xs ≡ []
no_length [] h = refl
no_length (x ∷ xs) h = absurd (let e = eqb-true (length (x ∷ xs)) 0 h in omega (arith, e))

pub element_default : (scope : List Binding) (name : Name) (written uri : List ℕ) → is_xml_name name ≡ true → written ≡ name.local →
    Some uri ≡ element_uri scope [] → bytes_eq uri name.ns ≡ true → NamesElement scope name written []
element_default scope name written uri h e default same =
    let own : IsRead name.local [] name.local = read_plain name.local (local_of_name name h) in
    let here : element_uri scope [] ≡ Some name.ns = sym default ∙ ap (λ (u : List ℕ). Some u) ((bytes_eq-Decides uri name.ns).0 same) in
    subst (λ (w : List ℕ). NamesElement scope name w []) (sym e) (record {
      declares = a_prefix nothing;
      is_name = own.is_name;
      qualified = own.qualified;
      expands = ap (λ (s : List Binding). expand_element s name.local) (append-nil scope) ∙ element_expands scope name.local [] name.local name own here refl;
    })

pub element_ended : (scope : List Binding) (name : Name) (written : List ℕ) (it : Binding) → is_xml_name name ≡ true → written ≡ name.local →
    (length name.ns == 0) ≡ true → it ≡ no_default → NamesElement scope name written (it ∷ [])
unfolding element_uri
element_ended scope name written it h e none is =
    let own : IsRead name.local [] name.local = read_plain name.local (local_of_name name h) in
    let here : element_uri (scope ++ no_default ∷ []) [] ≡ Some name.ns =
    ap (λ (o : Option (List ℕ)). Some (unwrap_or o [])) (last_new scope [] []) ∙ ap (λ (u : List ℕ). Some u) (sym (no_length name.ns none)) in
    subst (λ (w : List ℕ). NamesElement scope name w (it ∷ [])) (sym e) (subst (λ (b : Binding). NamesElement scope name name.local (b ∷ [])) (sym is) (record {
      declares = default_ended;
      is_name = own.is_name;
      qualified = own.qualified;
      expands = element_expands (scope ++ no_default ∷ []) name.local [] name.local name own here refl;
    }))

pub element_prefixed : (scope : List Binding) (name : Name) (written : List ℕ) (chosen : Chosen) → is_xml_name name ≡ true →
    written ≡ chosen.prefix ++ 58 ∷ name.local → IsChosen scope name.ns chosen → NamesElement scope name written (list_of chosen.declared)
element_prefixed scope name written chosen h e is =
    let local = local_of_name name h in
    let read = read_joined chosen.prefix name.local (local_is chosen.prefix is.serves.form) local in
    let here = (some_prefix (scope ++ list_of chosen.declared) chosen.prefix (not_empty chosen.prefix is.serves.form)).0 ∙ is.serves.bound in
    subst (λ (w : List ℕ). NamesElement scope name w (list_of chosen.declared)) (sym e) (record {
      declares = a_prefix is.declares;
      is_name = read.is_name;
      qualified = read.qualified;
      expands = element_expands (scope ++ list_of chosen.declared) (chosen.prefix ++ 58 ∷ name.local) chosen.prefix name.local name read here refl;
    })

-- ---- attributes: what is written is no declaration

same_front : (a b xs ys : List ℕ) → NonePass is_58 a → NonePass is_58 b → a ++ 58 ∷ xs ≡ b ++ 58 ∷ ys → a ≡ b
same_front [] [] xs ys h k e = refl
same_front [] (d ∷ b) xs ys h k e = let same : 58 ≡ d = cc in absurd (true≢false (sym (eq-eqb d 58 (sym same)) ∙ k.0))
same_front (c ∷ a) [] xs ys h k e = let same : c ≡ 58 = cc in absurd (true≢false (sym (eq-eqb c 58 same) ∙ h.0))
same_front (c ∷ a) (d ∷ b) xs ys h k e =
    let same : c ≡ d = cc in
    let rest : a ++ 58 ∷ xs ≡ b ++ 58 ∷ ys = cc in
    ap (λ (z : ℕ). z ∷ a) same ∙ ap (λ (zs : List ℕ). d ∷ zs) (same_front a b xs ys h.1 k.1 rest)

no_colon_front : (a b xs : List ℕ) → NonePass is_58 a → a ≡ b ++ 58 ∷ xs → ⊥
no_colon_front [] [] xs h e = let bad : [] ≡ 58 ∷ xs = e in cc
no_colon_front [] (d ∷ b) xs h e = let bad : [] ≡ d ∷ (b ++ 58 ∷ xs) = e in cc
no_colon_front (c ∷ a) [] xs h e = let same : c ≡ 58 = cc in true≢false (sym (eq-eqb c 58 same) ∙ h.0)
no_colon_front (c ∷ a) (d ∷ b) xs h e = let rest : a ≡ b ++ 58 ∷ xs = cc in no_colon_front a b xs h.1 rest

xmlns_plain : NonePass is_58 (codes "xmlns")
xmlns_plain = (refl, (refl, (refl, (refl, (refl, tt)))))

-- a name that begins with `xmlns:`
front_is : (w xs : List ℕ) → starts_with nat_eq xs w ≡ true → (rest : List ℕ) × (xs ≡ w ++ rest)
front_is [] xs h = (xs, refl)
front_is (c ∷ w) [] h = absurd (true≢false (sym h))
front_is (c ∷ w) (x ∷ xs) h =
    let t = and_parts (nat_eq c x) (starts_with nat_eq xs w) h in
    let more = front_is w xs t.1 in
    (more.0, ap (λ (z : ℕ). z ∷ xs) (sym (eqb-true c x t.0)) ∙ ap (λ (zs : List ℕ). c ∷ zs) more.1)

no_declaration : (written : List ℕ) → (written ≡ codes "xmlns" → ⊥) → ((rest : List ℕ) → written ≡ codes "xmlns" ++ 58 ∷ rest → ⊥) → is_declaration written ≡ false
unfolding is_declaration
no_declaration written a b =
    by_default (bytes_eq written (codes "xmlns")) refl (starts_with nat_eq written (codes "xmlns:")) refl
  where
    by_default : (t : Bool) → bytes_eq written (codes "xmlns") ≡ t → (u : Bool) → starts_with nat_eq written (codes "xmlns:") ≡ u → (t || u) ≡ false
    by_default true e u f = absurd (a ((bytes_eq-Decides written (codes "xmlns")).0 e))
    by_default false e true f = absurd (let w = front_is (codes "xmlns:") written f in b w.0 w.1)
    by_default false e false f = refl

pub attribute_plain : (scope : List Binding) (name : Name) (written : List ℕ) → is_attribute_name name ≡ true → written ≡ name.local →
    (length name.ns == 0) ≡ true → NamesAttribute scope name written []
unfolding attribute_uri
attribute_plain scope name written h e none =
    let both = and_parts (is_xml_name name) (not (bytes_eq name.ns [] && bytes_eq name.local (codes "xmlns"))) h in
    let local = local_of_name name both.0 in
    let own : IsRead name.local [] name.local = read_plain name.local local in
    let empty = no_length name.ns none in
    let other : bytes_eq name.local (codes "xmlns") ≡ false =
    ap (λ (ns : List ℕ). bytes_eq ns [] && bytes_eq name.local (codes "xmlns")) (sym empty) ∙ not_true (bytes_eq name.ns [] && bytes_eq name.local (codes "xmlns")) both.1 in
    let plain : is_declaration name.local ≡ false =
    no_declaration name.local (λ same. true≢false (sym ((bytes_eq-Decides name.local (codes "xmlns")).1 same) ∙ other))
    (λ rest same. no_colon_front name.local (codes "xmlns") rest local.no_colon same) in
    subst (λ (w : List ℕ). NamesAttribute scope name w []) (sym e) (record {
      declares = nothing;
      is_name = own.is_name;
      qualified = own.qualified;
      plain = plain;
      expands = ap (λ (s : List Binding). expand_attribute s name.local) (append-nil scope)
          ∙ attribute_expands scope name.local [] name.local name own (ap (λ (u : List ℕ). Some u) (sym empty)) refl;
    })

pub attribute_prefixed : (scope : List Binding) (name : Name) (written : List ℕ) (chosen : Chosen) → is_attribute_name name ≡ true →
    written ≡ chosen.prefix ++ 58 ∷ name.local → IsChosen scope name.ns chosen → NamesAttribute scope name written (list_of chosen.declared)
attribute_prefixed scope name written chosen h e is =
    let both = and_parts (is_xml_name name) (not (bytes_eq name.ns [] && bytes_eq name.local (codes "xmlns"))) h in
    let local = local_of_name name both.0 in
    let prefix = local_is chosen.prefix is.serves.form in
    let read = read_joined chosen.prefix name.local prefix local in
    let here = (some_prefix (scope ++ list_of chosen.declared) chosen.prefix (not_empty chosen.prefix is.serves.form)).1 ∙ is.serves.bound in
    let plain : is_declaration (chosen.prefix ++ 58 ∷ name.local) ≡ false =
    no_declaration (chosen.prefix ++ 58 ∷ name.local)
    (λ same. no_colon_front (codes "xmlns") chosen.prefix name.local xmlns_plain (sym same))
    (λ rest same. true≢false (sym ((bytes_eq-Decides chosen.prefix (codes "xmlns")).1 (same_front chosen.prefix (codes "xmlns") name.local rest prefix.no_colon xmlns_plain same)) ∙ is.serves.no_declaration)) in
    subst (λ (w : List ℕ). NamesAttribute scope name w (list_of chosen.declared)) (sym e) (record {
      declares = is.declares;
      is_name = read.is_name;
      qualified = read.qualified;
      plain = plain;
      expands = attribute_expands (scope ++ list_of chosen.declared) (chosen.prefix ++ 58 ∷ name.local) chosen.prefix name.local name read here refl;
    })
