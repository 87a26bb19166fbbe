-- Names that a tag's names expand to are names that a document can have.
use Rattle.std.proofs.Common.{◌≡◌, ℕ, suc, Bool, true, false, cond, Option, Some, None, unwrap_or, List, [], ◌∷◌, ◌++◌, length, refl, ap, sym, subst, ◌∙◌, arith, ◌<◌}
use Rattle.std.specs.Prelude.{◌==◌, ◌&&◌, ◌||◌, not, codes}
use Rattle.std.specs.List.{AllByRecursion, list_all, after_first, starts_with}
use Rattle.std.specs.Prelude.{nat_eq}
use Rattle.std.specs.Str.{IsUtf8, bytes_eq, chars}
use lib.Utf8.{encode}
use Rattle.std.proofs.lemmas.Bool.{and_parts, and_from, and_left, and_right, or_parts, not_from_false, both_ways, eqb-true, ne_eqb}
use Rattle.std.proofs.lemmas.Slice.Eq.{bytes_eq-Decides}
use Rattle.std.proofs.lemmas.Str.{is_utf8-from_IsUtf8}
use Rattle.nx_base.specs.Characters.{is_char, is_name_start, is_name_char, is_nc_name}
use Rattle.nx_base.specs.Names.{xmlns_namespace, is_namespace, is_local, is_xml_name, is_attribute_name}
use Rattle.nx_base.specs.declared.name.Name.{Name}
use Rattle.nx_events.specs.Declarations.{is_declaration, declared_prefix, is_bad_binding}
use Rattle.nx_events.specs.Names.{is_colon, begins_unprefixed, goes_on_unprefixed, is_unprefixed, is_ncname, has_colon, prefix_of, local_of, is_qname}
use Rattle.nx_events.specs.Scopes.{xml_uri, or_else, last_uri, bound_uri, element_uri, attribute_uri, named_by, expand_element, expand_attribute}
use Rattle.nx_events.specs.declared.scope.Binding.{Binding}
use Rattle.nx_events.specs.declared.tag.Attribute.{Attribute}
use Rattle.nx_events.proofs.Texts.{either_is, after_text}
use Rattle.nx_document.specs.Constraints.{IsLegalDeclaration, DeclareLegally, declared}
use Rattle.nx_document.proofs.OfChars.{OfChars, is_of, of_nothing}
use Rattle.nx_document.proofs.Values.{AreOfChars}

-- names without a colon, in both definitions
both_tests : (a b c d : Bool) → ((a && b) && (c && d)) ≡ ((a && c) && (b && d))
both_tests false b c d = refl
both_tests true false false d = refl
both_tests true false true d = refl
both_tests true true c d = refl

go_on_alike : (cs : List ℕ) → list_all goes_on_unprefixed cs ≡ (list_all is_name_char cs && list_all (λ c. not (c == 58)) cs)
unfolding goes_on_unprefixed
go_on_alike [] = refl
go_on_alike (c ∷ cs) =
    ap (λ t. (is_name_char c && not (c == 58)) && t) (go_on_alike cs)
    ∙ both_tests (is_name_char c) (not (c == 58)) (list_all is_name_char cs) (list_all (λ c. not (c == 58)) cs)

unprefixed_alike : (cs : List ℕ) → is_unprefixed cs ≡ is_nc_name cs
unfolding begins_unprefixed
unprefixed_alike [] = refl
unprefixed_alike (c ∷ cs) =
    ap (λ t. (is_name_start c && not (c == 58)) && t) (go_on_alike cs)
    ∙ both_tests (is_name_start c) (not (c == 58)) (list_all is_name_char cs) (list_all (λ c. not (c == 58)) cs)

pub names_agree : (name : List ℕ) → is_ncname name ≡ is_nc_name (chars name)
unfolding is_ncname
names_agree name = unprefixed_alike (chars name)

-- local parts
colon_small : (b : ℕ) → is_colon b ≡ true → b < 128
colon_small b h = let same = eqb-true b 58 h in omega arith

local_text : (name : List ℕ) → IsUtf8 name → IsUtf8 (local_of name)
unfolding local_of
local_text name u = either_is IsUtf8 (has_colon name) (after_first is_colon name) name (after_text is_colon name colon_small u) u

local_proper : (written : List ℕ) → IsUtf8 written → is_qname written ≡ true → is_local (local_of written) ≡ true
unfolding is_qname
local_proper written u q =
    let parts = and_parts (not (has_colon written) || is_ncname (prefix_of written)) (is_ncname (local_of written)) q in
    and_from _ _ (is_utf8-from_IsUtf8 (local_of written) (local_text written u)) (sym (names_agree (local_of written)) ∙ parts.1)

no_name : is_ncname [] ≡ false
unfolding is_ncname chars
no_name = refl

unprefixed : (written : List ℕ) → is_qname written ≡ true → prefix_of written ≡ [] → local_of written ≡ written
unfolding is_qname local_of
unprefixed written q e = by_colon (has_colon written) (and_parts (not (has_colon written) || is_ncname (prefix_of written)) (is_ncname (local_of written)) q).0
  where
    by_colon : (t : Bool) → (not t || is_ncname (prefix_of written)) ≡ true → cond t (after_first is_colon written) written ≡ written
    by_colon true h = absurd (both_ways (is_ncname (prefix_of written)) (ap is_ncname e ∙ no_name) h)
    by_colon false h = refl

-- declarations in force: each URI is of characters that XML allows, and is bound legally
pub record IsProper (it : Binding) : Type 0 where
  pub uri : OfChars it.uri
  pub legal : is_bad_binding it.prefix it.uri ≡ false

abbrev pub AreProper : List Binding → Type 0
AreProper scope = AllByRecursion IsProper scope

all_both : {A : Type 0} (P : A → Type 0) (xs ys : List A) → AllByRecursion P xs → AllByRecursion P ys → AllByRecursion P (xs ++ ys)
all_both P [] ys h k = k
all_both P (x ∷ xs) ys h k = (h.0, all_both P xs ys h.1 k)

declared_more : (x : Attribute) (xs : List Attribute) (t : Bool) → (t ≡ true → IsLegalDeclaration x) → OfChars x.string → AreProper (declared xs) →
    AreProper (cond t (record { prefix = declared_prefix x.name; uri = x.string } ∷ declared xs) (declared xs))
declared_more x xs true legal o more = (record { uri = o; legal = (legal refl).binding }, more)
declared_more x xs false legal o more = more

declared_proper : (xs : List Attribute) → DeclareLegally xs → AreOfChars xs → AreProper (declared xs)
declared_proper [] h o = tt
declared_proper (x ∷ xs) h o = declared_more x xs (is_declaration x.name) h.0 o.0 (declared_proper xs h.1 o.1)

pub in_force_proper : (scope : List Binding) (xs : List Attribute) → AreProper scope → DeclareLegally xs → AreOfChars xs → AreProper (scope ++ declared xs)
in_force_proper scope xs p h o = all_both IsProper scope (declared xs) p (declared_proper xs h o)

-- the URI of a prefix
record IsBound (prefix uri : List ℕ) : Type 0 where
  uri_chars : OfChars uri
  legal : is_bad_binding prefix uri ≡ false

last_bound : (scope : List Binding) (prefix uri : List ℕ) → AreProper scope → last_uri scope prefix ≡ Some uri → IsBound prefix uri
unfolding last_uri
last_bound [] prefix uri p e = let bad : None ≡ Some uri = e in absurd (cc)
last_bound (x ∷ scope) prefix uri p e = by_last (last_uri scope prefix) (λ u f. last_bound scope prefix u p.1 f) (bytes_eq x.prefix prefix) (λ t. (bytes_eq-Decides x.prefix prefix).0 t) e
  where
    by_last : (o : Option (List ℕ)) → ((u : List ℕ) → o ≡ Some u → IsBound prefix u) → (t : Bool) → (t ≡ true → x.prefix ≡ prefix) → or_else o (cond t (Some x.uri) None) ≡ Some uri → IsBound prefix uri
    by_last (Some u) more t same f = more uri f
    by_last None more true same f =
        let uris : Some x.uri ≡ Some uri = f in
        let one : x.uri ≡ uri = cc in
        record {
          uri_chars = subst (λ (u : List ℕ). OfChars u) one p.0.uri;
          legal = subst (λ u. is_bad_binding prefix u ≡ false) one (subst (λ q. is_bad_binding q x.uri ≡ false) (same refl) p.0.legal);
        }
    by_last None more false same f = let bad : None ≡ Some uri = f in absurd (cc)

-- a namespace: of characters, and not that of `xmlns`; with a prefix it isn't empty
record IsSpace (prefix uri : List ℕ) : Type 0 where
  uri_chars : OfChars uri
  apart : bytes_eq uri xmlns_namespace ≡ false
  named : (length prefix == 0) ≡ false → bytes_eq uri [] ≡ false

not_empty : (uri : List ℕ) → (length uri == 0) ≡ false → bytes_eq uri [] ≡ false
not_empty [] e = let bad : true ≡ false = e in absurd (cc)
not_empty (u ∷ uri) e = refl

space_of : (prefix uri : List ℕ) → IsBound prefix uri → IsSpace prefix uri
unfolding is_bad_binding
space_of prefix uri b =
    let last = or_parts (bytes_eq prefix (codes "xmlns") || (bytes_eq prefix (codes "xml") && not (bytes_eq uri xml_uri)) || (not (bytes_eq prefix (codes "xml")) && bytes_eq uri xml_uri) || bytes_eq uri xmlns_namespace)
    (not (length prefix == 0) && length uri == 0) b.legal in
    let fourth = or_parts (bytes_eq prefix (codes "xmlns") || (bytes_eq prefix (codes "xml") && not (bytes_eq uri xml_uri)) || (not (bytes_eq prefix (codes "xml")) && bytes_eq uri xml_uri))
    (bytes_eq uri xmlns_namespace) last.0 in
    record {
      uri_chars = b.uri_chars;
      apart = fourth.1;
      named = λ some. not_empty uri (by_some (length prefix == 0) (length uri == 0) some last.1);
    }
  where
    by_some : (s t : Bool) → s ≡ false → (not s && t) ≡ false → t ≡ false
    by_some true t h e = let bad : true ≡ false = h in absurd (cc)
    by_some false t h e = e

xml_space : (prefix : List ℕ) → IsSpace prefix xml_uri
unfolding encode chars is_char
xml_space prefix = record { uri_chars = record { utf8 = (xml_uri, (refl, refl)); each = refl }; apart = refl; named = λ e. refl }

no_space : IsSpace [] []
no_space = record { uri_chars = of_nothing; apart = refl; named = λ e. (let bad : true ≡ false = e in absurd (cc)) }

bound_space : (scope : List Binding) (prefix uri : List ℕ) → AreProper scope → bound_uri scope prefix ≡ Some uri → IsSpace prefix uri
unfolding bound_uri
bound_space scope prefix uri p e = by_xml (bytes_eq prefix (codes "xml")) e
  where
    by_xml : (t : Bool) → cond t (Some xml_uri) (last_uri scope prefix) ≡ Some uri → IsSpace prefix uri
    by_xml true f =
        let uris : Some xml_uri ≡ Some uri = f in
        let one : xml_uri ≡ uri = cc in
        subst (λ (u : List ℕ). IsSpace prefix u) one (xml_space prefix)
    by_xml false f = space_of prefix uri (last_bound scope prefix uri p f)

element_space : (scope : List Binding) (prefix uri : List ℕ) → AreProper scope → element_uri scope prefix ≡ Some uri → IsSpace prefix uri
unfolding element_uri
element_space scope [] uri p e = by_last (last_uri scope []) (λ u f. space_of [] u (last_bound scope [] u p f)) e
  where
    by_last : (o : Option (List ℕ)) → ((u : List ℕ) → o ≡ Some u → IsSpace [] u) → Some (unwrap_or o []) ≡ Some uri → IsSpace [] uri
    by_last (Some u) more f = let one : u ≡ uri = cc in subst (λ (v : List ℕ). IsSpace [] v) one (more u refl)
    by_last None more f = let one : [] ≡ uri = cc in subst (λ (v : List ℕ). IsSpace [] v) one no_space
element_space scope (b ∷ prefix) uri p e = bound_space scope (b ∷ prefix) uri p e

attribute_space : (scope : List Binding) (prefix uri : List ℕ) → AreProper scope → attribute_uri scope prefix ≡ Some uri → IsSpace prefix uri
unfolding attribute_uri
attribute_space scope [] uri p e = let one : [] ≡ uri = cc in subst (λ (v : List ℕ). IsSpace [] v) one no_space
attribute_space scope (b ∷ prefix) uri p e = bound_space scope (b ∷ prefix) uri p e

-- expanded names
named_parts : (o : Option (List ℕ)) (local : List ℕ) (name : Name) → named_by o local ≡ Some name → (uri : List ℕ) × (o ≡ Some uri) × (record { ns = uri; local = local } ≡ name)
named_parts None local name e = let bad : None ≡ Some name = e in absurd (cc)
named_parts (Some uri) local name e = let both : Some (record { ns = uri; local = local }) ≡ Some name = e in (uri, refl, cc)

xml_name : (prefix uri local : List ℕ) → IsSpace prefix uri → is_local local ≡ true → is_xml_name (record { ns = uri; local = local }) ≡ true
xml_name prefix uri local s l =
    and_from (is_namespace uri) (is_local local) (and_from _ (not (bytes_eq uri xmlns_namespace)) (is_of uri s.uri_chars) (not_from_false (bytes_eq uri xmlns_namespace) s.apart)) l

pub element_name : (scope : List Binding) (written : List ℕ) (name : Name) → AreProper scope → IsUtf8 written → is_qname written ≡ true → expand_element scope written ≡ Some name → is_xml_name name ≡ true
element_name scope written name p u q e =
    let parts = named_parts (element_uri scope (prefix_of written)) (local_of written) name e in
    subst (λ n. is_xml_name n ≡ true) parts.2
    (xml_name (prefix_of written) parts.0 (local_of written) (element_space scope (prefix_of written) parts.0 p parts.1) (local_proper written u q))

pub attribute_name : (scope : List Binding) (written : List ℕ) (name : Name) → AreProper scope → IsUtf8 written → is_declaration written ≡ false → is_qname written ≡ true →
    expand_attribute scope written ≡ Some name → is_attribute_name name ≡ true
unfolding is_declaration
attribute_name scope written name p u d q e =
    let parts = named_parts (attribute_uri scope (prefix_of written)) (local_of written) name e in
    let space = attribute_space scope (prefix_of written) parts.0 p parts.1 in
    subst (λ n. is_attribute_name n ≡ true) parts.2
    (and_from (is_xml_name (record { ns = parts.0; local = local_of written })) (not (bytes_eq parts.0 [] && bytes_eq (local_of written) (codes "xmlns")))
    (xml_name (prefix_of written) parts.0 (local_of written) space (local_proper written u q))
    (not_from_false (bytes_eq parts.0 [] && bytes_eq (local_of written) (codes "xmlns")) (by_prefix (prefix_of written) refl parts.0 space)))
  where
    plain : bytes_eq written (codes "xmlns") ≡ false
    plain = (or_parts (bytes_eq written (codes "xmlns")) (starts_with nat_eq written (codes "xmlns:")) d).0

    by_prefix : (prefix : List ℕ) → prefix_of written ≡ prefix → (uri : List ℕ) → IsSpace prefix uri → (bytes_eq uri [] && bytes_eq (local_of written) (codes "xmlns")) ≡ false
    by_prefix [] f uri s = and_right (bytes_eq uri []) _ (ap (λ (w : List ℕ). bytes_eq w (codes "xmlns")) (unprefixed written q f) ∙ plain)
    by_prefix (b ∷ prefix) f uri s = and_left (bytes_eq uri []) _ (s.named (ne_eqb (suc (length prefix)) 0 (λ g. absurd (omega (arith, g)))))
