-- Elements whose texts are UTF-8 say a surface whose texts are.
use Rattle.std.proofs.Common.{◌≡◌, ℕ, ◌<◌, Bool, true, false, cond, Option, Some, None, unwrap_or, List, [], ◌∷◌, ◌++◌, length, get_or, codes, refl, sym, ap, subst, arith, IsUtf8, IfOk, Result, Ok, Err}
use lib.Utf8.{encode}
use Rattle.std.specs.List.{AllByRecursion, after_first}
use Rattle.std.specs.Option.{option_map}
use Rattle.std.specs.Str.{bytes_eq}
use Rattle.std.proofs.lemmas.Bool.{and_parts, eqb-true}
use Rattle.std.proofs.Math.Seq.{take-append_seam}
use Rattle.std.proofs.lemmas.List.{length-append}
use Rattle.std.proofs.lemmas.Str.{IsUtf8-nil}
use Rattle.nx_base.specs.Characters.{is_space, is_blank}
use Rattle.nx_base.specs.Tokens.{tokens_of}
use Rattle.nx_base.specs.declared.name.Name.{Name}
use Rattle.nx_events.specs.Names.{is_colon, has_colon, is_ncname, local_of}
use Rattle.nx_events.specs.Scopes.{or_else, xml_uri}
use Rattle.nx_events.proofs.Texts.{either_is, test_is, after_text, behind, up_to, space_small}
use Rattle.rnc_parse.specs.declared.surface.Combine.{Combine}
use Rattle.rnc_parse.specs.declared.surface.Defined.{Defined}
use Rattle.rnc_parse.specs.declared.surface.FileReference.{FileReference}
use Rattle.rnc_parse.specs.declared.surface.Namespace.{Namespace}
use Rattle.rnc_parse.specs.declared.surface.Param.{Param}
use Rattle.rnc_parse.specs.declared.surface.Surface.{Surface}
use Rattle.rnc_parse.specs.declared.surface.TypeName.{TypeName}
use Rattle.rnc_parse.specs.Parts.{built_in}
use Rattle.rnc_parse.specs.Texts.{NamespaceIsText, ClassIsText, TypeIsText, ParamsAreText, ReferenceIsText, DefinedIsText, PatternIsText, ItemIsText, ItemsAreText, ReplacementIsText, ReplacementsAreText, HasUtf8Texts}
use Rattle.rnc_parse.specs.Views.{surface_of}
use Rattle.rnc_parse.specs.Written.{WrittenClass, either, WrittenPattern, WrittenItem, WrittenItems, WrittenReplacement, WrittenReplacements, WrittenSurface, joined}
use Rattle.rngx_read.specs.declared.element.Attribute.{Attribute}
use Rattle.rngx_read.specs.declared.element.Tag.{Tag}
use Rattle.rngx_read.specs.declared.kind.Kind.{Kind}
use Rattle.rngx_read.specs.declared.read.XReadFault.{XReadFault}
use Rattle.rngx_read.specs.Classes.{IsClass, a_name, any_name, ns_name, a_choice, IsAllBut, all_of_them, all_but, IsEither, any_of, AreClasses, no_class, next_class}
use Rattle.rngx_read.specs.Defaults.{Defaults, outermost, nearest_namespace, inside, own_namespace}
use Rattle.rngx_read.specs.Elements.{Elements}
use Rattle.rngx_read.specs.Marking.{AreTextTokens}
use Rattle.rngx_read.specs.Names.{behind_spaces, before_spaces, trimmed, name_in, simple_name, last_bound, bound_in, IsNamed, without_prefix, with_prefix, IsClassName}
use Rattle.rngx_read.specs.Patterns.{Joins, by_group, by_interleave, by_choice, Makes, by_optional, by_zero_or_more, by_one_or_more, by_list, by_mixed, Refers, by_ref, by_parent_ref, IsLeaf, is_empty, is_text, is_not_allowed, HasClass, by_attribute, by_child, IsType, AreParams, no_param, next_param, IsReference, IsPattern, an_element, an_attribute, a_row, made, a_reference, a_leaf, an_untyped_value, a_value, a_type, a_type_but, an_external, a_grammar_of, IsAttributeValue, any_value, this_value, IsRow, row_of, ArePatterns, no_pattern, next_pattern, IsDefinition, a_start, a_define, IsItem, a_definition, a_div, an_include, AreItems, no_more_items, next_item, IsReplacement, a_definition_anew, a_div_anew, AreReplacements, no_more_replacements, next_replacement}
use Rattle.rngx_read.specs.Reads.{IsFile, pattern_file, grammar_file, AnswersText}
use Rattle.rngx_read.specs.Tags.{attribute_of, value_of}
use Rattle.rngx_read.proofs.ElementTexts.{UrisAreText, ValuesAreText, TagIsText, ElementsAreText, read_text}

abbrev OptionIsText : Option (List ℕ) → Type 0
OptionIsText None = Unit {0}
OptionIsText (Some text) = IsUtf8 text

-- ---- without the white space at the ends

behind_text : (text : List ℕ) → IsUtf8 text → IsUtf8 (behind_spaces text)
unfolding behind_spaces
behind_text [] u = u
behind_text (c ∷ text) u =
    test_is IsUtf8 (is_space c) (behind_spaces text) (c ∷ text) (λ e. behind_text text (behind (c ∷ text) 0 u (omega arith) (space_small c e)))
    (λ _. u)

-- what is left out at the end is white space
record Trimmed (text : List ℕ) : Type 0 where
  pub spaces : List ℕ
  pub whole : before_spaces text ++ spaces ≡ text
  pub blank : is_blank spaces ≡ true

trimmed_is : (text : List ℕ) → Trimmed text
unfolding before_spaces
trimmed_is [] = record { spaces = []; whole = refl; blank = refl }
trimmed_is (c ∷ text) = by_test (is_blank (c ∷ text)) refl (trimmed_is text)
  where
    by_test : (t : Bool) → is_blank (c ∷ text) ≡ t → Trimmed text → Trimmed (c ∷ text)
    by_test true e further = record { spaces = c ∷ text; whole = rw e refl; blank = e }
    by_test false e further = record { spaces = further.spaces; whole = rw e (ap (λ (l : List ℕ). c ∷ l) further.whole); blank = further.blank }

first_small : (front spaces : List ℕ) → is_blank spaces ≡ true → get_or (front ++ spaces) (length front) 0 < 128
first_small [] [] e = omega arith
first_small [] (c ∷ spaces) e = space_small c (and_parts (is_space c) (is_blank spaces) e).0
first_small (x ∷ front) spaces e = first_small front spaces e

front_text : (front spaces : List ℕ) → is_blank spaces ≡ true → IsUtf8 (front ++ spaces) → IsUtf8 front
front_text front spaces blank u =
    subst IsUtf8 (take-append_seam front spaces) (up_to (front ++ spaces) (length front) u (omega (arith, length-append front spaces))
    (λ lt. first_small front spaces blank))

trimmed_text : (text : List ℕ) → IsUtf8 text → IsUtf8 (trimmed text)
unfolding trimmed
trimmed_text text u =
    let whole = trimmed_is (behind_spaces text) in
    front_text (before_spaces (behind_spaces text)) whole.spaces whole.blank (subst IsUtf8 (sym whole.whole) (behind_text text u))

-- ---- values and names

value_text : (local : List ℕ) (attributes : List Attribute) → ValuesAreText attributes → OptionIsText (value_of local attributes)
unfolding value_of
value_text local [] h = tt
value_text local (a ∷ more) h =
    either_is (λ (found : Option Attribute). OptionIsText (option_map (λ (it : Attribute). it.value) found)) (bytes_eq a.local local)
    (Some a) (attribute_of local more) h.0 (value_text local more h.1)

found_text : (found : Option (List ℕ)) (text : List ℕ) → found ≡ Some text → OptionIsText found → IsUtf8 text
found_text found text e h = subst OptionIsText e h

name_in_text : (written : Option (List ℕ)) → OptionIsText written → OptionIsText (name_in written)
name_in_text None h = tt
name_in_text (Some written) h = either_is OptionIsText (is_ncname (trimmed written)) (Some (trimmed written)) None (trimmed_text written h) tt

name_text : (local : List ℕ) (tag : Tag) → TagIsText tag → OptionIsText (simple_name local tag)
unfolding simple_name
name_text local tag h = name_in_text (value_of local tag.attributes) (value_text local tag.attributes h.values)

colon_small : (b : ℕ) → is_colon b ≡ true → b < 128
colon_small b h = let same = eqb-true b 58 h in omega arith

local_text : (name : List ℕ) → IsUtf8 name → IsUtf8 (local_of name)
unfolding local_of
local_text name u = either_is IsUtf8 (has_colon name) (after_first is_colon name) name (after_text is_colon name colon_small u) u

xml_text : IsUtf8 xml_uri
unfolding encode
xml_text = (xml_uri, (refl, refl))

or_else_text : (first other : Option (List ℕ)) → OptionIsText first → OptionIsText other → OptionIsText (or_else first other)
or_else_text None other f o = o
or_else_text (Some x) other f o = f

last_text : (scope : List Name) (prefix : List ℕ) → UrisAreText scope → OptionIsText (last_bound scope prefix)
unfolding last_bound
last_text [] prefix h = tt
last_text (pair ∷ scope) prefix h =
    or_else_text (last_bound scope prefix) (cond (bytes_eq pair.local prefix) (Some pair.ns) None) (last_text scope prefix h.1)
    (either_is OptionIsText (bytes_eq pair.local prefix) (Some pair.ns) None h.0 tt)

bound_text : (scope : List Name) (prefix : List ℕ) → UrisAreText scope → OptionIsText (bound_in scope prefix)
unfolding bound_in
bound_text scope prefix h = either_is OptionIsText (bytes_eq prefix (codes "xml")) (Some xml_uri) (last_bound scope prefix) xml_text
    (last_text scope prefix h)

named_text : {scope : List Name} {unprefixed : Namespace} {prefix local : List ℕ} {class : WrittenClass} →
    IsNamed bound_in scope unprefixed prefix local class → UrisAreText scope → NamespaceIsText unprefixed → IsUtf8 local → ClassIsText class
named_text without_prefix s u l = (u, l)
named_text {scope = scope} (with_prefix {b = b} {prefix = prefix} {uri = uri} e) s u l =
    (found_text (bound_in scope (b ∷ prefix)) uri e (bound_text scope (b ∷ prefix) s), l)

class_name_text : {scope : List Name} {unprefixed : Namespace} {written : List ℕ} {class : WrittenClass} →
    IsClassName bound_in scope unprefixed written class → UrisAreText scope → NamespaceIsText unprefixed → IsUtf8 written → ClassIsText class
class_name_text {written = written} is s u w = named_text is.named s u (local_text (trimmed written) (trimmed_text written w))

-- ---- what an element takes from those around it

abbrev DefaultsAreText : Defaults → Type 0
DefaultsAreText defaults = NamespaceIsText defaults.namespace × IsUtf8 defaults.library

nearest_text : (own : Option (List ℕ)) (outer : Namespace) → OptionIsText own → NamespaceIsText outer → NamespaceIsText (nearest_namespace own outer)
nearest_text None outer h o = o
nearest_text (Some uri) outer h o = h

or_text : (own : Option (List ℕ)) (outer : List ℕ) → OptionIsText own → IsUtf8 outer → IsUtf8 (unwrap_or own outer)
or_text None outer h o = o
or_text (Some own) outer h o = h

inside_text : (outer : Defaults) (tag : Tag) → DefaultsAreText outer → TagIsText tag → DefaultsAreText (inside outer tag)
unfolding inside
inside_text outer tag o h = (
  nearest_text (value_of (codes "ns") tag.attributes) outer.namespace (value_text (codes "ns") tag.attributes h.values) o.0,
  or_text (value_of (codes "datatypeLibrary") tag.attributes) outer.library (value_text (codes "datatypeLibrary") tag.attributes h.values) o.1,
)

own_namespace_text : (tag : Tag) → TagIsText tag → NamespaceIsText (own_namespace tag)
own_namespace_text tag h = or_text (value_of (codes "ns") tag.attributes) [] (value_text (codes "ns") tag.attributes h.values) IsUtf8-nil

-- ---- joined

joined_text : {A : Type 0} (P : A → Type 0) (join : A → A → A) (first : A) (more : List A) → ((x y : A) → P x → P y → P (join x y)) → P first →
    AllByRecursion P more → P (joined join first more)
joined_text P join first [] both one others = one
joined_text P join first (next ∷ more) both one others = joined_text P join (join first next) more both (both first next one others.0) others.1

-- ---- classes

mutual
  class_text : {defaults : Defaults} {tag : Tag} {children : Elements} {class : WrittenClass} → IsClass bound_in defaults tag children class →
      DefaultsAreText defaults → TagIsText tag → ElementsAreText children → ClassIsText class
  class_text {defaults = defaults} {tag = tag} (a_name is name) c t e = class_name_text name t.uris (inside_text defaults tag c t).0 t.text
  class_text {defaults = defaults} {tag = tag} (any_name is all) c t e = all_but_text all (inside_text defaults tag c t) tt e
  class_text {defaults = defaults} {tag = tag} (ns_name is all) c t e = all_but_text all (inside_text defaults tag c t) (inside_text defaults tag c t).0 e
  class_text {defaults = defaults} {tag = tag} (a_choice is names) c t e = either_text names (inside_text defaults tag c t) e

  all_but_text : {defaults : Defaults} {all class : WrittenClass} {children : Elements} → IsAllBut bound_in defaults all children class →
      DefaultsAreText defaults → ClassIsText all → ElementsAreText children → ClassIsText class
  all_but_text all_of_them c a e = a
  all_but_text {defaults = defaults} (all_but {tag = tag} is names) c a e = (a, either_text names (inside_text defaults tag c e.0) e.1)

  either_text : {defaults : Defaults} {elements : Elements} {class : WrittenClass} → IsEither bound_in defaults elements class → DefaultsAreText defaults →
      ElementsAreText elements → ClassIsText class
  either_text (any_of {first = first} {more = more} classes is) c e =
      let each = classes_text classes c e in
      subst ClassIsText (sym is) (joined_text ClassIsText either first more (λ x y p q. (p, q)) each.0 each.1)

  classes_text : {defaults : Defaults} {elements : Elements} {classes : List WrittenClass} → AreClasses bound_in defaults elements classes →
      DefaultsAreText defaults → ElementsAreText elements → AllByRecursion ClassIsText classes
  classes_text no_class c e = tt
  classes_text (next_class is others) c e = (class_text is c e.0 e.1, classes_text others c e.2)

-- ---- parts of patterns

joins_text : {this : Kind} {join : WrittenPattern → WrittenPattern → WrittenPattern} → Joins this join → (p q : WrittenPattern) → PatternIsText p →
    PatternIsText q → PatternIsText (join p q)
joins_text by_group p q h k = (h, k)
joins_text by_interleave p q h k = (h, k)
joins_text by_choice p q h k = (h, k)

makes_text : {this : Kind} {make : WrittenPattern → WrittenPattern} (p : WrittenPattern) → Makes this make → PatternIsText p → PatternIsText (make p)
makes_text p by_optional h = h
makes_text p by_zero_or_more h = h
makes_text p by_one_or_more h = h
makes_text p by_list h = h
makes_text p by_mixed h = h

refers_text : {this : Kind} {refer : List ℕ → WrittenPattern} {name : List ℕ} → Refers this refer → IsUtf8 name → PatternIsText (refer name)
refers_text by_ref h = h
refers_text by_parent_ref h = h

leaf_text : {this : Kind} {p : WrittenPattern} → IsLeaf this p → PatternIsText p
leaf_text is_empty = tt
leaf_text is_text = tt
leaf_text is_not_allowed = tt

type_text : {defaults : Defaults} {tag : Tag} {type : TypeName} → IsType defaults tag type → DefaultsAreText defaults → TagIsText tag → TypeIsText type
type_text {tag = tag} {type = type} is c t =
    (subst IsUtf8 (sym is.library_is) c.1, found_text (simple_name (codes "type") tag) type.name is.name_is (name_text (codes "type") tag t))

token_text : TypeIsText (built_in (codes "token"))
unfolding encode
token_text = (IsUtf8-nil, (codes "token", (refl, refl)))

params_text : {elements rest : Elements} {params : List Param} → AreParams elements params rest → ElementsAreText elements →
    ParamsAreText params × ElementsAreText rest
params_text no_param e = (tt, e)
params_text (next_param {tag = tag} {param = param} is name value others) e =
    let more = params_text others e.2 in (
      (
        (found_text (simple_name (codes "name") tag) param.name name (name_text (codes "name") tag e.0), subst IsUtf8 (sym value) e.0.text),
        more.0,
      ),
      more.1,
    )

reference_text : {defaults : Defaults} {tag : Tag} {file : FileReference} → IsReference defaults tag file → DefaultsAreText defaults → TagIsText tag →
    ReferenceIsText file
reference_text {tag = tag} {file = file} is c t = (
  found_text (value_of (codes "href") tag.attributes) file.uri is.uri_is (value_text (codes "href") tag.attributes t.values),
  subst NamespaceIsText (sym is.namespace_is) c.0,
)

has_class_text : {defaults : Defaults} {unprefixed : Namespace} {tag : Tag} {children content : Elements} {class : WrittenClass} →
    HasClass bound_in defaults unprefixed tag children class content → DefaultsAreText defaults → NamespaceIsText unprefixed → TagIsText tag →
    ElementsAreText children → ClassIsText class × ElementsAreText content
has_class_text {tag = tag} (by_attribute {written = written} value name) c u t e = (
  class_name_text name t.uris u (found_text (value_of (codes "name") tag.attributes) written value
      (value_text (codes "name") tag.attributes t.values)),
  e,
)
has_class_text (by_child value is) c u t e = (class_text is c e.0 e.1, e.2)

-- ---- patterns, and the items of grammars

mutual
  pattern_text : {defaults : Defaults} {tag : Tag} {children : Elements} {p : WrittenPattern} → IsPattern bound_in defaults tag children p →
      DefaultsAreText defaults → TagIsText tag → ElementsAreText children → PatternIsText p
  pattern_text {defaults = defaults} {tag = tag} (an_element is class row) c t e =
      let inner = inside_text defaults tag c t in
      let named = has_class_text class inner inner.0 t e in
      (named.0, row_text row (joins_text by_group) inner named.1)
  pattern_text {defaults = defaults} {tag = tag} (an_attribute is class value) c t e =
      let inner = inside_text defaults tag c t in
      let named = has_class_text class inner (own_namespace_text tag t) t e in
      (named.0, content_text value inner named.1)
  pattern_text {defaults = defaults} {tag = tag} (a_row joins is row) c t e = row_text row (joins_text joins) (inside_text defaults tag c t) e
  pattern_text {defaults = defaults} {tag = tag} (made makes is row) c t e =
      makes_text _ makes (row_text row (joins_text by_group) (inside_text defaults tag c t) e)
  pattern_text {tag = tag} (a_reference {name = name} refers is value) c t e =
      refers_text refers (found_text (simple_name (codes "name") tag) name value (name_text (codes "name") tag t))
  pattern_text (a_leaf leaf is) c t e = leaf_text leaf
  pattern_text (an_untyped_value is value) c t e = (token_text, t.text)
  pattern_text {defaults = defaults} {tag = tag} (a_value is type) c t e = (type_text type (inside_text defaults tag c t) t, t.text)
  pattern_text {defaults = defaults} {tag = tag} (a_type is type params) c t e =
      (type_text type (inside_text defaults tag c t) t, (params_text params e).0)
  pattern_text {defaults = defaults} {tag = tag} (a_type_but {except = except} is type params but row) c t e =
      let inner = inside_text defaults tag c t in
      let parts = params_text params e in
      (type_text type inner t, parts.0, row_text row (joins_text by_choice) (inside_text (inside defaults tag) except inner parts.1.0) parts.1.1)
  pattern_text {defaults = defaults} {tag = tag} (an_external is file) c t e = reference_text file (inside_text defaults tag c t) t
  pattern_text {defaults = defaults} {tag = tag} (a_grammar_of is items) c t e = items_text items (inside_text defaults tag c t) e

  content_text : {defaults : Defaults} {elements : Elements} {p : WrittenPattern} → IsAttributeValue bound_in defaults elements p → DefaultsAreText defaults →
      ElementsAreText elements → PatternIsText p
  content_text any_value c e = tt
  content_text (this_value is) c e = pattern_text is c e.0 e.1

  row_text : {join : WrittenPattern → WrittenPattern → WrittenPattern} {defaults : Defaults} {elements : Elements} {p : WrittenPattern} →
      IsRow bound_in join defaults elements p → ((x y : WrittenPattern) → PatternIsText x → PatternIsText y → PatternIsText (join x y)) →
      DefaultsAreText defaults → ElementsAreText elements → PatternIsText p
  row_text {join = join} (row_of {first = first} {more = more} patterns is) both c e =
      let each = patterns_text patterns c e in
      subst PatternIsText (sym is) (joined_text PatternIsText join first more both each.0 each.1)

  patterns_text : {defaults : Defaults} {elements : Elements} {patterns : List WrittenPattern} → ArePatterns bound_in defaults elements patterns →
      DefaultsAreText defaults → ElementsAreText elements → AllByRecursion PatternIsText patterns
  patterns_text no_pattern c e = tt
  patterns_text (next_pattern is others) c e = (pattern_text is c e.0 e.1, patterns_text others c e.2)

  definition_text : {defaults : Defaults} {tag : Tag} {children : Elements} {name : Defined} {how : Combine} {p : WrittenPattern} →
      IsDefinition bound_in defaults tag children name how p → DefaultsAreText defaults → TagIsText tag → ElementsAreText children →
      DefinedIsText name × PatternIsText p
  definition_text {defaults = defaults} {tag = tag} (a_start is how one) c t e = (tt, pattern_text one (inside_text defaults tag c t) e.0 e.1)
  definition_text {defaults = defaults} {tag = tag} (a_define {name = name} is how value row) c t e = (
    found_text (simple_name (codes "name") tag) name value (name_text (codes "name") tag t),
    row_text row (joins_text by_group) (inside_text defaults tag c t) e,
  )

  item_text : {defaults : Defaults} {tag : Tag} {children : Elements} {item : WrittenItem} → IsItem bound_in defaults tag children item →
      DefaultsAreText defaults → TagIsText tag → ElementsAreText children → ItemIsText item
  item_text (a_definition is) c t e = definition_text is c t e
  item_text {defaults = defaults} {tag = tag} (a_div is items) c t e = items_text items (inside_text defaults tag c t) e
  item_text {defaults = defaults} {tag = tag} (an_include is file replacements) c t e =
      let inner = inside_text defaults tag c t in (reference_text file inner t, replacements_text replacements inner e)

  items_text : {defaults : Defaults} {elements : Elements} {items : WrittenItems} → AreItems bound_in defaults elements items → DefaultsAreText defaults →
      ElementsAreText elements → ItemsAreText items
  items_text no_more_items c e = tt
  items_text (next_item is others) c e = (item_text is c e.0 e.1, items_text others c e.2)

  replacement_text : {defaults : Defaults} {tag : Tag} {children : Elements} {replacement : WrittenReplacement} →
      IsReplacement bound_in defaults tag children replacement → DefaultsAreText defaults → TagIsText tag → ElementsAreText children →
      ReplacementIsText replacement
  replacement_text (a_definition_anew is) c t e = definition_text is c t e
  replacement_text {defaults = defaults} {tag = tag} (a_div_anew is replacements) c t e = replacements_text replacements (inside_text defaults tag c t) e

  replacements_text : {defaults : Defaults} {elements : Elements} {replacements : WrittenReplacements} →
      AreReplacements bound_in defaults elements replacements → DefaultsAreText defaults → ElementsAreText elements → ReplacementsAreText replacements
  replacements_text no_more_replacements c e = tt
  replacements_text (next_replacement is others) c e = (replacement_text is c e.0 e.1, replacements_text others c e.2)

-- ---- files

outermost_text : DefaultsAreText outermost
outermost_text = (tt, IsUtf8-nil)

file_text : {elements : Elements} {surface : WrittenSurface} → IsFile bound_in elements surface → ElementsAreText elements → HasUtf8Texts surface
file_text (pattern_file other is) e = pattern_text is outermost_text e.0 e.1
file_text (grammar_file {tag = tag} is items) e = items_text items (inside_text outermost tag outermost_text e.0) e.1

pub answered_text : (text : List ℕ) (result : Result Surface XReadFault) → AreTextTokens (tokens_of text) → AnswersText text result →
    IfOk result (λ surface. HasUtf8Texts (surface_of surface))
answered_text text (Ok surface) tokens is = file_text is.says (read_text text is.nodes tokens is.is_read)
answered_text text (Err fault) tokens is = tt
