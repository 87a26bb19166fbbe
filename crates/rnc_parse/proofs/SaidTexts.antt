-- Tokens whose texts are UTF-8 say a surface whose texts are.
use Rattle.std.proofs.Common.{◌≡◌, ℕ, Bool, true, false, if◌then◌else◌, bytes_eq, ltb, List, [], ◌∷◌, Option, Some, None, codes, Result, Ok, Err, IfOk, refl, sym, subst}
use Rattle.std.specs.List.{AllByRecursion, list_all}
use Rattle.std.specs.Str.{IsUtf8, IsAscii}
use Rattle.std.proofs.lemmas.Bool.{ltb-true, and_parts}
use Rattle.std.proofs.lemmas.Str.{IsUtf8-append, IsUtf8-nil, IsUtf8-from_ascii}
use Rattle.std.proofs.lemmas.Str.Ascii.{IsAscii-nil, IsAscii-cons}
use Rattle.rnc_lex.specs.declared.token.Lexeme.{Lexeme}
use Rattle.rnc_lex.specs.declared.token.Keyword.{Keyword}
use Rattle.rnc_lex.specs.declared.token.Keyword.TheVariants as word
use Rattle.rnc_lex.specs.declared.token.RncToken.{RncToken}
use Rattle.rnc_lex.specs.Words.{keyword_text}
use Rattle.rnc_lex.specs.Laws.{HasUtf8Texts as LexemeIsText, HaveUtf8Texts}
use Rattle.rnc_parse.specs.declared.declaration.Declaration.{Declaration}
use Rattle.rnc_parse.specs.declared.declaration.Declaration.TheVariants as declaration
use Rattle.rnc_parse.specs.declared.read.ReadFault.{ReadFault}
use Rattle.rnc_parse.specs.declared.surface.Namespace.{Namespace}
use Rattle.rnc_parse.specs.declared.surface.Namespace.TheVariants.{Uri}
use Rattle.rnc_parse.specs.declared.surface.TypeName.{TypeName}
use Rattle.rnc_parse.specs.declared.surface.Param.{Param}
use Rattle.rnc_parse.specs.declared.surface.FileReference.{FileReference}
use Rattle.rnc_parse.specs.declared.surface.Defined.{Defined}
use Rattle.rnc_parse.specs.declared.surface.Surface.{Surface}
use Rattle.rnc_lex.specs.declared.token.Symbol.{Symbol}
use Rattle.rnc_parse.specs.Written.{WrittenClass, either, WrittenPattern, WrittenItem, WrittenItems, WrittenReplacement, WrittenReplacements, WrittenSurface, joined}
use Rattle.rnc_parse.specs.Views.{surface_of}
use Rattle.rnc_parse.specs.Scopes.{Scope, scope_of, declared_namespace, declared_default, declared_library, xml_uri, xsd_uri, or_else}
use Rattle.rnc_parse.specs.Annotations.{AreBalanced, none_left, one_plain, in_brackets, IsGroup, bracketed, MayBegin, without_group, with_group, Follow, no_more, one_more}
use Rattle.rnc_parse.specs.Classes.{IsAnyId, an_identifier, a_keyword, IsWildcard, all_of_namespace, all_names, IsClass, one_class, several_classes, except_class, AreMoreClasses, last_class, next_class, IsAnnotatedClass, annotated_class, IsOneClass, unprefixed_name, prefixed_name, wildcard, parenthesized_class}
use Rattle.rnc_parse.specs.Parts.{IsLiteral, one_literal, joined_literals, IsType, library_type, string_type, token_type, AreParams, no_param, param, MayHaveParams, without_params, with_params, IsReference, default_handed_on, prefix_handed_on}
use Rattle.rnc_parse.specs.Grammar.{Joins, by_comma, by_bar, by_ampersand, Repeats, by_question_mark, by_star, by_plus, IsDefined, start_defined, name_defined, IsPattern, one_particle, several_particles, type_but, AreMoreParticles, last_particle, next_particle, IsParticle, once, repeated, IsAnnotated, annotated, IsPrimary, an_element, an_attribute, a_list, a_mixed, a_reference, a_parent_reference, is_empty, is_text, is_not_allowed, untyped_value, typed_value, a_type, an_external, a_grammar_of, parenthesized, AreItems, no_more_items, next_item, item_annotation, IsItem, a_definition, a_div, an_include, an_include_but, AreReplacements, no_more_replacements, next_replacement, replacement_annotation, IsReplacement, a_definition_anew, a_div_anew}
use Rattle.rnc_parse.specs.Files.{lexemes, IsNamespace, of_uri, inherited, IsDeclaration, a_namespace_prefix, a_default, a_default_prefix, a_library_prefix, AreDeclarations, no_declaration, next_declaration, IsBody, pattern_body, grammar_body, Says}
use Rattle.rnc_parse.specs.AnsweringParts.{AnswersTokens}
use Rattle.rnc_parse.specs.Texts.{NamespaceIsText, ClassIsText, TypeIsText, ParamsAreText, ReferenceIsText, DefinedIsText, PatternIsText, ItemIsText, ItemsAreText, ReplacementIsText, ReplacementsAreText, HasUtf8Texts}

-- the texts of all these tokens are UTF-8
abbrev AreText : List Lexeme → Type 0
AreText tokens = AllByRecursion LexemeIsText tokens

-- ---- annotations: what is behind them is text

-- behind balanced tokens
balanced_text : {tokens rest : List Lexeme} → AreBalanced tokens rest → AreText tokens → AreText rest
balanced_text none_left t = t
balanced_text (one_plain plain more) t = balanced_text more t.1
balanced_text (in_brackets closes inside more) t = balanced_text more (balanced_text inside t.1).1

-- behind a group
group_text : {tokens rest : List Lexeme} → IsGroup tokens rest → AreText tokens → AreText rest
group_text (bracketed inside) t = (balanced_text inside t.1).1

-- behind a group or none
opening_text : {tokens rest : List Lexeme} → MayBegin tokens rest → AreText tokens → AreText rest
opening_text without_group t = t
opening_text (with_group g) t = group_text g t

-- behind all that follows
follow_text : {tokens rest : List Lexeme} → Follow tokens rest → AreText tokens → AreText rest
follow_text no_more t = t
follow_text (one_more name g more) t = follow_text more (group_text g t.1.1)

-- ---- names and literals

-- bytes that pass the test are ASCII
all_ascii : (bytes : List ℕ) → list_all (λ b. ltb b 128) bytes ≡ true → IsAscii bytes
all_ascii [] e = IsAscii-nil
all_ascii (b ∷ bytes) e = let parts = and_parts (ltb b 128) (list_all (λ c. ltb c 128) bytes) e in IsAscii-cons b bytes (ltb-true b 128 parts.0) (all_ascii bytes parts.1)

-- words of the program's own
program_text : (bytes : List ℕ) → list_all (λ b. ltb b 128) bytes ≡ true → IsUtf8 bytes
program_text bytes e = IsUtf8-from_ascii bytes (all_ascii bytes e)

-- keywords are text
keyword_is_text : (k : Keyword) → IsUtf8 (keyword_text k)
keyword_is_text word.Attribute = program_text (codes "attribute") refl
keyword_is_text word.Default = program_text (codes "default") refl
keyword_is_text word.Datatypes = program_text (codes "datatypes") refl
keyword_is_text word.Div = program_text (codes "div") refl
keyword_is_text word.Element = program_text (codes "element") refl
keyword_is_text word.Empty = program_text (codes "empty") refl
keyword_is_text word.External = program_text (codes "external") refl
keyword_is_text word.Grammar = program_text (codes "grammar") refl
keyword_is_text word.Include = program_text (codes "include") refl
keyword_is_text word.Inherit = program_text (codes "inherit") refl
keyword_is_text word.List = program_text (codes "list") refl
keyword_is_text word.Mixed = program_text (codes "mixed") refl
keyword_is_text word.Namespace = program_text (codes "namespace") refl
keyword_is_text word.NotAllowed = program_text (codes "notAllowed") refl
keyword_is_text word.Parent = program_text (codes "parent") refl
keyword_is_text word.Start = program_text (codes "start") refl
keyword_is_text word.String = program_text (codes "string") refl
keyword_is_text word.Text = program_text (codes "text") refl
keyword_is_text word.Token = program_text (codes "token") refl

-- a name is text
id_text : {token : Lexeme} {name : List ℕ} → IsAnyId token name → LexemeIsText token → IsUtf8 name
id_text an_identifier t = t
id_text (a_keyword {keyword = k}) t = keyword_is_text k

-- what is read there is text, and what is behind it
literal_text : {tokens rest : List Lexeme} {text : List ℕ} → IsLiteral tokens text rest → AreText tokens → IsUtf8 text × AreText rest
literal_text one_literal t = (t.0, t.1)
literal_text (joined_literals {text = x} {more = y} later e) t =
    let l = literal_text later t.1.1 in
    (subst IsUtf8 (sym e) (IsUtf8-append x y t.0 l.0), l.1)

-- ---- what stands for what

-- whatever the scope gives is text
record GivesText (scope : Scope) : Type 0 where
  pub namespaces : (prefix : List ℕ) (ns : Namespace) → scope.namespace prefix ≡ Some ns → NamespaceIsText ns
  pub unprefixed : NamespaceIsText scope.unprefixed
  pub libraries : (prefix uri : List ℕ) → scope.library prefix ≡ Some uri → IsUtf8 uri

-- the texts of a declaration that others are named by
abbrev DeclarationIsText : Declaration → Type 0
DeclarationIsText (declaration.Namespace prefix ns) = NamespaceIsText ns
DeclarationIsText (declaration.Default prefix ns) = NamespaceIsText ns
DeclarationIsText (declaration.Datatypes prefix uri) = IsUtf8 uri

-- those of all declarations
abbrev DeclarationsAreText : List Declaration → Type 0
DeclarationsAreText declarations = AllByRecursion DeclarationIsText declarations

-- one of two
either_text : {A : Type 0} (P : A → Type 0) (b : Bool) (x y : A) (rest : Option A) →
    (if b then Some x else rest) ≡ Some y → P x → (rest ≡ Some y → P y) → P y
either_text P true x y rest e p h = let same : x ≡ y = cc in subst P same p
either_text P false x y rest e p h = h e

-- a declared namespace is text
namespace_declared_text : (declarations : List Declaration) → DeclarationsAreText declarations → (prefix : List ℕ) (ns : Namespace) →
    declared_namespace declarations prefix ≡ Some ns → NamespaceIsText ns
namespace_declared_text [] t prefix ns e = absurd cc
namespace_declared_text (declaration.Namespace bound to ∷ more) t prefix ns e = either_text NamespaceIsText (bytes_eq bound prefix) to ns (declared_namespace more prefix) e t.0 (namespace_declared_text more t.1 prefix ns)
namespace_declared_text (declaration.Default (Some bound) to ∷ more) t prefix ns e = either_text NamespaceIsText (bytes_eq bound prefix) to ns (declared_namespace more prefix) e t.0 (namespace_declared_text more t.1 prefix ns)
namespace_declared_text (declaration.Default None to ∷ more) t prefix ns e = namespace_declared_text more t.1 prefix ns e
namespace_declared_text (declaration.Datatypes bound uri ∷ more) t prefix ns e = namespace_declared_text more t.1 prefix ns e

-- the default namespace is text
default_text : (declarations : List Declaration) → DeclarationsAreText declarations → NamespaceIsText (declared_default declarations)
default_text [] t = tt
default_text (declaration.Namespace bound to ∷ more) t = default_text more t.1
default_text (declaration.Default bound to ∷ more) t = t.0
default_text (declaration.Datatypes bound uri ∷ more) t = default_text more t.1

-- a declared library is text
library_declared_text : (declarations : List Declaration) → DeclarationsAreText declarations → (prefix uri : List ℕ) →
    declared_library declarations prefix ≡ Some uri → IsUtf8 uri
library_declared_text [] t prefix uri e = absurd cc
library_declared_text (declaration.Namespace bound to ∷ more) t prefix uri e = library_declared_text more t.1 prefix uri e
library_declared_text (declaration.Default bound to ∷ more) t prefix uri e = library_declared_text more t.1 prefix uri e
library_declared_text (declaration.Datatypes bound to ∷ more) t prefix uri e =
    either_text IsUtf8 (bytes_eq bound prefix) to uri (declared_library more prefix) e t.0 (library_declared_text more t.1 prefix uri)

-- the namespace of `xml` is text
xml_text : IsUtf8 xml_uri
xml_text = program_text xml_uri refl

-- the library of `xsd` is text
xsd_text : IsUtf8 xsd_uri
xsd_text = program_text xsd_uri refl

-- the first of two that is there
or_text : (one other : Option (List ℕ)) (uri : List ℕ) → or_else one other ≡ Some uri → (one ≡ Some uri → IsUtf8 uri) →
    (other ≡ Some uri → IsUtf8 uri) → IsUtf8 uri
or_text (Some x) other uri e p q = p e
or_text None other uri e p q = q e

-- declarations of texts give text
scope_text : (declarations : List Declaration) → DeclarationsAreText declarations → GivesText (scope_of declarations)
scope_text declarations t = record {
  namespaces = λ prefix ns e. either_text NamespaceIsText (bytes_eq prefix (codes "xml")) (Uri xml_uri) ns (declared_namespace declarations prefix) e xml_text (namespace_declared_text declarations t prefix ns);
  unprefixed = default_text declarations t;
  libraries =
      λ prefix uri e. or_text (declared_library declarations prefix) (if bytes_eq prefix (codes "xsd") then Some xsd_uri else None) uri e
      (library_declared_text declarations t prefix uri)
      (λ d. either_text IsUtf8 (bytes_eq prefix (codes "xsd")) xsd_uri uri None d xsd_text (λ n. absurd cc));
}

-- a namespace that is read is text
namespace_text : {tokens rest : List Lexeme} {ns : Namespace} →
    IsNamespace tokens ns rest → AreText tokens → NamespaceIsText ns × AreText rest
namespace_text (of_uri l) t = literal_text l t
namespace_text inherited t = (tt, t.1)

-- a declaration that is read is of texts
declaration_text : {tokens rest : List Lexeme} {one : Declaration} →
    IsDeclaration tokens one rest → AreText tokens → DeclarationIsText one × AreText rest
declaration_text (a_namespace_prefix name ns) t = namespace_text ns t.1.1.1
declaration_text (a_default ns) t = namespace_text ns t.1.1.1
declaration_text (a_default_prefix name ns) t = namespace_text ns t.1.1.1.1
declaration_text (a_library_prefix name l) t = literal_text l t.1.1.1

-- declarations that are read are of texts
declarations_text : {tokens rest : List Lexeme} {declarations : List Declaration} →
    AreDeclarations tokens declarations rest → AreText tokens → DeclarationsAreText declarations × AreText rest
declarations_text no_declaration t = (tt, t)
declarations_text (next_declaration one more) t =
    let d = declaration_text one t in
    let ds = declarations_text more d.1 in
    ((d.0, ds.0), ds.1)

-- ---- classes and patterns, where prefixes stand for texts

-- classes of texts joined are a class of texts
classes_joined_text : (class : WrittenClass) (classes : List WrittenClass) → ClassIsText class → AllByRecursion ClassIsText classes →
    ClassIsText (joined either class classes)
classes_joined_text class [] c cs = c
classes_joined_text class (next ∷ more) c cs = classes_joined_text (either class next) more (c, cs.0) cs.1

-- a sign makes a pattern of texts of two
joins_text : {sign : Symbol} {join : WrittenPattern → WrittenPattern → WrittenPattern} →
    Joins sign join → (p q : WrittenPattern) → PatternIsText p → PatternIsText q → PatternIsText (join p q)
joins_text by_comma p q s t = (s, t)
joins_text by_bar p q s t = (s, t)
joins_text by_ampersand p q s t = (s, t)

-- patterns of texts joined are a pattern of texts
patterns_joined_text : (join : WrittenPattern → WrittenPattern → WrittenPattern) →
    ((p q : WrittenPattern) → PatternIsText p → PatternIsText q → PatternIsText (join p q)) →
    (p : WrittenPattern) (ps : List WrittenPattern) → PatternIsText p → AllByRecursion PatternIsText ps → PatternIsText (joined join p ps)
patterns_joined_text join h p [] t ts = t
patterns_joined_text join h p (next ∷ more) t ts = patterns_joined_text join h (join p next) more (h p next t ts.0) ts.1

-- and so is one with a mark behind it
repeats_text : {sign : Symbol} {repeat : WrittenPattern → WrittenPattern} →
    Repeats sign repeat → (p : WrittenPattern) → PatternIsText p → PatternIsText (repeat p)
repeats_text by_question_mark p t = t
repeats_text by_star p t = t
repeats_text by_plus p t = t

-- what is defined is text
defined_text : {token : Lexeme} {name : Defined} → IsDefined token name → LexemeIsText token → DefinedIsText name
defined_text start_defined t = tt
defined_text name_defined t = t

-- params that are read are of texts
params_text : {tokens rest : List Lexeme} {params : List Param} →
    AreParams tokens params rest → AreText tokens → ParamsAreText params × AreText rest
params_text no_param t = (tt, t)
params_text (param g name text more) t =
    let named = opening_text g t in
    let said = literal_text text named.1.1 in
    let others = params_text more said.1 in
    (((id_text name named.0, said.0), others.0), others.1)

-- and so are those in braces
param_braces_text : {tokens rest : List Lexeme} {params : List Param} →
    MayHaveParams tokens params rest → AreText tokens → ParamsAreText params × AreText rest
param_braces_text without_params t = (tt, t)
param_braces_text (with_params inside) t = let all = params_text inside t.1 in (all.0, all.1.1)

module _ {scope : Scope} (g : GivesText scope) where
  -- a type is of texts
  type_text : {token : Lexeme} {type : TypeName} → IsType scope token type → LexemeIsText token → TypeIsText type
  type_text (library_type {prefix = p} {uri = u} e) t = (g.libraries p u e, t.1)
  type_text string_type t = (IsUtf8-nil, keyword_is_text word.String)
  type_text token_type t = (IsUtf8-nil, keyword_is_text word.Token)

  -- a reference is of texts
  reference_text : {tokens rest : List Lexeme} {file : FileReference} →
      IsReference scope tokens file rest → AreText tokens → ReferenceIsText file × AreText rest
  reference_text (default_handed_on uri) t = let l = literal_text uri t in ((l.0, g.unprefixed), l.1)
  reference_text (prefix_handed_on {prefix = p} {ns = ns} uri name e) t = let l = literal_text uri t in ((l.0, g.namespaces p ns e), l.1.1.1.1)

  -- a wildcard is of texts
  wildcard_text : {token : Lexeme} {class : WrittenClass} → IsWildcard scope token class → ClassIsText class
  wildcard_text (all_of_namespace {prefix = p} {ns = ns} e) = g.namespaces p ns e
  wildcard_text all_names = tt

  module _ {unprefixed : Namespace} (u : NamespaceIsText unprefixed) where
    mutual
      -- a class is of texts, and so is what is behind it; likewise below
      class_text : {tokens rest : List Lexeme} {class : WrittenClass} →
          IsClass scope unprefixed tokens class rest → AreText tokens → ClassIsText class × AreText rest
      class_text (one_class c) t = annotated_class_text c t
      class_text (several_classes {class = c} {classes = cs} one more e) t =
          let first = annotated_class_text one t in
          let others = more_classes_text more first.1 in
          (subst ClassIsText (sym e) (classes_joined_text c cs first.0 others.0), others.1)
      class_text (except_class o w c) t = let except = annotated_class_text c (opening_text o t).1.1 in ((wildcard_text w, except.0), except.1)

      more_classes_text : {tokens rest : List Lexeme} {classes : List WrittenClass} →
          AreMoreClasses scope unprefixed tokens classes rest → AreText tokens → AllByRecursion ClassIsText classes × AreText rest
      more_classes_text (last_class c) t = let last = annotated_class_text c t.1 in ((last.0, tt), last.1)
      more_classes_text (next_class c more) t =
          let next = annotated_class_text c t.1 in
          let others = more_classes_text more next.1 in
          ((next.0, others.0), others.1)

      annotated_class_text : {tokens rest : List Lexeme} {class : WrittenClass} →
          IsAnnotatedClass scope unprefixed tokens class rest → AreText tokens → ClassIsText class × AreText rest
      annotated_class_text (annotated_class o c f) t = let one = one_class_text c (opening_text o t) in (one.0, follow_text f one.1)

      one_class_text : {tokens rest : List Lexeme} {class : WrittenClass} →
          IsOneClass scope unprefixed tokens class rest → AreText tokens → ClassIsText class × AreText rest
      one_class_text (unprefixed_name name) t = ((u, id_text name t.0), t.1)
      one_class_text (prefixed_name {prefix = p} {ns = ns} e) t = ((g.namespaces p ns e, t.0.1), t.1)
      one_class_text (wildcard w) t = (wildcard_text w, t.1)
      one_class_text (parenthesized_class c) t = let inside = class_text c t.1 in (inside.0, inside.1.1)

  mutual
    -- a pattern is of texts, and so is what is behind it; likewise below
    pattern_text : {tokens rest : List Lexeme} {p : WrittenPattern} →
        IsPattern scope tokens p rest → AreText tokens → PatternIsText p × AreText rest
    pattern_text (one_particle p) t = particle_text p t
    pattern_text (several_particles {join = j} {p = p} {more = ps} sign one more e) t =
        let first = particle_text one t in
        let others = more_particles_text more first.1 in
        (subst PatternIsText (sym e) (patterns_joined_text j (joins_text sign) p ps first.0 others.0), others.1)
    pattern_text (type_but o type params p) t =
        let named = opening_text o t in
        let given = param_braces_text params named.1 in
        let except = annotated_text p given.1.1 in
        ((type_text type named.0, given.0, except.0), except.1)

    more_particles_text : {sign : Symbol} {tokens rest : List Lexeme} {ps : List WrittenPattern} →
        AreMoreParticles scope sign tokens ps rest → AreText tokens → AllByRecursion PatternIsText ps × AreText rest
    more_particles_text (last_particle p) t = let last = particle_text p t.1 in ((last.0, tt), last.1)
    more_particles_text (next_particle p more) t =
        let next = particle_text p t.1 in
        let others = more_particles_text more next.1 in
        ((next.0, others.0), others.1)

    particle_text : {tokens rest : List Lexeme} {p : WrittenPattern} →
        IsParticle scope tokens p rest → AreText tokens → PatternIsText p × AreText rest
    particle_text (once p) t = annotated_text p t
    particle_text (repeated {p = q} makes p f) t = let one = annotated_text p t in (repeats_text makes q one.0, follow_text f one.1.1)

    annotated_text : {tokens rest : List Lexeme} {p : WrittenPattern} →
        IsAnnotated scope tokens p rest → AreText tokens → PatternIsText p × AreText rest
    annotated_text (annotated o p f) t = let one = primary_text p (opening_text o t) in (one.0, follow_text f one.1)

    primary_text : {tokens rest : List Lexeme} {p : WrittenPattern} →
        IsPrimary scope tokens p rest → AreText tokens → PatternIsText p × AreText rest
    primary_text (an_element c p) t =
        let class = class_text g.unprefixed c t.1 in
        let content = pattern_text p class.1.1 in
        ((class.0, content.0), content.1.1)
    primary_text (an_attribute c p) t =
        let class = class_text IsUtf8-nil c t.1 in
        let content = pattern_text p class.1.1 in
        ((class.0, content.0), content.1.1)
    primary_text (a_list p) t = let body = pattern_text p t.1.1 in (body.0, body.1.1)
    primary_text (a_mixed p) t = let body = pattern_text p t.1.1 in (body.0, body.1.1)
    primary_text a_reference t = (t.0, t.1)
    primary_text a_parent_reference t = (t.1.0, t.1.1)
    primary_text is_empty t = (tt, t.1)
    primary_text is_text t = (tt, t.1)
    primary_text is_not_allowed t = (tt, t.1)
    primary_text (untyped_value l) t = let said = literal_text l t in (((IsUtf8-nil, keyword_is_text word.Token), said.0), said.1)
    primary_text (typed_value type l) t = let said = literal_text l t.1 in ((type_text type t.0, said.0), said.1)
    primary_text (a_type type params) t = let given = param_braces_text params t.1 in ((type_text type t.0, given.0), given.1)
    primary_text (an_external file) t = reference_text file t.1
    primary_text (a_grammar_of items) t = let all = items_text items t.1.1 in (all.0, all.1.1)
    primary_text (parenthesized p) t = let inside = pattern_text p t.1 in (inside.0, inside.1.1)

    items_text : {tokens rest : List Lexeme} {items : WrittenItems} →
        AreItems scope tokens items rest → AreText tokens → ItemsAreText items × AreText rest
    items_text no_more_items t = (tt, t)
    items_text (next_item o one more) t =
        let first = item_text one (opening_text o t) in
        let others = items_text more first.1 in
        ((first.0, others.0), others.1)
    items_text (item_annotation o name inside more) t = items_text more (group_text inside (opening_text o t).1)

    item_text : {tokens rest : List Lexeme} {item : WrittenItem} →
        IsItem scope tokens item rest → AreText tokens → ItemIsText item × AreText rest
    item_text (a_definition name combine p) t = let body = pattern_text p t.1.1 in ((defined_text name t.0, body.0), body.1)
    item_text (a_div items) t = let all = items_text items t.1.1 in (all.0, all.1.1)
    item_text (an_include file) t = let named = reference_text file t.1 in ((named.0, tt), named.1)
    item_text (an_include_but file replacements) t =
        let named = reference_text file t.1 in
        let all = replacements_text replacements named.1.1 in
        ((named.0, all.0), all.1.1)

    replacements_text : {tokens rest : List Lexeme} {replacements : WrittenReplacements} →
        AreReplacements scope tokens replacements rest → AreText tokens → ReplacementsAreText replacements × AreText rest
    replacements_text no_more_replacements t = (tt, t)
    replacements_text (next_replacement o one more) t =
        let first = replacement_text one (opening_text o t) in
        let others = replacements_text more first.1 in
        ((first.0, others.0), others.1)
    replacements_text (replacement_annotation o name inside more) t = replacements_text more (group_text inside (opening_text o t).1)

    replacement_text : {tokens rest : List Lexeme} {replacement : WrittenReplacement} →
        IsReplacement scope tokens replacement rest → AreText tokens → ReplacementIsText replacement × AreText rest
    replacement_text (a_definition_anew name combine p) t = let body = pattern_text p t.1.1 in ((defined_text name t.0, body.0), body.1)
    replacement_text (a_div_anew replacements) t = let all = replacements_text replacements t.1.1 in (all.0, all.1.1)

-- a body is of texts
body_text : {scope : Scope} {tokens : List Lexeme} {surface : WrittenSurface} →
    GivesText scope → IsBody scope tokens surface → AreText tokens → HasUtf8Texts surface
body_text g (pattern_body o p) t = (pattern_text g p (opening_text o t)).0
body_text g (grammar_body o items) t = (items_text g items (opening_text o t)).0

-- tokens whose texts are UTF-8 say a surface whose texts are
said_text : (tokens : List Lexeme) (surface : WrittenSurface) → AreText tokens → Says tokens surface → HasUtf8Texts surface
said_text tokens surface t says =
    let declared = declarations_text says.file.declared t in
    body_text (scope_text says.declarations declared.0) says.file.said declared.1

-- ---- tokens with their places

-- tokens of texts, without their places
lexemes_text : (tokens : List RncToken) → HaveUtf8Texts tokens → AreText (lexemes tokens)
lexemes_text [] t = tt
lexemes_text (token ∷ tokens) t = (t.0, lexemes_text tokens t.1)

-- what reading tokens of texts answers is of texts
pub answered_text : (tokens : List RncToken) (end : ℕ) (answer : Result Surface ReadFault) → HaveUtf8Texts tokens →
    AnswersTokens tokens end answer → IfOk answer (λ (surface : Surface). HasUtf8Texts (surface_of surface))
answered_text tokens end (Ok surface) t a = said_text (lexemes tokens) (surface_of surface) (lexemes_text tokens t) a.1
answered_text tokens end (Err why) t a = tt
