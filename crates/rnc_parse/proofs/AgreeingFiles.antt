-- Declarations and bodies of the grammar are found.
use Rattle.std.proofs.Common.{◌≡◌, ℕ, Bool, true, false, ◌||◌, List, [], ◌∷◌, ◌++◌, Option, Some, refl, sym, ap, ◌∙◌, append_assoc}
use Rattle.std.proofs.lemmas.List.{append-nil}
use Rattle.rnc_lex.specs.declared.token.Lexeme.{Lexeme}
use Rattle.rnc_lex.specs.declared.token.Lexeme.TheVariants.{Symbol as mark}
use Rattle.rnc_lex.specs.declared.token.Symbol.{Symbol}
use Rattle.rnc_lex.specs.declared.token.Symbol.TheVariants.{LeftBracket, Equals, BarEquals, AmpersandEquals, Tilde, Minus}
use Rattle.rnc_parse.specs.declared.declaration.Declaration.{Declaration}
use Rattle.rnc_parse.specs.declared.surface.Namespace.{Namespace}
use Rattle.rnc_parse.specs.declared.surface.Param.{Param}
use Rattle.rnc_parse.specs.Written.{WrittenPattern, WrittenItems, no_items, WrittenSurface, a_pattern, a_grammar}
use Rattle.rnc_parse.specs.Scopes.{Scope}
use Rattle.rnc_parse.specs.Annotations.{IsGroup, bracketed, MayBegin, without_group, with_group, NamesElement, by_identifier, by_prefixed_name, Follow, no_more, one_more}
use Rattle.rnc_parse.specs.Classes.{IsAnyId, an_identifier, a_keyword}
use Rattle.rnc_parse.specs.Parts.{IsLiteral, one_literal, joined_literals, IsType, library_type, string_type, token_type, MayHaveParams, without_params, with_params}
use Rattle.rnc_parse.specs.Grammar.{Joins, by_comma, by_bar, by_ampersand, Repeats, by_question_mark, by_star, by_plus, start_defined, name_defined, alone, by_choice, by_interleave, IsPattern, one_particle, several_particles, type_but, AreMoreParticles, last_particle, next_particle, once, repeated, annotated, IsPrimary, an_element, an_attribute, a_list, a_mixed, a_reference, a_parent_reference, is_empty, is_text, is_not_allowed, untyped_value, typed_value, a_type, an_external, a_grammar_of, parenthesized, AreItems, no_more_items, next_item, item_annotation, IsItem, a_definition, a_div, an_include, an_include_but}
use Rattle.rnc_parse.specs.Files.{IsNamespace, of_uri, inherited, IsDeclaration, a_namespace_prefix, a_default, a_default_prefix, a_library_prefix, AreDeclarations, no_declaration, next_declaration, IsBody, pattern_body, grammar_body, IsFile}
use Rattle.rnc_parse.specs.Reading.{Reading, read, ◌>>=◌, first, behind, stands, loop_at}
use Rattle.rnc_parse.specs.ReadingAnnotations.{opening_at}
use Rattle.rnc_parse.specs.ReadingParts.{is_inherit}
use Rattle.rnc_parse.specs.ReadingPatterns.{pattern_within, items_within, inside_at, pattern_at, items_at}
use Rattle.rnc_parse.specs.ReadingFiles.{namespace_uri_at, default_prefix_at, namespace_declaration_at, default_declaration_at, library_declaration_at, declaration_at, is_declaration, declarations_at, is_combine, begins_items, ended, body_at}
use Rattle.rnc_parse.proofs.Loops.{loop_on, loop_ends}
use Rattle.rnc_parse.proofs.Passing.{passes_opening}
use Rattle.rnc_parse.proofs.Shortening.{declaration_shortens}
use Rattle.rnc_parse.proofs.Agreeing.{Agrees, found, agree_bind, sure, behind_itself, group_opens, opening_found, literal_found, any_id_found}
use Rattle.rnc_parse.proofs.AgreeingClasses.{Counts, counts_behind}
use Rattle.rnc_parse.proofs.AgreeingPatterns.{goes_with_pattern, EndsItems, pattern_agrees, items_agree, primary_no_group, type_no_group, item_no_group, note_no_group}

-- ---- declarations

literal_no_inherit : {tokens rest : List Lexeme} {text : List ℕ} → IsLiteral tokens text rest → is_inherit (first tokens) ≡ false
unfolding first
literal_no_inherit one_literal = refl
literal_no_inherit (joined_literals later e) = refl

namespace_uri_found : {tokens rest : List Lexeme} {ns : Namespace} →
    IsNamespace tokens ns rest → stands Tilde rest ≡ false → namespace_uri_at tokens ≡ read ns rest
unfolding namespace_uri_at first behind
namespace_uri_found (of_uri l) e = rw (literal_no_inherit l, literal_found l e) refl
namespace_uri_found inherited e = refl

id_no_equals : {token : Lexeme} {name : List ℕ} (rest : List Lexeme) → IsAnyId token name → stands Equals (token ∷ rest) ≡ false
unfolding first
id_no_equals rest an_identifier = refl
id_no_equals rest a_keyword = refl

declaration_found : {tokens rest : List Lexeme} {one : Declaration} →
    IsDeclaration tokens one rest → stands Tilde rest ≡ false → declaration_at tokens ≡ read one rest
unfolding declaration_at namespace_declaration_at default_declaration_at library_declaration_at default_prefix_at first behind
declaration_found (a_namespace_prefix {tokens = t} name ns) e =
    rw (any_id_found (mark Equals ∷ t) name, behind_itself Equals t, namespace_uri_found ns e) refl
declaration_found (a_default {tokens = t} ns) e = rw (behind_itself Equals t, namespace_uri_found ns e) refl
declaration_found (a_default_prefix {tokens = t} name ns) e =
    rw (id_no_equals (mark Equals ∷ t) name, any_id_found (mark Equals ∷ t) name, behind_itself Equals t, namespace_uri_found ns e) refl
declaration_found (a_library_prefix {tokens = t} name l) e =
    rw (any_id_found (mark Equals ∷ t) name, behind_itself Equals t, literal_found l e) refl

declaration_goes : {tokens rest : List Lexeme} {one : Declaration} → IsDeclaration tokens one rest → is_declaration (first tokens) ≡ true
unfolding first
declaration_goes (a_namespace_prefix name ns) = refl
declaration_goes (a_default ns) = refl
declaration_goes (a_default_prefix name ns) = refl
declaration_goes (a_library_prefix name l) = refl

declaration_no_tilde : {tokens rest : List Lexeme} {one : Declaration} → IsDeclaration tokens one rest → stands Tilde tokens ≡ false
unfolding first
declaration_no_tilde (a_namespace_prefix name ns) = refl
declaration_no_tilde (a_default ns) = refl
declaration_no_tilde (a_default_prefix name ns) = refl
declaration_no_tilde (a_library_prefix name l) = refl

declarations_no_tilde : {tokens rest : List Lexeme} {declarations : List Declaration} →
    AreDeclarations tokens declarations rest → stands Tilde rest ≡ false → stands Tilde tokens ≡ false
declarations_no_tilde no_declaration e = e
declarations_no_tilde (next_declaration one later) e = declaration_no_tilde one

declarations_from : {tokens rest : List Lexeme} {declarations : List Declaration} (before : List Declaration) →
    AreDeclarations tokens declarations rest → is_declaration (first rest) ≡ false → stands Tilde rest ≡ false →
    loop_at (λ t. is_declaration (first t)) declaration_at (λ ds one. ds ++ one ∷ []) before tokens ≡ read (before ++ declarations) rest
declarations_from {rest = r} before no_declaration e f = loop_ends (λ t. is_declaration (first t)) declaration_at (λ ds one. ds ++ one ∷ []) before r e ∙ ap (λ l. read l r) (sym (append-nil before))
declarations_from {tokens = t} {rest = r} before (next_declaration {first = one} {more = ds} one_is later) e f =
    loop_on (λ t. is_declaration (first t)) declaration_at (λ ds one. ds ++ one ∷ []) declaration_shortens before t (declaration_goes one_is)
    ∙ ap (λ y. y >>= λ x left. loop_at (λ t. is_declaration (first t)) declaration_at (λ ds one. ds ++ one ∷ []) (before ++ x ∷ []) left) (declaration_found one_is (declarations_no_tilde later f))
    ∙ declarations_from (before ++ one ∷ []) later e f
    ∙ ap (λ (l : List Declaration). read l r) (append_assoc before (one ∷ []) ds)

pub declarations_found : {tokens rest : List Lexeme} {declarations : List Declaration} →
    AreDeclarations tokens declarations rest → is_declaration (first rest) ≡ false → stands Tilde rest ≡ false →
    declarations_at tokens ≡ read declarations rest
unfolding declarations_at
declarations_found are e f = declarations_from [] are e f

-- ---- how bodies begin

-- tokens that would make items of a name
abbrev makes_items : Option Lexeme → Bool
makes_items (Some (mark Equals)) = true
makes_items (Some (mark BarEquals)) = true
makes_items (Some (mark AmpersandEquals)) = true
makes_items (Some (mark LeftBracket)) = true
makes_items _ = false

combine_or_bracket : (rest : List Lexeme) → makes_items (first rest) ≡ false → (is_combine (first rest) || stands LeftBracket rest) ≡ false
unfolding first
combine_or_bracket (mark Equals ∷ rest) e = absurd (cc)
combine_or_bracket (mark BarEquals ∷ rest) e = absurd (cc)
combine_or_bracket (mark AmpersandEquals ∷ rest) e = absurd (cc)
combine_or_bracket (mark LeftBracket ∷ rest) e = absurd (cc)
combine_or_bracket _ e = refl

no_bracket : (rest : List Lexeme) → makes_items (first rest) ≡ false → stands LeftBracket rest ≡ false
unfolding first
no_bracket (mark LeftBracket ∷ rest) e = absurd (cc)
no_bracket _ e = refl

follow_makes_none : {tokens rest : List Lexeme} → Follow tokens rest → makes_items (first rest) ≡ false → makes_items (first tokens) ≡ false
unfolding first
follow_makes_none no_more e = e
follow_makes_none (one_more name g later) e = refl

repeat_makes_none : {m : Symbol} {make : WrittenPattern → WrittenPattern} (rest : List Lexeme) →
    Repeats m make → makes_items (first (mark m ∷ rest)) ≡ false
unfolding first
repeat_makes_none rest by_question_mark = refl
repeat_makes_none rest by_star = refl
repeat_makes_none rest by_plus = refl

more_makes_none : {scope : Scope} {m : Symbol} {join : WrittenPattern → WrittenPattern → WrittenPattern} {tokens rest : List Lexeme}
    {ps : List WrittenPattern} →
    Joins m join → AreMoreParticles scope m tokens ps rest → makes_items (first tokens) ≡ false
unfolding first
more_makes_none by_comma (last_particle p) = refl
more_makes_none by_bar (last_particle p) = refl
more_makes_none by_ampersand (last_particle p) = refl
more_makes_none by_comma (next_particle p later) = refl
more_makes_none by_bar (next_particle p later) = refl
more_makes_none by_ampersand (next_particle p later) = refl

params_make_none : {tokens rest : List Lexeme} {params : List Param} →
    MayHaveParams tokens params rest → makes_items (first rest) ≡ false → makes_items (first tokens) ≡ false
unfolding first
params_make_none without_params e = e
params_make_none (with_params inside) e = refl

literal_makes_none : {tokens rest : List Lexeme} {text : List ℕ} → IsLiteral tokens text rest → makes_items (first tokens) ≡ false
unfolding first
literal_makes_none one_literal = refl
literal_makes_none (joined_literals later e) = refl

type_no_items : {scope : Scope} {k : Lexeme} {type : _} (rest : List Lexeme) →
    IsType scope k type → makes_items (first rest) ≡ false → begins_items (k ∷ rest) ≡ false
unfolding begins_items first behind
type_no_items rest (library_type e) none = no_bracket rest none
type_no_items rest string_type none = refl
type_no_items rest token_type none = refl

-- a primary begins no items
primary_no_items : {scope : Scope} {tokens rest : List Lexeme} {p : WrittenPattern} →
    IsPrimary scope tokens p rest → makes_items (first rest) ≡ false → begins_items tokens ≡ false
unfolding begins_items first behind
primary_no_items (an_element c p) e = refl
primary_no_items (an_attribute c p) e = refl
primary_no_items (a_list p) e = refl
primary_no_items (a_mixed p) e = refl
primary_no_items {rest = r} a_reference e = combine_or_bracket r e
primary_no_items a_parent_reference e = refl
primary_no_items is_empty e = refl
primary_no_items is_text e = refl
primary_no_items is_not_allowed e = refl
primary_no_items (untyped_value one_literal) e = refl
primary_no_items (untyped_value (joined_literals later same)) e = refl
primary_no_items (typed_value {tokens = t} type l) e = type_no_items t type (literal_makes_none l)
primary_no_items (a_type {tokens = t} type params) e = type_no_items t type (params_make_none params e)
primary_no_items (an_external f) e = refl
primary_no_items (a_grammar_of items) e = refl
primary_no_items (parenthesized p) e = refl

primary_no_declaration : {scope : Scope} {tokens rest : List Lexeme} {p : WrittenPattern} →
    IsPrimary scope tokens p rest → (is_declaration (first tokens) ≡ false) × (stands Tilde tokens ≡ false)
unfolding first
primary_no_declaration (an_element c p) = (refl, refl)
primary_no_declaration (an_attribute c p) = (refl, refl)
primary_no_declaration (a_list p) = (refl, refl)
primary_no_declaration (a_mixed p) = (refl, refl)
primary_no_declaration a_reference = (refl, refl)
primary_no_declaration a_parent_reference = (refl, refl)
primary_no_declaration is_empty = (refl, refl)
primary_no_declaration is_text = (refl, refl)
primary_no_declaration is_not_allowed = (refl, refl)
primary_no_declaration (untyped_value one_literal) = (refl, refl)
primary_no_declaration (untyped_value (joined_literals later same)) = (refl, refl)
primary_no_declaration (typed_value (library_type e) l) = (refl, refl)
primary_no_declaration (typed_value string_type l) = (refl, refl)
primary_no_declaration (typed_value token_type l) = (refl, refl)
primary_no_declaration (a_type (library_type e) ps) = (refl, refl)
primary_no_declaration (a_type string_type ps) = (refl, refl)
primary_no_declaration (a_type token_type ps) = (refl, refl)
primary_no_declaration (an_external f) = (refl, refl)
primary_no_declaration (a_grammar_of items) = (refl, refl)
primary_no_declaration (parenthesized p) = (refl, refl)

-- a pattern without the group in front of it
record Stripped (scope : Scope) (tokens : List Lexeme) (p : WrittenPattern) (rest : List Lexeme) : Type 0 where
  pub inside : List Lexeme
  pub opened : MayBegin tokens inside
  pub pattern : IsPattern scope inside p rest
  pub no_group : stands LeftBracket inside ≡ false
  pub no_items : begins_items inside ≡ false
  pub no_declaration : (is_declaration (first inside) ≡ false) × (stands Tilde inside ≡ false)

type_no_declaration : {scope : Scope} {k : Lexeme} {type : _} (rest : List Lexeme) →
    IsType scope k type → (is_declaration (first (k ∷ rest)) ≡ false) × (stands Tilde (k ∷ rest) ≡ false)
unfolding first
type_no_declaration rest (library_type e) = (refl, refl)
type_no_declaration rest string_type = (refl, refl)
type_no_declaration rest token_type = (refl, refl)

minus_makes_none : (rest : List Lexeme) → makes_items (first (mark Minus ∷ rest)) ≡ false
unfolding first
minus_makes_none rest = refl

strip : {scope : Scope} {tokens rest : List Lexeme} {p : WrittenPattern} →
    IsPattern scope tokens p rest → makes_items (first rest) ≡ false → Stripped scope tokens p rest
strip (one_particle (once (annotated g primary f))) e = record { inside = _; opened = g; pattern = one_particle (once (annotated without_group primary f)); no_group = primary_no_group primary; no_items = primary_no_items primary (follow_makes_none f e); no_declaration = primary_no_declaration primary }
strip (one_particle (repeated {behind = b} makes (annotated g primary f) later)) e = record { inside = _; opened = g; pattern = one_particle (repeated makes (annotated without_group primary f) later); no_group = primary_no_group primary; no_items = primary_no_items primary (follow_makes_none f (repeat_makes_none b makes)); no_declaration = primary_no_declaration primary }
strip (several_particles sign (once (annotated g primary f)) later is) e = record { inside = _; opened = g; pattern = several_particles sign (once (annotated without_group primary f)) later is; no_group = primary_no_group primary; no_items = primary_no_items primary (follow_makes_none f (more_makes_none sign later)); no_declaration = primary_no_declaration primary }
strip (several_particles sign (repeated {behind = b} makes (annotated g primary f) follow) later is) e = record { inside = _; opened = g; pattern = several_particles sign (repeated makes (annotated without_group primary f) follow) later is; no_group = primary_no_group primary; no_items = primary_no_items primary (follow_makes_none f (repeat_makes_none b makes)); no_declaration = primary_no_declaration primary }
strip (type_but {inside = i} {behind = b} g type params a) e = record { inside = _; opened = g; pattern = type_but without_group type params a; no_group = type_no_group i type; no_items = type_no_items i type (params_make_none params (minus_makes_none b)); no_declaration = type_no_declaration i type }

-- items without the group in front of the first
record StrippedItems (scope : Scope) (tokens : List Lexeme) (items : WrittenItems) (rest : List Lexeme) : Type 0 where
  pub inside : List Lexeme
  pub opened : MayBegin tokens inside
  pub are : AreItems scope inside items rest
  pub no_group : stands LeftBracket inside ≡ false
  pub some_items : begins_items inside ≡ true
  pub no_declaration : (is_declaration (first inside) ≡ false) × (stands Tilde inside ≡ false)

item_begins : {scope : Scope} {tokens rest : List Lexeme} {one : _} → IsItem scope tokens one rest → begins_items tokens ≡ true
unfolding begins_items first behind
item_begins (a_definition start_defined c p) = refl
item_begins (a_definition name_defined alone p) = refl
item_begins (a_definition name_defined by_choice p) = refl
item_begins (a_definition name_defined by_interleave p) = refl
item_begins (a_div items) = refl
item_begins (an_include f) = refl
item_begins (an_include_but f rs) = refl

note_begins_items : {name : Lexeme} {inside rest : List Lexeme} →
    NamesElement name → IsGroup inside rest → begins_items (name ∷ inside) ≡ true
unfolding begins_items first behind
note_begins_items by_identifier (bracketed g) = refl
note_begins_items by_prefixed_name (bracketed g) = refl

item_no_declaration : {scope : Scope} {tokens rest : List Lexeme} {one : _} →
    IsItem scope tokens one rest → (is_declaration (first tokens) ≡ false) × (stands Tilde tokens ≡ false)
unfolding first
item_no_declaration (a_definition start_defined c p) = (refl, refl)
item_no_declaration (a_definition name_defined c p) = (refl, refl)
item_no_declaration (a_div items) = (refl, refl)
item_no_declaration (an_include f) = (refl, refl)
item_no_declaration (an_include_but f rs) = (refl, refl)

note_no_declaration : {name : Lexeme} (inside : List Lexeme) →
    NamesElement name → (is_declaration (first (name ∷ inside)) ≡ false) × (stands Tilde (name ∷ inside) ≡ false)
unfolding first
note_no_declaration inside by_identifier = (refl, refl)
note_no_declaration inside by_prefixed_name = (refl, refl)

strip_items : {scope : Scope} {tokens : List Lexeme} {items : WrittenItems} →
    AreItems scope tokens items [] → StrippedItems scope tokens items []
unfolding begins_items first
strip_items no_more_items =
    record { inside = []; opened = without_group; are = no_more_items; no_group = refl; some_items = refl; no_declaration = (refl, refl) }
strip_items (next_item g item later) = record { inside = _; opened = g; are = next_item without_group item later; no_group = item_no_group item; some_items = item_begins item; no_declaration = item_no_declaration item }
strip_items (item_annotation {inside = i} g name noted later) = record { inside = _; opened = g; are = item_annotation without_group name noted later; no_group = note_no_group i name; some_items = note_begins_items name noted; no_declaration = note_no_declaration i name }

-- ---- bodies

open_no_declaration : {tokens inside : List Lexeme} →
    MayBegin tokens inside → (is_declaration (first inside) ≡ false) × (stands Tilde inside ≡ false) →
    (is_declaration (first tokens) ≡ false) × (stands Tilde tokens ≡ false)
unfolding first
open_no_declaration without_group h = h
open_no_declaration (with_group (bracketed g)) h = (refl, refl)

nothing_makes_items : makes_items (first []) ≡ false
unfolding first
nothing_makes_items = refl

nothing_goes_with : goes_with_pattern (first []) ≡ false
unfolding first
nothing_goes_with = refl

nothing_ends : EndsItems []
unfolding first
nothing_ends = record { stops = refl; front = refl }

pub body_no_declaration : {scope : Scope} {tokens : List Lexeme} {surface : WrittenSurface} →
    IsBody scope tokens surface → (is_declaration (first tokens) ≡ false) × (stands Tilde tokens ≡ false)
body_no_declaration (pattern_body g p) = let t = strip p nothing_makes_items in open_no_declaration g (open_no_declaration t.opened t.no_declaration)
body_no_declaration (grammar_body g items) = let t = strip_items items in open_no_declaration g (open_no_declaration t.opened t.no_declaration)

module _ (d s : Scope) where
  ended_agrees : {A B : Type 0} {value : A} (make : A → B) (x : Reading A) →
      Agrees d s value [] x → Agrees d s (make value) [] (ended make x)
  ended_agrees make x agrees = agree_bind x _ agrees (λ other same. found (λ eq. ap make (same eq)))

  pattern_ended : {tokens : List Lexeme} {p : WrittenPattern} (left : ℕ) →
      Counts 0 left tokens → IsPattern s tokens p [] → Agrees d s (a_pattern p) [] (ended a_pattern (pattern_at d left tokens))
  unfolding pattern_at
  pattern_ended {tokens = t} left c p =
      ended_agrees a_pattern (pattern_within d left (inside_at d left) t) (pattern_agrees d s 0 left c p nothing_goes_with)

  items_ended : {tokens : List Lexeme} {items : WrittenItems} (left : ℕ) →
      Counts 0 left tokens → AreItems s tokens items [] → Agrees d s (a_grammar items) [] (ended a_grammar (items_at d left tokens))
  unfolding items_at items_within
  items_ended {tokens = t} left c items = ended_agrees a_grammar (items_within d left (inside_at d left) t) (items_agree d s 0 left c no_items no_items (λ eq. refl) items nothing_ends)

  pub body_agrees : {tokens : List Lexeme} {surface : WrittenSurface} (left : ℕ) →
      Counts 0 left tokens → IsBody s tokens surface → Agrees d s surface [] (body_at d left tokens)
  unfolding body_at
  body_agrees left c (pattern_body without_group p) =
      let t = strip p nothing_makes_items in
      sure (opening_at _) _ (opening_found t.opened t.no_group)
      (sure (opening_at _) _ (opening_found {tokens = t.inside} without_group t.no_group)
      (rw t.no_items (pattern_ended left (counts_behind c (passes_opening t.opened)) t.pattern)))
  body_agrees left c (pattern_body (with_group g) p) =
      let t = strip p nothing_makes_items in
      sure (opening_at _) _ (group_opens g)
      (sure (opening_at _) _ (opening_found t.opened t.no_group)
      (rw t.no_items (pattern_ended left (counts_behind c (passes_opening (with_group g))) p)))
  body_agrees left c (grammar_body without_group items) =
      let t = strip_items items in
      sure (opening_at _) _ (opening_found t.opened t.no_group)
      (sure (opening_at _) _ (opening_found {tokens = t.inside} without_group t.no_group)
      (rw t.some_items (items_ended left (counts_behind c (passes_opening t.opened)) t.are)))
  body_agrees left c (grammar_body (with_group g) items) =
      let t = strip_items items in
      sure (opening_at _) _ (group_opens g)
      (sure (opening_at _) _ (opening_found t.opened t.no_group)
      (rw t.some_items (items_ended left (counts_behind c (passes_opening (with_group g))) items)))

-- the declarations of a file are those that are found, and its body is behind them
pub file_declarations : {scope : Scope} {tokens : List Lexeme} {declarations : List Declaration}
    {surface : WrittenSurface} (file : IsFile scope tokens declarations surface) →
    declarations_at tokens ≡ read declarations file.body
file_declarations file = let begins = body_no_declaration file.said in declarations_found file.declared begins.0 begins.1
