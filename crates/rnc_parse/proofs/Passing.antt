-- What stands behind a part of a file is no longer than what it begins, and no more brackets are open there.
use Rattle.std.proofs.Common.{◌≡◌, ℕ, ◌+◌, ◌-◌, ◌≤◌, List, [], ◌∷◌, ◌++◌, length, refl, ap, subst, arith}
use Rattle.rnc_lex.specs.declared.token.Lexeme.{Lexeme}
use Rattle.rnc_lex.specs.declared.token.Lexeme.TheVariants.{Symbol as mark}
use Rattle.rnc_lex.specs.declared.token.Symbol.{Symbol}
use Rattle.rnc_lex.specs.declared.token.Symbol.TheVariants.{LeftBrace, RightBrace, LeftParenthesis, RightParenthesis, LeftBracket, RightBracket}
use Rattle.rnc_parse.specs.declared.surface.Namespace.{Namespace}
use Rattle.rnc_parse.specs.declared.surface.TypeName.{TypeName}
use Rattle.rnc_parse.specs.declared.surface.Param.{Param}
use Rattle.rnc_parse.specs.declared.surface.FileReference.{FileReference}
use Rattle.rnc_parse.specs.declared.surface.Defined.{Defined}
use Rattle.rnc_parse.specs.declared.surface.Combine.{Combine}
use Rattle.rnc_parse.specs.declared.declaration.Declaration.{Declaration}
use Rattle.rnc_parse.specs.Written.{WrittenClass, WrittenPattern, WrittenItem, WrittenItems, WrittenReplacement, WrittenReplacements}
use Rattle.rnc_parse.specs.Scopes.{Scope}
use Rattle.rnc_parse.specs.Annotations.{Closes, braces, parentheses, brackets, IsPlain, AreBalanced, none_left, one_plain, in_brackets, IsGroup, bracketed, MayBegin, without_group, with_group, NamesElement, by_identifier, by_prefixed_name, NamesFollower, by_element_name, by_keyword, Follow, no_more, one_more}
use Rattle.rnc_parse.specs.Classes.{IsAnyId, an_identifier, a_keyword, IsWildcard, all_of_namespace, all_names, IsClass, one_class, several_classes, except_class, AreMoreClasses, last_class, next_class, IsAnnotatedClass, annotated_class, IsOneClass, unprefixed_name, prefixed_name, wildcard, parenthesized_class}
use Rattle.rnc_parse.specs.Parts.{IsLiteral, one_literal, joined_literals, IsType, library_type, string_type, token_type, AreParams, no_param, param, MayHaveParams, without_params, with_params, IsReference, default_handed_on, prefix_handed_on}
use Rattle.rnc_parse.specs.Grammar.{Joins, by_comma, by_bar, by_ampersand, Repeats, by_question_mark, by_star, by_plus, IsDefined, start_defined, name_defined, IsCombine, alone, by_choice, by_interleave, IsPattern, one_particle, several_particles, type_but, AreMoreParticles, last_particle, next_particle, IsParticle, once, repeated, IsAnnotated, annotated, IsPrimary, an_element, an_attribute, a_list, a_mixed, a_reference, a_parent_reference, is_empty, is_text, is_not_allowed, untyped_value, typed_value, a_type, an_external, a_grammar_of, parenthesized, AreItems, no_more_items, next_item, item_annotation, IsItem, a_definition, a_div, an_include, an_include_but, AreReplacements, no_more_replacements, next_replacement, replacement_annotation, IsReplacement, a_definition_anew, a_div_anew}
use Rattle.rnc_parse.specs.Files.{open_behind, IsNamespace, of_uri, inherited, IsDeclaration, a_namespace_prefix, a_default, a_default_prefix, a_library_prefix}

-- ---- brackets

-- where so many brackets are open before the tokens, no more than `most` are behind any front of them
pub record Fits (most before : ℕ) (tokens : List Lexeme) : Type 0 where
  pub few : (front rest : List Lexeme) → tokens ≡ front ++ rest → open_behind before front ≤ most

fits_plain : {token : Lexeme} {rest : List Lexeme} {most : ℕ} (before : ℕ) →
    IsPlain token → Fits most before (token ∷ rest) → Fits most before rest
fits_plain {token = token} {most = m} before plain fits =
    record { few = λ front rest e. subst (λ n. n ≤ m) (step token front plain) (fits.few (token ∷ front) rest (ap (λ l. token ∷ l) e)) }
  where
    step : (x : Lexeme) (front : List Lexeme) → IsPlain x → open_behind before (x ∷ front) ≡ open_behind before front
    step (mark LeftBrace) front h = absurd h
    step (mark RightBrace) front h = absurd h
    step (mark LeftParenthesis) front h = absurd h
    step (mark RightParenthesis) front h = absurd h
    step (mark LeftBracket) front h = absurd h
    step (mark RightBracket) front h = absurd h
    step _ front h = refl

pub fits_opening : {opening closing : Symbol} {rest : List Lexeme} {most : ℕ} (before : ℕ) →
    Closes opening closing → Fits most before (mark opening ∷ rest) → Fits most (before + 1) rest
fits_opening before braces fits = record { few = λ front rest e. fits.few (mark LeftBrace ∷ front) rest (ap (λ l. mark LeftBrace ∷ l) e) }
fits_opening before parentheses fits =
    record { few = λ front rest e. fits.few (mark LeftParenthesis ∷ front) rest (ap (λ l. mark LeftParenthesis ∷ l) e) }
fits_opening before brackets fits =
    record { few = λ front rest e. fits.few (mark LeftBracket ∷ front) rest (ap (λ l. mark LeftBracket ∷ l) e) }

one_less : {most : ℕ} (before : ℕ) (front : List Lexeme) → open_behind (before + 1 - 1) front ≤ most → open_behind before front ≤ most
one_less {most = m} before front h = let e : before + 1 - 1 ≡ before = omega arith in subst (λ n. open_behind n front ≤ m) e h

fits_closing : {opening closing : Symbol} {rest : List Lexeme} {most : ℕ} (before : ℕ) →
    Closes opening closing → Fits most (before + 1) (mark closing ∷ rest) → Fits most before rest
fits_closing before braces fits =
    record { few = λ front rest e. one_less before front (fits.few (mark RightBrace ∷ front) rest (ap (λ l. mark RightBrace ∷ l) e)) }
fits_closing before parentheses fits = record { few = λ front rest e. one_less before front (fits.few (mark RightParenthesis ∷ front) rest (ap (λ l. mark RightParenthesis ∷ l) e)) }
fits_closing before brackets fits =
    record { few = λ front rest e. one_less before front (fits.few (mark RightBracket ∷ front) rest (ap (λ l. mark RightBracket ∷ l) e)) }

-- a bracket that may be opened is one of these
pub fits_one : {opening closing : Symbol} {rest : List Lexeme} {most : ℕ} (before : ℕ) →
    Closes opening closing → Fits most before (mark opening ∷ rest) → before + 1 ≤ most
fits_one before closes fits = (fits_opening before closes fits).few [] _ refl

-- ---- what is passed

-- the rest stands behind the tokens, and as many brackets are open there
pub record Passes (tokens rest : List Lexeme) : Type 0 where
  pub within : length rest ≤ length tokens
  pub fits : (most before : ℕ) → Fits most before tokens → Fits most before rest

pub nothing : {tokens : List Lexeme} → Passes tokens tokens
nothing = record { within = omega arith; fits = λ most before h. h }

infixl 10 ◌then◌
pub ◌then◌ : {a b c : List Lexeme} → Passes a b → Passes b c → Passes a c
p then q = record { within = omega (arith, p.within, q.within); fits = λ most before h. q.fits most before (p.fits most before h) }

pub token : {x : Lexeme} {rest : List Lexeme} → IsPlain x → Passes (x ∷ rest) rest
token plain = record { within = omega arith; fits = λ most before h. fits_plain before plain h }

pub in_between : {opening closing : Symbol} {inside rest : List Lexeme} →
    Closes opening closing → Passes inside (mark closing ∷ rest) → Passes (mark opening ∷ inside) rest
in_between closes p = record {
  within = omega (arith, p.within);
  fits = λ most before h. fits_closing before closes (p.fits most (before + 1) (fits_opening before closes h));
}

-- ---- annotations

pub passes_balanced : {tokens rest : List Lexeme} → AreBalanced tokens rest → Passes tokens rest
passes_balanced none_left = nothing
passes_balanced (one_plain plain more) = token plain then passes_balanced more
passes_balanced (in_brackets closes inside more) = in_between closes (passes_balanced inside) then passes_balanced more

pub passes_group : {tokens rest : List Lexeme} → IsGroup tokens rest → Passes tokens rest
passes_group (bracketed inside) = in_between brackets (passes_balanced inside)

pub passes_opening : {tokens rest : List Lexeme} → MayBegin tokens rest → Passes tokens rest
passes_opening without_group = nothing
passes_opening (with_group g) = passes_group g

pub plain_element_name : {x : Lexeme} → NamesElement x → IsPlain x
plain_element_name by_identifier = tt
plain_element_name by_prefixed_name = tt

plain_follower : {x : Lexeme} → NamesFollower x → IsPlain x
plain_follower (by_element_name n) = plain_element_name n
plain_follower by_keyword = tt

pub passes_follow : {tokens rest : List Lexeme} → Follow tokens rest → Passes tokens rest
passes_follow no_more = nothing
passes_follow (one_more name g more) = token tt then token (plain_follower name) then passes_group g then passes_follow more

-- ---- parts

pub plain_any_id : {x : Lexeme} {name : List ℕ} → IsAnyId x name → IsPlain x
plain_any_id an_identifier = tt
plain_any_id a_keyword = tt

pub passes_literal : {tokens rest : List Lexeme} {text : List ℕ} → IsLiteral tokens text rest → Passes tokens rest
passes_literal one_literal = token tt
passes_literal (joined_literals more e) = token tt then token tt then passes_literal more

pub plain_type : {scope : Scope} {x : Lexeme} {type : TypeName} → IsType scope x type → IsPlain x
plain_type (library_type e) = tt
plain_type string_type = tt
plain_type token_type = tt

pub passes_params : {tokens rest : List Lexeme} {params : List Param} → AreParams tokens params rest → Passes tokens rest
passes_params no_param = nothing
passes_params (param g name text more) =
    passes_opening g then token (plain_any_id name) then token tt then passes_literal text then passes_params more

pub passes_param_braces : {tokens rest : List Lexeme} {params : List Param} → MayHaveParams tokens params rest → Passes tokens rest
passes_param_braces without_params = nothing
passes_param_braces (with_params inside) = in_between braces (passes_params inside)

pub passes_reference : {scope : Scope} {tokens rest : List Lexeme} {file : FileReference} →
    IsReference scope tokens file rest → Passes tokens rest
passes_reference (default_handed_on uri) = passes_literal uri
passes_reference (prefix_handed_on uri name e) = passes_literal uri then token tt then token tt then token (plain_any_id name)

-- ---- name classes

pub plain_wildcard : {scope : Scope} {x : Lexeme} {class : WrittenClass} → IsWildcard scope x class → IsPlain x
plain_wildcard (all_of_namespace e) = tt
plain_wildcard all_names = tt

module _ {scope : Scope} {unprefixed : Namespace} where
  mutual
    pub passes_class : {tokens rest : List Lexeme} {class : WrittenClass} → IsClass scope unprefixed tokens class rest → Passes tokens rest
    passes_class (one_class c) = passes_annotated_class c
    passes_class (several_classes c more e) = passes_annotated_class c then passes_more_classes more
    passes_class (except_class g w c) = passes_opening g then token (plain_wildcard w) then token tt then passes_annotated_class c

    pub passes_more_classes : {tokens rest : List Lexeme} {classes : List WrittenClass} →
        AreMoreClasses scope unprefixed tokens classes rest → Passes tokens rest
    passes_more_classes (last_class c) = token tt then passes_annotated_class c
    passes_more_classes (next_class c more) = token tt then passes_annotated_class c then passes_more_classes more

    pub passes_annotated_class : {tokens rest : List Lexeme} {class : WrittenClass} →
        IsAnnotatedClass scope unprefixed tokens class rest → Passes tokens rest
    passes_annotated_class (annotated_class g c f) = passes_opening g then passes_one_class c then passes_follow f

    pub passes_one_class : {tokens rest : List Lexeme} {class : WrittenClass} →
        IsOneClass scope unprefixed tokens class rest → Passes tokens rest
    passes_one_class (unprefixed_name name) = token (plain_any_id name)
    passes_one_class (prefixed_name e) = token tt
    passes_one_class (wildcard w) = token (plain_wildcard w)
    passes_one_class (parenthesized_class c) = in_between parentheses (passes_class c)

-- ---- patterns and items

pub plain_sign : {sign : Symbol} {join : WrittenPattern → WrittenPattern → WrittenPattern} → Joins sign join → IsPlain (mark sign)
plain_sign by_comma = tt
plain_sign by_bar = tt
plain_sign by_ampersand = tt

pub plain_repeat : {sign : Symbol} {repeat : WrittenPattern → WrittenPattern} → Repeats sign repeat → IsPlain (mark sign)
plain_repeat by_question_mark = tt
plain_repeat by_star = tt
plain_repeat by_plus = tt

pub plain_defined : {x : Lexeme} {name : Defined} → IsDefined x name → IsPlain x
plain_defined start_defined = tt
plain_defined name_defined = tt

pub plain_combine : {sign : Symbol} {combine : Combine} → IsCombine sign combine → IsPlain (mark sign)
plain_combine alone = tt
plain_combine by_choice = tt
plain_combine by_interleave = tt

module _ {scope : Scope} where
  mutual
    pub passes_pattern : {tokens rest : List Lexeme} {p : WrittenPattern} → IsPattern scope tokens p rest → Passes tokens rest
    passes_pattern (one_particle p) = passes_particle p
    passes_pattern (several_particles sign p more e) = passes_particle p then passes_more_particles (plain_sign sign) more
    passes_pattern (type_but g type params p) =
        passes_opening g then token (plain_type type) then passes_param_braces params then token tt then passes_annotated p

    pub passes_more_particles : {sign : Symbol} {tokens rest : List Lexeme} {more : List WrittenPattern} →
        IsPlain (mark sign) → AreMoreParticles scope sign tokens more rest → Passes tokens rest
    passes_more_particles plain (last_particle p) = token plain then passes_particle p
    passes_more_particles plain (next_particle p more) = token plain then passes_particle p then passes_more_particles plain more

    pub passes_particle : {tokens rest : List Lexeme} {p : WrittenPattern} → IsParticle scope tokens p rest → Passes tokens rest
    passes_particle (once p) = passes_annotated p
    passes_particle (repeated r p f) = passes_annotated p then token (plain_repeat r) then passes_follow f

    pub passes_annotated : {tokens rest : List Lexeme} {p : WrittenPattern} → IsAnnotated scope tokens p rest → Passes tokens rest
    passes_annotated (annotated g p f) = passes_opening g then passes_primary p then passes_follow f

    pub passes_primary : {tokens rest : List Lexeme} {p : WrittenPattern} → IsPrimary scope tokens p rest → Passes tokens rest
    passes_primary (an_element c p) = token tt then passes_class c then in_between braces (passes_pattern p)
    passes_primary (an_attribute c p) = token tt then passes_class c then in_between braces (passes_pattern p)
    passes_primary (a_list p) = token tt then in_between braces (passes_pattern p)
    passes_primary (a_mixed p) = token tt then in_between braces (passes_pattern p)
    passes_primary a_reference = token tt
    passes_primary a_parent_reference = token tt then token tt
    passes_primary is_empty = token tt
    passes_primary is_text = token tt
    passes_primary is_not_allowed = token tt
    passes_primary (untyped_value text) = passes_literal text
    passes_primary (typed_value type text) = token (plain_type type) then passes_literal text
    passes_primary (a_type type params) = token (plain_type type) then passes_param_braces params
    passes_primary (an_external file) = token tt then passes_reference file
    passes_primary (a_grammar_of items) = token tt then in_between braces (passes_items items)
    passes_primary (parenthesized p) = in_between parentheses (passes_pattern p)

    pub passes_items : {tokens rest : List Lexeme} {items : WrittenItems} → AreItems scope tokens items rest → Passes tokens rest
    passes_items no_more_items = nothing
    passes_items (next_item g item more) = passes_opening g then passes_item item then passes_items more
    passes_items (item_annotation g name group more) =
        passes_opening g then token (plain_element_name name) then passes_group group then passes_items more

    pub passes_item : {tokens rest : List Lexeme} {item : WrittenItem} → IsItem scope tokens item rest → Passes tokens rest
    passes_item (a_definition name sign p) = token (plain_defined name) then token (plain_combine sign) then passes_pattern p
    passes_item (a_div items) = token tt then in_between braces (passes_items items)
    passes_item (an_include file) = token tt then passes_reference file
    passes_item (an_include_but file replacements) =
        token tt then passes_reference file then in_between braces (passes_replacements replacements)

    pub passes_replacements : {tokens rest : List Lexeme} {replacements : WrittenReplacements} →
        AreReplacements scope tokens replacements rest → Passes tokens rest
    passes_replacements no_more_replacements = nothing
    passes_replacements (next_replacement g one more) = passes_opening g then passes_replacement one then passes_replacements more
    passes_replacements (replacement_annotation g name group more) =
        passes_opening g then token (plain_element_name name) then passes_group group then passes_replacements more

    pub passes_replacement : {tokens rest : List Lexeme} {replacement : WrittenReplacement} →
        IsReplacement scope tokens replacement rest → Passes tokens rest
    passes_replacement (a_definition_anew name sign p) = token (plain_defined name) then token (plain_combine sign) then passes_pattern p
    passes_replacement (a_div_anew replacements) = token tt then in_between braces (passes_replacements replacements)

-- ---- declarations

pub passes_namespace : {tokens rest : List Lexeme} {ns : Namespace} → IsNamespace tokens ns rest → Passes tokens rest
passes_namespace (of_uri uri) = passes_literal uri
passes_namespace inherited = token tt

pub passes_declaration : {tokens rest : List Lexeme} {declaration : Declaration} →
    IsDeclaration tokens declaration rest → Passes tokens rest
passes_declaration (a_namespace_prefix name ns) = token tt then token (plain_any_id name) then token tt then passes_namespace ns
passes_declaration (a_default ns) = token tt then token tt then token tt then passes_namespace ns
passes_declaration (a_default_prefix name ns) = token tt then token tt then token (plain_any_id name) then token tt then passes_namespace ns
passes_declaration (a_library_prefix name uri) = token tt then token (plain_any_id name) then token tt then passes_literal uri
