-- Small files, read by hand.
use Rattle.std.specs.Prelude.{List, [], ◌∷◌, codes}
use Rattle.std.proofs.Common.{refl}
use Rattle.rnc_lex.specs.declared.token.Lexeme.TheVariants.{Identifier, PrefixedName, NamespaceWildcard, Literal, Keyword as word, Symbol as mark}
use Rattle.rnc_lex.specs.declared.token.Symbol.TheVariants.{LeftBrace, RightBrace, LeftBracket, RightBracket, Equals, Comma, Minus, Follows}
use Rattle.rnc_lex.specs.declared.token.Keyword.TheVariants as keyword
use Rattle.rnc_parse.specs.declared.declaration.Declaration.{Declaration}
use Rattle.rnc_parse.specs.declared.declaration.Declaration.TheVariants as declaration
use Rattle.rnc_parse.specs.declared.surface.Namespace.TheVariants.{Inherited, Uri}
use Rattle.rnc_parse.specs.declared.surface.Defined.TheVariants as defined
use Rattle.rnc_parse.specs.declared.surface.Combine.TheVariants as combine
use Rattle.rnc_parse.specs.Written.{the_name, names_in, without, element, attribute, any_text, ref, empty, group, define, no_items, item_then, a_pattern, a_grammar}
use Rattle.rnc_parse.specs.Scopes.{scope_of}
use Rattle.rnc_parse.specs.Annotations.{none_left, one_plain, bracketed, without_group, with_group, by_keyword, no_more, one_more}
use Rattle.rnc_parse.specs.Classes.{an_identifier, all_of_namespace, one_class, except_class, annotated_class, unprefixed_name, prefixed_name}
use Rattle.rnc_parse.specs.Parts.{one_literal}
use Rattle.rnc_parse.specs.Grammar.{by_comma, name_defined, alone, one_particle, several_particles, last_particle, once, annotated, an_element, an_attribute, a_reference, is_empty, is_text, no_more_items, next_item, a_definition}
use Rattle.rnc_parse.specs.Files.{of_uri, a_namespace_prefix, no_declaration, next_declaration, pattern_body, grammar_body, IsFile}

-- element a { text }
pub one_element : IsFile (scope_of []) (word keyword.Element ∷ Identifier (codes "a") ∷ mark LeftBrace ∷ word keyword.Text ∷ mark RightBrace ∷ []) []
    (a_pattern (element (the_name Inherited (codes "a")) any_text))
one_element = record {
  body = _;
  declared = no_declaration;
  said = pattern_body without_group (one_particle (once (annotated without_group
      (an_element (one_class (annotated_class without_group (unprefixed_name an_identifier) no_more))
      (one_particle (once (annotated without_group is_text no_more))))
      no_more)));
}

-- [] list = [ text ] x >> text [], y
pub annotations_are_dropped : IsFile (scope_of []) (mark LeftBracket ∷ mark RightBracket ∷ Identifier (codes "list") ∷ mark Equals ∷ mark LeftBracket ∷ word keyword.Text ∷ mark RightBracket ∷ Identifier (codes "x") ∷ mark Follows ∷ word keyword.Text ∷ mark LeftBracket ∷ mark RightBracket ∷ mark Comma ∷ Identifier (codes "y") ∷ []) []
    (a_grammar (item_then (define (defined.Name (codes "list")) combine.Alone (group (ref (codes "x")) (ref (codes "y")))) no_items))
annotations_are_dropped = record {
  body = _;
  declared = no_declaration;
  said = grammar_body without_group (next_item (with_group (bracketed none_left))
      (a_definition name_defined alone (several_particles by_comma
      (once (annotated (with_group (bracketed (one_plain tt none_left))) a_reference (one_more by_keyword (bracketed none_left) no_more)))
      (last_particle (once (annotated without_group a_reference no_more)))
      refl))
      no_more_items);
}

-- namespace p = "u" attribute p:* - p:text { empty }
abbrev p_is_u : List Declaration
p_is_u = declaration.Namespace (codes "p") (Uri (codes "u")) ∷ []

pub prefixes_are_looked_up : IsFile (scope_of p_is_u) (word keyword.Namespace ∷ Identifier (codes "p") ∷ mark Equals ∷ Literal (codes "u") ∷ word keyword.Attribute ∷ NamespaceWildcard (codes "p") ∷ mark Minus ∷ PrefixedName (codes "p") (codes "text") ∷ mark LeftBrace ∷ word keyword.Empty ∷ mark RightBrace ∷ []) p_is_u
    (a_pattern (attribute (without (names_in (Uri (codes "u"))) (the_name (Uri (codes "u")) (codes "text"))) empty))
prefixes_are_looked_up = record {
  body = _;
  declared = next_declaration (a_namespace_prefix an_identifier (of_uri one_literal)) no_declaration;
  said = pattern_body without_group (one_particle (once (annotated without_group
      (an_attribute (except_class without_group (all_of_namespace refl) (annotated_class without_group (prefixed_name refl) no_more))
      (one_particle (once (annotated without_group is_empty no_more))))
      no_more)));
}
