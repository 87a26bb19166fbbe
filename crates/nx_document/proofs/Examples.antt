-- What is a document, and what is no tag, worked out by hand.
use Rattle.std.proofs.Common.{◌≡◌, ℕ, true, false, Some, None, List, [], ◌∷◌, ◌++◌, refl, ap, codes}
use Rattle.std.specs.Str.{chars}
use Prim.Native.String.{String}
use lib.Utf8.{encode}
use Rattle.nx_base.specs.Characters.{is_char, is_space, is_name_start, is_name_char}
use Rattle.nx_base.specs.Form.{spells, begins, shortest_front, passing_front}
use Rattle.nx_base.specs.Tokens.{first_token, markup, begins_declaration, instruction, doctype, begins_with, closed, bytes_before, bytes_up_to, doctype_bytes, piece, bad, bad_rest, tag_or, tag, cut, tokens_within, tokens_of}
use Rattle.nx_base.specs.Trees.{Tree, Children, nil, string, element}
use Rattle.nx_base.specs.Trees as trees
use Rattle.nx_base.specs.declared.fault.Kind.TheVariants.{BadReference}
use Rattle.nx_base.specs.declared.name.Name.{Name}
use Rattle.nx_base.specs.declared.token.Token.{Token}
use Rattle.nx_base.specs.declared.token.TokenKind.{TokenKind}
use Rattle.nx_base.specs.declared.token.TokenKind.TheVariants as kinds
use Rattle.nx_events.specs.CharacterFaults.{character_flaw, tag_flaw, text_flaw, once, character_faults}
use Rattle.nx_events.specs.Declarations.{is_declaration, declared_prefix, is_bad_binding, flaw_kind, faults_at, bindings_at, declaration_faults, bindings}
use Rattle.nx_events.specs.Elements.{element_resolved, new_or_flaw, attribute_resolved, resolved_if_attribute, attribute_items}
use Rattle.nx_events.specs.Items.{declaration_items, doctype_items, comment_items, pi_items, cdata_items, text_items, start_items, empty_items, around_innermost, end_items, items_of_token, state_behind, items_at_end, items_from}
use Rattle.nx_events.specs.Markup.{has_loose_hyphen, is_bad_comment, is_bad_pi}
use Rattle.nx_events.specs.Names.{begins_unprefixed, goes_on_unprefixed, is_ncname, prefix_of, local_of, is_qname}
use Rattle.nx_events.specs.References.{name_chars_len, name_len, reference_body_len, reference_len, numbered, character_named, referenced, spelled}
use Rattle.nx_base.specs.CharacterCodes.{char_of_code}
use Rattle.nx_events.specs.Runs.{run_items}
use Rattle.nx_events.specs.Scopes.{last_uri, bound_uri, element_uri, attribute_uri}
use Rattle.nx_events.specs.Strings.{cut_by, line_piece_len, text_piece_len, line_string_of, text_string_of, value_string_of, string_of}
use Rattle.nx_events.specs.Tags.{written_name, value_len, written_value, attribute_len, begins_attribute, attribute_at, front_attribute, front_len, attributes_from, tag_attributes}
use Rattle.nx_events.specs.Utf8.{front_char}
use Rattle.nx_events.specs.XmlDeclaration.{after_some_spaces, after_word, after_equals, is_version, is_encoding, is_yes_or_no, after_value, after_spaced_word, after_setting, after_optional_setting, after_settings, is_xml_declaration}
use Rattle.nx_events.specs.declared.reading.Reading.TheVariants.{Plain, Text, Value}
use Rattle.nx_events.specs.declared.scope.Binding.{Binding}
use Rattle.nx_document.specs.Constraints.{IsLegalTag, no_attribute, declaration, attribute}
use Rattle.nx_document.specs.Document.{absent, present, no_further, further, white_space, Element, by_empty, by_tags, Content, no_more, by_element, by_text, by_section, by_comment, Document}
use Rattle.nx_document.proofs.Characters.{is_legal}

-- what must compute
unfoldable pub opened : Unit {0}
unfolding first_token markup begins_declaration instruction doctype begins_with closed bytes_before bytes_up_to doctype_bytes piece bad bad_rest tag_or tag cut tokens_within spells begins shortest_front passing_front is_char is_space is_name_start is_name_char chars encode character_flaw tag_flaw text_flaw once character_faults is_declaration declared_prefix is_bad_binding flaw_kind faults_at bindings_at declaration_faults bindings element_resolved new_or_flaw attribute_resolved resolved_if_attribute attribute_items declaration_items doctype_items comment_items pi_items cdata_items text_items start_items empty_items around_innermost end_items items_of_token state_behind items_at_end items_from has_loose_hyphen is_bad_comment is_bad_pi begins_unprefixed goes_on_unprefixed is_ncname prefix_of local_of is_qname name_chars_len name_len reference_body_len reference_len char_of_code numbered character_named referenced spelled run_items last_uri bound_uri element_uri attribute_uri cut_by line_piece_len text_piece_len line_string_of text_string_of value_string_of string_of written_name value_len written_value attribute_len begins_attribute attribute_at front_attribute front_len attributes_from tag_attributes front_char after_some_spaces after_word after_equals is_version is_encoding is_yes_or_no after_value after_spaced_word after_setting after_optional_setting after_settings is_xml_declaration
opened = tt

abbrev token : TokenKind → ℕ → String → Token
token kind from text = record { kind = kind; from = from; bytes = codes text }

abbrev name : String → String → Name
name ns local = record { ns = codes ns; local = codes local }

abbrev tree_of : Name → List trees.Attribute → Children → Tree
tree_of named attributes children = record { name = named; attributes = attributes; children = children }

-- `<a>x<!--y-->z</a>`: one string, joined over the comment
abbrev joined_text : List ℕ
joined_text = codes "<a>x<!--y-->z</a>"

joined_tokens : tokens_of joined_text ≡ token kinds.Start 0 "<a>" ∷ token kinds.Text 3 "x" ∷ token kinds.Comment 4 "<!--y-->" ∷ token kinds.Text 12 "z" ∷ token kinds.End 13 "</a>" ∷ []
unfolding opened
joined_tokens = refl

start_a : IsLegalTag [] (token kinds.Start 0 "<a>") (name "" "a") []
unfolding opened
start_a = record {
  characters = is_legal Value 0 (codes "<a>") refl;
  once = tt;
  declarations = tt;
  qualified = refl;
  named = refl;
  expanded = no_attribute;
  distinct = tt;
}

joined_document : Document (tokens_of joined_text) (tree_of (name "" "a") [] (string (codes "xz") nil))
unfolding opened
joined_document = record {
  behind_mark = _;
  behind_declaration = _;
  before_doctype = _;
  behind_doctype = _;
  root = _;
  behind_root = _;
  mark = absent;
  declaration = absent;
  first_misc = no_further;
  doctype = absent;
  second_misc = no_further;
  element = by_tags {inner = _} refl start_a
      (by_text (record { kind = refl; characters = is_legal Text 0 (codes "x") refl })
      (by_comment (record { kind = refl; characters = is_legal Plain 0 (codes "<!--y-->") refl; form = refl })
      (by_text (record { kind = refl; characters = is_legal Text 0 (codes "z") refl }) no_more)))
      (record { kind = refl; matches = refl });
  last_misc = no_further;
}

-- a byte order mark, a declaration, white space, a document type, the root, white space
abbrev whole_text : List ℕ
whole_text = 0xEF ∷ 0xBB ∷ 0xBF ∷ codes "<?xml version='1.0'?>\n<!DOCTYPE a><a></a>\n"

whole_document : Document (tokens_of whole_text) (tree_of (name "" "a") [] nil)
unfolding opened
whole_document = record {
  behind_mark = _;
  behind_declaration = _;
  before_doctype = _;
  behind_doctype = _;
  root = _;
  behind_root = _;
  mark = present refl;
  declaration = present (record { kind = refl; form = refl });
  first_misc = further (white_space (record { kind = refl; blank = refl })) no_further;
  doctype = present refl;
  second_misc = no_further;
  element = by_tags {inner = _} refl (record {
    characters = is_legal Value 0 (codes "<a>") refl;
    once = tt;
    declarations = tt;
    qualified = refl;
    named = refl;
    expanded = no_attribute;
    distinct = tt;
  }) no_more (record { kind = refl; matches = refl });
  last_misc = further (white_space (record { kind = refl; blank = refl })) no_further;
}

-- an element alone
alone_document : (tag : Token) (tree : Tree) → Element [] (tag ∷ []) [] tree → Document (tag ∷ []) tree
alone_document tag tree one = record {
  behind_mark = _;
  behind_declaration = _;
  before_doctype = _;
  behind_doctype = _;
  root = _;
  behind_root = _;
  mark = absent;
  declaration = absent;
  first_misc = no_further;
  doctype = absent;
  second_misc = no_further;
  element = one;
  last_misc = no_further;
}

-- an empty section is no child
empty_section : Document (tokens_of (codes "<a><![CDATA[]]></a>")) (tree_of (name "" "a") [] nil)
unfolding opened
empty_section = record {
  behind_mark = _;
  behind_declaration = _;
  before_doctype = _;
  behind_doctype = _;
  root = _;
  behind_root = _;
  mark = absent;
  declaration = absent;
  first_misc = no_further;
  doctype = absent;
  second_misc = no_further;
  element = by_tags {inner = _} refl start_a (by_section (record { kind = refl; characters = is_legal Plain 0 (codes "<![CDATA[]]>") refl }) no_more) (record { kind = refl; matches = refl });
  last_misc = no_further;
}

-- a line's end of two bytes is one space in a value
abbrev broken_text : List ℕ
broken_text = codes "<a b='x" ++ 13 ∷ 10 ∷ codes "y'/>"

broken_tag : IsLegalTag [] (record { kind = kinds.Empty; from = 0; bytes = broken_text }) (name "" "a") (record { name = name "" "b"; value = codes "x y" } ∷ [])
unfolding opened
broken_tag = record {
  characters = is_legal Value 0 broken_text refl;
  once = (tt, tt);
  declarations = ((λ e. cc), tt);
  qualified = refl;
  named = refl;
  expanded = attribute refl refl refl no_attribute;
  distinct = (tt, tt);
}

broken_value : Document (tokens_of broken_text) (tree_of (name "" "a") (record { name = name "" "b"; value = codes "x y" } ∷ []) nil)
unfolding opened
broken_value = alone_document _ _ (by_empty refl broken_tag)

-- nothing is asked of what lies in a document type
behind_doctype : IsLegalTag [] (token kinds.Empty 10 "<a/>") (name "" "a") []
unfolding opened
behind_doctype = record {
  characters = is_legal Value 0 (codes "<a/>") refl;
  once = tt;
  declarations = tt;
  qualified = refl;
  named = refl;
  expanded = no_attribute;
  distinct = tt;
}

bare_doctype : Document (tokens_of (codes "<!DOCTYPE><a/>")) (tree_of (name "" "a") [] nil)
unfolding opened
bare_doctype = record {
  behind_mark = _;
  behind_declaration = _;
  before_doctype = _;
  behind_doctype = _;
  root = _;
  behind_root = _;
  mark = absent;
  declaration = absent;
  first_misc = no_further;
  doctype = present refl;
  second_misc = no_further;
  element = by_empty refl behind_doctype;
  last_misc = no_further;
}

-- a declaration in the tag itself counts for its name and its attributes, and is no attribute
abbrev prefixed_text : List ℕ
prefixed_text = codes "<p:a xmlns:p='u' p:b='1' c='2'/>"

prefixed_tag : IsLegalTag [] (record { kind = kinds.Empty; from = 0; bytes = prefixed_text }) (name "u" "a")
    (record { name = name "u" "b"; value = codes "1" } ∷ record { name = name "" "c"; value = codes "2" } ∷ [])
unfolding opened
prefixed_tag = record {
  characters = is_legal Value 0 prefixed_text refl;
  once = (((λ e. cc), ((λ e. cc), tt)), (((λ e. cc), tt), (tt, tt)));
  declarations = ((λ e. record { name = refl; binding = refl }), ((λ e. cc), ((λ e. cc), tt)));
  qualified = refl;
  named = refl;
  expanded = declaration refl (attribute refl refl refl (attribute refl refl refl no_attribute));
  distinct = (((λ e. let apart : codes "u" ≡ [] = ap (λ (n : Name). n.ns) e in cc), tt), (tt, tt));
}

prefixed_document : Document (tokens_of prefixed_text)
    (tree_of (name "u" "a") (record { name = name "u" "b"; value = codes "1" } ∷ record { name = name "" "c"; value = codes "2" } ∷ []) nil)
unfolding opened
prefixed_document = alone_document _ _ (by_empty refl prefixed_tag)

-- a default namespace holds inside, until it is taken back; it doesn't hold for attributes
outer_tag : IsLegalTag [] (token kinds.Start 0 "<a xmlns='u' b=''>") (name "u" "a") (record { name = name "" "b"; value = [] } ∷ [])
unfolding opened
outer_tag = record {
  characters = is_legal Value 0 (codes "<a xmlns='u' b=''>") refl;
  once = (((λ e. cc), tt), (tt, tt));
  declarations = ((λ e. record { name = refl; binding = refl }), ((λ e. cc), tt));
  qualified = refl;
  named = refl;
  expanded = declaration refl (attribute refl refl refl no_attribute);
  distinct = (tt, tt);
}

abbrev default_u : List Binding
default_u = record { prefix = []; uri = codes "u" } ∷ []

inside_tag : IsLegalTag default_u (token kinds.Empty 18 "<c/>") (name "u" "c") []
unfolding opened
inside_tag = record {
  characters = is_legal Value 0 (codes "<c/>") refl;
  once = tt;
  declarations = tt;
  qualified = refl;
  named = refl;
  expanded = no_attribute;
  distinct = tt;
}

taken_back : IsLegalTag default_u (token kinds.Empty 22 "<b xmlns=''/>") (name "" "b") []
unfolding opened
taken_back = record {
  characters = is_legal Value 0 (codes "<b xmlns=''/>") refl;
  once = (tt, tt);
  declarations = ((λ e. record { name = refl; binding = refl }), tt);
  qualified = refl;
  named = refl;
  expanded = declaration refl no_attribute;
  distinct = tt;
}

default_element : Element [] (token kinds.Start 0 "<a xmlns='u' b=''>" ∷ token kinds.Empty 18 "<c/>" ∷ token kinds.Empty 22 "<b xmlns=''/>" ∷ token kinds.End 35 "</a>" ∷ []) []
    (tree_of (name "u" "a") (record { name = name "" "b"; value = [] } ∷ []) (element (name "u" "c") [] nil (element (name "" "b") [] nil nil)))
unfolding opened
default_element =
    by_tags {tag = token kinds.Start 0 "<a xmlns='u' b=''>"} {end = token kinds.End 35 "</a>"} refl outer_tag
    (by_element (by_empty {tag = token kinds.Empty 18 "<c/>"} refl inside_tag)
    (by_element (by_empty {tag = token kinds.Empty 22 "<b xmlns=''/>"} refl taken_back) no_more))
    (record { kind = refl; matches = refl })

-- an empty string is no child; references stand for their characters
mixed_content : Content [] (token kinds.Cdata 3 "<![CDATA[]]>" ∷ token kinds.Empty 15 "<b/>" ∷ token kinds.Text 19 "1&lt;" ∷ token kinds.Cdata 24 "<![CDATA[&]]>" ∷ token kinds.End 37 "</a>" ∷ [])
    (token kinds.End 37 "</a>" ∷ []) (element (name "" "b") [] nil (string (codes "1<&") nil))
unfolding opened
mixed_content =
    by_section (record { kind = refl; characters = is_legal Plain 0 (codes "<![CDATA[]]>") refl })
    (by_element (by_empty {tag = token kinds.Empty 15 "<b/>"} refl (record {
      characters = is_legal Value 0 (codes "<b/>") refl;
      once = tt;
      declarations = tt;
      qualified = refl;
      named = refl;
      expanded = no_attribute;
      distinct = tt;
    }))
    (by_text (record { kind = refl; characters = is_legal Text 0 (codes "1&lt;") refl })
    (by_section (record { kind = refl; characters = is_legal Plain 0 (codes "<![CDATA[&]]>") refl }) no_more)))

-- what no tag may be, by each constraint
abbrev IsNoTag : Token → Type 0
IsNoTag tag = (named : Name) (attributes : List trees.Attribute) → IsLegalTag [] tag named attributes → ⊥

undeclared : IsNoTag (token kinds.Empty 0 "<p:a/>")
unfolding opened
undeclared named attributes is = let bad : None ≡ Some named = is.named in cc

no_qname : IsNoTag (token kinds.Empty 0 "<a:b:c xmlns:a='u'/>")
unfolding opened
no_qname named attributes is = let bad : false ≡ true = is.qualified in cc

written_twice : IsNoTag (token kinds.Start 0 "<a x='1' x='2'>")
unfolding opened
written_twice named attributes is = is.once.0.0 refl

declared_twice : IsNoTag (token kinds.Start 0 "<a xmlns:p='u' xmlns:p='u'>")
unfolding opened
declared_twice named attributes is = is.once.0.0 refl

bound_to_nothing : IsNoTag (token kinds.Start 0 "<a xmlns:p=''>")
unfolding opened
bound_to_nothing named attributes is = let bad : true ≡ false = (is.declarations.0 refl).binding in cc

xml_elsewhere : IsNoTag (token kinds.Empty 0 "<a xmlns:xml='u'/>")
unfolding opened
xml_elsewhere named attributes is = let bad : true ≡ false = (is.declarations.0 refl).binding in cc

bad_reference : IsNoTag (token kinds.Start 0 "<a x='&b;'>")
unfolding opened
bad_reference named attributes is = let bad : Some BadReference ≡ None = is.characters.1.1.1.1.1.1.0 in cc

-- the encoding that a declaration names isn't compared with the bytes
abbrev called_ascii : List ℕ
called_ascii = codes "<?xml version='1.0' encoding='US-ASCII'?><a>" ++ 0xC3 ∷ 0xA9 ∷ codes "</a>"

called_document : Document (tokens_of called_ascii) (tree_of (name "" "a") [] (string (0xC3 ∷ 0xA9 ∷ []) nil))
unfolding opened
called_document = record {
  behind_mark = _;
  behind_declaration = _;
  before_doctype = _;
  behind_doctype = _;
  root = _;
  behind_root = _;
  mark = absent;
  declaration = present (record { kind = refl; form = refl });
  first_misc = no_further;
  doctype = absent;
  second_misc = no_further;
  element = by_tags {inner = _} refl (record {
    characters = is_legal Value 0 (codes "<a>") refl;
    once = tt;
    declarations = tt;
    qualified = refl;
    named = refl;
    expanded = no_attribute;
    distinct = tt;
  }) (by_text (record { kind = refl; characters = is_legal Text 0 (0xC3 ∷ 0xA9 ∷ []) refl }) no_more) (record { kind = refl; matches = refl });
  last_misc = no_further;
}
