-- The rows that the definitions were checked by.
use Rattle.std.proofs.Common.{◌≡◌, ℕ, ◌+◌, List, [], ◌∷◌, length, refl}
use Rattle.std.specs.Prelude.{codes}
use Prim.Native.String.{String}
use Rattle.std.specs.Char.{encode_utf8}
use Rattle.nx_base.specs.Characters.{is_char, is_space, is_name_start, is_name_char}
use Rattle.std.specs.Str.{chars}
use Rattle.nx_base.specs.declared.fault.Fault.{Fault}
use Rattle.nx_base.specs.declared.fault.Kind.{Kind}
use Rattle.nx_base.specs.declared.fault.Kind.TheVariants as kinds
use Rattle.nx_base.specs.declared.token.Token.{Token}
use Rattle.nx_base.specs.declared.token.TokenKind.{TokenKind}
use Rattle.nx_base.specs.declared.token.TokenKind.TheVariants as tokens
use Rattle.nx_events.specs.declared.item.Item.{Item}
use Rattle.nx_events.specs.declared.item.Item.TheVariants as items
use Rattle.nx_events.specs.declared.item.Event.{Event}
use Rattle.nx_events.specs.declared.item.Event.TheVariants.{Enter, EnterLost, Att, TagEnd, Chars, Leave}
use Rattle.nx_events.specs.CharacterFaults.{character_flaw, tag_flaw, text_flaw, once, character_faults, faults_behind}
use Rattle.nx_events.specs.Declarations.{is_declaration, declared_prefix, is_bad_binding, flaw_kind, faults_at, bindings_at, declaration_faults, bindings}
use Rattle.nx_events.specs.Elements.{element_resolved, new_or_flaw, attribute_resolved, resolved_if_attribute, attribute_items}
use Rattle.nx_events.specs.Items.{declaration_items, doctype_items, comment_items, pi_items, cdata_items, text_items, start_items, empty_items, around_innermost, end_items, items_of_token, state_behind, items_at_end, items_from, items_of}
use Rattle.nx_events.specs.Markup.{has_loose_hyphen, is_bad_comment, is_bad_pi}
use Rattle.nx_events.specs.Names.{begins_unprefixed, goes_on_unprefixed, is_ncname, prefix_of, local_of, is_qname}
use Rattle.nx_events.specs.References.{name_chars_len, name_len, reference_body_len, reference_len, numbered, character_named, referenced, spelled}
use Rattle.nx_base.specs.CharacterCodes.{char_of_code}
use Rattle.nx_events.specs.Runs.{run_items}
use Rattle.nx_events.specs.Scopes.{last_uri, bound_uri, element_uri, attribute_uri}
use Rattle.nx_events.specs.Strings.{cut_by, line_piece_len, text_piece_len, line_string_of, text_string_of, value_string_of, string_of}
use Rattle.nx_events.specs.Tags.{written_name, value_len, written_value, attribute_len, begins_attribute, attribute_at, front_attribute, front_len, attributes_from, tag_attributes}
use Rattle.nx_base.specs.Tokens.{AreTokensFrom}
use Rattle.nx_events.specs.Utf8.{front_char}
use Rattle.nx_events.specs.XmlDeclaration.{after_some_spaces, after_word, after_equals, is_version, is_encoding, is_yes_or_no, after_value, after_spaced_word, after_setting, after_optional_setting, after_settings, is_xml_declaration}

pub record Written : Type 0 where
  pub kind : TokenKind
  pub text : List ℕ

-- tokens one behind another
laid : ℕ → List Written → List Token
laid at [] = []
laid at (w ∷ ws) = (record { kind = w.kind; from = at; bytes = w.text }) ∷ laid (at + length w.text) ws

abbrev written : TokenKind → List ℕ → Written
written kind text = record { kind = kind; text = text }

faults_in : List Item → List Fault
faults_in [] = []
faults_in (items.Event e s ∷ is) = faults_in is
faults_in (items.Fault f ∷ is) = f ∷ faults_in is

events_in : List Item → List Item
events_in [] = []
events_in (items.Event e s ∷ is) = items.Event e s ∷ events_in is
events_in (items.Fault f ∷ is) = events_in is

abbrev fault : ℕ → ℕ → Kind → String → Fault
fault a b kind detail = record { span = record { from = a; to = b }; kind = kind; detail = codes detail }

abbrev event : ℕ → ℕ → Event → Item
event a b e = items.Event e (record { from = a; to = b })

wrong_end : faults_in (items_of (laid 0 (written tokens.Start (codes "<a>") ∷ written tokens.Start (codes "<b>") ∷ written tokens.End (codes "</a>") ∷ [])) 10) ≡ (fault 6 10 kinds.MissingEnd "b" ∷ [])
unfolding is_char is_space is_name_start is_name_char laid faults_in events_in encode_utf8 chars character_flaw tag_flaw text_flaw once character_faults faults_behind is_declaration declared_prefix is_bad_binding flaw_kind faults_at bindings_at declaration_faults bindings element_resolved new_or_flaw attribute_resolved resolved_if_attribute attribute_items declaration_items doctype_items comment_items pi_items cdata_items text_items start_items empty_items around_innermost end_items items_of_token state_behind items_at_end items_from has_loose_hyphen is_bad_comment is_bad_pi begins_unprefixed goes_on_unprefixed is_ncname prefix_of local_of is_qname name_chars_len name_len reference_body_len reference_len char_of_code numbered character_named referenced spelled run_items last_uri bound_uri element_uri attribute_uri cut_by line_piece_len text_piece_len line_string_of text_string_of value_string_of string_of written_name value_len written_value attribute_len begins_attribute attribute_at front_attribute front_len attributes_from tag_attributes AreTokensFrom front_char after_some_spaces after_word after_equals is_version is_encoding is_yes_or_no after_value after_spaced_word after_setting after_optional_setting after_settings is_xml_declaration
wrong_end = refl

wrong_end_events : events_in (items_of (laid 0 (written tokens.Start (codes "<a>") ∷ written tokens.Start (codes "<b>") ∷ written tokens.End (codes "</a>") ∷ [])) 10) ≡ (event 0 3 (Enter (record { ns = codes ""; local = codes "a" })) ∷ event 0 3 TagEnd ∷ event 3 6 (Enter (record { ns = codes ""; local = codes "b" })) ∷ event 3 6 TagEnd ∷ event 6 10 Leave ∷ event 6 10 Leave ∷ [])
unfolding is_char is_space is_name_start is_name_char laid faults_in events_in encode_utf8 chars character_flaw tag_flaw text_flaw once character_faults faults_behind is_declaration declared_prefix is_bad_binding flaw_kind faults_at bindings_at declaration_faults bindings element_resolved new_or_flaw attribute_resolved resolved_if_attribute attribute_items declaration_items doctype_items comment_items pi_items cdata_items text_items start_items empty_items around_innermost end_items items_of_token state_behind items_at_end items_from has_loose_hyphen is_bad_comment is_bad_pi begins_unprefixed goes_on_unprefixed is_ncname prefix_of local_of is_qname name_chars_len name_len reference_body_len reference_len char_of_code numbered character_named referenced spelled run_items last_uri bound_uri element_uri attribute_uri cut_by line_piece_len text_piece_len line_string_of text_string_of value_string_of string_of written_name value_len written_value attribute_len begins_attribute attribute_at front_attribute front_len attributes_from tag_attributes AreTokensFrom front_char after_some_spaces after_word after_equals is_version is_encoding is_yes_or_no after_value after_spaced_word after_setting after_optional_setting after_settings is_xml_declaration
wrong_end_events = refl

-- a run goes on over a comment, and its span from its first token to its last
run_over_comment : events_in (items_of (laid 0 (written tokens.Start (codes "<a>") ∷ written tokens.Text (codes "x")
    ∷ written tokens.Comment (codes "<!--y-->") ∷ written tokens.Text (codes "z") ∷ written tokens.End (codes "</a>") ∷ [])) 17)
    ≡ (event 0 3 (Enter (record { ns = codes ""; local = codes "a" })) ∷ event 0 3 TagEnd ∷ event 3 13 (Chars (codes "xz"))
    ∷ event 13 17 Leave ∷ [])
unfolding is_char is_space is_name_start is_name_char laid faults_in events_in encode_utf8 chars character_flaw tag_flaw text_flaw once character_faults faults_behind is_declaration declared_prefix is_bad_binding flaw_kind faults_at bindings_at declaration_faults bindings element_resolved new_or_flaw attribute_resolved resolved_if_attribute attribute_items declaration_items doctype_items comment_items pi_items cdata_items text_items start_items empty_items around_innermost end_items items_of_token state_behind items_at_end items_from has_loose_hyphen is_bad_comment is_bad_pi begins_unprefixed goes_on_unprefixed is_ncname prefix_of local_of is_qname name_chars_len name_len reference_body_len reference_len char_of_code numbered character_named referenced spelled run_items last_uri bound_uri element_uri attribute_uri cut_by line_piece_len text_piece_len line_string_of text_string_of value_string_of string_of written_name value_len written_value attribute_len begins_attribute attribute_at front_attribute front_len attributes_from tag_attributes AreTokensFrom front_char after_some_spaces after_word after_equals is_version is_encoding is_yes_or_no after_value after_spaced_word after_setting after_optional_setting after_settings is_xml_declaration
run_over_comment = refl

twice : faults_in (items_of (laid 0 (written tokens.Start (codes "<a x='1' x='2'>") ∷ written tokens.Text (codes "&nbsp;") ∷ written tokens.End (codes "</a>") ∷ [])) 25) ≡ (fault 9 14 kinds.DuplicateAttribute "x" ∷ fault 15 21 kinds.BadReference "" ∷ [])
unfolding is_char is_space is_name_start is_name_char laid faults_in events_in encode_utf8 chars character_flaw tag_flaw text_flaw once character_faults faults_behind is_declaration declared_prefix is_bad_binding flaw_kind faults_at bindings_at declaration_faults bindings element_resolved new_or_flaw attribute_resolved resolved_if_attribute attribute_items declaration_items doctype_items comment_items pi_items cdata_items text_items start_items empty_items around_innermost end_items items_of_token state_behind items_at_end items_from has_loose_hyphen is_bad_comment is_bad_pi begins_unprefixed goes_on_unprefixed is_ncname prefix_of local_of is_qname name_chars_len name_len reference_body_len reference_len char_of_code numbered character_named referenced spelled run_items last_uri bound_uri element_uri attribute_uri cut_by line_piece_len text_piece_len line_string_of text_string_of value_string_of string_of written_name value_len written_value attribute_len begins_attribute attribute_at front_attribute front_len attributes_from tag_attributes AreTokensFrom front_char after_some_spaces after_word after_equals is_version is_encoding is_yes_or_no after_value after_spaced_word after_setting after_optional_setting after_settings is_xml_declaration
twice = refl

bad_tag : faults_in (items_of (laid 0 (written tokens.Start (codes "<a>") ∷ written tokens.Bad (codes "<b ") ∷ written tokens.End (codes "</a>") ∷ [])) 10) ≡ (fault 3 6 kinds.BadMarkup "" ∷ [])
unfolding is_char is_space is_name_start is_name_char laid faults_in events_in encode_utf8 chars character_flaw tag_flaw text_flaw once character_faults faults_behind is_declaration declared_prefix is_bad_binding flaw_kind faults_at bindings_at declaration_faults bindings element_resolved new_or_flaw attribute_resolved resolved_if_attribute attribute_items declaration_items doctype_items comment_items pi_items cdata_items text_items start_items empty_items around_innermost end_items items_of_token state_behind items_at_end items_from has_loose_hyphen is_bad_comment is_bad_pi begins_unprefixed goes_on_unprefixed is_ncname prefix_of local_of is_qname name_chars_len name_len reference_body_len reference_len char_of_code numbered character_named referenced spelled run_items last_uri bound_uri element_uri attribute_uri cut_by line_piece_len text_piece_len line_string_of text_string_of value_string_of string_of written_name value_len written_value attribute_len begins_attribute attribute_at front_attribute front_len attributes_from tag_attributes AreTokensFrom front_char after_some_spaces after_word after_equals is_version is_encoding is_yes_or_no after_value after_spaced_word after_setting after_optional_setting after_settings is_xml_declaration
bad_tag = refl

second_root : faults_in (items_of (laid 0 (written tokens.Empty (codes "<a/>") ∷ written tokens.Empty (codes "<b/>") ∷ [])) 8) ≡ (fault 4 8 kinds.SecondRoot "b" ∷ [])
unfolding is_char is_space is_name_start is_name_char laid faults_in events_in encode_utf8 chars character_flaw tag_flaw text_flaw once character_faults faults_behind is_declaration declared_prefix is_bad_binding flaw_kind faults_at bindings_at declaration_faults bindings element_resolved new_or_flaw attribute_resolved resolved_if_attribute attribute_items declaration_items doctype_items comment_items pi_items cdata_items text_items start_items empty_items around_innermost end_items items_of_token state_behind items_at_end items_from has_loose_hyphen is_bad_comment is_bad_pi begins_unprefixed goes_on_unprefixed is_ncname prefix_of local_of is_qname name_chars_len name_len reference_body_len reference_len char_of_code numbered character_named referenced spelled run_items last_uri bound_uri element_uri attribute_uri cut_by line_piece_len text_piece_len line_string_of text_string_of value_string_of string_of written_name value_len written_value attribute_len begins_attribute attribute_at front_attribute front_len attributes_from tag_attributes AreTokensFrom front_char after_some_spaces after_word after_equals is_version is_encoding is_yes_or_no after_value after_spaced_word after_setting after_optional_setting after_settings is_xml_declaration
second_root = refl

second_root_events : events_in (items_of (laid 0 (written tokens.Empty (codes "<a/>") ∷ written tokens.Empty (codes "<b/>") ∷ [])) 8) ≡ (event 0 4 (Enter (record { ns = codes ""; local = codes "a" })) ∷ event 0 4 TagEnd ∷ event 0 4 Leave ∷ event 4 8 EnterLost ∷ event 4 8 TagEnd ∷ event 4 8 Leave ∷ [])
unfolding is_char is_space is_name_start is_name_char laid faults_in events_in encode_utf8 chars character_flaw tag_flaw text_flaw once character_faults faults_behind is_declaration declared_prefix is_bad_binding flaw_kind faults_at bindings_at declaration_faults bindings element_resolved new_or_flaw attribute_resolved resolved_if_attribute attribute_items declaration_items doctype_items comment_items pi_items cdata_items text_items start_items empty_items around_innermost end_items items_of_token state_behind items_at_end items_from has_loose_hyphen is_bad_comment is_bad_pi begins_unprefixed goes_on_unprefixed is_ncname prefix_of local_of is_qname name_chars_len name_len reference_body_len reference_len char_of_code numbered character_named referenced spelled run_items last_uri bound_uri element_uri attribute_uri cut_by line_piece_len text_piece_len line_string_of text_string_of value_string_of string_of written_name value_len written_value attribute_len begins_attribute attribute_at front_attribute front_len attributes_from tag_attributes AreTokensFrom front_char after_some_spaces after_word after_equals is_version is_encoding is_yes_or_no after_value after_spaced_word after_setting after_optional_setting after_settings is_xml_declaration
second_root_events = refl

no_prefix : faults_in (items_of (laid 0 (written tokens.Empty (codes "<p:a/>") ∷ [])) 6) ≡ (fault 0 6 kinds.UndeclaredPrefix "p" ∷ [])
unfolding is_char is_space is_name_start is_name_char laid faults_in events_in encode_utf8 chars character_flaw tag_flaw text_flaw once character_faults faults_behind is_declaration declared_prefix is_bad_binding flaw_kind faults_at bindings_at declaration_faults bindings element_resolved new_or_flaw attribute_resolved resolved_if_attribute attribute_items declaration_items doctype_items comment_items pi_items cdata_items text_items start_items empty_items around_innermost end_items items_of_token state_behind items_at_end items_from has_loose_hyphen is_bad_comment is_bad_pi begins_unprefixed goes_on_unprefixed is_ncname prefix_of local_of is_qname name_chars_len name_len reference_body_len reference_len char_of_code numbered character_named referenced spelled run_items last_uri bound_uri element_uri attribute_uri cut_by line_piece_len text_piece_len line_string_of text_string_of value_string_of string_of written_name value_len written_value attribute_len begins_attribute attribute_at front_attribute front_len attributes_from tag_attributes AreTokensFrom front_char after_some_spaces after_word after_equals is_version is_encoding is_yes_or_no after_value after_spaced_word after_setting after_optional_setting after_settings is_xml_declaration
no_prefix = refl

no_end : faults_in (items_of (laid 0 (written tokens.Start (codes "<doc id='a'>") ∷ written tokens.Start (codes "<title>") ∷ written tokens.Text (codes "T") ∷ written tokens.End (codes "</doc>") ∷ [])) 26) ≡ (fault 20 26 kinds.MissingEnd "title" ∷ [])
unfolding is_char is_space is_name_start is_name_char laid faults_in events_in encode_utf8 chars character_flaw tag_flaw text_flaw once character_faults faults_behind is_declaration declared_prefix is_bad_binding flaw_kind faults_at bindings_at declaration_faults bindings element_resolved new_or_flaw attribute_resolved resolved_if_attribute attribute_items declaration_items doctype_items comment_items pi_items cdata_items text_items start_items empty_items around_innermost end_items items_of_token state_behind items_at_end items_from has_loose_hyphen is_bad_comment is_bad_pi begins_unprefixed goes_on_unprefixed is_ncname prefix_of local_of is_qname name_chars_len name_len reference_body_len reference_len char_of_code numbered character_named referenced spelled run_items last_uri bound_uri element_uri attribute_uri cut_by line_piece_len text_piece_len line_string_of text_string_of value_string_of string_of written_name value_len written_value attribute_len begins_attribute attribute_at front_attribute front_len attributes_from tag_attributes AreTokensFrom front_char after_some_spaces after_word after_equals is_version is_encoding is_yes_or_no after_value after_spaced_word after_setting after_optional_setting after_settings is_xml_declaration
no_end = refl

no_ends : faults_in (items_of (laid 0 (written tokens.Start (codes "<doc id='a'>") ∷ written tokens.Start (codes "<title>") ∷ written tokens.Text (codes "T") ∷ [])) 20) ≡ (fault 20 20 kinds.UnclosedElement "title" ∷ fault 20 20 kinds.UnclosedElement "doc" ∷ [])
unfolding is_char is_space is_name_start is_name_char laid faults_in events_in encode_utf8 chars character_flaw tag_flaw text_flaw once character_faults faults_behind is_declaration declared_prefix is_bad_binding flaw_kind faults_at bindings_at declaration_faults bindings element_resolved new_or_flaw attribute_resolved resolved_if_attribute attribute_items declaration_items doctype_items comment_items pi_items cdata_items text_items start_items empty_items around_innermost end_items items_of_token state_behind items_at_end items_from has_loose_hyphen is_bad_comment is_bad_pi begins_unprefixed goes_on_unprefixed is_ncname prefix_of local_of is_qname name_chars_len name_len reference_body_len reference_len char_of_code numbered character_named referenced spelled run_items last_uri bound_uri element_uri attribute_uri cut_by line_piece_len text_piece_len line_string_of text_string_of value_string_of string_of written_name value_len written_value attribute_len begins_attribute attribute_at front_attribute front_len attributes_from tag_attributes AreTokensFrom front_char after_some_spaces after_word after_equals is_version is_encoding is_yes_or_no after_value after_spaced_word after_setting after_optional_setting after_settings is_xml_declaration
no_ends = refl

no_comment_end : faults_in (items_of (laid 0 (written tokens.Start (codes "<doc id='a'>") ∷ written tokens.Unclosed (codes "<!-- x") ∷ [])) 18) ≡ (fault 12 18 kinds.Unclosed "" ∷ fault 18 18 kinds.UnclosedElement "doc" ∷ [])
unfolding is_char is_space is_name_start is_name_char laid faults_in events_in encode_utf8 chars character_flaw tag_flaw text_flaw once character_faults faults_behind is_declaration declared_prefix is_bad_binding flaw_kind faults_at bindings_at declaration_faults bindings element_resolved new_or_flaw attribute_resolved resolved_if_attribute attribute_items declaration_items doctype_items comment_items pi_items cdata_items text_items start_items empty_items around_innermost end_items items_of_token state_behind items_at_end items_from has_loose_hyphen is_bad_comment is_bad_pi begins_unprefixed goes_on_unprefixed is_ncname prefix_of local_of is_qname name_chars_len name_len reference_body_len reference_len char_of_code numbered character_named referenced spelled run_items last_uri bound_uri element_uri attribute_uri cut_by line_piece_len text_piece_len line_string_of text_string_of value_string_of string_of written_name value_len written_value attribute_len begins_attribute attribute_at front_attribute front_len attributes_from tag_attributes AreTokensFrom front_char after_some_spaces after_word after_equals is_version is_encoding is_yes_or_no after_value after_spaced_word after_setting after_optional_setting after_settings is_xml_declaration
no_comment_end = refl

nothing : faults_in (items_of (laid 0 ([])) 0) ≡ (fault 0 0 kinds.NoRoot "" ∷ [])
unfolding is_char is_space is_name_start is_name_char laid faults_in events_in encode_utf8 chars character_flaw tag_flaw text_flaw once character_faults faults_behind is_declaration declared_prefix is_bad_binding flaw_kind faults_at bindings_at declaration_faults bindings element_resolved new_or_flaw attribute_resolved resolved_if_attribute attribute_items declaration_items doctype_items comment_items pi_items cdata_items text_items start_items empty_items around_innermost end_items items_of_token state_behind items_at_end items_from has_loose_hyphen is_bad_comment is_bad_pi begins_unprefixed goes_on_unprefixed is_ncname prefix_of local_of is_qname name_chars_len name_len reference_body_len reference_len char_of_code numbered character_named referenced spelled run_items last_uri bound_uri element_uri attribute_uri cut_by line_piece_len text_piece_len line_string_of text_string_of value_string_of string_of written_name value_len written_value attribute_len begins_attribute attribute_at front_attribute front_len attributes_from tag_attributes AreTokensFrom front_char after_some_spaces after_word after_equals is_version is_encoding is_yes_or_no after_value after_spaced_word after_setting after_optional_setting after_settings is_xml_declaration
nothing = refl

default_namespace : faults_in (items_of (laid 0 (written tokens.Start (codes "<a xmlns='u'>") ∷ written tokens.Empty (codes "<b/>") ∷ written tokens.Empty (codes "<b/>") ∷ written tokens.End (codes "</a>") ∷ [])) 25) ≡ ([])
unfolding is_char is_space is_name_start is_name_char laid faults_in events_in encode_utf8 chars character_flaw tag_flaw text_flaw once character_faults faults_behind is_declaration declared_prefix is_bad_binding flaw_kind faults_at bindings_at declaration_faults bindings element_resolved new_or_flaw attribute_resolved resolved_if_attribute attribute_items declaration_items doctype_items comment_items pi_items cdata_items text_items start_items empty_items around_innermost end_items items_of_token state_behind items_at_end items_from has_loose_hyphen is_bad_comment is_bad_pi begins_unprefixed goes_on_unprefixed is_ncname prefix_of local_of is_qname name_chars_len name_len reference_body_len reference_len char_of_code numbered character_named referenced spelled run_items last_uri bound_uri element_uri attribute_uri cut_by line_piece_len text_piece_len line_string_of text_string_of value_string_of string_of written_name value_len written_value attribute_len begins_attribute attribute_at front_attribute front_len attributes_from tag_attributes AreTokensFrom front_char after_some_spaces after_word after_equals is_version is_encoding is_yes_or_no after_value after_spaced_word after_setting after_optional_setting after_settings is_xml_declaration
default_namespace = refl

default_namespace_events : events_in (items_of (laid 0 (written tokens.Start (codes "<a xmlns='u'>") ∷ written tokens.Empty (codes "<b/>") ∷ written tokens.Empty (codes "<b/>") ∷ written tokens.End (codes "</a>") ∷ [])) 25) ≡ (event 0 13 (Enter (record { ns = codes "u"; local = codes "a" })) ∷ event 0 13 TagEnd ∷ event 13 17 (Enter (record { ns = codes "u"; local = codes "b" })) ∷ event 13 17 TagEnd ∷ event 13 17 Leave ∷ event 17 21 (Enter (record { ns = codes "u"; local = codes "b" })) ∷ event 17 21 TagEnd ∷ event 17 21 Leave ∷ event 21 25 Leave ∷ [])
unfolding is_char is_space is_name_start is_name_char laid faults_in events_in encode_utf8 chars character_flaw tag_flaw text_flaw once character_faults faults_behind is_declaration declared_prefix is_bad_binding flaw_kind faults_at bindings_at declaration_faults bindings element_resolved new_or_flaw attribute_resolved resolved_if_attribute attribute_items declaration_items doctype_items comment_items pi_items cdata_items text_items start_items empty_items around_innermost end_items items_of_token state_behind items_at_end items_from has_loose_hyphen is_bad_comment is_bad_pi begins_unprefixed goes_on_unprefixed is_ncname prefix_of local_of is_qname name_chars_len name_len reference_body_len reference_len char_of_code numbered character_named referenced spelled run_items last_uri bound_uri element_uri attribute_uri cut_by line_piece_len text_piece_len line_string_of text_string_of value_string_of string_of written_name value_len written_value attribute_len begins_attribute attribute_at front_attribute front_len attributes_from tag_attributes AreTokensFrom front_char after_some_spaces after_word after_equals is_version is_encoding is_yes_or_no after_value after_spaced_word after_setting after_optional_setting after_settings is_xml_declaration
default_namespace_events = refl

own_prefix : faults_in (items_of (laid 0 (written tokens.Start (60 ∷ 112 ∷ 58 ∷ 97 ∷ 32 ∷ 120 ∷ 109 ∷ 108 ∷ 110 ∷ 115 ∷ 58 ∷ 112 ∷ 61 ∷ 39 ∷ 117 ∷ 39 ∷ 32 ∷ 120 ∷ 61 ∷ 39 ∷ 49 ∷ 39 ∷ 32 ∷ 112 ∷ 58 ∷ 120 ∷ 61 ∷ 34 ∷ 97 ∷ 32 ∷ 38 ∷ 108 ∷ 116 ∷ 59 ∷ 32 ∷ 98 ∷ 9 ∷ 99 ∷ 34 ∷ 62 ∷ []) ∷ written tokens.Text (97 ∷ 38 ∷ 35 ∷ 54 ∷ 53 ∷ 59 ∷ 13 ∷ 10 ∷ 98 ∷ []) ∷ written tokens.Comment (codes "<!-- c -->") ∷ written tokens.Cdata (codes "<![CDATA[&]]>") ∷ written tokens.End (codes "</p:a>") ∷ [])) 78) ≡ ([])
unfolding is_char is_space is_name_start is_name_char laid faults_in events_in encode_utf8 chars character_flaw tag_flaw text_flaw once character_faults faults_behind is_declaration declared_prefix is_bad_binding flaw_kind faults_at bindings_at declaration_faults bindings element_resolved new_or_flaw attribute_resolved resolved_if_attribute attribute_items declaration_items doctype_items comment_items pi_items cdata_items text_items start_items empty_items around_innermost end_items items_of_token state_behind items_at_end items_from has_loose_hyphen is_bad_comment is_bad_pi begins_unprefixed goes_on_unprefixed is_ncname prefix_of local_of is_qname name_chars_len name_len reference_body_len reference_len char_of_code numbered character_named referenced spelled run_items last_uri bound_uri element_uri attribute_uri cut_by line_piece_len text_piece_len line_string_of text_string_of value_string_of string_of written_name value_len written_value attribute_len begins_attribute attribute_at front_attribute front_len attributes_from tag_attributes AreTokensFrom front_char after_some_spaces after_word after_equals is_version is_encoding is_yes_or_no after_value after_spaced_word after_setting after_optional_setting after_settings is_xml_declaration
own_prefix = refl

own_prefix_events : events_in (items_of (laid 0 (written tokens.Start (60 ∷ 112 ∷ 58 ∷ 97 ∷ 32 ∷ 120 ∷ 109 ∷ 108 ∷ 110 ∷ 115 ∷ 58 ∷ 112 ∷ 61 ∷ 39 ∷ 117 ∷ 39 ∷ 32 ∷ 120 ∷ 61 ∷ 39 ∷ 49 ∷ 39 ∷ 32 ∷ 112 ∷ 58 ∷ 120 ∷ 61 ∷ 34 ∷ 97 ∷ 32 ∷ 38 ∷ 108 ∷ 116 ∷ 59 ∷ 32 ∷ 98 ∷ 9 ∷ 99 ∷ 34 ∷ 62 ∷ []) ∷ written tokens.Text (97 ∷ 38 ∷ 35 ∷ 54 ∷ 53 ∷ 59 ∷ 13 ∷ 10 ∷ 98 ∷ []) ∷ written tokens.Comment (codes "<!-- c -->") ∷ written tokens.Cdata (codes "<![CDATA[&]]>") ∷ written tokens.End (codes "</p:a>") ∷ [])) 78) ≡ (event 0 40 (Enter (record { ns = codes "u"; local = codes "a" })) ∷ event 20 21 (Att (record { ns = codes ""; local = codes "x" }) (codes "1")) ∷ event 28 38 (Att (record { ns = codes "u"; local = codes "x" }) (codes "a < b c")) ∷ event 0 40 TagEnd ∷ event 40 72 (Chars (97 ∷ 65 ∷ 10 ∷ 98 ∷ 38 ∷ [])) ∷ event 72 78 Leave ∷ [])
unfolding is_char is_space is_name_start is_name_char laid faults_in events_in encode_utf8 chars character_flaw tag_flaw text_flaw once character_faults faults_behind is_declaration declared_prefix is_bad_binding flaw_kind faults_at bindings_at declaration_faults bindings element_resolved new_or_flaw attribute_resolved resolved_if_attribute attribute_items declaration_items doctype_items comment_items pi_items cdata_items text_items start_items empty_items around_innermost end_items items_of_token state_behind items_at_end items_from has_loose_hyphen is_bad_comment is_bad_pi begins_unprefixed goes_on_unprefixed is_ncname prefix_of local_of is_qname name_chars_len name_len reference_body_len reference_len char_of_code numbered character_named referenced spelled run_items last_uri bound_uri element_uri attribute_uri cut_by line_piece_len text_piece_len line_string_of text_string_of value_string_of string_of written_name value_len written_value attribute_len begins_attribute attribute_at front_attribute front_len attributes_from tag_attributes AreTokensFrom front_char after_some_spaces after_word after_equals is_version is_encoding is_yes_or_no after_value after_spaced_word after_setting after_optional_setting after_settings is_xml_declaration
own_prefix_events = refl

by_place : faults_in (items_of (laid 0 (written tokens.Start (codes "<a>") ∷ written tokens.Text (1 ∷ 38 ∷ 98 ∷ 59 ∷ 93 ∷ 93 ∷ 62 ∷ 93 ∷ 93 ∷ 62 ∷ 38 ∷ 35 ∷ 48 ∷ 59 ∷ 2 ∷ 38 ∷ []) ∷ [])) 19) ≡ (fault 3 4 kinds.BadChar "" ∷ fault 4 7 kinds.BadReference "" ∷ fault 7 10 kinds.BadText "" ∷ fault 13 17 kinds.BadReference "" ∷ fault 18 19 kinds.BadReference "" ∷ fault 19 19 kinds.UnclosedElement "a" ∷ [])
unfolding is_char is_space is_name_start is_name_char laid faults_in events_in encode_utf8 chars character_flaw tag_flaw text_flaw once character_faults faults_behind is_declaration declared_prefix is_bad_binding flaw_kind faults_at bindings_at declaration_faults bindings element_resolved new_or_flaw attribute_resolved resolved_if_attribute attribute_items declaration_items doctype_items comment_items pi_items cdata_items text_items start_items empty_items around_innermost end_items items_of_token state_behind items_at_end items_from has_loose_hyphen is_bad_comment is_bad_pi begins_unprefixed goes_on_unprefixed is_ncname prefix_of local_of is_qname name_chars_len name_len reference_body_len reference_len char_of_code numbered character_named referenced spelled run_items last_uri bound_uri element_uri attribute_uri cut_by line_piece_len text_piece_len line_string_of text_string_of value_string_of string_of written_name value_len written_value attribute_len begins_attribute attribute_at front_attribute front_len attributes_from tag_attributes AreTokensFrom front_char after_some_spaces after_word after_equals is_version is_encoding is_yes_or_no after_value after_spaced_word after_setting after_optional_setting after_settings is_xml_declaration
by_place = refl

declarations : faults_in (items_of (laid 0 (written tokens.Empty (codes "<a xmlns:='u' xmlns:xml='v' xmlns:p='' xmlns:xmlns='u' xmlns='http://www.w3.org/2000/xmlns/' xmlns:q='u' xmlns:q='v'/>") ∷ [])) 118) ≡ (fault 3 13 kinds.BadName "xmlns:" ∷ fault 14 27 kinds.BadBinding "xmlns:xml" ∷ fault 28 38 kinds.BadBinding "xmlns:p" ∷ fault 39 54 kinds.BadBinding "xmlns:xmlns" ∷ fault 55 92 kinds.BadBinding "xmlns" ∷ fault 105 116 kinds.DuplicateAttribute "xmlns:q" ∷ [])
unfolding is_char is_space is_name_start is_name_char laid faults_in events_in encode_utf8 chars character_flaw tag_flaw text_flaw once character_faults faults_behind is_declaration declared_prefix is_bad_binding flaw_kind faults_at bindings_at declaration_faults bindings element_resolved new_or_flaw attribute_resolved resolved_if_attribute attribute_items declaration_items doctype_items comment_items pi_items cdata_items text_items start_items empty_items around_innermost end_items items_of_token state_behind items_at_end items_from has_loose_hyphen is_bad_comment is_bad_pi begins_unprefixed goes_on_unprefixed is_ncname prefix_of local_of is_qname name_chars_len name_len reference_body_len reference_len char_of_code numbered character_named referenced spelled run_items last_uri bound_uri element_uri attribute_uri cut_by line_piece_len text_piece_len line_string_of text_string_of value_string_of string_of written_name value_len written_value attribute_len begins_attribute attribute_at front_attribute front_len attributes_from tag_attributes AreTokensFrom front_char after_some_spaces after_word after_equals is_version is_encoding is_yes_or_no after_value after_spaced_word after_setting after_optional_setting after_settings is_xml_declaration
declarations = refl

declaration : faults_in (items_of (laid 0 (written tokens.Decl (codes "<?xml version=\"1.0\" encoding='utf-8' ?>") ∷ written tokens.Doctype (codes "<!DOCTYPE a>") ∷ written tokens.Doctype (codes "<!DOCTYPE a>") ∷ written tokens.Decl (codes "<?xml version=\"1.0\"?>") ∷ written tokens.Pi (codes "<?XML a?>") ∷ written tokens.Comment (codes "<!-- a--->") ∷ written tokens.Empty (codes "<a/>") ∷ written tokens.Text (codes " ") ∷ written tokens.Text (codes "x") ∷ [])) 109) ≡ (fault 51 63 kinds.Misplaced "" ∷ fault 63 84 kinds.Misplaced "" ∷ fault 84 93 kinds.BadPi "" ∷ fault 93 103 kinds.BadComment "" ∷ fault 108 109 kinds.TextOutside "" ∷ [])
unfolding is_char is_space is_name_start is_name_char laid faults_in events_in encode_utf8 chars character_flaw tag_flaw text_flaw once character_faults faults_behind is_declaration declared_prefix is_bad_binding flaw_kind faults_at bindings_at declaration_faults bindings element_resolved new_or_flaw attribute_resolved resolved_if_attribute attribute_items declaration_items doctype_items comment_items pi_items cdata_items text_items start_items empty_items around_innermost end_items items_of_token state_behind items_at_end items_from has_loose_hyphen is_bad_comment is_bad_pi begins_unprefixed goes_on_unprefixed is_ncname prefix_of local_of is_qname name_chars_len name_len reference_body_len reference_len char_of_code numbered character_named referenced spelled run_items last_uri bound_uri element_uri attribute_uri cut_by line_piece_len text_piece_len line_string_of text_string_of value_string_of string_of written_name value_len written_value attribute_len begins_attribute attribute_at front_attribute front_len attributes_from tag_attributes AreTokensFrom front_char after_some_spaces after_word after_equals is_version is_encoding is_yes_or_no after_value after_spaced_word after_setting after_optional_setting after_settings is_xml_declaration
declaration = refl

extra : faults_in (items_of (laid 0 (written tokens.Start (codes "<a>") ∷ written tokens.Text (codes "x") ∷ written tokens.End (codes "</b>") ∷ written tokens.Text (codes "y") ∷ written tokens.End (codes "</a>") ∷ [])) 13) ≡ (fault 4 8 kinds.ExtraEnd "b" ∷ [])
unfolding is_char is_space is_name_start is_name_char laid faults_in events_in encode_utf8 chars character_flaw tag_flaw text_flaw once character_faults faults_behind is_declaration declared_prefix is_bad_binding flaw_kind faults_at bindings_at declaration_faults bindings element_resolved new_or_flaw attribute_resolved resolved_if_attribute attribute_items declaration_items doctype_items comment_items pi_items cdata_items text_items start_items empty_items around_innermost end_items items_of_token state_behind items_at_end items_from has_loose_hyphen is_bad_comment is_bad_pi begins_unprefixed goes_on_unprefixed is_ncname prefix_of local_of is_qname name_chars_len name_len reference_body_len reference_len char_of_code numbered character_named referenced spelled run_items last_uri bound_uri element_uri attribute_uri cut_by line_piece_len text_piece_len line_string_of text_string_of value_string_of string_of written_name value_len written_value attribute_len begins_attribute attribute_at front_attribute front_len attributes_from tag_attributes AreTokensFrom front_char after_some_spaces after_word after_equals is_version is_encoding is_yes_or_no after_value after_spaced_word after_setting after_optional_setting after_settings is_xml_declaration
extra = refl

extra_events : events_in (items_of (laid 0 (written tokens.Start (codes "<a>") ∷ written tokens.Text (codes "x") ∷ written tokens.End (codes "</b>") ∷ written tokens.Text (codes "y") ∷ written tokens.End (codes "</a>") ∷ [])) 13) ≡ (event 0 3 (Enter (record { ns = codes ""; local = codes "a" })) ∷ event 0 3 TagEnd ∷ event 3 9 (Chars (codes "xy")) ∷ event 9 13 Leave ∷ [])
unfolding is_char is_space is_name_start is_name_char laid faults_in events_in encode_utf8 chars character_flaw tag_flaw text_flaw once character_faults faults_behind is_declaration declared_prefix is_bad_binding flaw_kind faults_at bindings_at declaration_faults bindings element_resolved new_or_flaw attribute_resolved resolved_if_attribute attribute_items declaration_items doctype_items comment_items pi_items cdata_items text_items start_items empty_items around_innermost end_items items_of_token state_behind items_at_end items_from has_loose_hyphen is_bad_comment is_bad_pi begins_unprefixed goes_on_unprefixed is_ncname prefix_of local_of is_qname name_chars_len name_len reference_body_len reference_len char_of_code numbered character_named referenced spelled run_items last_uri bound_uri element_uri attribute_uri cut_by line_piece_len text_piece_len line_string_of text_string_of value_string_of string_of written_name value_len written_value attribute_len begins_attribute attribute_at front_attribute front_len attributes_from tag_attributes AreTokensFrom front_char after_some_spaces after_word after_equals is_version is_encoding is_yes_or_no after_value after_spaced_word after_setting after_optional_setting after_settings is_xml_declaration
extra_events = refl
