-- The tree of a text has names that a document can have, and strings of characters that XML allows.
use Rattle.std.proofs.Common.{◌≡◌, ℕ, true, List, [], ◌∷◌, length, drop, ◌-◌, sym, subst}
use Rattle.std.specs.List.{AllByRecursion}
use Rattle.std.specs.Str.{IsUtf8}
use Rattle.std.specs.Prelude.{◌==◌}
use Rattle.nx_base.specs.Names.{is_xml_name}
use Rattle.nx_base.specs.Tokens.{tokens_of}
use Rattle.nx_base.specs.Trees.{Tree, Children, nil, string, element, HasAttribute, here, further, AreAttributes, no_attributes, one_more, AreChildren, no_children, string_first, element_first, attributes_flat, children_flat, alone, flat, AreWritable}
use Rattle.nx_base.specs.Trees as trees
use Rattle.nx_base.specs.declared.name.Name.{Name}
use Rattle.nx_base.specs.declared.token.Token.{Token}
use Rattle.nx_base.specs.declared.token.TokenKind.{TokenKind}
use Rattle.nx_base.specs.declared.token.TokenKind.TheVariants as kinds
use Rattle.nx_events.specs.Strings.{string_of, cdata_content}
use Rattle.nx_events.specs.Tags.{start_name}
use Rattle.nx_events.specs.declared.reading.Reading.TheVariants.{Plain, Text, Value}
use Rattle.nx_events.specs.declared.scope.Binding.{Binding}
use Rattle.nx_events.specs.declared.tag.Attribute.{Attribute}
use Rattle.nx_events.proofs.TextKinds.{HasContent, content_text}
use Rattle.nx_events.proofs.TextTags.{AttributesAreText, name_text, tag_text}
use Rattle.nx_document.specs.Constraints.{written_in, in_force, IsLegalTag, Expand, no_attribute, declaration, attribute, AreDistinct}
use Rattle.nx_document.specs.Document.{Optional, absent, present, Repeated, no_further, further, with_text, Element, by_empty, by_tags, Content, no_more, by_element, by_text, by_section, by_comment, by_instruction, Document}
use Rattle.nx_document.proofs.Borders.{IsText, tokens_are_text}
use Rattle.nx_document.proofs.Legal.{legal_of_chars}
use Rattle.nx_document.proofs.Names.{AreProper, in_force_proper, element_name, attribute_name}
use Rattle.nx_document.proofs.OfChars.{OfChars, is_of, of_both}
use Rattle.nx_document.proofs.Strings.{string_chars}
use Rattle.nx_document.proofs.Values.{AreOfChars, all_parts, tag_chars}

abbrev AreText : List Token → Type 0
AreText all = AllByRecursion IsText all

-- attributes
abbrev ValuesOfChars : List trees.Attribute → Type 0
ValuesOfChars attributes = AllByRecursion (λ (a : trees.Attribute). OfChars a.value) attributes

no_other : (a : trees.Attribute) (others : List trees.Attribute) → AllByRecursion (λ (b : trees.Attribute). a.name ≡ b.name → ⊥) others → HasAttribute a.name others → ⊥
no_other a others h (here {a = b} e) = h.0 (sym e)
no_other a others h (further {more = more} k) = no_other a more h.1 k

attributes_proper : (scope : List Binding) {xs : List Attribute} {attributes : List trees.Attribute} → AreProper scope → AttributesAreText xs → Expand scope xs attributes → AreDistinct attributes → AreAttributes attributes
attributes_proper scope p u no_attribute d = no_attributes
attributes_proper scope p u (declaration c more) d = attributes_proper scope p u.1 more d
attributes_proper scope p u (attribute {it = it} {name = name} {expanded = attributes} c q e more) d =
    one_more (attribute_name scope it.name name p u.0.0 c q e) (λ k. no_other (record { name = name; value = it.string }) attributes d.0 k) (attributes_proper scope p u.1 more d.1)

values_proper : (scope : List Binding) {xs : List Attribute} {attributes : List trees.Attribute} → AreOfChars xs → Expand scope xs attributes → ValuesOfChars attributes
values_proper scope o no_attribute = tt
values_proper scope o (declaration c more) = values_proper scope o.1 more
values_proper scope o (attribute c q e more) = (o.0, values_proper scope o.1 more)

-- the strings of children, and the values of their attributes
data TextsOfChars : Children → Type 0 where
  no_text : TextsOfChars nil
  text_first : {text : List ℕ} {rest : Children} → OfChars text → TextsOfChars rest → TextsOfChars (string text rest)
  element_then : {name : Name} {attributes : List trees.Attribute} {children rest : Children} → ValuesOfChars attributes → TextsOfChars children → TextsOfChars rest → TextsOfChars (element name attributes children rest)

record ProperChildren (children : Children) : Type 0 where
  names : AreChildren children
  texts : TextsOfChars children

record ProperTree (tree : Tree) : Type 0 where
  name : is_xml_name tree.name ≡ true
  attributes : AreAttributes tree.attributes
  values : ValuesOfChars tree.attributes
  children : ProperChildren tree.children

with_string : (text : List ℕ) {children : Children} → OfChars text → ProperChildren children → ProperChildren (with_text text children)
with_string [] o p = p
with_string (b ∷ text) {children} o p = by_children children p.names p.texts
  where
    by_children : (c : Children) → AreChildren c → TextsOfChars c → ProperChildren (with_text (b ∷ text) c)
    by_children nil names texts = record { names = string_first names; texts = text_first o texts }
    by_children (string more rest) (string_first names) (text_first other texts) = record { names = string_first names; texts = text_first (of_both (b ∷ text) more o other) texts }
    by_children (element name attributes inner rest) names texts = record { names = string_first names; texts = text_first o texts }

-- a tag
record ProperTag (scope : List Binding) (tag : Token) (name : Name) (attributes : List trees.Attribute) : Type 0 where
  inner : AreProper (in_force scope tag)
  named : is_xml_name name ≡ true
  expanded : AreAttributes attributes
  values : ValuesOfChars attributes

tag_proper : (scope : List Binding) (tag : Token) (name : Name) (attributes : List trees.Attribute) → AreProper scope → IsUtf8 tag.bytes → IsUtf8 (drop 1 tag.bytes) → IsLegalTag scope tag name attributes →
    ProperTag scope tag name attributes
tag_proper scope tag name attributes p u v is =
    let chars = tag_chars tag.from tag.bytes v (legal_of_chars Value tag.bytes u is.characters) in
    let text = tag_text tag.from tag.bytes v in
    let inner = in_force_proper scope (written_in tag) p is.declarations chars in
    record {
      inner = inner;
      named = element_name (in_force scope tag) (start_name tag.bytes) name inner (name_text (drop 1 tag.bytes) v) is.qualified is.named;
      expanded = attributes_proper (in_force scope tag) inner text is.expanded is.distinct;
      values = values_proper (in_force scope tag) chars is.expanded;
    }

content_of : (token : Token) (kind : TokenKind) → IsText token → token.kind ≡ kind → HasContent token.bytes kind (length token.bytes)
content_of token kind text e = subst (λ k. HasContent token.bytes k (length token.bytes)) e (content_text token text.0 ((token.from == 0), text.1))

-- elements and content, with what follows them
mutual
  element_proper : {scope : List Binding} {all rest : List Token} {tree : Tree} → Element scope all rest tree → AreProper scope → AreText all → ProperTree tree × AreText rest
  element_proper (by_empty {scope = scope} {tag = tag} {name = name} {attributes = attributes} kind is) p text =
      let proper = tag_proper scope tag name attributes p text.0.0 (content_of tag kinds.Empty text.0 kind) is in
      (record { name = proper.named; attributes = proper.expanded; values = proper.values; children = record { names = no_children; texts = no_text } }, text.1)
  element_proper (by_tags {scope = scope} {tag = tag} {name = name} {attributes = attributes} kind is content closes) p text =
      let proper = tag_proper scope tag name attributes p text.0.0 (content_of tag kinds.Start text.0 kind) is in
      let within = content_proper content proper.inner text.1 in
      (record { name = proper.named; attributes = proper.expanded; values = proper.values; children = within.0 }, within.1.1)

  content_proper : {scope : List Binding} {all rest : List Token} {children : Children} → Content scope all rest children → AreProper scope → AreText all → ProperChildren children × AreText rest
  content_proper no_more p text = (record { names = no_children; texts = no_text }, text)
  content_proper (by_element one more) p text =
      let first = element_proper one p text in
      let others = content_proper more p first.1 in (
        record {
          names = element_first first.0.name first.0.attributes first.0.children.names others.0.names;
          texts = element_then first.0.values first.0.children.texts others.0.texts;
        },
        others.1,
      )
  content_proper (by_text {token = token} is more) p text =
      let others = content_proper more p text.1 in
      (with_string (string_of Text token.bytes) (string_chars Text token.bytes (legal_of_chars Text token.bytes text.0.0 is.characters)) others.0, others.1)
  content_proper (by_section {token = token} is more) p text =
      let others = content_proper more p text.1 in (
        with_string (string_of Plain (cdata_content token.bytes))
            (string_chars Plain (cdata_content token.bytes) (all_parts token.bytes (legal_of_chars Plain token.bytes text.0.0 is.characters) 9 (length token.bytes - 12) (content_of token kinds.Cdata text.0 is.kind))) others.0,
        others.1,
      )
  content_proper (by_comment is more) p text = content_proper more p text.1
  content_proper (by_instruction is more) p text = content_proper more p text.1

-- the tokens around the root
behind_optional : {P : Token → Type 0} {all rest : List Token} → Optional P all rest → AreText all → AreText rest
behind_optional absent text = text
behind_optional (present is) text = text.1

behind_repeated : {P : Token → Type 0} {all rest : List Token} → Repeated P all rest → AreText all → AreText rest
behind_repeated no_further text = text
behind_repeated (further is more) text = behind_repeated more text.1

document_proper : (all : List Token) (tree : Tree) → AreText all → Document all tree → ProperTree tree
document_proper all tree text is =
    (element_proper is.element tt
    (behind_repeated is.second_misc (behind_optional is.doctype (behind_repeated is.first_misc (behind_optional is.declaration (behind_optional is.mark text)))))).0

-- events that can be written
attributes_writable : {attributes : List trees.Attribute} → AreAttributes attributes → ValuesOfChars attributes → (x : List trees.Event) → AreWritable x → AreWritable (attributes_flat attributes x)
attributes_writable no_attributes o x w = w
attributes_writable (one_more {a = a} named fresh more) o x w = ((named, is_of a.value o.0), attributes_writable more o.1 x w)

children_writable : {children : Children} → AreChildren children → TextsOfChars children → (x : List trees.Event) → AreWritable x → AreWritable (children_flat children x)
children_writable no_children o x w = w
children_writable (string_first {text = text} more) (text_first t o) x w = (is_of text t, children_writable more o x w)
children_writable (element_first {children = children} {rest = rest} named attributes inner more) (element_then v i o) x w =
    (named, attributes_writable attributes v _ (tt, children_writable inner i _ (tt, children_writable more o x w)))

pub proper_names : (text : List ℕ) (tree : Tree) → IsUtf8 text → Document (tokens_of text) tree → AreChildren (alone tree)
proper_names text tree utf8 is =
    let p = document_proper (tokens_of text) tree (tokens_are_text text utf8) is in
    element_first p.name p.attributes p.children.names no_children

pub writable : (text : List ℕ) (tree : Tree) → IsUtf8 text → Document (tokens_of text) tree → AreWritable (flat tree)
writable text tree utf8 is =
    let p = document_proper (tokens_of text) tree (tokens_are_text text utf8) is in
    children_writable (element_first p.name p.attributes p.children.names no_children) (element_then p.values p.children.texts no_text) [] tt
