-- The strings of a document's tree stand apart.
use Rattle.std.proofs.Common.{ℕ, List, [], ◌∷◌}
use Rattle.nx_base.specs.Trees.{Tree, Children}
use Rattle.nx_base.specs.declared.token.Token.{Token}
use Rattle.nx_events.specs.Strings.{string_of, cdata_content}
use Rattle.nx_events.specs.declared.reading.Reading.TheVariants.{Plain, Text}
use Rattle.nx_events.specs.declared.scope.Binding.{Binding}
use Rattle.nx_document.specs.ApartStrings.{HaveApartStrings, no_children, element_first, string_last, string_then_element, DocumentsHaveApartStrings}
use Rattle.nx_document.specs.Document.{with_text, Element, by_empty, by_tags, Content, no_more, by_element, by_text, by_section, by_comment, by_instruction}

text_apart : (text : List ℕ) {children : Children} → HaveApartStrings children → HaveApartStrings (with_text text children)
text_apart [] apart = apart
text_apart (b ∷ text) no_children = string_last
text_apart (b ∷ text) (element_first inner more) = string_then_element (element_first inner more)
text_apart (b ∷ text) string_last = string_last
text_apart (b ∷ text) (string_then_element more) = string_then_element more

mutual
  element_apart : {scope : List Binding} {all rest : List Token} {tree : Tree} → Element scope all rest tree → HaveApartStrings tree.children
  element_apart (by_empty kind is) = no_children
  element_apart (by_tags kind is content ends) = content_apart content

  content_apart : {scope : List Binding} {all rest : List Token} {children : Children} → Content scope all rest children → HaveApartStrings children
  content_apart no_more = no_children
  content_apart (by_element one more) = element_first (element_apart one) (content_apart more)
  content_apart (by_text {token = token} is more) = text_apart (string_of Text token.bytes) (content_apart more)
  content_apart (by_section {token = token} is more) = text_apart (string_of Plain (cdata_content token.bytes)) (content_apart more)
  content_apart (by_comment is more) = content_apart more
  content_apart (by_instruction is more) = content_apart more

pub documents_apart : DocumentsHaveApartStrings
documents_apart all tree is = element_apart is.element
