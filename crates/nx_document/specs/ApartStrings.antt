-- The strings of a tree stand apart: none is empty, and between two there is an element.
use Rattle.std.specs.Prelude.{ℕ, List, ◌∷◌}
use Rattle.nx_base.specs.Trees.{Tree, Children, nil, string, element}
use Rattle.nx_base.specs.Trees as trees
use Rattle.nx_base.specs.declared.name.Name.{Name}
use Rattle.nx_base.specs.declared.token.Token.{Token}
use Rattle.nx_document.specs.Document.{Document}

-- of these children, and of those inside of their elements, no string is empty, and behind a string stands an element or nothing
pub data HaveApartStrings : Children → Type 0 where
  no_children : HaveApartStrings nil
  element_first : {name : Name} {attributes : List trees.Attribute} {children rest : Children} →
      HaveApartStrings children → HaveApartStrings rest → HaveApartStrings (element name attributes children rest)
  string_last : {b : ℕ} {text : List ℕ} → HaveApartStrings (string (b ∷ text) nil)
  string_then_element : {b : ℕ} {text : List ℕ} {name : Name} {attributes : List trees.Attribute} {children rest : Children} →
      HaveApartStrings (element name attributes children rest) → HaveApartStrings
      (string (b ∷ text) (element name attributes children rest))

-- so it is in each element of a document
abbrev pub DocumentsHaveApartStrings : Type 0
DocumentsHaveApartStrings = (all : List Token) (tree : Tree) → Document all tree → HaveApartStrings tree.children
