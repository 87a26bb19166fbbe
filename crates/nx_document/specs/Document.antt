-- A document by nesting: a grammar over the list of its tokens, each production with what follows it. XML 1.0, 2.1 [1], 2.8 [22] and
-- [27], 3 [39], 3.1 [43].
use Rattle.std.specs.Prelude.{◌≡◌, ℕ, List, [], ◌∷◌, ◌++◌}
use Rattle.nx_base.specs.Trees.{Tree, Children, nil, string, element}
use Rattle.nx_base.specs.Trees as trees
use Rattle.nx_base.specs.declared.name.Name.{Name}
use Rattle.nx_base.specs.declared.token.Token.{Token}
use Rattle.nx_base.specs.declared.token.TokenKind.TheVariants as kinds
use Rattle.nx_events.specs.Strings.{string_of, cdata_content}
use Rattle.nx_events.specs.declared.reading.Reading.TheVariants.{Plain, Text}
use Rattle.nx_events.specs.declared.scope.Binding.{Binding}
use Rattle.nx_document.specs.Constraints.{IsMark, IsXmlDeclaration, IsDoctype, IsComment, IsInstruction, IsWhiteSpace, IsCharacterData}
use Rattle.nx_document.specs.Constraints.{IsSection, in_force, IsLegalTag, EndsElement}

-- one such token or none, up to what follows
pub data Optional (P : Token → Type 0) : List Token → List Token → Type 0 where
  absent : {rest : List Token} → Optional P rest rest
  present : {token : Token} {rest : List Token} → P token → Optional P (token ∷ rest) rest

-- any number of such tokens
pub data Repeated (P : Token → Type 0) : List Token → List Token → Type 0 where
  no_further : {rest : List Token} → Repeated P rest rest
  further : {token : Token} {others rest : List Token} → P token → Repeated P others rest → Repeated P (token ∷ others) rest

-- Misc (2.8 [27])
pub data IsMisc (token : Token) : Type 0 where
  comment : IsComment token → IsMisc token
  instruction : IsInstruction token → IsMisc token
  white_space : IsWhiteSpace token → IsMisc token

-- a string in front of children: it is joined with a string that they begin with, and is no child where it is empty
abbrev pub with_text : List ℕ → Children → Children
with_text [] children = children
with_text (b ∷ text) nil = string (b ∷ text) nil
with_text (b ∷ text) (string more rest) = string ((b ∷ text) ++ more) rest
with_text (b ∷ text) (element name attributes children rest) = string (b ∷ text) (element name attributes children rest)

mutual
  -- element (3 [39]), inside of these declarations
  pub data Element : List Binding → List Token → List Token → Tree → Type 0 where
    by_empty : {scope : List Binding} {tag : Token} {rest : List Token} {name : Name} {attributes : List trees.Attribute} →
        tag.kind ≡ kinds.Empty → IsLegalTag scope tag name attributes →
        Element scope (tag ∷ rest) rest (record { name = name; attributes = attributes; children = nil })
    by_tags : {scope : List Binding} {tag end : Token} {inner rest : List Token} {name : Name}
        {attributes : List trees.Attribute} {children : Children} →
        tag.kind ≡ kinds.Start → IsLegalTag scope tag name attributes → Content (in_force scope tag) inner (end ∷ rest) children →
        EndsElement tag end → Element scope (tag ∷ inner) rest (record { name = name; attributes = attributes; children = children })

  -- content (3.1 [43]): what stands between the elements is joined to strings, also over comments and processing instructions
  pub data Content : List Binding → List Token → List Token → Children → Type 0 where
    no_more : {scope : List Binding} {rest : List Token} → Content scope rest rest nil
    by_element : {scope : List Binding} {all others rest : List Token} {tree : Tree} {children : Children} →
        Element scope all others tree → Content scope others rest children →
        Content scope all rest (element tree.name tree.attributes tree.children children)
    by_text : {scope : List Binding} {token : Token} {others rest : List Token} {children : Children} →
        IsCharacterData token → Content scope others rest children → Content scope (token ∷ others) rest
        (with_text (string_of Text token.bytes) children)
    by_section : {scope : List Binding} {token : Token} {others rest : List Token} {children : Children} →
        IsSection token → Content scope others rest children → Content scope (token ∷ others) rest
        (with_text (string_of Plain (cdata_content token.bytes)) children)
    by_comment : {scope : List Binding} {token : Token} {others rest : List Token} {children : Children} →
        IsComment token → Content scope others rest children → Content scope (token ∷ others) rest children
    by_instruction : {scope : List Binding} {token : Token} {others rest : List Token} {children : Children} →
        IsInstruction token → Content scope others rest children → Content scope (token ∷ others) rest children

-- document (2.1 [1]) with its prolog (2.8 [22])
pub record Document (all : List Token) (tree : Tree) : Type 0 where
  pub behind_mark : List Token
  pub behind_declaration : List Token
  pub before_doctype : List Token
  pub behind_doctype : List Token
  pub root : List Token
  pub behind_root : List Token
  pub mark : Optional IsMark all behind_mark
  pub declaration : Optional IsXmlDeclaration behind_mark behind_declaration
  pub first_misc : Repeated IsMisc behind_declaration before_doctype
  pub doctype : Optional IsDoctype before_doctype behind_doctype
  pub second_misc : Repeated IsMisc behind_doctype root
  pub element : Element [] root behind_root tree
  pub last_misc : Repeated IsMisc behind_root []
