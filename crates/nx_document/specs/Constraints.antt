-- What XML 1.0 and Namespaces in XML 1.0 ask of one token of a document, and of a tag inside of the namespace declarations around it.
use Rattle.std.specs.Prelude.{◌≡◌, ℕ, true, false, if◌then◌else◌, List, [], ◌∷◌, ◌++◌, Some, None}
use Rattle.std.specs.List.{AllByRecursion}
use Rattle.nx_base.specs.Characters.{is_blank}
use Rattle.nx_base.specs.Trees as trees
use Rattle.nx_base.specs.declared.name.Name.{Name}
use Rattle.nx_base.specs.declared.token.Token.{Token}
use Rattle.nx_base.specs.declared.token.TokenKind.TheVariants as kinds
use Rattle.nx_events.specs.CharacterFaults.{piece_flaw}
use Rattle.nx_events.specs.Declarations.{is_declaration, declared_prefix, is_bad_binding}
use Rattle.nx_events.specs.Markup.{is_bad_comment, is_bad_pi}
use Rattle.nx_events.specs.Names.{is_qname}
use Rattle.nx_events.specs.Scopes.{expand_element, expand_attribute}
use Rattle.nx_events.specs.Strings.{Piece, pieces}
use Rattle.nx_events.specs.Tags.{start_name, end_name, tag_attributes}
use Rattle.nx_events.specs.XmlDeclaration.{is_xml_declaration}
use Rattle.nx_events.specs.declared.reading.Reading.{Reading}
use Rattle.nx_events.specs.declared.reading.Reading.TheVariants.{Plain, Text, Value}
use Rattle.nx_events.specs.declared.scope.Binding.{Binding}
use Rattle.nx_events.specs.declared.tag.Attribute.{Attribute}

-- each character is a Char (XML 1.0, 2.2); where references are read, each `&` begins one that stands for a character, by its number
-- (4.1) or as one of the five predefined entities (4.6), whatever a document type declares; and `]]>` doesn't stand in character data (2.4)
abbrev pub IsLegal : Reading → List ℕ → Type 0
IsLegal reading bytes = AllByRecursion (λ (piece : Piece). piece_flaw reading piece.bytes ≡ None) (pieces reading 0 bytes)

-- a byte order mark (4.3.3)
abbrev pub IsMark : Token → Type 0
IsMark token = token.kind ≡ kinds.Bom

-- XMLDecl (2.8 [23]), with UTF-8 or US-ASCII where it names an encoding (4.3.3), which isn't compared with the bytes
pub record IsXmlDeclaration (token : Token) : Type 0 where
  pub kind : token.kind ≡ kinds.Decl
  pub form : is_xml_declaration token.bytes ≡ true

-- doctypedecl (2.8 [28]), of which its marks alone are asked: nothing inside of it is asked or used
abbrev pub IsDoctype : Token → Type 0
IsDoctype token = token.kind ≡ kinds.Doctype

-- Comment (2.5 [15])
pub record IsComment (token : Token) : Type 0 where
  pub kind : token.kind ≡ kinds.Comment
  pub characters : IsLegal Plain token.bytes
  pub form : is_bad_comment token.bytes ≡ false

-- PI (2.6 [16] and [17]), without a colon in its target (Namespaces, 7)
pub record IsInstruction (token : Token) : Type 0 where
  pub kind : token.kind ≡ kinds.Pi
  pub characters : IsLegal Plain token.bytes
  pub form : is_bad_pi token.bytes ≡ false

-- S (2.3 [3])
pub record IsWhiteSpace (token : Token) : Type 0 where
  pub kind : token.kind ≡ kinds.Text
  pub blank : is_blank token.bytes ≡ true

-- CharData (2.4 [14]) with references (4.1 [67])
pub record IsCharacterData (token : Token) : Type 0 where
  pub kind : token.kind ≡ kinds.Text
  pub characters : IsLegal Text token.bytes

-- CDSect (2.7 [18])
pub record IsSection (token : Token) : Type 0 where
  pub kind : token.kind ≡ kinds.Cdata
  pub characters : IsLegal Plain token.bytes

-- no two of a list are alike in this
abbrev pub NoTwoShare : {A B : Type 0} → (A → B) → List A → Type 0
NoTwoShare of [] = Unit {0}
NoTwoShare of (x ∷ others) = AllByRecursion (λ y. of x ≡ of y → ⊥) others × NoTwoShare of others

-- no name is written twice in a tag (3.1, Unique Att Spec)
abbrev pub AreWrittenOnce : List Attribute → Type 0
AreWrittenOnce attributes = NoTwoShare (λ (it : Attribute). it.name) attributes

-- a namespace declaration has a qualified name (Namespaces, 3 [1], 7), binds no reserved prefix or name wrongly (3, Reserved
-- Prefixes and Namespace Names), and no prefix to nothing (5, No Prefix Undeclaring)
pub record IsLegalDeclaration (it : Attribute) : Type 0 where
  pub name : is_qname it.name ≡ true
  pub binding : is_bad_binding (declared_prefix it.name) it.string ≡ false

abbrev pub DeclareLegally : List Attribute → Type 0
DeclareLegally attributes = AllByRecursion (λ (it : Attribute). is_declaration it.name ≡ true → IsLegalDeclaration it) attributes

-- the pairs of prefix and URI that attributes declare (3)
abbrev pub declared : List Attribute → List Binding
declared [] = []
declared (it ∷ others) =
    if is_declaration it.name then (record { prefix = declared_prefix it.name; uri = it.string }) ∷ declared others else declared others

-- the attributes that a tag writes
abbrev pub written_in : Token → List Attribute
written_in token = tag_attributes token.from token.bytes

-- what is declared around a tag and in it, the innermost last (6.1)
abbrev pub in_force : List Binding → Token → List Binding
in_force around token = around ++ declared (written_in token)

-- the attributes that aren't declarations are these, in order, by their expanded names and values: each name is qualified (4 [7], 7),
-- and its prefix is declared (5, Prefix Declared; 6.2)
pub data Expand (scope : List Binding) : List Attribute → List trees.Attribute → Type 0 where
  no_attribute : Expand scope [] []
  declaration : {it : Attribute} {others : List Attribute} {expanded : List trees.Attribute} →
      is_declaration it.name ≡ true → Expand scope others expanded → Expand scope (it ∷ others) expanded
  attribute : {it : Attribute} {others : List Attribute} {name : Name} {expanded : List trees.Attribute} →
      is_declaration it.name ≡ false → is_qname it.name ≡ true → expand_attribute scope it.name ≡ Some name →
      Expand scope others expanded → Expand scope (it ∷ others) (record { name = name; value = it.string } ∷ expanded)

-- no two have one expanded name (6.3)
abbrev pub AreDistinct : List trees.Attribute → Type 0
AreDistinct attributes = NoTwoShare (λ (a : trees.Attribute). a.name) attributes

-- a start tag or an empty-element tag (XML 1.0, 3.1 [40] and [44]) inside of these declarations, of an element with this expanded
-- name and these attributes
pub record IsLegalTag (around : List Binding) (token : Token) (name : Name) (attributes : List trees.Attribute) : Type 0 where
  -- its characters, and the references in its values (2.2, 4.1)
  pub characters : IsLegal Value token.bytes
  -- Unique Att Spec (3.1)
  pub once : AreWrittenOnce (written_in token)
  -- its namespace declarations (Namespaces, 3 and 5)
  pub declarations : DeclareLegally (written_in token)
  -- the element's name is a QName (4 [12] and [14], 7), its prefix is declared (5, Prefix Declared), and it expands so (6.2)
  pub qualified : is_qname (start_name token.bytes) ≡ true
  pub named : expand_element (in_force around token) (start_name token.bytes) ≡ Some name
  -- and so are and do the names of its attributes (4 [15], 5, 6.2), no two alike (6.3)
  pub expanded : Expand (in_force around token) (written_in token) attributes
  pub distinct : AreDistinct attributes

-- ETag, with the name of the start tag (3, Element Type Match)
pub record EndsElement (start end : Token) : Type 0 where
  pub kind : end.kind ≡ kinds.End
  pub matches : end_name end.bytes ≡ start_name start.bytes
