-- A text has no fault exactly where it is a document, and its events are then those of its tree.
use Rattle.std.specs.Prelude.{◌≡◌, ◌↔◌, ℕ, List, [], map}
use Rattle.std.specs.Str.{IsUtf8, chars}
use Rattle.nx_base.specs.Characters.{is_nc_name}
use Rattle.nx_base.specs.Tokens.{tokens_of}
use Rattle.nx_base.specs.Trees.{Tree, AreChildren, AreWritable, alone, flat}
use Rattle.nx_base.specs.declared.token.Token.{Token}
use Rattle.nx_events.specs.Among.{faults_among, events_among}
use Rattle.nx_events.specs.Items.{items_of, items_of_text}
use Rattle.nx_events.specs.Names.{is_ncname}
use Rattle.nx_events.specs.TreeEvents.{as_event}
use Rattle.nx_events.specs.declared.item.Item.{Item}
use Rattle.nx_document.specs.Document.{Document}

-- these events are those of this tree
abbrev pub AreOfTree : Tree → List Item → Type 0
AreOfTree tree all = events_among all ≡ map as_event (flat tree)

-- a text holds no fault exactly where its tokens are a document, and then its events are those of the document's tree
abbrev pub WellFormedIsDocument : Type 0
WellFormedIsDocument = (text : List ℕ) → IsUtf8 text →
    ((faults_among (items_of_text text) ≡ []) ↔ ((tree : Tree) × Document (tokens_of text) tree))
    × ((tree : Tree) → Document (tokens_of text) tree → AreOfTree tree (items_of_text text))

-- any tokens that are a document have no fault, and the events of its tree
abbrev pub DocumentsHaveNoFault : Type 0
DocumentsHaveNoFault = (all : List Token) (tree : Tree) (len : ℕ) → Document all tree →
    (faults_among (items_of all len) ≡ []) × AreOfTree tree (items_of all len)

-- tokens are a document of one tree at most
abbrev pub DocumentsHaveOneTree : Type 0
DocumentsHaveOneTree = (all : List Token) (tree other : Tree) → Document all tree → Document all other → tree ≡ other

-- the tree of a text has names that a document can have, and attributes with distinct names that attributes can have
abbrev pub DocumentsHaveProperNames : Type 0
DocumentsHaveProperNames = (text : List ℕ) (tree : Tree) → IsUtf8 text → Document (tokens_of text) tree → AreChildren (alone tree)

-- and its strings, too, are of characters that XML allows
abbrev pub DocumentsAreWritable : Type 0
DocumentsAreWritable = (text : List ℕ) (tree : Tree) → IsUtf8 text → Document (tokens_of text) tree → AreWritable (flat tree)

-- names without a colon are one notion, of the bytes of a name and of its characters (Namespaces, 3 [4])
abbrev pub UnprefixedNamesAgree : Type 0
UnprefixedNamesAgree = (name : List ℕ) → is_ncname name ≡ is_nc_name (chars name)
