-- What becomes of a document by the messages that are about it.
use Rattle.std.specs.Prelude.{ℕ, ℤ, List, [], ◌∷◌, Option, Some, None, cond, option_map}
use Rattle.std.specs.Str.{bytes_eq}
use Rattle.nx_position.specs.Changes.{changed}
use Rattle.nx_position.specs.declared.change.Change.{Change}
use Rattle.nx_position.specs.declared.change.Range.{Range}
use Rattle.nx_position.specs.declared.position.Encoding.{Encoding}
use Rattle.nx_protocol.specs.Documents.{Document, document}

-- a document whose version and text are told
abbrev pub told_document : Option ℤ → Option (List ℕ) → Option Document
told_document (Some version) (Some text) = Some (document version text)
told_document (Some version) None = None
told_document None text = None

-- a text that comes in the place of one that isn't known: it is known where it comes in the place of the whole
abbrev pub whole_text : Option Range → List ℕ → Option (List ℕ)
whole_text None text = Some text
whole_text (Some part) text = None

-- the text behind a change
abbrev pub changed_text : Encoding → Option (List ℕ) → Change → Option (List ℕ)
changed_text encoding None change = whole_text change.part change.text
changed_text encoding (Some text) change = Some (changed encoding text change)

-- the text behind changes, each of which speaks of what those before it left
abbrev pub changed_texts : Encoding → Option (List ℕ) → List Change → Option (List ℕ)
changed_texts encoding text [] = text
changed_texts encoding text (change ∷ rest) = changed_texts encoding (changed_text encoding text change) rest

abbrev pub text_in : Option Document → Option (List ℕ)
text_in held = option_map (λ one. one.text) held

-- a document behind changes that are told: where they can't be read, its text isn't known
abbrev pub changed_document : Encoding → Option Document → Option ℤ → Option (List Change) → Option Document
changed_document encoding old version None = None
changed_document encoding old version (Some changes) = told_document version (changed_texts encoding (text_in old) changes)

-- what is under a URI behind a message about a document, where that is under it `given`; a message that doesn't say which document it is
-- about may be about any, so that no text is known
abbrev pub document_where : Option (List ℕ) → List ℕ → Option Document → Option Document → Option Document
document_where None uri given old = None
document_where (Some about) uri given old = cond (bytes_eq about uri) given old

-- under a URI behind `textDocument/didOpen`, which tells a document's version and text
abbrev pub opened : Option (List ℕ) → Option ℤ → Option (List ℕ) → List ℕ → Option Document → Option Document
opened about version text uri old = document_where about uri (told_document version text) old

-- behind `textDocument/didChange`, which tells changes, and the version behind them
abbrev pub changed_there : Encoding → Option (List ℕ) → Option ℤ → Option (List Change) → List ℕ → Option Document → Option Document
changed_there encoding about version changes uri old = document_where about uri (changed_document encoding old version changes) old

-- behind `textDocument/didClose`
abbrev pub closed : Option (List ℕ) → List ℕ → Option Document → Option Document
closed about uri old = document_where about uri None old
