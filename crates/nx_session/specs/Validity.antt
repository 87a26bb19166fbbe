-- What it says of a text that `errors` lists no fault.
use Rattle.std.specs.Prelude.{◌≡◌, ◌⊎◌, ◌↔◌, ℕ, List, [], Option, Some, None}
use Rattle.nx_base.specs.Tokens.{tokens_of}
use Rattle.nx_base.specs.Trees.{Tree}
use Rattle.nx_document.specs.Document.{Document}
use Rattle.nx_host.specs.Files.{FileMap}
use Rattle.nx_recovery.specs.Validity.{IsValidDocument}
use Rattle.nx_script.specs.declared.command.Command.TheVariants as command
use Rattle.nx_script.specs.declared.reply.Reply.{Reply}
use Rattle.nx_script.specs.declared.reply.Reply.TheVariants.{Errors, Refused}
use Rattle.nx_script.specs.declared.reply.Refusal.TheVariants.{NoMemory}
use Rattle.nx_session.specs.Editor.{SessionState, FilesState, World, world, schema_of}
use Rattle.nx_session.specs.Held.{IsWellHeld}
use Rattle.nx_session.specs.Marks.{MarksAreRight}
use Rattle.nx_session.specs.Schemas.{Defines, IsUsable}
use Rattle.nx_session.specs.Step.{Step}
use Rattle.nx_views.specs.States.{ViewState}
use Rattle.rng_core.specs.Meaning.{language_of}
use Rattle.rng_core.specs.Patterns.{Language}
use Rattle.rng_core.specs.declared.grammar.Grammar.{Grammar}

-- the text is a well-formed document, and valid against the schema, where there is one
abbrev pub IsDocumentFor : Option Language → List ℕ → Type 0
IsDocumentFor None text = (tree : Tree) × Document (tokens_of text) tree
IsDocumentFor (Some schema) text = IsValidDocument schema text

-- between two commands, where the marks are right, the caret stands at a place and a schema that is held is live and sound, `errors`
-- is answered by a list without a fault exactly where the text is such a document; unless there was no memory, and that is the answer
abbrev pub NoErrorsIsValid : Type 0
NoErrorsIsValid = (session : SessionState) (files : FilesState) (views : List ViewState) (steps : ℕ) (reply : Reply) (new : World) →
    MarksAreRight session → IsWellHeld session → Step (world session.editor files views steps) command.Errors reply new →
    ((reply ≡ Errors []) ↔ IsDocumentFor (schema_of session.editor) session.editor.text) ⊎ (reply ≡ Refused NoMemory)

-- The same where the schema that is held is what can be used of a grammar that files define: there is no fault exactly where the text is
-- a well-formed document which that grammar matches as the files define it, before anything is left out of it
abbrev pub NoErrorsIsValidForFiles : Type 0
NoErrorsIsValidForFiles = (session : SessionState) (files : FilesState) (views : List ViewState) (steps : ℕ) (reply : Reply) (new : World)
    (told : Option FileMap) (uri : List ℕ) (whole left : Grammar) →
    MarksAreRight session → IsWellHeld session → Defines told uri whole → IsUsable whole left → session.editor.schema ≡ Some left →
    Step (world session.editor files views steps) command.Errors reply new →
    ((reply ≡ Errors []) ↔ IsValidDocument (language_of whole) session.editor.text) ⊎ (reply ≡ Refused NoMemory)
