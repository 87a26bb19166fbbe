-- The text of a schema file that is handed on: its own, with types that aren't held put to wider ones, facets left out, and the encoding
-- that its declaration names put to UTF-8. All else is byte for byte as it is, but that a type of the compact syntax reaches up to the next
-- token, so that a comment between the two is blank, too.
use Rattle.std.specs.Prelude.{ℕ, Bool, true, false, if◌then◌else◌, ◌==◌, List, [], ◌∷◌, ◌++◌, length, Option, Result, Ok, Err}
use Rattle.std.specs.Option.{option_map}
use Rattle.std.specs.Str.{is_utf8}
use Rattle.nx_events.specs.Items.{items_of_text}
use Rattle.nx_host.specs.Files.{FileMap}
use Rattle.rnc_lex.specs.declared.fault.LexFault.{LexFault}
use Rattle.rnc_lex.specs.declared.fault.LexFault.TheVariants.{NoMemory}
use Rattle.rnc_lex.specs.declared.token.RncToken.{RncToken}
use Rattle.rnc_lex.specs.Reading.{lexed}
use Rattle.rngx_read.specs.Files.{is_markup}
use Rattle.rng_widen.specs.declared.widening.Widening.{Widening}
use Rattle.rng_widen.specs.CompactWidenings.{widenings_of}
use Rattle.rng_widen.specs.Encodings.{declared}
use Rattle.rng_widen.specs.MarkupWidenings.{widenings_in}
use Rattle.rng_widen.specs.Widened.{put_all}

-- what is put to something wider in a text of so many bytes that is these tokens, or that has a fault
abbrev pub of_tokens : ℕ → Result (List RncToken) LexFault → List Widening
of_tokens end (Ok tokens) = widenings_of end tokens
of_tokens end (Err fault) = []

-- the fault is want of memory
abbrev pub wants_memory : LexFault → Bool
wants_memory NoMemory = true
wants_memory _ = false

-- in a text in the compact syntax, by the tokens that it is read into (`TokensTell`, `FaultsTellNothing`), and in one in the XML syntax
unfoldable pub in_compact : List ℕ → List Widening
in_compact text = of_tokens (length text) (lexed text)

unfoldable pub in_markup : List ℕ → List Widening
in_markup text = widenings_in (items_of_text text)

abbrev pub in_text : Bool → List ℕ → List Widening
in_text true text = in_markup text
in_text false text = in_compact text

-- in bytes; nothing where they are no text
unfoldable pub text_widenings : List ℕ → List Widening
text_widenings bytes = if is_utf8 bytes then in_text (is_markup bytes) bytes else []

-- in the bytes of a file: the encoding that its declaration names, and what there is in the text with that put to UTF-8
unfoldable pub widenings : List ℕ → List Widening
widenings bytes = declared bytes ++ text_widenings (put_all bytes (declared bytes))

-- what is handed on in place of these bytes
unfoldable pub handed : List ℕ → List ℕ
handed bytes = put_all bytes (widenings bytes)

-- ---- files

-- what is handed on in place of what stands under a URI; strictly, that itself
abbrev pub handed_as : Bool → Option (List ℕ) → Option (List ℕ)
handed_as true found = found
handed_as false found = option_map handed found

-- What is handed on under each URI. No text begins with the byte 128: behind it stands what the files themselves hold, so that files that
-- hand on the same hold the same (`FilesTellTheirs`)
unfoldable pub wider_map : Bool → FileMap → FileMap
wider_map strict files [] = handed_as strict (files [])
wider_map strict files (byte ∷ key) = if byte == 128 then files key else handed_as strict (files (byte ∷ key))

-- where the files tell what they hold
unfoldable pub wider_files : Bool → Option FileMap → Option FileMap
wider_files strict told = option_map (wider_map strict) told
