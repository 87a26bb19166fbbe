-- The documents that words name.
use Rattle.std.specs.Prelude.{◌≡◌, ℕ, Bool, List, codes, Option, Some, Result, Ok, Err, IsUtf8, if◌then◌else◌}
use Rattle.std.specs.Str.{bytes_eq}
use Rattle.nx_host.specs.Files.{FileMap, Holds}
use Rattle.nx_host.specs.PathUri.{uri_of_path}
use Rattle.nx_host.specs.Uri.{Joins}
use Rattle.nx_host.specs.Utf8.{StopsBeingText}
use Rattle.nx_session.specs.Editor.{work_folder}
use Rattle.nx_check.specs.declared.document.Document.{Document}
use Rattle.nx_check.specs.declared.reason.Reason.{Reason}
use Rattle.nx_check.specs.declared.reason.Reason.TheVariants.{NotUtf8}

-- the word, written in this folder, is that of the file under this URI
abbrev pub Names : List ℕ → List ℕ → List ℕ → Type 0
Names folder word uri = Joins work_folder (uri_of_path folder word) uri

-- what standard input gives is fetched under this URI
abbrev pub standard_input : List ℕ
standard_input = codes "stdin:"

-- where a document is fetched that this word names: `-` stands for standard input, which has the URI of a file of that name
abbrev pub fetched_at : List ℕ → List ℕ → List ℕ
fetched_at word uri = if bytes_eq word (codes "-") then standard_input else uri

-- the word names this document, which is text
pub record IsDocument (folder word : List ℕ) (told : Option FileMap) (document : Document) : Type 0 where
  pub named : Names folder word document.uri
  pub held : Holds told (fetched_at word document.uri) (Some document.bytes)
  pub utf8 : IsUtf8 document.bytes

-- ---- as the code sees it

-- bytes that were fetched for this URI are a document where they are text, and else stop being one at the byte offset that is told
abbrev pub IsTextAlone : List ℕ → List ℕ → Result Document Reason → Type 0
IsTextAlone uri bytes (Ok document) = (document ≡ record { uri = uri; bytes = bytes }) × IsUtf8 bytes
IsTextAlone uri bytes (Err (NotUtf8 at)) = (¬ (IsUtf8 bytes)) × StopsBeingText bytes at
IsTextAlone uri bytes (Err reason) = ⊥
