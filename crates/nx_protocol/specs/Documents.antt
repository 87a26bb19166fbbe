-- The documents that a client has open.
use Rattle.std.specs.Prelude.{◌≡◌, ◌⊎◌, ℕ, ℤ, List, Option, None, cond}
use Rattle.std.specs.Str.{bytes_eq}

-- a document: its version, as the client counts, and its text
pub record Document : Type 0 where
  pub version : ℤ
  pub text : List ℕ

abbrev pub document : ℤ → List ℕ → Document
document version text = record { version = version; text = text }

-- the document under each URI; none where none is open, or its text isn't known
abbrev pub DocumentMap : Type 0
DocumentMap = List ℕ → Option Document

-- a URI gets another document, or none; all others keep theirs
abbrev pub Puts : DocumentMap → List ℕ → Option Document → DocumentMap → Type 0
Puts old uri given new = (asked : List ℕ) → new asked ≡ cond (bytes_eq uri asked) given (old asked)

-- what is held under a URI is what should be, or nothing: never another text
abbrev pub IsHeldOrLost : Option Document → Option Document → Type 0
IsHeldOrLost right held = (held ≡ right) ⊎ (held ≡ None)

-- the document under each URI becomes what a rule says
abbrev pub Follows : (List ℕ → Option Document → Option Document) → DocumentMap → DocumentMap → Type 0
Follows rule old new = (uri : List ℕ) → new uri ≡ rule uri (old uri)

-- or is lost
abbrev pub FollowsOrLoses : (List ℕ → Option Document → Option Document) → DocumentMap → DocumentMap → Type 0
FollowsOrLoses rule old new = (uri : List ℕ) → IsHeldOrLost (rule uri (old uri)) (new uri)
