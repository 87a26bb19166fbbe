-- Laws of reading, over tokens and over whole texts.
use Rattle.std.specs.Prelude.{◌≡◌, ◌⊎◌, ℕ, List}
use Rattle.nx_base.specs.declared.cause.Cause.{Cause}
use Rattle.rnc_lex.specs.declared.token.Lexeme.{Lexeme}
use Rattle.rnc_parse.specs.declared.declaration.Declaration.{Declaration}
use Rattle.rnc_parse.specs.Scopes.{Scope, Use}
use Rattle.rnc_parse.specs.Written.{WrittenSurface}
use Rattle.rnc_parse.specs.Files.{IsFile, Says, IsNoFile, NeedsPrefix, DeclaresTwice}
use Rattle.rnc_parse.specs.Reads.{Reads, Refuses}

-- ---- texts

-- a text is read as one surface at most
abbrev pub TextsAreReadAsOne : Type 0
TextsAreReadAsOne = (text : List ℕ) (one other : WrittenSurface) → Reads text one → Reads text other → one ≡ other

-- a text that is read is refused for no cause
abbrev pub WhatIsReadIsNotRefused : Type 0
WhatIsReadIsNotRefused = (text : List ℕ) (surface : WrittenSurface) (why : Cause) → Reads text surface → Refuses text why → ⊥

-- a text is refused for one cause at most
abbrev pub TextsAreRefusedForOneCause : Type 0
TextsAreRefusedForOneCause = (text : List ℕ) (one other : Cause) → Refuses text one → Refuses text other → one ≡ other

-- each text is read, or refused for some cause
abbrev pub TextsAreReadOrRefused : Type 0
TextsAreReadOrRefused = (text : List ℕ) → ((surface : WrittenSurface) × Reads text surface) ⊎ ((why : Cause) × Refuses text why)

-- ---- tokens

-- tokens are one file at most, whatever prefixes stand for
abbrev pub FilesSayOneThing : Type 0
FilesSayOneThing = (scope : Scope) (tokens : List Lexeme) (some others : List Declaration) (one other : WrittenSurface) →
    IsFile scope tokens some one → IsFile scope tokens others other → (some ≡ others) × (one ≡ other)

-- tokens say one thing at most
abbrev pub TokensSayOneThing : Type 0
TokensSayOneThing = (tokens : List Lexeme) (one other : WrittenSurface) → Says tokens one → Says tokens other → one ≡ other

-- tokens that say something are a file, leave no prefix out and declare none twice
abbrev pub WhatIsSaidIsNotRefused : Type 0
WhatIsSaidIsNotRefused = (tokens : List Lexeme) (surface : WrittenSurface) → Says tokens surface
    → (IsNoFile tokens → ⊥) × ((used : Use) → NeedsPrefix tokens used → ⊥) × ((prefix : List ℕ) → DeclaresTwice tokens prefix → ⊥)
