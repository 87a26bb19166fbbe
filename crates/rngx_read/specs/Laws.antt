-- Laws of reading: of elements, of texts in the XML syntax, and of files in either syntax.
use Rattle.std.specs.Prelude.{◌≡◌, ℕ, ◌⊎◌, List, Result, Err}
use Rattle.std.specs.Str.{IsUtf8}
use Rattle.nx_base.specs.declared.cause.Cause.{Cause}
use Rattle.rnc_parse.specs.Written.{WrittenSurface}
use Rattle.rnc_parse.specs.declared.surface.Surface.{Surface}
use Rattle.rngx_read.specs.declared.read.XReadFault.{XReadFault}
use Rattle.rngx_read.specs.declared.read.XReadFault.TheVariants as fault
use Rattle.rngx_read.specs.Elements.{Elements}
use Rattle.rngx_read.specs.Files.{RefusesMarkup, ReadsFile, RefusesFile}
use Rattle.rngx_read.specs.Names.{Resolver, bound_in}
use Rattle.rngx_read.specs.Reads.{IsFile, HaveNoForm, LeavesOut, Reads, HasBadMarkup, IsTooDeep, AnswersText}

-- elements say one thing at most, whatever prefixes stand for
abbrev pub ElementsSayOneThing : Type 0
ElementsSayOneThing = (resolve : Resolver) (elements : Elements) (one other : WrittenSurface) →
    IsFile resolve elements one → IsFile resolve elements other → one ≡ other

-- elements that say something leave no prefix out
abbrev pub WhatIsSaidLeavesNoPrefixOut : Type 0
WhatIsSaidLeavesNoPrefixOut = (resolve : Resolver) (elements : Elements) (surface : WrittenSurface) (prefix : List ℕ) →
    IsFile resolve elements surface → LeavesOut resolve prefix elements → ⊥

-- elements say something, have no form, or leave a prefix out
abbrev pub ElementsAreReadOrRefused : Type 0
ElementsAreReadOrRefused = (elements : Elements) → ((surface : WrittenSurface) × IsFile bound_in elements surface)
    ⊎ (HaveNoForm elements ⊎ ((prefix : List ℕ) × LeavesOut bound_in prefix elements))

-- ---- of texts in the XML syntax

-- a text is read as one surface at most
abbrev pub MarkupIsReadAsOne : Type 0
MarkupIsReadAsOne = (text : List ℕ) (one other : WrittenSurface) → Reads text one → Reads text other → one ≡ other

-- a text that is read is refused for no cause
abbrev pub MarkupReadIsNotRefused : Type 0
MarkupReadIsNotRefused = (text : List ℕ) (surface : WrittenSurface) (why : Cause) → Reads text surface → RefusesMarkup text why → ⊥

-- each text is read, or refused for some cause
abbrev pub MarkupIsReadOrRefused : Type 0
MarkupIsReadOrRefused = (text : List ℕ) → IsUtf8 text →
    ((surface : WrittenSurface) × Reads text surface) ⊎ ((why : Cause) × RefusesMarkup text why)

-- a text with a fault is refused for that, at the first one, and one that nests too deep for that; want of memory is free
abbrev pub FaultsAreToldFirst : Type 0
FaultsAreToldFirst = (text : List ℕ) (at : ℕ) (answer : Result Surface XReadFault) → HasBadMarkup text at → AnswersText text answer →
    (answer ≡ Err (fault.BadMarkup at)) ⊎ (answer ≡ Err fault.NoMemory)

abbrev pub DepthIsToldNext : Type 0
DepthIsToldNext = (text : List ℕ) (at : ℕ) (answer : Result Surface XReadFault) → IsTooDeep text at → AnswersText text answer →
    ((place : ℕ) × (answer ≡ Err (fault.TooDeep place))) ⊎ (answer ≡ Err fault.NoMemory)

-- ---- of files, in either syntax

abbrev pub TextsAreReadAsOne : Type 0
TextsAreReadAsOne = (text : List ℕ) (one other : WrittenSurface) → ReadsFile text one → ReadsFile text other → one ≡ other

abbrev pub WhatIsReadIsNotRefused : Type 0
WhatIsReadIsNotRefused = (text : List ℕ) (surface : WrittenSurface) (why : Cause) → ReadsFile text surface → RefusesFile text why → ⊥

abbrev pub TextsAreReadOrRefused : Type 0
TextsAreReadOrRefused = (text : List ℕ) → IsUtf8 text →
    ((surface : WrittenSurface) × ReadsFile text surface) ⊎ ((why : Cause) × RefusesFile text why)
