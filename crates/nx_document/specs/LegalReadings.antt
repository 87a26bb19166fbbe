-- What is legal goes by pieces; it is what reading in parts finds no fault in.
use Rattle.std.specs.Prelude.{◌↔◌, ℕ, List, []}
use Rattle.std.specs.List.{AllByRecursion}
use Rattle.std.specs.Str.{IsUtf8}
use Rattle.nx_events.specs.SpelledTags.{IsSpelledTag}
use Rattle.nx_events.specs.Spelling.{Written}
use Rattle.nx_events.specs.Strings.{string_of}
use Rattle.nx_events.specs.StringsRead.{IsReadAs}
use Rattle.nx_events.specs.declared.reading.Reading.{Reading}
use Rattle.nx_events.specs.declared.reading.Reading.TheVariants.{Value}
use Rattle.nx_document.specs.Constraints.{IsLegal}

-- bytes that are UTF-8, at any place, are legal exactly where they are read as their string without a fault
abbrev pub LegalIsReadWithoutFault : Type 0
LegalIsReadWithoutFault = (reading : Reading) (at : ℕ) (bytes : List ℕ) → IsUtf8 bytes → IsLegal reading bytes
    ↔ IsReadAs reading at bytes (string_of reading bytes) []

-- and a tag that is spelled by the grammar is legal exactly where each value that is written in it is: all else that the grammar lets stand
-- in a tag is of characters that XML allows, without a `&`
abbrev pub LegalTagsHaveLegalValues : Type 0
LegalTagsHaveLegalValues = (mark bytes : List ℕ) (tag : IsSpelledTag mark bytes) → IsUtf8 bytes →
    IsLegal Value bytes ↔ AllByRecursion (λ (it : Written). IsLegal Value it.value) tag.attributes
