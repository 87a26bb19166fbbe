-- Legal bytes are read without a fault, and no others.
use Rattle.std.proofs.Common.{[], refl, sym}
use Rattle.nx_events.specs.Strings.{string_of}
use Rattle.nx_events.proofs.ToldOnce.{strings_are_read}
use Rattle.nx_document.specs.LegalReadings.{LegalIsReadWithoutFault}
use Rattle.nx_document.proofs.Characters.{is_legal, legal_faultless}

pub legal_is_read : LegalIsReadWithoutFault
legal_is_read reading at bytes utf8 =
    let read = strings_are_read reading at bytes (string_of reading bytes) [] utf8 in (
      (λ legal. read.1 (refl, sym (legal_faultless reading at bytes legal))),
      (λ is. is_legal reading at bytes (sym (read.0 is).1)),
    )
