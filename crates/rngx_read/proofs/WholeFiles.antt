-- The laws of files, in either syntax.
use Rattle.std.proofs.Common.{◌≡◌, ℕ, Bool, true, false, List, ◌⊎◌, IsUtf8}
use Rattle.nx_base.specs.declared.cause.Cause.{Cause}
use Rattle.rnc_parse.specs.Written.{WrittenSurface}
use Rattle.rnc_parse.proofs.WholeTexts as compact
use Rattle.rngx_read.specs.Files.{is_markup, ReadsAs, RefusesAs}
use Rattle.rngx_read.specs.Laws.{TextsAreReadAsOne, WhatIsReadIsNotRefused, TextsAreReadOrRefused}
use Rattle.rngx_read.proofs.Texts.{one_surface, not_refused, read_or_not}

one_in : (markup : Bool) (text : List ℕ) (one other : WrittenSurface) → ReadsAs markup text one → ReadsAs markup text other → one ≡ other
one_in true text one other is also = one_surface text one other is also
one_in false text one other is also = compact.read_as_one text one other is also

pub read_as_one : TextsAreReadAsOne
read_as_one text one other is also = one_in (is_markup text) text one other is also

not_refused_in : (markup : Bool) (text : List ℕ) (surface : WrittenSurface) (why : Cause) → ReadsAs markup text surface → RefusesAs markup text why →
    ⊥
not_refused_in true text surface why is h = not_refused text surface why is h
not_refused_in false text surface why is h = compact.read_not_refused text surface why is h

pub read_not_refused : WhatIsReadIsNotRefused
read_not_refused text surface why is h = not_refused_in (is_markup text) text surface why is h

answered_in : (markup : Bool) (text : List ℕ) → IsUtf8 text →
    ((surface : WrittenSurface) × ReadsAs markup text surface) ⊎ ((why : Cause) × RefusesAs markup text why)
answered_in true text utf8 = read_or_not text utf8
answered_in false text utf8 = compact.read_or_refused text

pub read_or_refused : TextsAreReadOrRefused
read_or_refused text utf8 = answered_in (is_markup text) text utf8
