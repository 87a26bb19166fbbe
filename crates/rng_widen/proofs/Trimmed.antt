-- Names without the white space around them.
use Rattle.std.proofs.Common.{◌≡◌, ℕ, List, drop, refl}
use Rattle.std.specs.Char.{is_ascii_whitespace}
use Rattle.std.specs.List.{prefix_len}
use Rattle.std.specs.Str.{IsTrimAscii}
use Rattle.std.proofs.lemmas.Str.Ascii.{trim_ascii_is}
use Rattle.rng_widen.specs.Naming.{trimmed}

pub trimmed_is : (text result : List ℕ) → IsTrimAscii text result → result ≡ trimmed text
unfolding trimmed
trimmed_is text result h = trim_ascii_is text result (drop (prefix_len is_ascii_whitespace text) text) refl h
