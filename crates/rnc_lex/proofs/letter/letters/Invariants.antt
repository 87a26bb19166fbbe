use Rattle.std.proofs.Common.{◌≡◌, ◌++◌, ◌≤◌, length}
use denote.Text.{Utf8}
use denote.Shadow.{shadow}
use Rattle.std.specs.Str.{chars}
use Rattle.rnc_lex.specs.Reading.{then_found, letters_from, letters_of}
use Rattle.rnc_lex.proofs.letter.letters.Given as goal

abbrev pub invariant-loop-first : goal.invariant-loop-first
invariant-loop-first l = shadow (Utf8 l.rest) × (length l.rest ≤ length l.text) × (letters_of l.text ≡ then_found (λ more. l.letters.items ++ more) (letters_from (length l.text) 0 (chars l.rest)))

abbrev pub decreases-loop-first : goal.decreases-loop-first
decreases-loop-first l = length l.rest
